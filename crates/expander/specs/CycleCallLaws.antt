-- What the cycle's loops know gives its calls what they ask for, and their answers carry the loops on.
use Rattle.std.specs.Prelude.{◌≡◌, refl, List, ℕ, suc, ◌+◌, ◌-◌, ◌≤◌, ◌<◌, length, Ok, Err}
use Rattle.std.proofs.Common.{sym, subst, ◌∙◌, arith}
use Rattle.words.specs.Limits.{macros_most}
use Rattle.recipe.specs.Tree.{Tree, pair, size, elements}
use Rattle.arena.specs.Arena.{tree_at, word_at, reference_at}
use Rattle.arena.specs.ArenaLaws.{take_less, reference_at-falls, reference_at-below}
use Rattle.arena.specs.NodeLaws.{tree_at-pair}
use Rattle.arena.specs.ListLaws.{no-pair, kind-some}
use Rattle.turns.specs.declared.answers.Reached.{Reached}
use Rattle.turns.specs.declared.answers.Refused.{Refused}
use Rattle.turns.specs.Answers.{Ended, TurnEnd}
use Rattle.turns.specs.declared.answers.Turn.TheVariants.{Again, Operands, Over}
use Rattle.turns.specs.Memory.{Tables, core_need, Ready, Placed, Kept}
use Rattle.turns.specs.MemoryLaws.{ready-after}
use Rattle.turns.specs.Turns.{Turned, Follows, Spreads, Expands, ExpandsAll}
use Rattle.expander.specs.Cycle.{Going, Walking, left_of}
use Rattle.expander.specs.CycleLaws.{kept-part, going_on, going-over, going-spreads, walking-end, walking-refused, walking_on, first-placed, sizes}

module _ (operations : List ℕ) (fuel : ℕ) where
  -- the core words reached stand in the table
  core-reached : (n m : ℕ) (r q : Reached) (a b : Tables) → Ready fuel n r a → Kept fuel n m r q a b → q.at ≤ length a.core
  unfolding core_need
  core-reached n m r q a b x k = omega (arith, x.core-room, k.core-spent)

  -- ---- expressions

  module _ (tree : Tree) (r₀ : Reached) (before : Tables) (node w : ℕ) (r : Reached) (a : Tables) (g : Going operations fuel tree r₀ before node w r a) where
    abbrev here : Tree
    here = tree_at a.work node w

    pub going-ready : Ready fuel (size tree) r₀ before → Ready fuel (size here) r a
    going-ready x = ready-after fuel (size tree) (size here) 0 r₀ r r before a a x g.kept

    module _ (b : Tables) (x : TurnEnd) (turned : Turned macros_most operations fuel here r a b x) where
      -- another expression follows
      module _ (node' w' : ℕ) (q : Reached) (is : x ≡ Ok (Again node' w' q)) where
        follows : Follows macros_most operations fuel here r a b node' w' q
        follows = subst (Turned macros_most operations fuel here r a b) is turned

        pub again-falls : left_of fuel b.work node' w' q < left_of fuel a.work node w r
        again-falls = omega (arith, follows.falls, follows.kept.spent)

        pub again-going : Going operations fuel tree r₀ before node' w' q b
        again-going = going_on operations fuel tree r₀ before node w r a g node' w' q b follows

      -- operands are left
      module _ (list w' : ℕ) (q : Reached) (is : x ≡ Ok (Operands list w' q)) where
        spreads : Spreads macros_most operations fuel here r a b list w' q
        spreads = subst (Turned macros_most operations fuel here r a b) is turned

        pub spread-asks : Ready fuel (size tree) r₀ before
            → (left_of fuel b.work list w' q ≤ size tree + (fuel - r₀.sum)) × Placed b.work q.top list w' × Ready fuel (size (tree_at b.work list w') - 1) q b
        spread-asks y = (
          omega (arith, spreads.falls, spreads.kept.spent, spreads.kept.sum-grows, g.falls, g.kept.sum-grows),
          spreads.placed,
          ready-after fuel (size here) (size (tree_at b.work list w') - 1) 0 r q q a b b (going-ready y) spreads.kept,
        )

        pub spread-over : (last : Tables) (e : Ended) → ExpandsAll operations fuel (tree_at b.work list w') q b last e → Expands operations fuel tree r₀ before last e
        spread-over last e h = going-spreads operations fuel tree r₀ before node w r a g list w' q b last e spreads h

      -- nothing is left
      pub over-right : (q : Reached) → x ≡ Ok (Over q) → Expands operations fuel tree r₀ before b (Ok q)
      over-right q is = going-over operations fuel tree r₀ before node w r a g b (Ok q) (subst (Turned macros_most operations fuel here r a b) is turned)

      -- refused
      pub stopped-right : (y : Refused) → x ≡ Err y → Expands operations fuel tree r₀ before b (Err y)
      stopped-right y is = going-over operations fuel tree r₀ before node w r a g b (Err y) (subst (Turned macros_most operations fuel here r a b) is turned)

  -- ---- operands

  module _ (tree : Tree) (r₀ : Reached) (before : Tables) (list w : ℕ) (r : Reached) (a : Tables) (g : Walking operations fuel tree r₀ before list w r a)
      (ready : Ready fuel (size tree - 1) r₀ before) (kind : ℕ) (kind-is : kind ≡ word_at a.work list 3) where
    abbrev left : Tree
    left = tree_at a.work list w

    -- no pair: the end of the list
    one_left : (kind ≡ 4 → ⊥) → (length (elements left) ≡ 0) × (size left ≡ 1)
    unfolding elements size
    one_left other = no-pair a.work list kind kind-is (λ (t : Tree). (length (elements t) ≡ 0) × (size t ≡ 1)) (refl, refl) (λ x. (refl, refl)) (λ c. (refl, refl)) other w

    pub operands_end : (kind ≡ 4 → ⊥) → ExpandsAll operations fuel tree r₀ before a (Ok r)
    operands_end other = walking-end operations fuel tree r₀ before list w r a g (one_left other).0 (one_left other).1

    -- a pair: an operand, and the rest behind it
    module _ (paired : kind ≡ 4) (head : ℕ) (head-is : head ≡ reference_at a.work list 2) where
      abbrev first : Tree
      first = tree_at a.work head w

      abbrev rest : ℕ
      rest = reference_at a.work list 1

      rest-low : rest < list
      rest-low = reference_at-falls a.work list 1 (kind-some a.work list kind kind-is paired)

      head-low : head < list
      head-low = omega (arith, reference_at-falls a.work list 2 (kind-some a.work list kind kind-is paired))

      list-is : left ≡ pair first (tree_at a.work rest w)
      list-is = rw head-is (tree_at-pair a.work list w (sym kind-is ∙ paired))

      list-size : size left ≡ suc (size first + size (tree_at a.work rest w))
      list-size = sizes operations fuel tree r₀ before list w r a g head rest list-is head-low rest-low

      operand-ready : Ready fuel (size first) r a
      operand-ready =
          ready-after fuel (size tree - 1) (size first) 0 r₀ r r before a a ready
          (kept-part operations fuel (size tree - 1) (size left - 1) (size tree - 1) (size first) r₀ r before a (omega (arith, list-size)) g.kept)

      pub operand-asks : (left_of fuel a.work head w r < size tree + (fuel - r₀.sum)) × Placed a.work r.top head w × Ready fuel (size first) r a
      operand-asks = (
        omega (arith, list-size, g.falls, g.kept.spent, g.kept.sum-grows),
        first-placed operations fuel tree r₀ before list w r a g head rest list-is head-low rest-low,
        operand-ready,
      )

      module _ (b : Tables) (e : Ended) (expanded : Expands operations fuel first r a b e) where
        pub operand-refused : (x : Refused) → e ≡ Err x → ExpandsAll operations fuel tree r₀ before b (Err x)
        operand-refused x is =
            walking-refused operations fuel tree r₀ before list w r a g head rest list-is head-low rest-low b x (subst (Expands operations fuel first r a b) is expanded)

        module _ (q : Reached) (is : e ≡ Ok q) (next : ℕ) (next-is : next ≡ reference_at b.work list 1) where
          done : Expands operations fuel first r a b (Ok q)
          done = subst (Expands operations fuel first r a b) is expanded

          next-rest : next ≡ rest
          next-rest = next-is ∙ reference_at-below b.work a.work list 1 (omega arith) (take_less b.work a.work list r.top g.placed.node-below done.kept.arena)

          pub next-falls : next < list
          next-falls = omega (arith, next-rest, rest-low)

          pub operand-walking : Walking operations fuel tree r₀ before next w q b
          operand-walking =
              rw next-rest (walking_on operations fuel tree r₀ before list w r a g head rest list-is head-low rest-low q b
              (core-reached (size first) 0 r q a b operand-ready done.kept) done)

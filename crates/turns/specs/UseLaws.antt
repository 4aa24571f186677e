-- Laws of a macro use's turn: what the code needs on its way, and its result in the use's place.
use Rattle.std.specs.Prelude.{◌≡◌, refl, Bool, true, false, cond, ltb, leb, length, get_or, Result, Ok, Err}
use Rattle.std.proofs.Math.Path.{ap, ap₂, subst}
use Rattle.std.proofs.Common.{sym, ◌∙◌, lt-ltb, le-ltb, ltb-true, ltb-false, leb-true}
use mathlib.Core.List.{List, []}
use Rattle.std.proofs.Math.Option.{Option, none, some}
use Prim.Native.Nat.{ℕ, suc, ◌+◌, ◌*◌, ◌-◌, ◌^◌, ◌≤◌, ◌<◌}
use native.Mathlib.Omega.{arith}
use Rattle.words.specs.Each.{none_of, each-get_d}
use Rattle.recipe.specs.Name.{mark_name, produce_name}
use Rattle.recipe.specs.Tree.{Tree, empty, constant, name, pair, size, tail, on_pair, on_names, mark, produce}
use Rattle.recipe.specs.TreeLaws.{on_names-∘}
use Rattle.expansion.specs.Rules.{Rule}
use Rattle.expansion.specs.Match.{first_fit}
use Rattle.arena.specs.Arena.{tree_at, wrap_at, step_limit}
use Rattle.words.specs.ListLaws.{either}
use Rattle.arena.specs.ArenaLaws.{take_less}
use Rattle.arena.specs.Cells.{Room, Wrapped}
use Rattle.arena.specs.CellLaws.{tree-mark}
use Rattle.rule_cells.specs.Cells.{rules_at}
use Rattle.rule_cells.specs.CellLaws.{rules_at-below, rules_at-none}
use Rattle.arena.specs.Lists.{Means}
use Rattle.expansion.specs.Transcribe.{equal_lengths, transcribe}
use Rattle.steps.specs.Apply.{Outcome, refused, result, applied, step_of, Answers, Stepping, Stepped}
use Rattle.steps.specs.declared.apply.Applied.{Applied}
use Rattle.words.specs.declared.ground.Ground.{Ground}
use Rattle.words.specs.Code.Ground.{number_of}
use Rattle.turns.specs.declared.answers.Reached.{Reached}
use Rattle.turns.specs.declared.answers.Refused.{Refused}
use Rattle.turns.specs.Numbers.{stepped}
use Rattle.turns.specs.Memory.{macros_at}
use Rattle.turns.specs.MemoryLaws.{macros_at-one, macros_at-past}
use Rattle.turns.specs.Answers.{Refuses}
use Rattle.turns.specs.Uses.{rules_word, used_of, outcome_of, UseRoom, Used, Unused}

-- ---- the rules of a macro

pub rules-known : (macros : List ℕ) (count n : ℕ) → n < count → get_or macros n 0 ≡ rules_word macros count n
unfolding rules_word
rules-known macros count n h = rw (lt-ltb n count h)

pub rules-unknown : (macros : List ℕ) (count n : ℕ) → count ≤ n → 0 ≡ rules_word macros count n
unfolding rules_word
rules-unknown macros count n h = rw (le-ltb n count h)

word-rules : (work macros : List ℕ) (count n : ℕ) → rules_at work (rules_word macros count n) ≡ get_or (macros_at work macros count) n []
unfolding rules_word
word-rules work macros count n =
    either (ltb n count)
    (λ t. rw t (sym (macros_at-one work macros count n (ltb-true n count t))))
    (λ t. rw t (rules_at-none work 0 refl ∙ sym (macros_at-past work macros count n (ltb-false n count t))))

word_below : (macros : List ℕ) (count n top : ℕ) → ((k : ℕ) → k < count → get_or macros k 0 ≤ top) → rules_word macros count n ≤ top
unfolding rules_word
word_below macros count n top h = either (ltb n count) (λ t. rw t (h n (ltb-true n count t))) (λ t. rw t (omega arith))

-- ---- trees

tail-mark : (m : ℕ) (t : Tree) → mark m (tail t) ≡ tail (mark m t)
unfolding mark tail on_pair on_names
tail-mark m empty = refl
tail-mark m (constant a) = refl
tail-mark m (name x) = refl
tail-mark m (pair h t) = refl

produce-mark : (m : ℕ) (t : Tree) → mark m (produce t) ≡ produce (mark m t)
unfolding mark produce mark_name produce_name
produce-mark m t = on_names-∘ (mark_name m) produce_name t ∙ sym (on_names-∘ produce_name (mark_name m) t)

-- ---- outcomes, by the code's answers

stopped-on : (new : List ℕ) (top : ℕ) (g : Ground) (o : Outcome) → Answers new top o (Err g) → o ≡ refused (number_of g)
unfolding Answers
stopped-on new top g (refused h) e = ap refused e
stopped-on new top g (result t) e = absurd e

record Made (new : List ℕ) (top root cost : ℕ) (o : Outcome) : Type 0 where
  tree : Tree
  is : o ≡ result tree
  cost-is : cost ≡ size tree
  means : tree_at new root 0 ≡ produce tree
  above : top ≤ root
  most : root ≤ top + 6 * cost

done-result : (new : List ℕ) (top : ℕ) (a : Applied) (o : Outcome) → Answers new top o (Ok a) → Made new top a.root a.cost o
unfolding Answers
done-result new top a (refused g) h = absurd h
done-result new top a (result t) h = record { tree = t; is = refl; cost-is = h.0; means = h.1; above = h.2; most = h.3 }

-- a result is within the fuel left
abbrev Within : ℕ → Outcome → Type 0
Within limit (refused g) = Unit {0}
Within limit (result t) = size t ≤ limit

within-rule : (limit : ℕ) (t : Tree) (b c : Bool) → leb (size t) limit ≡ c → Within limit (cond b (cond c (result t) (refused 18)) (refused 17))
within-rule limit t true true e = leb-true (size t) limit e
within-rule limit t true false e = tt
within-rule limit t false c e = tt

within : (limit : ℕ) (used : Tree) (o : Option Rule) → Within limit (step_of limit used o)
unfolding step_of applied
within limit used none = tt
within limit used (some x) = within-rule limit (transcribe x.pattern used [] x.template) (equal_lengths x.pattern used [] x.template) (leb (size (transcribe x.pattern used [] x.template)) limit) refl

-- ---- on the way

module _ (work macros : List ℕ) (fuel node w n : ℕ) (r : Reached) (room : UseRoom work macros fuel node w r) where
  abbrev tree : Tree
  tree = tree_at work node w

  abbrev outcome : Outcome
  outcome = outcome_of (macros_at work macros r.macros) n fuel tree r

  pub use-marks : (Room work r.top 3) × (r.steps + 1 < step_limit) × (w ≤ r.top)
  use-marks = (record { fits = omega (arith, room.fits); small = omega (arith, room.small) }, omega (arith, room.stepped, room.spent, room.fuelled), room.placed.wrap-below)

  module _ (rules operands used : ℕ) (mid : List ℕ) (rules-are : rules ≡ rules_word macros r.macros n) (operands-are : Means work node operands tail)
      (wrapped : Wrapped (λ x. mark_name (r.steps + 1) (wrap_at work w x)) 3 work mid r.top used) (long : length mid ≡ length work) where
    rules-low : rules ≤ r.top
    rules-low = rw rules-are (word_below macros r.macros n r.top room.macros-are.below)

    rules-same : rules_at mid rules ≡ get_or (macros_at work macros r.macros) n []
    rules-same =
        rules_at-below mid work rules (take_less mid work rules r.top rules-low wrapped.kept)
        ∙ ap (rules_at work) rules-are ∙ word-rules work macros r.macros n

    operands-low : operands ≤ r.top
    operands-low = omega (arith, operands-are.low, room.placed.node-below)

    used-same : tree_at mid operands used ≡ used_of tree r
    unfolding used_of
    used-same =
        let e : r.steps + 1 ≡ suc r.steps = omega arith in
        tree-mark work mid r.top used operands operands-low wrapped.kept (r.steps + 1) w wrapped
        ∙ ap (mark (r.steps + 1)) (operands-are.is w) ∙ tail-mark (r.steps + 1) tree ∙ ap (λ (m : ℕ). tail (mark m tree)) e

    pub use-stepping : Stepping mid used rules operands used (fuel - r.sum)
    use-stepping =
        record {
          sound = rw rules-same (each-get_d n [] room.macros-are.sound none_of);
          rules-below = omega (arith, rules-low, wrapped.end);
          use-below = omega (arith, operands-low, wrapped.end);
          wrap-below = omega arith;
          room = record { fits = omega (arith, room.fits, wrapped.end); small = omega (arith, room.small, wrapped.end) };
        }

    module _ (last : List ℕ) (a : Result Applied Ground) (stepped-is : Stepped mid last used rules operands used (fuel - r.sum) a) where
      outcome-is : step_of (fuel - r.sum) (tree_at mid operands used) (first_fit (rules_at mid rules) (tree_at mid operands used)).1 ≡ outcome
      unfolding outcome_of
      outcome-is = ap₂ (λ (u : Tree) (rs : List Rule). step_of (fuel - r.sum) u (first_fit rs u).1) used-same rules-same

      answers : Answers last used outcome a
      answers = rw outcome-is at stepped-is.is

      -- ---- no result

      pub use-stopped : (g : Ground) → a ≡ Err g → (x : Refused) → Refuses (number_of g) r x → Unused outcome r x
      use-stopped g h x f = record { ground_number = number_of g; is = stopped-on last used g outcome (subst (λ (b : Result Applied Ground). Answers last used outcome b) h answers); refuses = f }

      -- ---- the result

      module _ (done : Applied) (h : a ≡ Ok done) (last-long : length last ≡ length mid) where
        made : Made last used done.root done.cost outcome
        made = done-result last used done outcome (subst (λ (b : Result Applied Ground). Answers last used outcome b) h answers)

        affordable : size made.tree ≤ fuel - r.sum
        unfolding outcome_of
        affordable =
            subst (Within (fuel - r.sum)) made.is (within (fuel - r.sum) (used_of tree r) (first_fit (get_or (macros_at work macros r.macros) n []) (used_of tree r)).1)

        pub use-paid : (r.steps + 1 < 2 ^ 32) × (r.sum + done.cost < 2 ^ 32)
        use-paid = (omega (arith, room.stepped, room.spent, room.fuelled), omega (arith, affordable, made.cost-is, room.spent, room.fuelled))

        pub use-marks-again : (Room last done.root 3) × (r.steps + 1 < step_limit) × (0 ≤ done.root)
        use-marks-again = (
          record { fits = omega (arith, affordable, made.cost-is, made.most, wrapped.end, room.fits); small = omega (arith, affordable, made.cost-is, made.most, wrapped.end, room.small) },
          omega (arith, room.stepped, room.spent, room.fuelled),
          omega arith,
        )

        pub use-made : (final : List ℕ) (w' : ℕ) → Wrapped (λ x. mark_name (r.steps + 1) (wrap_at last 0 x)) 3 last final done.root w'
            → (q : Reached) → q ≡ stepped w' done.cost r → Used outcome fuel r work final done.root w' q
        use-made final w' x q e =
            let one : r.steps + 1 ≡ suc r.steps = omega arith in
            record {
              tree = made.tree;
              is = made.is;
              means =
                  tree-mark last final done.root w' done.root (omega arith) x.kept (r.steps + 1) 0 x
                  ∙ ap (mark (r.steps + 1)) made.means ∙ produce-mark (r.steps + 1) made.tree ∙ ap (λ (m : ℕ). produce (mark m made.tree)) one;
              paid = affordable;
              numbers = e ∙ ap (λ (c : ℕ). stepped w' c r) made.cost-is;
              node-below = omega (arith, x.end);
              up = omega (arith, x.end, made.above, wrapped.end);
              most = omega (arith, x.end, made.most, made.cost-is, wrapped.end);
              kept =
                  take_less final last r.top done.root (omega (arith, made.above, wrapped.end)) x.kept
                  ∙ take_less last mid r.top used (omega (arith, wrapped.end)) stepped-is.kept
                  ∙ wrapped.kept;
            }

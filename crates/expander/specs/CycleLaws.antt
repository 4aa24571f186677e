-- Laws of the cycle's loops, one for each way through the code.
use Rattle.std.specs.Prelude.{◌≡◌, List, length, Ok, Err}
use Rattle.std.proofs.Math.Path.{refl, ap, subst}
use Rattle.std.proofs.Common.{sym, ◌∙◌, arith}
use Prim.Native.Nat.{ℕ, zero, suc, ◌+◌, ◌-◌, ◌≤◌, ◌<◌}
use Rattle.words.specs.Limits.{macros_most}
use Rattle.recipe.specs.Name.{Name}
use Rattle.recipe.specs.Tree.{Tree, pair, size, elements}
use Rattle.recipe.specs.TreeLaws.{size-positive}
use Rattle.recipe.specs.Tidy.{tidy_pair}
use Rattle.core_term.specs.Term.{Term, Terms, more_c, on_formals}
use Rattle.core_term.specs.Words.{encode_all}
use Rattle.expansion.specs.Run.{words_of, words_of_all}
use Rattle.expansion.specs.Computation.{State}
use Rattle.expansion.specs.Forms.{expand_within, expand}
use Rattle.arena.specs.Arena.{tree_at}
use Rattle.arena.specs.CellLaws.{tree-kept}
use Rattle.forms.specs.QuoteLaws.{written_none}
use Rattle.turns.specs.declared.answers.Reached.{Reached}
use Rattle.turns.specs.declared.answers.Refused.{Refused}
use Rattle.turns.specs.Answers.{Ended}
use Rattle.turns.specs.Ends.{End, finished, refused_end, halted, then}
use Rattle.turns.specs.EndLaws.{expand_all-pair}
use Rattle.turns.specs.Memory.{Tables, state_at, work_need, core_need, variable_need, macro_need, Proper, Ready, Placed, Kept}
use Rattle.turns.specs.MemoryLaws.{kept-both}
use Rattle.turns.specs.Turns.{Left, KeptBy, turn_of, operands_of, Ends, Follows, Spreads, Expands, ExpandsAll}
use Rattle.turns.specs.SpreadLaws.{Prefixed, left_after, no-operands}
use Rattle.expander.specs.Cycle.{expand_by, expand_all_by, Right, Going, Walking}

-- ---- what is kept, of a part and of nothing

module _ (operations : List ℕ) (fuel : ℕ) where
  pub kept-part : (n m n' m' : ℕ) (r q : Reached) (a b : Tables) → m' + n ≤ n' + m → Kept fuel n m r q a b → Kept fuel n' m' r q a b
  unfolding work_need core_need variable_need macro_need
  kept-part n m n' m' r q a b h k =
      record {
        work-long = k.work-long;
        core-long = k.core-long;
        macros-long = k.macros-long;
        arena = k.arena;
        known = k.known;
        top-grows = k.top-grows;
        macros-grow = k.macros-grow;
        sum-grows = k.sum-grows;
        spent = k.spent;
        stepped = k.stepped;
        work-spent = omega (arith, k.work-spent);
        core-spent = omega (arith, k.core-spent);
        variables-spent = omega (arith, k.variables-spent);
        macros-spent = omega (arith, k.macros-spent);
        macros-are = k.macros-are;
      }

  kept-none : (n : ℕ) (r : Reached) (a : Tables) → Ready fuel n r a → Kept fuel n n r r a a
  kept-none n r a x =
      record {
        work-long = refl;
        core-long = refl;
        macros-long = refl;
        arena = refl;
        known = refl;
        top-grows = omega arith;
        macros-grow = omega arith;
        sum-grows = omega arith;
        spent = x.spent;
        stepped = x.stepped;
        work-spent = omega arith;
        core-spent = omega arith;
        variables-spent = omega arith;
        macros-spent = omega arith;
        macros-are = x.macros-are;
      }

  kept_then : (n m : ℕ) (r q : Reached) (a b last : Tables) (e : Ended) → Kept fuel n m r q a b → KeptBy fuel m q b last e → KeptBy fuel n r a last e
  kept_then n m r q a b last (Ok p) k l = kept-both fuel n m 0 r q p a b last k l
  kept_then n m r q a b last (Err x) k l = tt

  -- ---- gas

  -- with enough gas there is a turn
  pub right-turn : (t : Tree) (r : Reached) (a last : Tables) (e : Ended) → r.sum ≤ fuel
      → ((gas : ℕ) → size t + fuel ≤ suc gas + r.sum → Left words_of r a.core last (turn_of macros_most operations fuel (expand macros_most operations fuel gas) t (state_at a r)) e)
      → Right operations fuel t r a last e
  unfolding expand_within
  right-turn t r a last e h f zero g = absurd (omega (arith, size-positive t))
  right-turn t r a last e h f (suc gas) g = f gas g

  -- ---- expressions

  pub going_start : (node w : ℕ) (r : Reached) (a : Tables) → Ready fuel (size (tree_at a.work node w)) r a → Placed a.work r.top node w
      → Going operations fuel (tree_at a.work node w) r a node w r a
  going_start node w r a x p = record { kept = kept-none _ r a x; placed = p; falls = omega arith; means = λ e last h. h }

  module _ (tree : Tree) (r₀ : Reached) (before : Tables) (node w : ℕ) (r : Reached) (a : Tables) (g : Going operations fuel tree r₀ before node w r a) where
    abbrev here : Tree
    here = tree_at a.work node w

    pub going_on : (node' w' : ℕ) (q : Reached) (b : Tables) → Follows macros_most operations fuel here r a b node' w' q → Going operations fuel tree r₀ before node' w' q b
    going_on node' w' q b f =
        let spent : r.sum ≤ fuel = g.kept.spent in
        record {
          kept = kept-both fuel (size tree) (size here) (size (tree_at b.work node' w')) r₀ r q before a b g.kept f.kept;
          placed = f.placed;
          falls = omega (arith, g.falls, f.falls);
          means = λ e last h. g.means e last (right-turn here r a last e spent (λ gas l. f.means (expand macros_most operations fuel gas) e last (h gas (omega (arith, f.falls)))));
        }

    pub going-over : (last : Tables) (e : Ended) → Ends macros_most operations fuel here r a last e → Expands operations fuel tree r₀ before last e
    going-over last e f =
        let spent : r.sum ≤ fuel = g.kept.spent in
        record {
          kept = kept_then (size tree) (size here) r₀ r before a last e g.kept f.kept;
          means = g.means e last (right-turn here r a last e spent (λ gas l. f.means (expand macros_most operations fuel gas)));
        }

    pub going-spreads : (list w' : ℕ) (q : Reached) (b last : Tables) (e : Ended) → Spreads macros_most operations fuel here r a b list w' q
        → ExpandsAll operations fuel (tree_at b.work list w') q b last e → Expands operations fuel tree r₀ before last e
    going-spreads list w' q b last e f x =
        let spent : r.sum ≤ fuel = g.kept.spent in
        let some : 1 ≤ size (tree_at b.work list w') = size-positive (tree_at b.work list w') in
        record {
          kept = kept_then (size tree) (size (tree_at b.work list w') - 1) r₀ q before b last e
              (kept-both fuel (size tree) (size here) (size (tree_at b.work list w') - 1) r₀ r q before a b g.kept f.kept) x.kept;
          means = g.means e last (right-turn here r a last e spent (λ gas l. f.means (expand macros_most operations fuel gas) e last (x.means gas (omega (arith, f.falls)))));
        }

  -- ---- operands

  pub walking_start : (list w : ℕ) (r : Reached) (a : Tables) → Ready fuel (size (tree_at a.work list w) - 1) r a → Placed a.work r.top list w
      → Walking operations fuel (tree_at a.work list w) r a list w r a
  walking_start list w r a x p = record { kept = kept-none _ r a x; placed = p; falls = omega arith; means = λ e last h. h }

  -- the end of the first operand, and of the later ones
  first_done : (v : Term Name) (e : End (Terms Name)) → Prefixed words_of_all words_of_all (more_c v) (words_of v) e
  unfolding on_formals encode_all
  first_done v (finished b s) = refl
  first_done v (refused_end k s) = tt
  first_done v halted = tt

  -- where the first operand is done, the later ones' words follow its words
  later-right : (r q : Reached) (a b last : Tables) (e : Ended) (first : End (Term Name)) (later : State → End (Terms Name)) → Left words_of r a.core b first (Ok q) → q.at ≤ length a.core
      → Left words_of_all q b.core last (later (state_at b q)) e → Left words_of_all r a.core last (then (λ v u. then (λ x s. finished (more_c v x) s) (later u)) first) e
  unfolding then
  later-right r q a b last e (finished v s) later l room k =
      left_after words_of_all words_of_all (more_c v) (words_of v) r q a.core b.core last (later s) e (first_done v (later s)) l.1 room
      (subst (λ (z : State). Left words_of_all q b.core last (later z) e) (sym l.0) k)
  later-right r q a b last e (refused_end g s) later l room k = absurd l
  later-right r q a b last e halted later l room k = absurd l

  -- where it is refused, so are the operands
  first-refused : (r : Reached) (a last : Tables) (x : Refused) (first : End (Term Name)) (later : State → End (Terms Name)) → Left words_of r a.core last first (Err x)
      → Left words_of_all r a.core last (then (λ v u. then (λ b s. finished (more_c v b) s) (later u)) first) (Err x)
  unfolding then
  first-refused r a last x (finished v s) later l = absurd l
  first-refused r a last x (refused_end g s) later l = l
  first-refused r a last x halted later l = absurd l

  module _ (tree : Tree) (r₀ : Reached) (before : Tables) (list w : ℕ) (r : Reached) (a : Tables) (g : Walking operations fuel tree r₀ before list w r a) where
    abbrev left : Tree
    left = tree_at a.work list w

    -- the end of the list
    pub walking-end : length (elements left) ≡ 0 → size left ≡ 1 → ExpandsAll operations fuel tree r₀ before a (Ok r)
    unfolding on_formals encode_all
    walking-end none one =
        record {
          kept = kept-part (size tree - 1) (size left - 1) (size tree - 1) 0 r₀ r before a (omega arith) g.kept;
          means = g.means (Ok r) a
              (λ gas l.
              subst (λ (e : End (Terms Name)). Left words_of_all r a.core a e (Ok r))
              (sym (no-operands macros_most operations fuel (expand macros_most operations fuel gas) left none (state_at a r)))
              (refl, written_none a.core r.at));
        }

    module _ (head rest : ℕ) (list-is : left ≡ pair (tree_at a.work head w) (tree_at a.work rest w)) (head-low : head < list) (rest-low : rest < list) where
      abbrev first : Tree
      first = tree_at a.work head w

      pub sizes : size left ≡ suc (size first + size (tree_at a.work rest w))
      unfolding size
      sizes = ap size list-is

      both-proper : Proper (pair first (tree_at a.work rest w))
      both-proper = rw list-is at g.placed.proper

      pub first-placed : Placed a.work r.top head w
      first-placed = record { node-below = omega (arith, g.placed.node-below); wrap-below = g.placed.wrap-below; proper = head-proper both-proper }
        where
          head-proper : {h t : Tree} → Proper (pair h t) → Proper h
          head-proper (tidy_pair p q l) = p

      by-pair : (gas : ℕ) → expand_all_by operations fuel gas left a r
          ≡ then (λ v u. then (λ b s. finished (more_c v b) s) (operands_of macros_most operations fuel (expand macros_most operations fuel gas) (tree_at a.work rest w) u)) (expand_by operations fuel gas first a r)
      by-pair gas =
          ap (λ (t : Tree). expand_all_by operations fuel gas t a r) list-is
          ∙ expand_all-pair macros_most operations fuel (expand macros_most operations fuel gas) first (tree_at a.work rest w) (state_at a r)

      pub walking-refused : (last : Tables) (x : Refused) → Expands operations fuel first r a last (Err x) → ExpandsAll operations fuel tree r₀ before last (Err x)
      walking-refused last x f =
          record {
            kept = tt;
            means = g.means (Err x) last
                (λ gas l.
                subst (λ (e : End (Terms Name)). Left words_of_all r a.core last e (Err x)) (sym (by-pair gas))
                (first-refused r a last x (expand_by operations fuel gas first a r) _ (f.means gas (omega (arith, sizes)))));
          }

      pub walking_on : (q : Reached) (b : Tables) → q.at ≤ length a.core → Expands operations fuel first r a b (Ok q) → Walking operations fuel tree r₀ before rest w q b
      walking_on q b room f =
          let low : rest ≤ r.top = omega (arith, g.placed.node-below) in
          let same : tree_at b.work rest w ≡ tree_at a.work rest w = tree-kept a.work b.work r.top rest w low g.placed.wrap-below f.kept.arena in
          let some : 1 ≤ size (tree_at a.work rest w) = size-positive (tree_at a.work rest w) in
          record {
            kept = kept-both fuel (size tree - 1) (size left - 1) (size (tree_at b.work rest w) - 1) r₀ r q before a b g.kept
                (rw same (kept-part (size first) 0 (size left - 1) (size (tree_at a.work rest w) - 1) r q a b (omega (arith, sizes)) f.kept));
            placed = record { node-below = omega (arith, f.kept.top-grows); wrap-below = omega (arith, g.placed.wrap-below, f.kept.top-grows); proper = rw same (tail-proper both-proper) };
            falls = rw same (omega (arith, sizes, g.falls, f.kept.sum-grows));
            means = λ e last h. g.means e last
                (λ gas l.
                subst (λ (z : End (Terms Name)). Left words_of_all r a.core last z e) (sym (by-pair gas))
                (later-right r q a b last e (expand_by operations fuel gas first a r) _ (f.means gas (omega (arith, sizes))) room
                (subst (λ (t : Tree). Left words_of_all q b.core last (expand_all_by operations fuel gas t b q) e) same (h gas (rw same (omega (arith, sizes, f.kept.sum-grows)))))));
          }
        where
          tail-proper : {h t : Tree} → Proper (pair h t) → Proper t
          tail-proper (tidy_pair p q l) = q

-- Laws of the start: what the tests of grounds 7 to 10 hand on is what the cycle asks, and its end is the run's.
use Rattle.std.specs.Prelude.{◌≡◌, true, List, ◌++◌, length, take, drop, Ok, Err}
use Rattle.std.proofs.Math.Path.{refl, subst}
use Rattle.std.proofs.Common.{ap, sym, ◌∙◌, arith}
use Prim.Native.Nat.{ℕ, ◌+◌, ◌*◌, ◌≤◌}
use Rattle.std.proofs.Math.Dec.{ltb}
use Rattle.std.proofs.Math.Seq.{take-append_seam}
use borrow.Author.Tests.{lt-ltb}
use Rattle.words.specs.Limits.{names_most, items_most, fuel_most, macros_most}
use Rattle.words.specs.Lists.{all_of}
use Rattle.words.specs.Each.{none_of, each_map, true-each}
use Rattle.recipe.specs.Name.{Name}
use Rattle.recipe.specs.Tree.{size, element}
use Rattle.recipe.specs.TreeLaws.{element-size}
use Rattle.recipe.specs.Table.{item_count, tree_of}
use Rattle.recipe.proofs.TableLaws.{is_layout-parts}
use Rattle.recipe.proofs.TableWeightLaws.{tree_of-size}
use Rattle.recipe.specs.Tidy.{tidy-weaken, tidy-element, tidy-names}
use Rattle.recipe.proofs.TableTidyLaws.{tree_of-tidy}
use Rattle.core_term.specs.Term.{Term}
use Rattle.expansion.specs.Computation.{State, start, Out, done, refused, starved}
use Rattle.expansion.specs.Forms.{expand}
use Rattle.expansion.specs.Run.{words_of, ended, operation_numbers, expand_recipe}
use Rattle.arena.specs.Arena.{tree_at}
use Rattle.arena.specs.LayOut.{LaidOut}
use Rattle.arena.specs.Lists.{Means}
use Rattle.turns.specs.declared.answers.Reached.{Reached}
use Rattle.turns.specs.Answers.{Ended}
use Rattle.turns.specs.Ends.{end_of}
use Rattle.turns.specs.Numbers.{at_start}
use Rattle.turns.specs.Memory.{macro_items, Tables, tables, macros_at, state_at, work_need, core_need, variable_need, macro_need, Placed, Ready}
use Rattle.turns.specs.Turns.{Lent, Left, ExpandsBy}
use Rattle.expander.specs.LentLaws.{places-lent}
use Rattle.expander.specs.Cycle.{Lending}
use Rattle.expander.specs.Service.{ground_of, run_numbers}
use Rattle.expander.specs.Start.{Lends, end_numbers, Expanded}

-- ---- ends

-- an end as the definition's, from the core table's start, is the run's
expanded : (core : List ℕ) (r : Reached) (last : Tables) (out : Out (Term Name)) (e : Ended) → r.at ≡ 0 → Left words_of r core last (end_of out) e → Expanded (ended out) last.core e
unfolding end_of ended end_numbers run_numbers ground_of state_at
expanded core r last (done t s l) (Ok q) z (i, w) =
    let steps : q.steps ≡ s.steps = sym (ap (λ (u : State). u.steps) i) in
    let sum : q.sum ≡ s.sum = sym (ap (λ (u : State). u.sum) i) in
    let until : q.at ≡ length (words_of t) = omega (arith, w.end) in
    let begins : last.core ≡ words_of t ++ drop q.at core = w.words ∙ rw z in
    record { numbers = rw (steps, sum, until); words = ap (take (length (words_of t))) begins ∙ take-append_seam (words_of t) (drop q.at core) }
expanded core r last (done t s l) (Err y) z x = absurd x
expanded core r last (refused g s l) (Ok q) z x = absurd x
expanded core r last (refused g s l) (Err y) z (i, j, k) = record { numbers = rw (i, j, k); words = refl }
expanded core r last (starved l) e z x = absurd x

-- ---- the start

module _ (items work core operations : List ℕ) (fuel : ℕ) (l : Lends items work core operations fuel) where
  operations-small : all_of (λ x. ltb x names_most) (operation_numbers (tree_of items)) ≡ true
  unfolding operation_numbers
  operations-small =
      true-each (λ x. ltb x names_most)
      (each_map (λ (x : Name). x.number) (λ x p. lt-ltb _ _ p.small) (tidy-names (tidy-element 0 (tree_of-tidy items l.begun.layout))))

  start-lent : Lent (operation_numbers (tree_of items)) operations
  start-lent = record { places-are = places-lent operations (operation_numbers (tree_of items)) l.placed l.long operations-small }

  pub start-lending : Lending operations
  start-lending = record { operations = operation_numbers (tree_of items); lent = start-lent }

  -- the items fit the work table
  pub start_fits : length items ≤ length work
  start_fits = omega (arith, l.begun.work-room, (is_layout-parts items l.begun.layout).words)

  -- the items and the fuel are at most the limits' sum
  pub start-most : item_count items + fuel ≤ items_most + fuel_most
  start-most = omega (arith, (is_layout-parts items l.begun.layout).count.1, l.begun.fuelled)

  module _ (work' : List ℕ) (top body : ℕ) (laid : LaidOut items work' top) (second : Means work' top body (element 1)) (from : Reached) (from_is : from ≡ at_start top) where
    start-tree : tree_at work' body 0 ≡ element 1 (tree_of items)
    start-tree = second.is 0 ∙ ap (element 1) laid.means

    start-size : size (tree_at work' body 0) ≤ size (tree_of items)
    start-size = rw start-tree (element-size 1 (tree_of items))

    pub start-placed : Placed work' from.top body 0
    unfolding at_start
    start-placed =
        rw from_is
        (record {
          node-below = second.low;
          wrap-below = omega arith;
          proper = rw start-tree (tidy-element 1 (tidy-weaken (λ x p. tt) (tree_of-tidy items l.begun.layout)));
        })

    pub start-ready : (macros : List ℕ) → length work' ≡ length work → item_count items + fuel ≤ macro_items * length macros → Ready fuel (size (tree_at work' body 0)) from (tables work' core macros)
    unfolding at_start work_need core_need variable_need macro_need macros_at
    start-ready macros long h =
        let parts = is_layout-parts items l.begun.layout in
        let n : size (tree_at work' body 0) ≤ item_count items = omega (arith, start-size, tree_of-size items l.begun.layout) in
        let most : item_count items ≤ items_most = parts.count.1 in
        let fuelled : fuel ≤ fuel_most = l.begun.fuelled in
        let high : top ≡ 3 * item_count items = laid.end ∙ parts.words in
        rw from_is
        (record {
          fuelled = fuelled;
          spent = omega arith;
          stepped = omega arith;
          room = omega (arith, l.begun.work-room);
          core-room = omega (arith, l.begun.core-room);
          macro-room = omega arith;
          small = omega arith;
          core-small = omega arith;
          few = omega arith;
          macros-few = omega arith;
          macros-are = record { below = λ k b. absurd (omega arith); proper = none_of; sound = none_of };
        })

    pub start-expanded : (macros : List ℕ) (last : Tables) (e : Ended) → ExpandsBy operations fuel (tree_at work' body 0) from (tables work' core macros) last e
        → Expanded (ended (expand_recipe macros_most fuel (tree_of items))) last.core e
    unfolding expand_recipe start at_start state_at macros_at
    start-expanded macros last e x =
        let gas : ℕ = size (tree_of items) + fuel in
        let begun = subst (λ (q : Reached). ExpandsBy operations fuel (tree_at work' body 0) q (tables work' core macros) last e) from_is x in
        expanded core (at_start top) last (expand_recipe macros_most fuel (tree_of items)) e refl
        (subst (λ t. Left words_of (at_start top) core last (end_of (expand macros_most (operation_numbers (tree_of items)) fuel gas t start)) e) start-tree
        ((begun (operation_numbers (tree_of items)) start-lent).means gas (omega (arith, start-size))))

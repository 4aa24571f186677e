-- Laws of a call: a run that is refused before it begins, and one that ends as its expansion.
use Rattle.std.specs.Prelude.{◌≡◌, refl, Bool, true, false, ◌&&◌, ℕ, ◌+◌, ◌*◌, ◌-◌, ◌≤◌, ◌<◌, leb, length, take, drop, replicate, Ok, Err}
use Rattle.words.specs.Code.Ground.{number_of}
use Rattle.words.specs.declared.ground.Ground.{Ground}
use Rattle.words.specs.declared.ground.Ground.TheVariants as G
use Rattle.std.proofs.Math.Path.{ap, sym}
use Rattle.std.proofs.Common.{◌∙◌, arith, length-drop, drop_of_length-le, leb-true}
use mathlib.Core.List.{List, [], ◌++◌, append-nil}
use Rattle.words.specs.Limits.{names_most, fuel_most, work_rate, core_rate, macros_most}
use Rattle.words.specs.Parts.{rest}
use Rattle.words.specs.ListLaws.{rest-is}
use Rattle.words.specs.TestLaws.{and_parts}
use Rattle.recipe.specs.Table.{item_count, is_layout, tree_of}
use Rattle.expansion.specs.Run.{stage_of, Run, core_of, ended, unbegun, require, operation_numbers, are_operations, expand_recipe, run}
use Rattle.expansion.specs.RunLaws.{Begun}
use Rattle.expansion.proofs.RunLaws.{ended-begun, begun-run}
use Rattle.expansion.proofs.Bounds.{run-core-fits}
use Rattle.layout.specs.Places.{Places}
use Rattle.turns.specs.declared.answers.Reached.{Reached}
use Rattle.turns.specs.declared.answers.Refused.{Refused}
use Rattle.turns.specs.Answers.{Ended, Unbegun}
use Rattle.expander.specs.Service.{Expansion, Numbers, numbers_of, ground_of, run_numbers, core_after, work_after, Served}
use Rattle.words.specs.Tables.{Stage, begun, filled, left_at}
use Rattle.words.specs.TableLaws.{zeros-left}
use Rattle.expander.specs.Start.{Lends, end_numbers, Expanded, kept_to, Finished}

-- ---- refused before it begins

-- the room that ground 9 asks
abbrev pub room : (items : List ℕ) (fuel : ℕ) (work core : List ℕ) → Bool
room items fuel work core = leb (work_rate * (item_count items + fuel)) (length work) && leb (core_rate * (item_count items + fuel)) (length core)

module _ (items : List ℕ) (fuel : ℕ) (work core : List ℕ) where
  -- refused on g, with both tables as they were
  abbrev pub RefusedOn : Ground → Type 0
  RefusedOn g = (x : Refused) → Unbegun g x → Served items fuel work work core core (Err x)

  turned : (g : Ground) → run items fuel (length work) (length core) ≡ unbegun (number_of g) → RefusedOn g
  unfolding unbegun stage_of left_at numbers_of run_numbers ground_of core_after work_after
  turned g e x i = record { numbers = rw (e, i.ground-is, i.steps-are, i.sum_is); core-after = rw e; work-after = rw e }

  pub served-layout : is_layout items ≡ false → RefusedOn G.BadLayout
  unfolding run require unbegun
  served-layout e = turned G.BadLayout (rw e)

  module _ (layout : is_layout items ≡ true) where
    pub served-fuel : leb fuel fuel_most ≡ false → RefusedOn G.TooMuchFuel
    unfolding run require unbegun
    served-fuel e = turned G.TooMuchFuel (rw (layout, e))

    module _ (fuelled : leb fuel fuel_most ≡ true) where
      pub served-tables : room items fuel work core ≡ false → RefusedOn G.SmallTables
      unfolding run require unbegun
      served-tables e = turned G.SmallTables (rw (layout, fuelled, e))

      module _ (roomy : room items fuel work core ≡ true) where
        pub served-operations : are_operations (tree_of items) ≡ false → RefusedOn G.BadOperations
        unfolding run require unbegun
        served-operations e = turned G.BadOperations (rw (layout, fuelled, roomy, e))

        -- ---- past the tests

        pub lends : (operations : List ℕ) → are_operations (tree_of items) ≡ true → Places operations (operation_numbers (tree_of items)) → length operations ≡ names_most → Lends items work core operations fuel
        lends operations good placed long =
            let rooms = and_parts (leb (work_rate * (item_count items + fuel)) (length work)) (leb (core_rate * (item_count items + fuel)) (length core)) roomy in
            record {
              begun = record { layout = layout; fuelled = leb-true _ _ fuelled; work-room = leb-true _ _ rooms.0; core-room = leb-true _ _ rooms.1; operations = good };
              placed = placed;
              long = long;
            }

-- ---- the end

-- the words of a finished expansion are in the table
pub done-fits : (e : Ended) (q : Reached) (n : ℕ) → e ≡ Ok q → (end_numbers e).length ≤ n → q.at ≤ n
unfolding end_numbers
done-fits e q n i h = rw i at h

-- zeros in the place of all that follows them
pub finished-done : (e : Ended) (q : Reached) (core zeros : List ℕ) → e ≡ Ok q → q.at ≤ length core → zeros ≡ replicate (length (rest q.at core)) 0
    → Finished e core (take q.at core ++ (zeros ++ drop (length core - q.at) (drop q.at core))) (Ok (record { steps = q.steps; sum = q.sum; length = q.at }))
unfolding end_numbers numbers_of kept_to
finished-done e q core zeros i h z =
    let none : drop (length core - q.at) (drop q.at core) ≡ [] = drop_of_length-le (drop q.at core) {i = length core - q.at} (omega (arith, length-drop q.at core)) in
    let long : length (rest q.at core) ≡ length core - q.at = ap length (rest-is q.at core) ∙ length-drop q.at core in
    record { numbers = rw i; table = rw (i, none, z, long) (rw append-nil) }

pub finished-refused : (e : Ended) (x : Refused) (core zeros : List ℕ) → e ≡ Err x → zeros ≡ replicate (length core) 0 → Finished e core zeros (Err x)
unfolding end_numbers numbers_of kept_to
finished-refused e x core zeros i z = let l : length core - 0 ≡ length core = omega arith in record { numbers = rw i; table = rw (i, l, z) }

module _ (items : List ℕ) (fuel : ℕ) (work core core₁ : List ℕ) (e : Ended) (b : Begun items fuel (length work) (length core))
    (x : Expanded (ended (expand_recipe macros_most fuel (tree_of items))) core₁ e) (long : length core₁ ≡ length core) where
  words_are : (end_numbers e).length ≡ length (core_of (ended (expand_recipe macros_most fuel (tree_of items))))
  unfolding run_numbers
  words_are = ap (λ (n : Numbers). n.length) x.numbers

  pub expanded-fits : (end_numbers e).length ≤ length core₁
  expanded-fits =
      let begun = begun-run items fuel (length work) (length core) b in
      let fits : length (core_of (ended (expand_recipe macros_most fuel (tree_of items)))) ≤ length core = rw begun at (run-core-fits items fuel (length work) (length core)) in
      omega (arith, words_are)

  pub served-expanded : (core₂ work₂ : List ℕ) (r : Expansion) → Finished e core₁ core₂ r → work₂ ≡ replicate (length work) 0 → Served items fuel work work₂ core core₂ r
  unfolding core_after work_after kept_to left_at filled
  served-expanded core₂ work₂ r f w =
      let words = core_of (ended (expand_recipe macros_most fuel (tree_of items))) in
      let ran = sym (begun-run items fuel (length work) (length core) b) in
      let stage = sym (ended-begun (expand_recipe macros_most fuel (tree_of items))) in
      let kept : kept_to (end_numbers e).length core₁ ≡ left_at begun words core = rw (words_are, x.words, long) in
      record {
        numbers = f.numbers ∙ x.numbers ∙ ap run_numbers ran;
        core-after = f.table ∙ kept ∙ ap (λ (u : Stage). left_at u words core) stage ∙ ap (λ (u : Run). core_after u core) ran;
        work-after = w ∙ zeros-left work ∙ ap (λ (u : Stage). left_at u [] work) stage ∙ ap (λ (u : Run). work_after u work) ran;
      }

-- The words of an accepted run are one term that passes ground 19: with the recipe's count of operations, or more up to 256, and with any
-- test of names that the numbers of the table's names pass. With a reading's own table that is every name (`output/specs/Written.antt`).
use Rattle.std.specs.Prelude.{◌≡◌, refl, Bool, true, false, List, ℕ, ◌+◌, ◌≤◌, leb, length}
use Rattle.std.proofs.Common.{sym, arith, leb-true, lt-ltb}
use Rattle.std.proofs.lemmas.Bool.{false≢true}
use Rattle.words.specs.Limits.{names_most, operations_most, macros_most}
use Rattle.words.specs.Lists.{all_of}
use Rattle.words.specs.TestLaws.{and_parts}
use Rattle.words.specs.Each.{each_map, true-each}
use Rattle.recipe.specs.Tree.{Tree, is_name, elements, element, size}
use Rattle.recipe.specs.Tidy.{Tidy, tidy_empty, tidy_constant, tidy_name, tidy_pair, tidy-element, tidy-names, tidy-weaken}
use Rattle.recipe.specs.Table.{items, is_layout, tree_of}
use Rattle.recipe.specs.TableTidy.{PlainName, IsConstant}
use Rattle.recipe.proofs.TableTidyLaws.{tree_of-tidy}
use Rattle.recipe.specs.TreeNames.{TreeAll, all-name, all-pair}
use Rattle.recipe.proofs.TableNamesLaws.{tree_of-all}
use Rattle.core_term.specs.Check.{outside, small}
use Rattle.expansion.specs.Computation.{start}
use Rattle.expansion.specs.Run.{accepted, told, ended, unbegun, operation_numbers, are_operations, expand_recipe, run}
use Rattle.expansion.proofs.RunLaws.{accepted≢refused_on, accepted≢unfinished, run_holds}
use Rattle.expansion.proofs.Bounds.Gas.{accepted-begun}
use Rattle.expansion.specs.CoreTerm.Worlds.{World, FineTree}
use Rattle.expansion.proofs.CoreTerm.WorldsLaws.{fine-plain}
use Rattle.expansion.specs.CoreTerm.WorldState.{Closed}
use Rattle.expansion.proofs.CoreTerm.SoundTermsLaws.{sound-term_of}
use Rattle.expansion.proofs.CoreTerm.SoundLaws.{MakesTerm, expand-made}
use Rattle.expansion.specs.CoreTerm.{CoreTerm, Named}

-- an accepted recipe has at most 256 operations
pub run-operations : (items : List ℕ) (fuel work core : ℕ) → (run items fuel work core).outcome ≡ accepted → length (operation_numbers (tree_of items)) ≤ operations_most
unfolding are_operations
run-operations items fuel work core h =
    let t = tree_of items in
    let p = and_parts (all_of is_name (elements (element 0 t))) _ (accepted-begun items fuel work core h).operations in
    leb-true (length (operation_numbers t)) operations_most (and_parts (leb (length (operation_numbers t)) operations_most) _ p.1).0

-- ---- a tree whose names' numbers pass

module _ (good : ℕ → Bool) where
  -- nothing is bound at the start
  unfoldable pub nowhere : World
  nowhere = record { names = good; variables = outside; macros = λ n. false }

  start-closed : Closed nowhere start
  unfolding nowhere
  start-closed = record { begun = λ n e. absurd (false≢true e); rules = λ n e. absurd (false≢true e) }

  pub expand_recipe-made : (limit fuel : ℕ) (t : Tree) → FineTree nowhere t → MakesTerm limit (operation_numbers t) fuel nowhere start (expand_recipe limit fuel t)
  unfolding expand_recipe
  expand_recipe-made limit fuel t f = expand-made limit macros_most (operation_numbers t) fuel (size t + fuel) nowhere _ (tidy-element 1 f) start start-closed

  pub tree-fine : {t : Tree} → Tidy PlainName IsConstant t → TreeAll (λ x. good x.number ≡ true) t → FineTree nowhere t
  unfolding nowhere
  tree-fine tidy_empty a = tidy_empty
  tree-fine (tidy_constant c) a = tidy_constant c
  tree-fine (tidy_name p) (all-name n) = tidy_name (fine-plain _ n p.plain)
  tree-fine (tidy_pair h t l) (all-pair a b) = tidy_pair (tree-fine h a) (tree-fine t b) l

  operations-good : {t : Tree} → FineTree nowhere t → all_of good (operation_numbers t) ≡ true
  unfolding operation_numbers nowhere
  operations-good f = true-each good (each_map (λ x. x.number) (λ x g. g.number) (tidy-names (tidy-element 0 f)))

  -- ---- a run

  module _ (items : List ℕ) (fuel work core : ℕ) (fine : is_layout items ≡ true → FineTree nowhere (tree_of items)) where
    made-term : (operations : ℕ) → length (operation_numbers (tree_of items)) ≤ operations → operations ≤ operations_most → (run items fuel work core).outcome ≡ accepted
        → CoreTerm operations good (run items fuel work core)
    unfolding unbegun ended start nowhere
    made-term operations l m =
        run_holds (λ r. r.outcome ≡ accepted → CoreTerm operations good r) items fuel work core (λ b. expand_recipe-made _ fuel (tree_of items) (fine b.layout))
        (λ g _ e. absurd (accepted≢refused_on _ g (sym e)))
        (λ b t s j q e. record { term = t; given = refl; passes = sound-term_of _ good (told t) q.passed operations l m })
        (λ b g s j r e. absurd (accepted≢refused_on _ g (sym e)))
        (λ b j x e. absurd (accepted≢unfinished (sym e)))

-- ---- with no name table, names are below 1,024

-- with as many operations as the recipe has, or more
pub run-term-within : (items : List ℕ) (fuel work core operations : ℕ) → length (operation_numbers (tree_of items)) ≤ operations → operations ≤ operations_most
    → (run items fuel work core).outcome ≡ accepted → CoreTerm operations small (run items fuel work core)
unfolding nowhere small
run-term-within items fuel work core =
    made-term small items fuel work core (λ e. tidy-weaken (λ x p. fine-plain x (lt-ltb x.number names_most p.small) p.plain) (tree_of-tidy items e))

pub run-term : (items : List ℕ) (fuel work core : ℕ) → (run items fuel work core).outcome ≡ accepted → CoreTerm (length (operation_numbers (tree_of items))) small (run items fuel work core)
run-term items fuel work core h = run-term-within items fuel work core _ (omega arith) (run-operations items fuel work core h) h

-- ---- with any test of names that the table's pass

module _ (good : ℕ → Bool) (items : List ℕ) (named : Named good items) where
  named-fine : is_layout items ≡ true → FineTree (nowhere good) (tree_of items)
  named-fine e = tree-fine good (tree_of-tidy items e) (tree_of-all _ items named)

  -- the recipe's operations are among them
  pub operations-named : is_layout items ≡ true → all_of good (operation_numbers (tree_of items)) ≡ true
  operations-named e = operations-good good (named-fine e)

  module _ (fuel work core : ℕ) (h : (run items fuel work core).outcome ≡ accepted) where
    -- with as many operations as the recipe has, or more
    pub named-term-within : (operations : ℕ) → length (operation_numbers (tree_of items)) ≤ operations → operations ≤ operations_most → CoreTerm operations good (run items fuel work core)
    named-term-within operations l m = made-term good items fuel work core named-fine operations l m h

    pub named-term : CoreTerm (length (operation_numbers (tree_of items))) good (run items fuel work core)
    named-term = named-term-within _ (omega arith) (run-operations items fuel work core h)

-- Demand 3 for two calls, phrase by phrase: with one fuel, of a recipe and of the recipe with the new name, in lent tables of equal
-- lengths, whatever words these hold. From `private-calls`, whose hypotheses are a test.
use Rattle.std.specs.Prelude.{◌≡◌, Bool, true, List, ℕ, length}
use Rattle.std.proofs.Common.{ap₂, sym, ◌∙◌, subst}
use Rattle.words.specs.Lists.{all_of}
use Rattle.words.specs.Tables.{filled}
use Rattle.recipe.specs.Tree.{Tree}
use Rattle.expansion.specs.Run.{run}
use Rattle.private_names.specs.Statement.{is_item_of, renumber, renamed, hypotheses, core_with}
use Rattle.private_names.specs.Demand3.{Whenever, second}
use Rattle.private_names_proof.specs.Said.{Tested, tested}
use Rattle.private_names_proof.proofs.SaidLaws.{whenever}
use Rattle.expander.specs.Service.{Expansion, numbers_of, Served}
use Rattle.private_calls.specs.Calls.{private-calls}

-- what a call leaves in its core table: the first run's term, with number n where a copy stands
abbrev pub core_with_number : (ws : List ℕ) (fuel : ℕ) (copies : ℕ → Bool) (work core : List ℕ) → ℕ → List ℕ
core_with_number ws fuel copies work core n =
    let r = run ws fuel (length work) (length core) in
    filled (core_with copies n r.term) core

-- equal answers and work tables; core tables that differ in the name words where a copy stands
pub record AlikeCalls (ws : List ℕ) (fuel : ℕ) (copies : ℕ → Bool) (old new : ℕ) (work work₁ work₂ core core₁ core₂ : List ℕ) (first again : Expansion) : Type 0 where
  pub numbers : numbers_of again ≡ numbers_of first
  pub work-left : work₂ ≡ work₁
  pub core-first : core₁ ≡ core_with_number ws fuel copies work core old
  pub core-second : core₂ ≡ core_with_number ws fuel copies work core new

-- the two calls, by what each is lent, leaves and answers
abbrev pub TwoCalls : (ws : List ℕ) (fuel work_length core_length : ℕ) (template : Tree) (old new : ℕ) → Type 0
TwoCalls ws fuel work_length core_length template old new =
    (work work' work₁ work₂ core core' core₁ core₂ : List ℕ) (first again : Expansion)
    → length work ≡ work_length
    → length work' ≡ work_length
    → length core ≡ core_length
    → length core' ≡ core_length
    → Served ws fuel work work₁ core core₁ first
    → Served (second ws template old new) fuel work' work₂ core' core₂ again
    → AlikeCalls ws fuel (is_item_of template old) old new work work₁ work₂ core core₁ core₂ first again

two-calls : (ws : List ℕ) (fuel work_length core_length : ℕ) (template : Tree) (old new : ℕ) → Tested ws fuel work_length core_length template old new → TwoCalls ws fuel work_length core_length template old new
unfolding renamed
two-calls ws fuel m n template old new (tested c h same) work work' work₁ work₂ core core' core₁ core₂ first again u v x y p q =
    let holds : all_of (λ b. b) (hypotheses ws c (run ws fuel (length work) (length core)).events) ≡ true =
    ap₂ (λ a b. all_of (λ b. b) (hypotheses ws c (run ws fuel a b).events)) u x ∙ h in
    let served = subst (λ D. Served (renumber D c.new 0 ws) fuel work' work₂ core' core₂ again) (sym same) q in
    let r = private-calls ws fuel c work work' work₁ work₂ core core' core₁ core₂ first again (v ∙ sym u) (y ∙ sym x) holds p served in
    record {
      numbers = r.0;
      work-left = r.3;
      core-first = subst (λ D. core₁ ≡ core_with_number ws fuel D work core c.old) same r.1;
      core-second = subst (λ D. core₂ ≡ core_with_number ws fuel D work core c.new) same r.2;
    }

pub private-calls-said : Whenever TwoCalls
private-calls-said = whenever TwoCalls two-calls

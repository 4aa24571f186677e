-- Demand 3 for two calls: by the service's promise (demands 1 and 2) they give equal answers and leave equal words in the work tables,
-- and in the core tables but for the name words where a copy stands, whatever words they are lent.
use Rattle.std.specs.Prelude.{◌≡◌, refl, Bool, true, List, [], ◌++◌, ℕ, ◌-◌, length, replicate}
use Rattle.std.proofs.Common.{ap, ap₂, sym, ◌∙◌}
use Rattle.std.proofs.Math.Option.{Option, none, some}
use Rattle.words.specs.Lists.{all_of, any_of}
use Rattle.words.specs.Tables.{Stage, filled, left_at}
use Rattle.words.specs.TableLaws.{filled-same}
use Rattle.words.specs.TestLaws.{and_parts}
use Rattle.recipe.specs.Name.{Name}
use Rattle.recipe.specs.Table.{tree_of}
use Rattle.core_term.specs.Term.{Term}
use Rattle.core_term.specs.TermLaws.{on_formals-words}
use Rattle.expansion.specs.Run.{stage_of, run}
use Rattle.expansion.proofs.RunLaws.{begun-stage, shows-begun}
use Rattle.private_names.specs.Statement.{Choice, is_old_item, renamed, is_reached_at, hypotheses, Answer, answer_of, formal_number, core_with, answer_with, PrivateNames}
use Rattle.private_names_proof.proofs.Claim.{private-names}
use Rattle.expander.specs.Service.{Expansion, Numbers, numbers_of, ground_of, run_numbers, core_after, work_after, Served}

-- ---- two calls

-- what a call of a recipe answers is told by outcome, counts and core words
abbrev numbers_for : Answer → Numbers
numbers_for a = record { ground_number = ground_of a.outcome; steps = a.steps; sum = a.sum; length = length a.core }

-- whatever number stands where a copy does, the words are as many
with-length : (C : ℕ → Bool) (m n : ℕ) (o : Option (Term Name)) → length (core_with C m o) ≡ length (core_with C n o)
unfolding core_with
with-length C m n none = refl
with-length C m n (some t) = on_formals-words (formal_number C m) (formal_number C n) t

-- what the first call leaves in its core table, with number n where a copy stands
abbrev pub core_left : (ws : List ℕ) (fuel : ℕ) (c : Choice) (work core : List ℕ) → ℕ → List ℕ
core_left ws fuel c work core n =
    let r = run ws fuel (length work) (length core) in
    filled (core_with (is_old_item (tree_of ws) c) n r.term) core

-- with one fuel and lent tables of equal lengths: of a recipe, and of the recipe with a private name renamed. Numbers and work tables
-- are equal; the core tables hold the first run's term, one with the old number and the other with the new where a copy stands
pub private-calls : (ws : List ℕ) (fuel : ℕ) (c : Choice) (work work' work₁ work₂ core core' core₁ core₂ : List ℕ) (first second : Expansion)
    → length work' ≡ length work → length core' ≡ length core
    → all_of (λ h. h) (hypotheses ws c (run ws fuel (length work) (length core)).events) ≡ true
    → Served ws fuel work work₁ core core₁ first
    → Served (renamed ws c) fuel work' work₂ core' core₂ second
    → (numbers_of second ≡ numbers_of first) × (core₁ ≡ core_left ws fuel c work core c.old) × (core₂ ≡ core_left ws fuel c work core c.new) × (work₂ ≡ work₁)
unfolding PrivateNames hypotheses all_of answer_of answer_with run_numbers core_after work_after left_at
private-calls ws fuel c work work' work₁ work₂ core core' core₁ core₂ first second x y h p q =
    let r = run ws fuel (length work) (length core) in
    let C = is_old_item (tree_of ws) c in
    let shown = (and_parts (any_of (is_reached_at c.form) r.events) _ h).0 in
    let stage = begun-stage ws fuel (length work) (length core) (shows-begun ws fuel (length work) (length core) (is_reached_at c.form) shown) in
    let left : (words table : List ℕ) → left_at (stage_of r.outcome) words table ≡ filled words table = λ words table. ap (λ (w : Stage). left_at w words table) stage in
    let named = private-names ws fuel (length work) (length core) c h in
    let e : answer_of (run (renamed ws c) fuel (length work') (length core')) ≡ answer_with C c.new r =
    ap₂ (λ m n. answer_of (run (renamed ws c) fuel m n)) x y ∙ named.1 in
    let same : numbers_for (answer_with C c.new r) ≡ numbers_for (answer_with C c.old r) =
    ap (λ (n : ℕ). record { ground_number = ground_of r.outcome; steps = r.steps; sum = r.sum; length = n }) (with-length C c.new c.old r.term) in (
      q.numbers ∙ ap numbers_for e ∙ same ∙ sym (ap numbers_for named.0) ∙ sym p.numbers,
      p.core-after ∙ ap (λ (a : Answer). left_at (stage_of a.outcome) a.core core) named.0 ∙ left _ core,
      q.core-after ∙ ap (λ (a : Answer). left_at (stage_of a.outcome) a.core core') e ∙ left _ core' ∙ filled-same (core_with C c.new r.term) core' core y,
      q.work-after ∙ ap (λ (a : Answer). left_at (stage_of a.outcome) [] work') e ∙ left [] work' ∙ filled-same [] work' work x ∙ sym (p.work-after ∙ left [] work),
    )

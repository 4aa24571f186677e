-- Larger budgets, proved; and gas past the units that are left makes no difference.
use Rattle.std.specs.Prelude.{◌≡◌, Bool, true, false, List, ℕ, suc, ◌+◌, ◌≤◌, ◌<◌, leb, ℤ}
use Rattle.std.proofs.Math.Path.{refl, ap}
use Rattle.std.proofs.Common.{sym, ◌∙◌, arith, leb-true, leb-false, le-leb}
use Rattle.std.proofs.lemmas.Bool.{false≢true}
use Rattle.std.proofs.Math.Option.{Option, none, some}
use Rattle.words.specs.Limits.{operations_most}
use Rattle.core_term.specs.Term.{Plain}
use Rattle.core_term.specs.Check.{term_of, small}
use Rattle.evaluation.specs.Code.{Code, code_at}
use Rattle.evaluation.specs.Computation.{Out, done, refused}
use Rattle.evaluation.specs.Numbers.{Numbers, integers}
use Rattle.evaluation.specs.Evaluate.{Value, Environment, empty_e, evaluate}
use Rattle.evaluation.specs.Run.{Result, whole, Outcome, unfit, refused_on, accepted, with_term, require, tested, ended, evaluated, run}
use Rattle.evaluation.proofs.RunLaws.{tested-passes}
use Rattle.evaluation.specs.Grows.{units}
use Rattle.evaluation.specs.Kin.{ValueKin}
use Rattle.evaluation.specs.KinLaws.{Same, tight}
use Rattle.evaluation.proofs.KinLaws.{code-kin, environment-kin, numbers-kin, value-equal}
use Rattle.evaluation.specs.Beside.{Beside, both, alike, short, freed}
use Rattle.evaluation.proofs.SideBySide.{evaluate-beside}
use Rattle.evaluation.specs.MoreBudget.{Try, tried, MoreBudget, Least, LeastBudget}

module _ {N : Type 0} (D : Numbers N) where
  -- the same code on a budget and on no less, with gas enough
  pub budget-beside : (m m' : ℕ) → m ≤ m' → (gas gas' u : ℕ) → m ≤ gas + u → m' ≤ gas' + u → u ≤ m → (c : Code) (e : Environment N)
      → Beside m m' tight (ValueKin Same Same) u (evaluate D m gas c e u) (evaluate D m' gas' c e u)
  budget-beside m m' h gas gas' u g g' l c e =
      evaluate-beside Same Same tight D D (numbers-kin D) m m' h gas gas' u g g' l (code-kin Same (λ n. refl) c) (environment-kin e)

  pub same-budget : {m u : ℕ} {x y : Out (Value N)} → Beside m m tight (ValueKin Same Same) u x y → x ≡ y
  unfolding tight
  same-budget (both {t = t} k l r) = ap (λ v. done v t) (value-equal r)
  same-budget alike = refl
  same-budget (short l k) = absurd (omega arith)
  same-budget (freed l) = absurd (false≢true l)

  -- gas is enough where no unit is left when it is out
  pub gas-free : (m gas gas' u : ℕ) → m ≤ gas + u → m ≤ gas' + u → u ≤ m → (c : Code) (e : Environment N) → evaluate D m gas c e u ≡ evaluate D m gas' c e u
  gas-free m gas gas' u g g' h c e = same-budget (budget-beside m m (omega arith) gas gas' u g g' h c e)

-- ---- calls

-- on a budget, and on no less: the same, with units within the first; or 27, and units past it
data Calls (m : ℕ) : Outcome (Result ℤ) → Outcome (Result ℤ) → Type 0 where
  result : {r : Result ℤ} {u : ℕ} → u ≤ m → Calls m (accepted r u) (accepted r u)
  refusal : {g : ℕ} → Calls m (refused_on g) (refused_on g)
  untested : {g : ℕ} → Calls m (unfit g) (unfit g)
  more : {r : Result ℤ} {u : ℕ} → m < u → Calls m (refused_on 27) (accepted r u)
  later : {g : ℕ} → Calls m (refused_on 27) (refused_on g)

ended-calls : {m m' u : ℕ} {x y : Out (Value ℤ)} → Beside m m' tight (ValueKin Same Same) u x y → Calls m (ended x) (ended y)
unfolding ended tight units
ended-calls (both k l r) = rw (value-equal r) (result l)
ended-calls alike = refusal
ended-calls (short {y = done v u} h l) = more l
ended-calls (short {y = refused g u} h l) = later
ended-calls (freed l) = absurd (false≢true l)

module _ (words : List ℕ) where
  tried-is : (t : Try) → tried words t ≡ with_term (term_of operations_most small words) (λ p. ended (evaluated integers t.budget (code_at 0 p)))
  unfolding tried run
  tried-is t = tested-passes words t.budget t.table _ t.most t.room

  tried-calls : (once again : Try) → once.budget ≤ again.budget → Calls once.budget (tried words once) (tried words again)
  unfolding evaluated with_term
  tried-calls once again h = rw (tried-is once, tried-is again) (go (term_of operations_most small words))
    where
      go : (o : Option Plain) → Calls once.budget (with_term o (λ p. ended (evaluated integers once.budget (code_at 0 p)))) (with_term o (λ p. ended (evaluated integers again.budget (code_at 0 p))))
      go none = untested
      go (some p) =
          ended-calls (budget-beside integers once.budget again.budget h once.budget again.budget 0 (omega arith) (omega arith) (omega arith) (code_at 0 p) empty_e)

units_of : Outcome (Result ℤ) → ℕ
units_of (unfit g) = 0
units_of (refused_on g) = 0
units_of (accepted r u) = u

no-refused : {g u : ℕ} {r : Result ℤ} → ◌≡◌ {A = Outcome (Result ℤ)} (refused_on g) (accepted r u) → ⊥
no-refused e = let z : ◌≡◌ {A = ℕ} 0 1 = cc in omega arith

no-unfit : {g u : ℕ} {r : Result ℤ} → ◌≡◌ {A = Outcome (Result ℤ)} (unfit g) (accepted r u) → ⊥
no-unfit e = let z : ◌≡◌ {A = ℕ} 0 1 = cc in omega arith

-- tried again with more
more-least : {m m' u : ℕ} {r : Result ℤ} {x y : Outcome (Result ℤ)} → Calls m x y → m ≤ m' → x ≡ accepted r u → Least x u m' y
unfolding units_of
more-least (result l) h e = record { from-units = λ _. refl; below-units = λ k. absurd (omega (arith, ap units_of e)) }
more-least refusal h e = absurd (no-refused e)
more-least untested h e = absurd (no-unfit e)
more-least (more l) h e = absurd (no-refused e)
more-least later h e = absurd (no-refused e)

-- tried again with less
less-least : {m u : ℕ} {r : Result ℤ} {x y : Outcome (Result ℤ)} → Calls m x y → y ≡ accepted r u → Least y u m x
unfolding units_of
less-least (result l) e = record { from-units = λ _. refl; below-units = λ k. absurd (omega (arith, ap units_of e)) }
less-least refusal e = absurd (no-refused e)
less-least untested e = absurd (no-unfit e)
less-least (more l) e = record { from-units = λ k. absurd (omega (arith, ap units_of e)); below-units = λ _. refl }
less-least later e = absurd (no-refused e)

pub more-budget : MoreBudget
unfolding MoreBudget
more-budget words once again h k = go (tried-calls words once again h) k
  where
    go : {m : ℕ} {x y : Outcome (Result ℤ)} → Calls m x y → (x ≡ refused_on 27 → ⊥) → y ≡ x
    go (result l) n = refl
    go refusal n = refl
    go untested n = refl
    go (more l) n = absurd (n refl)
    go later n = absurd (n refl)

pub least-budget : LeastBudget
unfolding LeastBudget
least-budget words once again r u e = by (leb once.budget again.budget) (leb-true _ _) (leb-false _ _)
  where
    by : (b : Bool) → (b ≡ true → once.budget ≤ again.budget) → (b ≡ false → again.budget < once.budget) → Least (tried words once) u again.budget (tried words again)
    by true x y = more-least (tried-calls words once again (x refl)) (x refl) e
    by false x y = less-least (tried-calls words again once (let l : again.budget < once.budget = y refl in omega arith)) e

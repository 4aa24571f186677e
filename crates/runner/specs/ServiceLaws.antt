-- Laws of the service: what its tests leave, where the evaluation starts, and what its end says of the call.
use Rattle.std.specs.Prelude.{◌≡◌, List, [], ℕ, suc, ◌+◌, ◌*◌, ◌≤◌, ◌<◌, length, replicate, Result, Ok, Err}
use Rattle.words.specs.declared.ground.Ground.{Ground}
use Rattle.words.specs.Code.Ground.{number_of}
use Rattle.std.proofs.Math.Path.{refl, ap, subst}
use Rattle.std.proofs.Common.{sym, ◌∙◌, arith}
use Rattle.std.proofs.Math.Bool.{true, false}
use Rattle.std.proofs.lemmas.Bool.{false≢true}
use Rattle.std.proofs.Math.Option.{Option, none, some}
use Rattle.std.specs.Int.{w32}
use Rattle.std.proofs.Math.Facts.{of_z-to_z}
use borrow.Author.Tests.{le-leb, lt-leb}
use Rattle.words.specs.Limits.{operations_most, budget_most, run_rate}
use Rattle.core_term.specs.Term.{Plain}
use Rattle.core_term.specs.Check.{term_of, small, is_term, is_some}
use Rattle.evaluation.specs.Code.{Code, code_at}
use Rattle.evaluation.specs.Computation.{Out, done, refused, go_on, ◌>>=◌, give}
use Rattle.evaluation.specs.Evaluate.{Value, empty_e, evaluate}
use Rattle.evaluation.specs.Run as R
use Rattle.evaluation.specs.Run.{Outcome, with_term, require, tested, ended, evaluated, table_after}
use Rattle.evaluation.proofs.RunLaws.{tested-passes}
use Rattle.evaluation.proofs.BudgetClaim.{gas-free}
use Rattle.evaluation.proofs.Steps.{value, resume, begins}
use Rattle.runner.specs.declared.rows.Value as Row
use Rattle.runner.specs.declared.machine.End.{End}
use Rattle.runner.specs.declared.rows.Value.TheVariants as RV
use Rattle.runner.specs.declared.Value as V
use Rattle.runner.specs.declared.Value.TheVariants as VV
use Rattle.runner.specs.Domain.{Number, numbers}
use Rattle.runner.specs.Here.{here-whole}
use Rattle.runner.specs.Rows.{ValueIs, number_i, boolean_i, datum_i, closure_i, operation_i, empty_i, nothing_i}
use Rattle.runner.specs.Machine.{Beginning, EndIs}
use Rattle.runner.specs.Service.{value_numbers, numbers_of, result_numbers, run_numbers, Ran}

-- ---- values, told

-- an answer tells the value that these words are, whatever the table and the units
abbrev pub ToldAs : Row.Value → V.Value → Type 0
ToldAs v r =
    (ws t : List ℕ) (top units : ℕ) (x : Value Number) → ValueIs ws t top v x → value_numbers r units ≡ result_numbers (R.whole x) units

-- the code's own answer
abbrev pub told_value : Row.Value → V.Value
told_value (RV.Number w) = VV.Integer w
told_value (RV.Boolean b) = VV.Boolean b
told_value (RV.Datum at) = VV.Datum at
told_value (RV.Closure at e) = VV.Closure
told_value (RV.Operation p) = VV.Operation

-- a number's word
abbrev pub Words : Row.Value → Type 0
Words (RV.Number w) = w < 4294967296
Words v = Unit {0}

pub whole-told : (v : Row.Value) → Words v → (v' : Row.Value) → v' ≡ v → ToldAs v' (told_value v)
unfolding value_numbers result_numbers R.whole
whole-told v f v' e ws t top u x i = go v x f (subst (λ (v : Row.Value). ValueIs ws t top v x) e i)
  where
    go : (v : Row.Value) (x : Value Number) → Words v → ValueIs ws t top v x → value_numbers (told_value v) u ≡ result_numbers (R.whole x) u
    go v x f (number_i w i y) = let k : w < 4294967296 = subst Words i f in rw (i, y, of_z-to_z {w = w32} {n = w} (record { fits = k }))
    go v x f (boolean_i b i y) = rw (i, y)
    go v x f (datum_i at i y) = rw (i, y)
    go v x f (closure_i at e first names body env i y z l c) = rw (i, y)
    go v x f (operation_i p i y z) = rw (i, y)

-- ---- the tests

-- words, budget and table that pass all three
pub record Fit (words : List ℕ) (budget table : ℕ) : Type 0 where
  pub term : Plain
  pub is : term_of operations_most small words ≡ some term
  pub most : budget ≤ budget_most
  pub room : run_rate * (budget + 1) ≤ table

abbrev pub Tested : (words : List ℕ) (budget table : ℕ) → Result (Unit {0}) Ground → Type 0
Tested words budget table (Ok _) = Fit words budget table
Tested words budget table (Err g) = R.run words budget table ≡ R.unfit (number_of g)

module _ (words : List ℕ) (budget table : ℕ) where
  -- ground 19
  pub no-term : is_term operations_most small words ≡ false → R.run words budget table ≡ R.unfit 19
  unfolding R.run tested with_term is_term is_some
  no-term h = go (term_of operations_most small words) _ h
    where
      go : (o : Option Plain) (f : Plain → Outcome (R.Result Number)) → is_some o ≡ false → with_term o f ≡ R.unfit 19
      go none f e = refl
      go (some t) f e = absurd (false≢true (sym e))

  record Termed : Type 0 where
    pub term : Plain
    pub is : term_of operations_most small words ≡ some term

  a-term : is_term operations_most small words ≡ true → Termed
  unfolding is_term is_some
  a-term h = go (term_of operations_most small words) refl h
    where
      go : (o : Option Plain) → term_of operations_most small words ≡ o → is_some o ≡ true → Termed
      go none e i = absurd (false≢true i)
      go (some t) e i = record { term = t; is = e }

  module _ (h : is_term operations_most small words ≡ true) where
    -- ground 8
    pub over-budget : budget_most < budget → R.run words budget table ≡ R.unfit 8
    unfolding R.run tested with_term require
    over-budget l = rw ((a-term h).is, lt-leb budget budget_most l)

    -- ground 9
    pub short-table : budget ≤ budget_most → table < run_rate * (budget + 1) → R.run words budget table ≡ R.unfit 9
    unfolding R.run tested with_term require
    short-table k l = rw ((a-term h).is, le-leb budget budget_most k, lt-leb (run_rate * (budget + 1)) table l)

    -- none
    pub fits : budget ≤ budget_most → run_rate * (budget + 1) ≤ table → Fit words budget table
    fits k l = record { term = (a-term h).term; is = (a-term h).is; most = k; room = l }

-- ---- the evaluation

module _ {N : Type 0} where
  pub give-out : (o : Out (Value N)) → go_on give o ≡ o
  unfolding go_on give
  give-out (done v u) = refl
  give-out (refused g u) = refl

-- a code's value, with nothing behind it
pub begins-all : (budget : ℕ) (c : Code) → evaluated numbers budget c ≡ begins numbers budget c empty_e [] 0
unfolding evaluated begins resume value ◌>>=◌
begins-all budget c =
    gas-free numbers budget budget (suc budget) 0 (omega arith) (omega arith) (omega arith) c empty_e ∙ sym (give-out (evaluate numbers budget (suc budget) c empty_e 0))

module _ {words : List ℕ} {budget : ℕ} (t : List ℕ) (f : Fit words budget (length t)) where
  -- it starts with no row in use
  pub starts : Beginning words budget (evaluated numbers budget (code_at 0 f.term)) t (record { units = 0; values = 0; frames = 0; cells = 0 }) 0 0
  starts =
      record {
        room = record { rows = omega arith; within = omega arith; lent = f.room; most = f.most };
        term = f.term;
        here = here-whole operations_most small words f.term f.is;
        environment = empty_e;
        bound = empty_i refl refl;
        below = omega arith;
        waiting = [];
        stacked = nothing_i;
        goes = begins-all budget (code_at 0 f.term);
      }

  run_is : R.run words budget (length t) ≡ ended (evaluated numbers budget (code_at 0 f.term))
  unfolding R.run with_term
  run_is = tested-passes words budget (length t) _ f.most f.room ∙ ap (λ (o : Option Plain). with_term o (λ (p : Plain). ended (evaluated numbers budget (code_at 0 p)))) f.is

  -- ---- how it ends

  module _ {t' : List ℕ} (z : t' ≡ replicate (length t) 0) (t'' : List ℕ) (end : Result End Ground) (i : EndIs words budget (evaluated numbers budget (code_at 0 f.term)) t'' end) where
    -- with a value, as it is told
    pub ran-value : (o : End) → end ≡ Ok o → (v : V.Value) → ToldAs o.value v → Ran words budget t t' (Ok (record { value = v; units = o.units }))
    unfolding ended run_numbers table_after numbers_of
    ran-value o e v told-as =
        let x = subst (λ (y : Result End Ground). EndIs words budget (evaluated numbers budget (code_at 0 f.term)) t'' y) e i in
        let q = run_is ∙ ap ended x.goes in
        record { numbers = rw q (told-as words t'' x.cells o.units x.value x.is); table-after = rw q z }

    -- on a ground
    pub ran-ground : (g : Ground) → end ≡ Err g → Ran words budget t t' (Err g)
    unfolding ended run_numbers table_after numbers_of
    ran-ground g e =
        let x = subst (λ (y : Result End Ground). EndIs words budget (evaluated numbers budget (code_at 0 f.term)) t'' y) e i in
        let o = run_is ∙ ap ended x.goes in
        record { numbers = rw o refl; table-after = rw o z }

pub ran-unfit : {words : List ℕ} {budget : ℕ} {t : List ℕ} {g : Ground} → R.run words budget (length t) ≡ R.unfit (number_of g) → Ran words budget t t (Err g)
unfolding run_numbers table_after numbers_of
ran-unfit i = record { numbers = rw i refl; table-after = rw i refl }

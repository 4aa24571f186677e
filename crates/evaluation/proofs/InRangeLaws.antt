-- Every number that a call gives is of 32 bits, so that a word holds it.
use Rattle.std.specs.Prelude.{◌≡◌, refl, Bool, true, false, cond, List, ℕ, suc, ◌+◌, ◌*◌, ◌-◌, ◌≤◌, ◌<◌, leb, ltb, ℤ, pos, negsuc, ◌+ℤ◌, ◌-ℤ◌}
use Rattle.std.proofs.Common.{subst, arith, ltb-true, ltb-false, lt-ltb, to_z-of_z}
use Rattle.std.proofs.lemmas.Bool.{false≢true}
use Rattle.std.proofs.Math.Option.{Option, none, some}
use Rattle.std.specs.Int.Signed.{mag}
use Rattle.std.specs.Int.{w32}
use mir.Val.{sel, to_z, of_z}
use Rattle.words.specs.Limits.{operations_most, budget_most, run_rate}
use Rattle.core_term.specs.Term.{Plain}
use Rattle.core_term.specs.Check.{term_of, small}
use Rattle.evaluation.specs.Code.{code_at}
use Rattle.evaluation.specs.Computation.{Out, answer, ground_number}
use Rattle.evaluation.specs.Numbers.{in_range, within32, integers}
use Rattle.evaluation.specs.Evaluate.{Value}
use Rattle.evaluation.specs.Run.{Result, number, whole, Outcome, accepted, with_term, require, tested, ended, evaluated, run}
use Rattle.evaluation.specs.Kin.{ValueKin, number_k, boolean_k, datum_k, closure_k, operator_k, empty_k, Answers, answers, grounds, NumbersKin}
use Rattle.evaluation.specs.KinLaws.{Same, tight}
use Rattle.evaluation.proofs.KinLaws.{code-kin}
use Rattle.evaluation.specs.Beside.{Beside, both, alike, short, freed}
use Rattle.evaluation.proofs.SideBySide.{evaluate-beside}
use Rattle.evaluation.specs.InRange.{InRange}

-- a number beside itself, of 32 bits
abbrev InBoth : ℤ → ℤ → Type 0
InBoth a b = (a ≡ b) × (in_range a ≡ true)

word_in : (w : ℕ) → in_range (to_z w32 w) ≡ true
unfolding in_range
word_in w = go (ltb w 2147483648) (ltb-true w 2147483648) (ltb-false w 2147483648)
  where
    go : (b : Bool) → (b ≡ true → w < 2147483648) → (b ≡ false → 2147483648 ≤ w) → in_range (sel b (pos w) (negsuc (4294967296 - suc w))) ≡ true
    go true h k = lt-ltb w 2147483648 (h refl)
    go false h k = let l : 2147483648 ≤ w = k refl in lt-ltb (4294967296 - suc w) 2147483648 (omega arith)

within_in : (z : ℤ) → Answers tight InBoth (within32 z) (within32 z)
unfolding within32
within_in z = go (in_range z) refl
  where
    go : (b : Bool) → in_range z ≡ b → Answers tight InBoth (cond b (answer z) (ground_number 25)) (cond b (answer z) (ground_number 25))
    go true e = answers (refl, e)
    go false e = grounds

integers-in : NumbersKin tight InBoth integers integers
unfolding integers
integers-in =
    record {
      of_word = λ w. (refl, word_in w);
      sum = λ a b a' b' r s. rw (r.0, s.0) (within_in (a' +ℤ b'));
      difference = λ a b a' b' r s. rw (r.0, s.0) (within_in (a' -ℤ b'));
      less = λ a b a' b' r s. rw (r.0, s.0) (answers refl);
      equal = λ a b a' b' r s. rw (r.0, s.0) (answers refl);
    }

-- ---- a call

ended-in : {m u : ℕ} {x y : Out (Value ℤ)} → Beside m m tight (ValueKin InBoth Same) u x y → InRange (ended x)
unfolding ended whole tight
ended-in (both k l (number_k s)) = s.1
ended-in (both k l boolean_k) = tt
ended-in (both k l (datum_k p)) = tt
ended-in (both k l (closure_k c e)) = tt
ended-in (both k l operator_k) = tt
ended-in alike = tt
ended-in (short l k) = absurd (omega arith)
ended-in (freed l) = absurd (false≢true l)

pub run-in-range : (words : List ℕ) (budget table : ℕ) → InRange (run words budget table)
unfolding run tested evaluated with_term require
run-in-range words budget table = go (term_of operations_most small words) (leb budget budget_most) (leb (run_rate * (budget + 1)) table)
  where
    go : (o : Option Plain) (b c : Bool) → InRange (with_term o (λ (t : Plain). require 8 b (require 9 c (ended (evaluated integers budget (code_at 0 t))))))
    go none b c = tt
    go (some t) false c = tt
    go (some t) true false = tt
    go (some t) true true =
        ended-in (evaluate-beside InBoth Same tight integers integers integers-in budget budget (omega arith) budget budget 0 (omega arith) (omega arith) (omega arith)
        (code-kin Same (λ n. refl) (code_at 0 t)) empty_k)

-- so its word is read back as that number
pub number_word : (words : List ℕ) (budget table : ℕ) (z : ℤ) (u : ℕ) → run words budget table ≡ accepted (number z) u → to_z w32 (of_z w32 z) ≡ z
unfolding in_range
number_word words budget table z u e =
    let h : in_range z ≡ true = subst (λ (o : Outcome (Result ℤ)). InRange o) e (run-in-range words budget table) in
    to_z-of_z {w = w32} (record { sfits = ltb-true (mag z) 2147483648 h })

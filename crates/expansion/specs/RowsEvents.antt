-- What some runs show, event by event, with the marks and bindings that each name has at its place.
use Rattle.std.specs.Prelude.{◌≡◌, refl, true, false, List, [], ◌∷◌, ℕ}
use Rattle.std.proofs.Math.Option.{Option, none, some}
use Prim.Native.String.{String}
use Rattle.words.specs.Limits.{filing_fuel}
use Rattle.recipe.specs.Name.{Binding, variable, macro, Name}
use Rattle.expansion.specs.Computation.{looked, quoted, reached, binds, Events}
use Rattle.expansion.specs.Row.{run_of}

-- a name that has stood in no step's result, by number and item, without marks
unfoldable pub placed : (number item : ℕ) → Option Binding → Name
placed number item binding = record { number = number; item = item; produced = false; marks = []; binding = binding }

-- such a name in a marked use, without a binding
unfoldable pub used : (number item : ℕ) → (marks : List ℕ) → Name
used number item marks = record { number = number; item = item; produced = false; marks = marks; binding = none }

-- a name of a step's result
unfoldable pub produced : (number item : ℕ) → (marks : List ℕ) → Option Binding → Name
produced number item marks binding = record { number = number; item = item; produced = true; marks = marks; binding = binding }

unfoldable pub events_of : String → Events
unfolding run_of
events_of text = (run_of text filing_fuel).events

-- E28: both t of the template bind and are found with the step's mark, the t of the use without it
pub E28-shows : events_of "() (lambda (t) (let-syntax ((or2 (syntax-rules () ((_ a b) ((lambda (t) (if t t b)) a))))) (or2 #f t)))" ≡
    looked (placed 2 4 none) ∷
    binds (variable 0) (placed 8 7 none) ∷
    looked (placed 3 11 none) ∷
    reached (placed 3 11 none) ∷
    binds (macro 0) (placed 9 15 none) ∷
    looked (placed 5 18 none) ∷
    looked (placed 9 58 (some (macro 0))) ∷
    looked (produced 2 33 (1 ∷ []) none) ∷
    binds (variable 1) (produced 8 36 (1 ∷ []) (some (variable 0))) ∷
    looked (produced 1 40 (1 ∷ []) none) ∷
    looked (produced 8 42 (1 ∷ []) (some (variable 1))) ∷
    looked (produced 8 44 (1 ∷ []) (some (variable 1))) ∷
    looked (produced 8 62 [] (some (variable 0))) ∷
    []
unfolding events_of placed produced
E28-shows = refl

-- literals are looked up on both sides, those of the use with the step's mark: none after a misfit, none of a rule that is not tried
pub literals-show : events_of "() (let-syntax ((m (syntax-rules (else) ((_ 1 else) 1) ((_ else else) (quote (m else))) ((_ else else) 2)))) (m else else))" ≡
    looked (placed 3 4 none) ∷
    reached (placed 3 4 none) ∷
    binds (macro 0) (placed 8 8 none) ∷
    looked (placed 5 11 none) ∷
    looked (placed 8 65 (some (macro 0))) ∷
    looked (placed 9 33 none) ∷
    looked (used 9 67 (1 ∷ [])) ∷
    looked (placed 9 35 none) ∷
    looked (used 9 69 (1 ∷ [])) ∷
    looked (produced 0 39 (1 ∷ []) none) ∷
    quoted (produced 8 42 (1 ∷ []) none) ∷
    quoted (produced 9 44 (1 ∷ []) none) ∷
    []
unfolding events_of placed used produced
literals-show = refl

-- where elements are too few for what follows an ellipsis, nothing is compared (request L3)
pub too-few-show : events_of "() (let-syntax ((m (syntax-rules (else) ((_ a ... else else) 1)))) (m else))" ≡
    looked (placed 3 4 none) ∷
    reached (placed 3 4 none) ∷
    binds (macro 0) (placed 8 8 none) ∷
    looked (placed 5 11 none) ∷
    looked (placed 8 37 (some (macro 0))) ∷
    []
unfolding events_of placed
too-few-show = refl

-- From the answers of reading, expansion and comparing to what the definition prints.
use Rattle.std.specs.Prelude.{◌≡◌, refl, Bool, true, false, List, ℕ, ◌*◌, length, take, Result, Ok, Err}
use Rattle.words.specs.declared.ground.Ground.{Ground}
use Rattle.words.specs.Code.Ground.{number_of}
use Rattle.std.proofs.Math.Path.{ap}
use Rattle.std.proofs.Common.{subst, ◌∙◌}
use Rattle.words.specs.Limits.{item_words_least, name_bytes_least, slot_size, fuel_most, work_most, core_most}
use Rattle.reading.specs.Elements.{Answer}
use Rattle.reading.specs.Read.{Recipe, read, read_elements}
use Rattle.reader.specs.declared.Counts.{Counts}
use Rattle.reader.specs.Served as R
use Rattle.turns.specs.declared.answers.Refused.{Refused}
use Rattle.expander.specs.declared.Expanded.{Expanded}
use Rattle.expander.specs.Service.{Expansion}
use Rattle.expander.specs.Service as E
use Rattle.comparison.specs.Compare.{compare}
use Rattle.comparison_output.specs.Output.{verdict_line, printed, printed_for, output_of, output}
use Rattle.program_laws.specs.ReadLaws.{refused-read, of-recipe}
use Rattle.program_laws.specs.Printed.{Printed}
use Rattle.program_laws.specs.RunLaws.{ran-accepted, ran-refused, term-front}
use Rattle.supplier.specs.Service.{verdict_of}
use Rattle.compare_expansions.specs.declared.line.Fault.{Fault}
use Rattle.compare_expansions.specs.declared.line.Fault.TheVariants.{Recipe as OfRecipe, Text}
use Rattle.compare_expansions.specs.Line.{line_of}

-- ---- the answer about the text

pub same-line : (c : Result Bool Ground) (b : Bool) → c ≡ Ok b → line_of (Ok b) ≡ verdict_line (verdict_of c)
unfolding line_of verdict_of
same-line c true e = rw e
same-line c false e = rw e

pub text-line : (c : Result Bool Ground) (g : Ground) → c ≡ Err g → line_of (Err (Text g)) ≡ verdict_line (verdict_of c)
unfolding line_of verdict_of
text-line c g e = rw e

-- ---- expansion

module _ (items : List ℕ) (fuel : ℕ) (work work' core core' : List ℕ) (r : Expansion) (s : E.Served items fuel work work' core core' r) where
  -- the text is held against the term
  pub held-accepted : (x : Expanded) → r ≡ Ok x
      → (names text : List ℕ) (words bytes : ℕ) (c : Result Bool Ground) (a : Result Bool Fault) → line_of a ≡ verdict_line (verdict_of c) → verdict_of c ≡ (compare items names (take x.length core') text words bytes).verdict
      → line_of a ≡ printed_for items names fuel (length work) (length core) (read_elements 1 text words bytes)
  unfolding compare printed_for printed
  held-accepted x h names text words bytes c a l e =
      l ∙ ap verdict_line e
      ∙ rw (ran-accepted items fuel work work' core core' r s x h, (term-front items fuel work work' core core' r s x h x.length refl).1)

  pub held-refused : (x : Refused) → r ≡ Err x → (names : List ℕ) (text : Answer Recipe)
      → line_of (Err (OfRecipe x.ground)) ≡ printed_for items names fuel (length work) (length core) text
  unfolding printed_for printed line_of
  held-refused x h names text = rw (ran-refused items fuel work work' core core' r s x h).1

-- ---- reading

module _ (recipe items items' names names' : List ℕ) (r : Result Counts Ground) (s : R.Served recipe items items' names names' r) (fuel work core : ℕ) (text : Answer Recipe) where
  pub compared-read : (k : Counts) → r ≡ Ok k → (x : List ℕ) → x ≡ printed_for (take (3 * k.items) items') (take (slot_size * k.names) names') fuel work core text
      → x ≡ output_of fuel work core (read recipe (length items) (length names)) text
  unfolding output_of
  compared-read k h x e =
      e ∙ of-recipe recipe items items' names names' r s k h (λ ws ns. printed_for ws ns fuel work core text) (λ a. output_of fuel work core a text) (λ y. refl)

  pub compared-refused : (g : Ground) → r ≡ Err g → line_of (Err (OfRecipe g)) ≡ output_of fuel work core (read recipe (length items) (length names)) text
  unfolding output_of line_of
  compared-refused g h = rw (refused-read recipe items items' names names' r s g h).1

-- ---- the largest tables

pub output-told : (recipe text : List ℕ) (items names work core words bytes : ℕ) (x out out' : List ℕ) (n : ℕ)
    → x ≡ output_of fuel_most work core (read recipe items names) (read_elements 1 text words bytes)
    → items ≡ item_words_least → names ≡ name_bytes_least → work ≡ work_most → core ≡ core_most → words ≡ item_words_least → bytes ≡ name_bytes_least
    → Printed x out out' n → Printed (output recipe text) out out' n
unfolding output
output-told recipe text items names work core words bytes x out out' n e i a k c w b p =
    subst (λ (z : List ℕ). Printed z out out' n) (e ∙ rw (i, a, k, c, w, b)) p

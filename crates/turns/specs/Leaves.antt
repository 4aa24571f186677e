-- Expressions that are done at once: constants, bare names, quoted data, and refusals.
use Rattle.std.specs.Prelude.{◌≡◌, List, ℕ, ◌≤◌, length, Ok, Err}
use Rattle.words.specs.Code.Ground.{number_of}
use Rattle.words.specs.Limits.{core_rate}
use Rattle.datum.specs.Constant.{Constant}
use Rattle.datum.specs.ConstantLaws.{made}
use Rattle.datum.specs.Datum.{constant_d}
use Rattle.recipe.specs.Name.{variable, macro, Name}
use Rattle.core_term.specs.Term.{Term, variable_c, operation_c, datum_c}
use Rattle.expansion.specs.Run.{words_of}
use Rattle.expansion.specs.Lookup.{Found, bound, form, operation, nothing}
use Rattle.expansion.specs.Computation.{State}
use Rattle.turns.specs.declared.answers.Reached.{Reached}
use Rattle.turns.specs.declared.answers.Refused.{Refused}
use Rattle.turns.specs.Answers.{Ended}
use Rattle.turns.specs.Ends.{End, finished, refused_end}
use Rattle.turns.specs.Memory.{Moved}

-- a term is made, of so many words at most
pub record Makes (E : State → End (Term Name)) (most : ℕ) (r : Reached) (core core' : List ℕ) (q : Reached) : Type 0 where
  pub term : Term Name
  pub is : (s : State) → E s ≡ finished term s
  pub short : length (words_of term) ≤ most
  pub moves : Moved (words_of term) r core core' q

pub record Stops (E : State → End (Term Name)) (r : Reached) (x : Refused) : Type 0 where
  pub is : (s : State) → E s ≡ refused_end (number_of x.ground) s
  pub steps-are : x.steps ≡ r.steps
  pub sum_is : x.sum ≡ r.sum

abbrev pub Leaf : (E : State → End (Term Name)) (most : ℕ) (r : Reached) (core core' : List ℕ) → Ended → Type 0
Leaf E most r core core' (Ok q) = Makes E most r core core' q
Leaf E most r core core' (Err x) = Stops E r x

-- the end of a bare name, by what it finds
unfoldable pub name_end : Found → State → End (Term Name)
name_end (bound (variable n)) s = finished (variable_c n) s
name_end (bound (macro n)) s = refused_end 12 s
name_end (form f) s = refused_end 12 s
name_end (operation p) s = finished (operation_c p) s
name_end nothing s = refused_end 11 s

-- the end of a constant
unfoldable pub constant_end : Constant → State → End (Term Name)
constant_end a s = finished (datum_c (constant_d a)) s

abbrev pub ConstantLeft : (kind first second : ℕ) (r : Reached) (core core' : List ℕ) → Ended → Type 0
ConstantLeft kind first second r core core' a = Leaf (constant_end (made kind first second)) core_rate r core core' a

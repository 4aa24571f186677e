-- What the code answers of a lambda's formals, and of how the walk through a list begins.
use Rattle.std.specs.Prelude.{◌≡◌, List, ℕ, ◌+◌, ◌*◌, ◌≤◌, ◌<◌, length, get_or, Option, None, Some}
use Rattle.std.proofs.Math.Option.{none, some}
use Rattle.words.specs.Limits.{names_most, item_words_least}
use Rattle.datum.specs.Datum.{Datum, name_d, list_d, Data, more_d}
use Rattle.core_term.specs.Node.{node_at}
use Rattle.comparison.specs.Grammar.{formals}
use Rattle.comparison.specs.Agrees.{bind}
use Rattle.supplier.specs.declared.grammar.Form.{Form}
use Rattle.supplier.specs.declared.grammar.Form.TheVariants.{Quote, If, Lambda}
use Rattle.supplier.specs.declared.grammar.Place.{Place}
use Rattle.supplier.specs.declared.grammar.Start.{Start}
use Rattle.supplier.specs.declared.scope.Formal.{Formal}
use Rattle.supplier.specs.Names.{Slot}
use Rattle.supplier.specs.Items.{DataAt}
use Rattle.supplier.specs.Scope.{formals_room, scope_of, Kept}
use Rattle.supplier.specs.Walk.{Found, Plan, lambda_plan, formals_of, ours_of, walk, walk_from}
use Rattle.supplier.specs.Told.{found_of, Within}

-- every name of the text has a slot, and so has every operation
abbrev pub Spelling : List ℕ → List ℕ → List ℕ → Type 0
Spelling theirs ours operations = ((n : ℕ) → n < names_most → Slot theirs n) × ((k : ℕ) → k < length operations → Slot ours (get_or operations k 0))

-- a lambda's formals, put into the scope behind its first `top`
abbrev pub FormalsAre : Datum → ℕ → ℕ → List Formal → List Formal → Option ℕ → Type 0
FormalsAre d top v before after (Some n) = (ns : List ℕ) × (formals d ≡ some ns) × (n ≡ length ns) × (scope_of after (top + n) ≡ bind ns v (scope_of before top))
FormalsAre d top v before after None = formals d ≡ none

-- the scope has room: two items are passed for each formal round an element, and a text has at most 4,096
abbrev pub Room : List ℕ → List Formal → ℕ → ℕ → Type 0
Room items scope top i = (2 * top ≤ i) × (length items ≤ item_words_least) × (formals_room ≤ length scope)

-- the number of the form that an element heads, 3 where there is none
unfoldable pub form_number : Option Form → ℕ
form_number (Some Quote) = 0
form_number (Some If) = 1
form_number (Some Lambda) = 2
form_number None = 3

-- the walk of something is that of the elements from here on
pub record Begun (items words : List ℕ) (scope' : List Formal) (r : Start) (whole : (theirs ours operations : List ℕ) → Found) : Type 0 where
  pub elements : Data
  pub list : DataAt items r.place.i elements
  pub walked : (theirs ours operations : List ℕ)
      → whole theirs ours operations ≡ walk_from theirs ours operations elements 0 r.place.quoted (scope_of scope' r.place.top) (found_of words r.found)

-- behind the formals of `at`, with room for more
pub record Goes (words : List ℕ) (scope scope' : List Formal) (at : Place) (r : Start) : Type 0 where
  pub kept : Kept at.top scope scope'
  pub within : Within words r.found
  pub room : 2 * r.place.top ≤ r.place.i
  pub later : at.i ≤ r.place.i
  pub more : at.top ≤ r.place.top

abbrev pub Started : (items words : List ℕ) (scope scope' : List Formal) → Place → Start → Type 0
Started items words scope scope' at r =
    ((ds : Data) → DataAt items at.i ds → Begun items words scope' r (λ theirs ours operations. walk theirs ours operations (list_d ds) at.quoted (scope_of scope at.top) words))
    × Goes words scope scope' at r

-- a plan carried out
abbrev pub planned : (theirs ours operations : List ℕ) → Data → Plan → Found
planned theirs ours operations ds p = walk_from theirs ours operations ds p.skip p.quoted p.scope p.state

abbrev pub LambdaStarted : (items words : List ℕ) (scope scope' : List Formal) → Place → Start → Type 0
LambdaStarted items words scope scope' at r =
    ((ds : Data) → DataAt items at.i ds
    → Begun items words scope' r (λ theirs ours operations. planned theirs ours operations (more_d (name_d 2) ds) (lambda_plan (scope_of scope at.top) (formals_of ds) (ours_of (node_at words)))))
    × Goes words scope scope' at r

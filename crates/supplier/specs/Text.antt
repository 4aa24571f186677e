-- What the code answers of a text against our term, past the tests of the recipe and the term.
use Rattle.std.specs.Prelude.{◌≡◌, true, List, map, ℕ, ◌<◌, length, get_or, Bool, Result}
use Rattle.words.specs.declared.ground.Ground.{Ground}
use Rattle.datum.specs.Datum.{Datum}
use Rattle.datum.specs.NameTable.{name_at}
use Rattle.reading.specs.Read.{read_elements}
use Rattle.core_term.specs.Term.{Plain}
use Rattle.core_term.specs.Every.{every}
use Rattle.core_term.specs.Words.{encode}
use Rattle.comparison.specs.Grammar.{expression_of}
use Rattle.comparison.specs.Compare.{decided, held, replied}
use Rattle.supplier.specs.Names.{Slot}
use Rattle.supplier.specs.Items.{DatumAt}
use Rattle.supplier.specs.WalkSays.{good_in}
use Rattle.supplier.specs.Service.{verdict_of, Gives}

-- every operation has a slot in our name table
abbrev pub OperationSlots : (ours operations : List ℕ) → Type 0
OperationSlots ours operations = (k : ℕ) → k < length operations → Slot ours (get_or operations k 0)

-- the element of a text that was read
abbrev pub ElementRight : (items theirs words ours operations : List ℕ) → Result Bool Ground → Type 0
ElementRight items theirs words ours operations r =
    (d : Datum) (t : Plain) → DatumAt items 1 d → every (good_in ours operations) tt 0 t ≡ true → words ≡ encode t
    → verdict_of r ≡ decided (name_at theirs) (name_at ours) (map (name_at ours) operations) t (expression_of d)

-- a text, by its two tables
abbrev pub TextRight : (words ours operations text items items' names names' : List ℕ) → Result Bool Ground → Type 0
TextRight words ours operations text items items' names names' r =
    (t : Plain) → every (good_in ours operations) tt 0 t ≡ true → words ≡ encode t
    → let answer = read_elements 1 text (length items) (length names) in Gives (replied answer (held (name_at ours) (map (name_at ours) operations) t answer)) answer
    items items' names names' r

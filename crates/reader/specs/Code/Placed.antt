-- What the tables hold while a text is read: the items of the elements so far, a pair with an open tail for each open list.
use Rattle.std.specs.Prelude.{◌≡◌, true, ◌&&◌, cond, List, [], ◌∷◌, ◌++◌, ℕ, suc, ◌+◌, ◌*◌, ◌-◌, ◌≤◌, ◌<◌, eqb, leb, length, set, Result, Ok, Err, ⊤}
use Rattle.words.specs.Code.Ground.{number_of}
use Rattle.words.specs.declared.ground.Ground.{Ground}
use Rattle.words.specs.declared.ground.Ground.TheVariants as G
use Rattle.words.specs.Limits.{item_words_least, name_bytes_least, elements_most, names_most, open_lists_most, name_length_most}
use Rattle.words.specs.Lists.{all_of}
use Rattle.datum.specs.Datum.{Datum, datum_items}
use Rattle.datum.specs.NameTable.{slots, length_at}
use Rattle.datum.specs.NameTableLaws.{is_short}
use Rattle.reader.specs.declared.place.Place.{Place}
use Rattle.reading.specs.Numbering.{datum_words}
use Rattle.reading.specs.Meaning.{Meaning, begins, ends, name, number}
use Rattle.reading.specs.Elements.{Answer, got, refused_for, Reading, none_open, begin, takes}
use Rattle.reading.specs.Laws.Elements.{Within}
use Rattle.words.specs.Tables.{filled, begun}
use Rattle.reader.specs.Code.Index.{Indexed}
use Rattle.reader.specs.Code.Stored.{names_in}

-- ---- items

-- items of elements, given from the last: a pair and the element for each
unfoldable pub items_of : List Datum → ℕ
items_of [] = 0
items_of (d ∷ l) = items_of l + suc (datum_items d)

-- their words, the first item having number i
unfoldable pub words_of : ℕ → List Datum → List ℕ
words_of i [] = []
words_of i (d ∷ l) =
    let k = i + items_of l in words_of i l ++ (4 ∷ suc k ∷ (suc k + datum_items d) ∷ datum_words (suc k) d)

-- items of the lists around, the inmost first: each ends in a pair whose tail is open
unfoldable pub items_around : List (List Datum) → ℕ
items_around [] = 0
items_around (l ∷ ls) = suc (items_around ls + items_of l)

-- that pair; 0 where no list is open
unfoldable pub open_pair : List (List Datum) → ℕ
open_pair [] = 0
open_pair (l ∷ ls) = items_around ls + items_of l

-- their words; an open tail holds the open pair of the list around
unfoldable pub words_around : List (List Datum) → List ℕ
words_around [] = []
words_around (l ∷ ls) = words_around ls ++ words_of (items_around ls) l ++ (4 ∷ suc (items_around ls + items_of l) ∷ open_pair ls ∷ [])

-- the next item
unfoldable pub next_item : Reading → ℕ
next_item r = items_around r.around + items_of r.here

-- the words below the next item
unfoldable pub placed : Reading → List ℕ
placed r = words_around r.around ++ words_of (items_around r.around) r.here

-- an item's three words put at word i
abbrev pub put3 : List ℕ → ℕ → ℕ → ℕ → ℕ → List ℕ
put3 t i a b c = set (set (set t i a) (i + 1) b) (i + 2) c

-- ---- what the code holds of a reading

-- the code's place and tables are those of a reading
pub record Holds (r : Reading) (p : Place) (words bytes : List ℕ) : Type 0 where
  pub next : p.next ≡ next_item r
  pub pair : p.pair ≡ open_pair r.around
  pub depth : p.depth ≡ length r.around
  pub count : p.count ≡ r.count
  pub missing : p.missing ≡ r.missing
  pub known : p.known ≡ length r.known
  pub even : next_item r + length r.around ≡ 2 * r.count
  pub within : Within r
  pub short : all_of is_short r.known ≡ true
  pub items : words ≡ filled (placed r) words
  pub names : bytes ≡ filled (slots r.known) bytes
  pub enough_items : item_words_least ≤ length words
  pub enough_names : name_bytes_least ≤ length bytes

-- what it does with a token, by the definition's answer
abbrev pub Stepped : Answer Reading → List ℕ → List ℕ → Result Place Ground → Type 0
Stepped (got q) items names (Ok p) = Holds q p items names
Stepped (got q) items names (Err g) = ⊥
Stepped (refused_for stage g) items names (Ok p) = ⊥
Stepped (refused_for stage g) items names (Err h) = (stage ≡ begun) × (number_of h ≡ g)

-- ---- numbers of a place, for safety

-- the numbers of a place that index the items
pub record Sound (p : Place) (words : ℕ) : Type 0 where
  pub even : p.next + p.depth ≡ 2 * p.count
  pub elements : p.count ≤ elements_most
  pub names : p.known ≤ names_most
  pub lists : p.depth ≤ open_lists_most
  pub low : p.pair ≤ p.next
  pub pair : 0 < p.depth → p.pair < p.next
  pub room : item_words_least ≤ words

-- and the name table, with its index
pub record NamesSound (p : Place) (bytes index : List ℕ) : Type 0 where
  pub room : name_bytes_least ≤ length bytes
  pub short : (n : ℕ) → n < p.known → length_at bytes n ≤ name_length_most
  pub indexed : Indexed (names_in bytes 0 p.known) index

-- grounds 5 and 6 at a token that begins an element, with the names and open lists that it makes
unfoldable pub begun_at : Place → ℕ → ℕ → Result ⊤ Ground
begun_at p known depth =
    cond (eqb p.depth 0 && eqb p.missing 0) (Err G.Unbalanced)
    (cond (leb (suc p.count) elements_most && (leb known names_most && leb depth open_lists_most)) (Ok tt) (Err G.TooMany))

-- ---- what the code promises of a token, for every reading that it may hold

-- an element that is one item, with its three words
pub record IsToken (d : Datum) (kind first second : ℕ) : Type 0 where
  pub one : datum_items d ≡ 1
  pub words : (i : ℕ) → datum_words i d ≡ kind ∷ first ∷ second ∷ []

-- the kind of the item of a number with so many places
abbrev pub NumberKind : ℕ → ℕ → Type 0
NumberKind places kind = (w : ℕ) → number w places ≡ record { kind = kind; first = w; second = places }

-- a reading with such an element more, and the names known then
unfoldable pub with_token : Reading → Datum → List (List ℕ) → Reading
with_token r d names = record {
  here = d ∷ r.here;
  around = r.around;
  known = names;
  count = suc r.count;
  missing = cond (none_open r.around) (r.missing - 1) r.missing;
}

-- a token that is an element, whatever reading, element and names it is for
abbrev pub TokenPut : Place → ℕ → ℕ → ℕ → ℕ → List ℕ → List ℕ → Result Place Ground → Type 0
TokenPut p kind first second known words words' s =
    (r : Reading) (d : Datum) (names : List (List ℕ)) (bytes table : List ℕ) → Holds r p words bytes → IsToken d kind first second
    → known ≡ length names → all_of is_short names ≡ true → table ≡ filled (slots names) table → name_bytes_least ≤ length table
    → Stepped (begin r (with_token r d names)) words' table s

-- a list begins
abbrev pub ListOpened : Place → List ℕ → List ℕ → Result Place Ground → Type 0
ListOpened p words words' s = (r : Reading) (bytes : List ℕ) → Holds r p words bytes → Stepped (takes begins r) words' bytes s

-- a list ends
abbrev pub ListClosed : Place → List ℕ → List ℕ → Result Place Ground → Type 0
ListClosed p words words' s = (r : Reading) (bytes : List ℕ) → Holds r p words bytes → Stepped (takes ends r) words' bytes s

-- the index is that of the names after a token
abbrev pub IndexedAfter : Meaning → Reading → List ℕ → Type 0
IndexedAfter m r index = (q : Reading) → takes m r ≡ got q → Indexed q.known index

-- a name is taken
abbrev pub NamePut : Place → List ℕ → List ℕ → List ℕ → List ℕ → List ℕ → List ℕ → Result Place Ground → Type 0
NamePut p word words words' bytes bytes' index' s =
    (r : Reading) → Holds r p words bytes → Stepped (takes (name word) r) words' bytes' s × IndexedAfter (name word) r index'

-- a token that means m is taken, whatever reading the code holds
abbrev pub Taken : Meaning → Place → List ℕ → List ℕ → List ℕ → List ℕ → List ℕ → List ℕ → Result Place Ground → Type 0
Taken m p words words' bytes bytes' index index' s =
    (r : Reading) → Holds r p words bytes → Indexed r.known index → Stepped (takes m r) words' bytes' s × IndexedAfter m r index'

-- The name table's bytes and its index as the code finds and leaves them.
use Rattle.std.specs.Prelude.{◌≡◌, true, List, [], ◌∷◌, ◌++◌, ℕ, zero, suc, ◌+◌, ◌*◌, ◌≤◌, length, set}
use Rattle.std.proofs.Math.Seq.{paste}
use Rattle.words.specs.Limits.{name_bytes_least}
use Rattle.words.specs.Lists.{all_of}
use Rattle.datum.specs.NameTable.{slots, name_at}
use Rattle.datum.specs.NameTableLaws.{is_short}
use Rattle.words.specs.Tables.{filled}
use Rattle.reading.specs.Numbering.{number_of}
use Rattle.reader.specs.Code.Index.{Indexed}

-- what k slots from slot n on spell
unfoldable pub names_in : List ℕ → ℕ → ℕ → List (List ℕ)
names_in table n zero = []
names_in table n (suc k) = name_at table n ∷ names_in table (suc n) k

-- a table with a word's length and bytes put in slot n
abbrev pub stored : List ℕ → ℕ → List ℕ → List ℕ
stored table n word = paste (set table (64 * n) (length word)) (64 * n + 1) word (length word)

-- the table holds these names, and zeros after them, and the index is theirs
pub record NameTable (names : List (List ℕ)) (table index : List ℕ) : Type 0 where
  pub short : all_of is_short names ≡ true
  pub bytes : table ≡ filled (slots names) table
  pub room : name_bytes_least ≤ length table
  pub indexed : Indexed names index

-- a name more, where it is new
abbrev pub Entered : List ℕ → List ℕ → List ℕ → List ℕ → ℕ → List ℕ → Type 0
Entered table table' index index' n word =
    (names : List (List ℕ)) → NameTable names table index → n ≡ length names → length names ≤ number_of word names
    → NameTable (names ++ (word ∷ [])) table' index'

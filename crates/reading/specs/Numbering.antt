-- Numbers of names and of items. Names get the next number at first appearance; a pair is numbered, then its head, then its tail.
use Rattle.std.specs.Prelude.{cond, List, [], ◌∷◌, ◌++◌, map, ℕ, suc, ◌+◌, ltb, length}
use Rattle.words.specs.Lists.{equal}
use Rattle.words.specs.Text.{bytes}
use Rattle.datum.specs.Datum.{Datum, Data, constant_d, name_d, list_d, none_d, more_d, datum_items}

-- ---- names

-- names 0 to 7
unfoldable pub base_names : List (List ℕ)
unfolding bytes
base_names =
    map bytes ("quote" ∷ "if" ∷ "lambda" ∷ "let-syntax" ∷ "letrec-syntax" ∷ "syntax-rules" ∷ "..." ∷ "_" ∷ [])

-- a name's number: its place in the list, or the next number
unfoldable pub number_of : List ℕ → List (List ℕ) → ℕ
unfolding equal
number_of cs [] = 0
number_of cs (x ∷ xs) = let n = number_of cs xs in cond (equal cs x) 0 (suc n)

-- the names once cs has appeared
unfoldable pub with_name : List ℕ → List (List ℕ) → List (List ℕ)
unfolding number_of
with_name cs names = cond (ltb (number_of cs names) (length names)) names (names ++ (cs ∷ []))

-- ---- items

-- the words of an element, and of a list, whose first item has number i: three an item
unfoldable mutual
  pub datum_words : ℕ → Datum → List ℕ
  datum_words i (constant_d a) = a.kind ∷ a.first ∷ a.second ∷ []
  datum_words i (name_d n) = 3 ∷ n ∷ 0 ∷ []
  datum_words i (list_d ds) = data_words i ds

  pub data_words : ℕ → Data → List ℕ
  data_words i none_d = 0 ∷ 0 ∷ 0 ∷ []
  data_words i (more_d d ds) =
      4 ∷ suc i ∷ (suc i + datum_items d) ∷ (datum_words (suc i) d ++ data_words (suc i + datum_items d) ds)

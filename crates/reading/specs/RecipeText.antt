-- Which texts are recipe texts, said without the reader: a text has tokens, tokens have meanings, elements are spelled by them, and a
-- recipe text has two. That reading accepts exactly these texts stands in Accepts.
use Rattle.std.specs.Prelude.{◌≡◌, true, false, List, [], ◌∷◌, ◌++◌, ℕ, suc, ◌+◌, ◌≤◌, max, pos, neg_ℤ, length}
use Rattle.std.specs.Int.{w32}
use Rattle.std.proofs.Common.{of_z}
use Rattle.words.specs.Limits.{text_bytes_most, elements_most, names_most, name_length_most, open_lists_most, places_most}
use Rattle.words.specs.Lists.{all_of}
use Rattle.datum.specs.Constant.{Constant, boolean}
use Rattle.datum.specs.Datum.{Datum, Data, constant_d, name_d, list_d, none_d, more_d}
use Rattle.reading.specs.Token.{Token, open', close', flag, run, is_digit, is_running, is_separating}
use Rattle.reading.specs.Meaning.{Meaning, begins, ends, constant, name, value_from, number}
use Rattle.reading.specs.Numbering.{base_names, number_of, with_name}
use Rattle.reading.specs.Read.{Recipe}

-- ---- tokens

-- where a run ends: at the end of the text, or before a byte that no run has
pub data EndsRun : List ℕ → Type 0 where
  at_end : EndsRun []
  before : {b : ℕ} {bs : List ℕ} → is_running b ≡ false → EndsRun (b ∷ bs)

-- a text has these tokens
pub data HasTokens : List ℕ → List Token → Type 0 where
  none : HasTokens [] []
  separator : {b : ℕ} {bs : List ℕ} {ts : List Token} → is_separating b ≡ true → HasTokens bs ts → HasTokens (b ∷ bs) ts
  opening : {bs : List ℕ} {ts : List Token} → HasTokens bs ts → HasTokens (40 ∷ bs) (open' ∷ ts)
  closing : {bs : List ℕ} {ts : List Token} → HasTokens bs ts → HasTokens (41 ∷ bs) (close' ∷ ts)
  hash-t : {bs : List ℕ} {ts : List Token} → HasTokens bs ts → HasTokens (35 ∷ 116 ∷ bs) (flag 1 ∷ ts)
  hash-f : {bs : List ℕ} {ts : List Token} → HasTokens bs ts → HasTokens (35 ∷ 102 ∷ bs) (flag 0 ∷ ts)
  longest : {c : ℕ} {cs bs : List ℕ} {ts : List Token} → all_of is_running (c ∷ cs) ≡ true → EndsRun bs → HasTokens bs ts
      → HasTokens (c ∷ cs ++ bs) (run (c ∷ cs) ∷ ts)

-- ---- what a token means

-- a run that starts with a digit, or with a minus and a digit
pub data StartsNumber : List ℕ → Type 0 where
  digit : {c : ℕ} {cs : List ℕ} → is_digit c ≡ true → StartsNumber (c ∷ cs)
  minus : {c : ℕ} {cs : List ℕ} → is_digit c ≡ true → StartsNumber (45 ∷ c ∷ cs)

-- what may stand behind a number's digits, and its places: nothing, or a dot, which is 46, and one to four digits
pub data Fraction : List ℕ → List ℕ → Type 0 where
  no_dot : Fraction [] []
  dot : {ps : List ℕ} → 1 ≤ length ps → length ps ≤ places_most → all_of is_digit ps ≡ true → Fraction (46 ∷ ps) ps

-- a token that is allowed has a meaning
pub data Means : Token → Meaning → Type 0 where
  opens : Means open' begins
  closes : Means close' ends
  boolean' : {b : ℕ} → Means (flag b) (constant (boolean b))
  positive : {c : ℕ} (cs : List ℕ) {fs ps : List ℕ} → all_of is_digit (c ∷ cs) ≡ true → Fraction fs ps → value_from 0 (c ∷ cs ++ ps) ≤ 2147483647
      → Means (run (c ∷ cs ++ fs)) (constant (number (value_from 0 (c ∷ cs ++ ps)) (length ps)))
  negative : {c : ℕ} (cs : List ℕ) {fs ps : List ℕ} → all_of is_digit (c ∷ cs) ≡ true → Fraction fs ps → value_from 0 (c ∷ cs ++ ps) ≤ 2147483648
      → Means (run (45 ∷ c ∷ cs ++ fs)) (constant (number (of_z w32 (neg_ℤ (pos (value_from 0 (c ∷ cs ++ ps))))) (length ps)))
  named : {cs : List ℕ} → (StartsNumber cs → ⊥) → 1 ≤ length cs → length cs ≤ name_length_most → (cs ≡ 46 ∷ [] → ⊥)
      → Means (run cs) (name cs)

-- each token of a text has its meaning
pub data Mean : List Token → List Meaning → Type 0 where
  none : Mean [] []
  more : {t : Token} {m : Meaning} {ts : List Token} {ms : List Meaning} → Means t m → Mean ts ms → Mean (t ∷ ts) (m ∷ ms)

-- ---- elements

mutual
  pub data Element : Type 0 where
    constant_e : Constant → Element
    name_e : List ℕ → Element
    list_e : Elements → Element

  pub data Elements : Type 0 where
    none_e : Elements
    more_e : Element → Elements → Elements

-- how an element is spelled
unfoldable mutual
  pub spelled : Element → List Meaning
  spelled (constant_e a) = constant a ∷ []
  spelled (name_e cs) = name cs ∷ []
  spelled (list_e xs) = begins ∷ (spelled_all xs ++ (ends ∷ []))

  pub spelled_all : Elements → List Meaning
  spelled_all none_e = []
  spelled_all (more_e x xs) = spelled x ++ spelled_all xs

-- how many elements, inner ones included
unfoldable mutual
  pub size : Element → ℕ
  size (constant_e a) = 1
  size (name_e cs) = 1
  size (list_e xs) = suc (size_all xs)

  pub size_all : Elements → ℕ
  size_all none_e = 0
  size_all (more_e x xs) = size x + size_all xs

-- how deep its lists nest
unfoldable mutual
  pub depth : Element → ℕ
  depth (constant_e a) = 0
  depth (name_e cs) = 0
  depth (list_e xs) = suc (depth_all xs)

  pub depth_all : Elements → ℕ
  depth_all none_e = 0
  depth_all (more_e x xs) = max (depth x) (depth_all xs)

-- the names once it has appeared
unfoldable mutual
  pub names_of : Element → List (List ℕ) → List (List ℕ)
  names_of (constant_e a) names = names
  names_of (name_e cs) names = with_name cs names
  names_of (list_e xs) names = names_of_all xs names

  pub names_of_all : Elements → List (List ℕ) → List (List ℕ)
  names_of_all none_e names = names
  names_of_all (more_e x xs) names = names_of_all xs (names_of x names)

-- it with its names numbered, over those that appeared before it
unfoldable mutual
  pub numbered : Element → List (List ℕ) → Datum
  numbered (constant_e a) names = constant_d a
  numbered (name_e cs) names = name_d (number_of cs names)
  numbered (list_e xs) names = list_d (numbered_all xs names)

  pub numbered_all : Elements → List (List ℕ) → Data
  numbered_all none_e names = none_d
  numbered_all (more_e x xs) names = more_d (numbered x names) (numbered_all xs (names_of x names))

-- ---- texts

-- the text has exactly these elements, each token allowed, within the limits
pub record HasElements (text : List ℕ) (xs : Elements) : Type 0 where
  pub short : length text ≤ text_bytes_most
  pub tokens : List Token
  pub has_tokens : HasTokens text tokens
  pub allowed : Mean tokens (spelled_all xs)
  pub few_elements : size_all xs ≤ elements_most
  pub few_names : length (names_of_all xs base_names) ≤ names_most
  pub shallow : depth_all xs ≤ open_lists_most

-- what a text's elements give
unfoldable pub said_by : Elements → Recipe
said_by xs = record { elements = numbered_all xs base_names; names = names_of_all xs base_names }

-- ---- recipe texts

-- a text's two elements
unfoldable pub both : Element → Element → Elements
both x y = more_e x (more_e y none_e)

-- the text has exactly two elements x and y
abbrev pub RecipeText : List ℕ → Element → Element → Type 0
RecipeText text x y = HasElements text (both x y)

-- what the two elements give
unfoldable pub recipe : Element → Element → Recipe
unfolding said_by
recipe x y = said_by (both x y)

-- The bounds of an answer: names of 1 to 63 bytes, so that their slots are 64 bytes each, and grounds of 1 to 6.
use Rattle.std.specs.Prelude.{◌≡◌, Bool, true, false, ◌||◌, not, List, [], ◌∷◌, map, ℕ, ◌*◌, ◌≤◌, ltb, leb}
use Rattle.std.proofs.Math.Path.{refl, ap}
use Rattle.std.proofs.Common.{sym, subst, ◌∙◌, arith, le-leb}
use Rattle.std.proofs.Math.ListN.{length}
use Rattle.words.specs.Limits.{item_words_least, name_bytes_least, text_bytes_most, name_length_most}
use Rattle.words.specs.Lists.{within, all_of, equal}
use Rattle.words.specs.Tables.{Stage}
use Rattle.words.specs.TestLaws.{and_left, within-most}
use Rattle.words.specs.Each.{each_weaken, each-true, true-each}
use Rattle.words.specs.ListLaws.{either, all_append}
use Rattle.datum.specs.Datum.{Datum, constant_d, data_items}
use Rattle.datum.specs.NameTableLaws.{is_short, length-slots}
use Rattle.reading.specs.Token.{Token, open', close', bad, flag, run, tokens}
use Rattle.reading.specs.Meaning.{Meaning, begins, ends, constant, name, refused, is_negative, unsigned, is_numeral, fraction, is_fraction, signed, numeral_of, is_name, name_of, meaning_of}
use Rattle.reading.specs.Numbering.{base_names, number_of, with_name}
use Rattle.reading.specs.Elements.{Answer, got, refused_for, then, Reading, start, is_complete, counted, put, named, opened, closed, is_within, begin, takes, takes_all}
use Rattle.reading.specs.Read.{Recipe, finished, recipe_over, elements_of, read_elements, read, Numbers, read_numbers, name_bytes}
use Rattle.reading_layout.specs.Items.{data-positive}

abbrev pub IsGround : ℕ → Type 0
IsGround g = (1 ≤ g) × (g ≤ 6)

-- 1 to 63 bytes
unfoldable pub is_spelling : List ℕ → Bool
is_spelling cs = within 1 name_length_most (length cs)

-- a name or ground of a meaning, the names or the ground of an answer
abbrev Short : Meaning → Type 0
Short (name cs) = is_spelling cs ≡ true
Short begins = 0 ≤ 0
Short ends = 0 ≤ 0
Short (constant a) = 0 ≤ 0
Short (refused g) = IsGround g

abbrev ShortAnswer : {A : Type 0} → (A → List (List ℕ)) → Answer A → Type 0
ShortAnswer names (got a) = all_of is_spelling (names a) ≡ true
ShortAnswer names (refused_for stage g) = IsGround g

abbrev ShortReading : Answer Reading → Type 0
ShortReading = ShortAnswer (λ r. r.known)

abbrev ShortRecipe : Answer Recipe → Type 0
ShortRecipe = ShortAnswer (λ r. r.names)

-- ---- meanings

signed-short : (t : Bool) (n p : ℕ) → Short (signed t n p)
unfolding signed
signed-short true n p = either (leb n 2147483648) (λ e. rw e (omega arith)) (λ e. rw e (omega arith))
signed-short false n p = either (leb n 2147483647) (λ e. rw e (omega arith)) (λ e. rw e (omega arith))

numeral-short : (t : Bool) (cs : List ℕ) → Short (numeral_of t cs)
unfolding numeral_of
numeral-short t cs = either (is_fraction (fraction cs)) (λ e. rw e (signed-short _ _ _)) (λ e. rw e (omega arith))

is-short : (cs : List ℕ) → is_name cs ≡ true → is_spelling cs ≡ true
unfolding is_name is_spelling
is-short cs e = and_left (within 1 63 (length cs)) (not (equal cs (46 ∷ []))) e

name-short : (cs : List ℕ) → Short (name_of cs)
unfolding name_of
name-short cs = either (is_name cs) (λ e. rw e (is-short cs e)) (λ e. rw e (omega arith))

meaning-short : (t : Token) → Short (meaning_of t)
unfolding meaning_of
meaning-short open' = omega arith
meaning-short close' = omega arith
meaning-short bad = omega arith
meaning-short (flag b) = omega arith
meaning-short (run cs) = either (is_numeral cs) (λ e. rw e (numeral-short (is_negative cs) (unsigned cs))) (λ e. rw e (name-short cs))

-- ---- elements

with-short : (cs : List ℕ) (names : List (List ℕ)) → is_spelling cs ≡ true → all_of is_spelling names ≡ true → all_of is_spelling (with_name cs names) ≡ true
unfolding with_name all_of
with-short cs names s h =
    either (ltb (number_of cs names) (length names)) (λ e. rw e h) (λ e. rw e (all_append is_spelling names (cs ∷ []) h (one s)))
  where
    one : is_spelling cs ≡ true → all_of is_spelling (cs ∷ []) ≡ true
    one k = rw k

begin-short : (r q : Reading) → all_of is_spelling q.known ≡ true → ShortReading (begin r q)
unfolding begin
begin-short r q h =
    either (is_complete r) (λ c. rw c (omega arith)) (λ c. either (is_within q) (λ w. rw (c, w) h) (λ w. rw (c, w) (omega arith)))

closed-short : (a : List (List Datum)) (r : Reading) → all_of is_spelling r.known ≡ true → ShortReading (closed a r)
unfolding closed
closed-short [] r h = omega arith
closed-short (l ∷ ls) r h = h

takes-short : (m : Meaning) (r : Reading) → Short m → all_of is_spelling r.known ≡ true → ShortReading (takes m r)
unfolding takes opened counted put named
takes-short begins r s h = begin-short r (opened (counted r)) h
takes-short ends r s h = closed-short r.around r h
takes-short (constant a) r s h = begin-short r (put (constant_d a) (counted r)) h
takes-short (name cs) r s h = begin-short r (named cs (counted r)) (with-short cs r.known s h)
takes-short (refused g) r s h = s

then-short : (a : Answer Reading) (f : Reading → Answer Reading) → ShortReading a → ((r : Reading) → all_of is_spelling r.known ≡ true → ShortReading (f r)) → ShortReading (then a f)
unfolding then
then-short (got r) f h k = k r h
then-short (refused_for stage g) f h k = h

all_short : (ts : List Token) (r : Reading) → all_of is_spelling r.known ≡ true → ShortReading (takes_all (map meaning_of ts) r)
unfolding takes_all
all_short [] r h = h
all_short (t ∷ ts) r h =
    then-short (takes (meaning_of t) r) (takes_all (map meaning_of ts)) (takes-short (meaning_of t) r (meaning-short t) h) (all_short ts)

finished-short : (a : Answer Reading) → ShortReading a → ShortRecipe (then a finished)
unfolding then finished
finished-short (got r) h = either (is_complete r) (λ c. rw c h) (λ c. rw c (omega arith))
finished-short (refused_for stage g) h = h

-- ---- texts

elements-short : (wanted : ℕ) (text : List ℕ) → ShortRecipe (elements_of wanted text)
unfolding elements_of recipe_over start base_names all_of is_spelling
elements-short wanted text = finished-short (takes_all (map meaning_of (tokens text)) (start base_names wanted)) (all_short (tokens text) (start base_names wanted) base)
  where
    base : all_of is_spelling base_names ≡ true
    base = refl

elements-read-short : (wanted : ℕ) (text : List ℕ) (items names : ℕ) → ShortRecipe (read_elements wanted text items names)
unfolding read_elements
elements-read-short wanted text items names =
    either (ltb items item_words_least || ltb names name_bytes_least) (λ e. rw e (omega arith))
    (λ e. either (ltb text_bytes_most (length text)) (λ l. rw (e, l) (omega arith)) (λ l. rw (e, l) (elements-short wanted text)))

-- the names of an accepted text are ones
pub names-spelled : (wanted : ℕ) (text : List ℕ) (items names : ℕ) (r : Recipe) → read_elements wanted text items names ≡ got r → all_of is_spelling r.names ≡ true
names-spelled wanted text items names r e = subst ShortRecipe e (elements-read-short wanted text items names)

-- none is longer than a slot holds
pub names-short : (wanted : ℕ) (text : List ℕ) (items names : ℕ) (r : Recipe) → read_elements wanted text items names ≡ got r → all_of is_short r.names ≡ true
unfolding is_spelling is_short
names-short wanted text items names r e =
    true-each is_short (each_weaken (λ cs h. le-leb _ _ (within-most 1 name_length_most (length cs) h)) (each-true is_spelling r.names (names-spelled wanted text items names r e)))

elements-ground : (wanted : ℕ) (text : List ℕ) (items names : ℕ) (stage : Stage) (g : ℕ) → read_elements wanted text items names ≡ refused_for stage g → IsGround g
elements-ground wanted text items names stage g e = subst ShortRecipe e (elements-read-short wanted text items names)

-- the recipe behind an answer, and the ground, by the answer's numbers
module _ (wanted : ℕ) (text : List ℕ) (items names : ℕ) where
  abbrev answer : Answer Recipe
  answer = read_elements wanted text items names

  pub numbers-got : (i n : ℕ) → record { ground_number = 0; items = i; names = n } ≡ read_numbers answer → (x : Recipe) × (answer ≡ got x) × (i ≡ data_items x.elements) × (n ≡ length x.names)
  unfolding read_numbers
  numbers-got i n k = go answer refl k
    where
      go : (a : Answer Recipe) → answer ≡ a → record { ground_number = 0; items = i; names = n } ≡ read_numbers a → (x : Recipe) × (answer ≡ got x) × (i ≡ data_items x.elements) × (n ≡ length x.names)
      go (got x) e k = (x, e, ap (λ (m : Numbers). m.items) k, ap (λ (m : Numbers). m.names) k)
      go (refused_for stage g) e k = absurd (omega (arith, (elements-ground wanted text items names stage g e).0, ap (λ (m : Numbers). m.ground_number) k))

  pub numbers-refused : (g : ℕ) → record { ground_number = g; items = 0; names = 0 } ≡ read_numbers answer → (stage : Stage) × (answer ≡ refused_for stage g)
  unfolding read_numbers
  numbers-refused g k = go answer refl k
    where
      go : (a : Answer Recipe) → answer ≡ a → record { ground_number = g; items = 0; names = 0 } ≡ read_numbers a → (stage : Stage) × (answer ≡ refused_for stage g)
      go (got x) e k = absurd (omega (arith, data-positive x.elements, ap (λ (m : Numbers). m.items) k))
      go (refused_for stage j) e k = (stage, e ∙ ap (refused_for stage) (sym (ap (λ (m : Numbers). m.ground_number) k)))

pub read-slots : (text : List ℕ) (items names : ℕ) (r : Recipe) → read text items names ≡ got r → length (name_bytes r) ≡ 64 * length r.names
unfolding name_bytes read
read-slots text items names r e = length-slots r.names (names-short 2 text items names r e)

pub read-ground : (text : List ℕ) (items names : ℕ) (stage : Stage) (g : ℕ) → read text items names ≡ refused_for stage g → IsGround g
unfolding read
read-ground = elements-ground 2

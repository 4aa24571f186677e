-- Tokens taken one after another by their offsets are the tokens of the text.
use Rattle.std.specs.Prelude.{◌≡◌, Bool, true, false, ℕ, zero, suc, ◌+◌, ◌≤◌, ◌<◌, length, get_or, take}
use Rattle.std.proofs.Math.Path.{refl, sym, ap}
use Rattle.std.proofs.Common.{◌∙◌, take-append-drop, length-take, drop-drop, drop-cons}
use mathlib.Core.List.{List, [], ◌∷◌, ◌++◌}
use Rattle.std.proofs.Math.Option.{Option, none, some, none-ne-some}
use native.Mathlib.Omega.{arith}
use Rattle.std.proofs.Math.Numerals.{add-one}
use Rattle.std.proofs.Math.ListN.{drop, length-drop, drop_of_length-le}
use Rattle.std.proofs.Math.Seq.{drop-length}
use Rattle.words.specs.Lists.{all_of, any_of}
use Rattle.words.specs.ListLaws.{either, never}
use Rattle.words.specs.TestLaws.{and_left, and_right}
use Rattle.words.specs.Text.{bytes}
use Rattle.reading.specs.Token.{
  Class,
  separating,
  opening,
  closing,
  sharp,
  running,
  foreign,
  is_running,
  is_separating,
  class_of,
  Token,
  run,
  nothing,
  hash,
  flag_of,
  alone,
  completed,
  begun,
  next,
  ended,
  tokens_after,
  tokens,
}
use Rattle.reading.specs.Offset.{leading, token_of, width_of, first_of, first_width, start_at, token_at, next_at, before, taken}
use Rattle.reading.specs.RecipeText.{EndsRun, at_end}
use Rattle.reading.specs.RecipeText as R
use Rattle.reading.specs.Laws.Tokens.{ClassIs, is_separator, is_opening, is_closing, is_sharp, is_run, is_foreign, class_is, separator-skipped, run-taken}

-- ---- bytes that pass a test

pub leading-all : (f : ℕ → Bool) (bs : List ℕ) → all_of f (take (leading f bs) bs) ≡ true
unfolding leading all_of
leading-all f [] = refl
leading-all f (b ∷ bs) = either (f b) (λ h. rw (h, h, leading-all f bs)) (λ h. rw h)

pub leading-within : (f : ℕ → Bool) (bs : List ℕ) → leading f bs ≤ length bs
unfolding leading
leading-within f [] = omega arith
leading-within f (b ∷ bs) = either (f b) (λ h. rw h (omega (arith, leading-within f bs))) (λ h. rw h (omega arith))

pub leading-append : (f : ℕ → Bool) (a b : List ℕ) → all_of f a ≡ true → leading f (a ++ b) ≡ length a + leading f b
unfolding leading all_of
leading-append f [] b h = omega arith
leading-append f (c ∷ cs) b h =
    rw (and_left (f c) (all_of f cs) h) (omega (arith, leading-append f cs b (and_right (f c) (all_of f cs) h)))

-- byte by byte: at a place where the byte passes, where it does not, and at the end
module _ (f : ℕ → Bool) (bs : List ℕ) (i : ℕ) where
  pub leading-more : i < length bs → f (get_or bs i 0) ≡ true → i + leading f (drop i bs) ≡ (i + 1) + leading f (drop (i + 1) bs)
  unfolding leading
  leading-more h e = rw (drop-cons bs i 0 h, add-one, e) (omega arith)

  pub leading-stops : i < length bs → f (get_or bs i 0) ≡ false → i + leading f (drop i bs) ≡ i
  unfolding leading
  leading-stops h e = rw (drop-cons bs i 0 h, e) (omega arith)

  pub leading-ends : i ≡ length bs → i + leading f (drop i bs) ≡ i
  unfolding leading
  leading-ends e = rw (e, drop-length) (omega arith)

run-stops : (bs : List ℕ) → EndsRun (drop (leading is_running bs) bs)
unfolding leading
run-stops [] = at_end
run-stops (b ∷ bs) = either (is_running b) (λ h. rw h (run-stops bs)) (λ h. rw h (R.before h))

-- ---- the first token

module _ (b : ℕ) (bs : List ℕ) where
  run-first : is_running b ≡ true
      → tokens_after nothing (b ∷ bs) ≡ run (b ∷ take (leading is_running bs) bs) ∷ tokens_after nothing (drop (leading is_running bs) bs)
  unfolding all_of
  run-first h =
      ap (λ l. tokens_after nothing (b ∷ l)) (sym (take-append-drop (leading is_running bs) bs))
      ∙ run-taken b (take (leading is_running bs) bs) (drop (leading is_running bs) bs) (rw (h, leading-all is_running bs)) (run-stops bs)

  sharp-first : (l : List ℕ) → tokens_after hash l ≡ flag_of (get_or l 0 0) ∷ tokens_after nothing (drop (length (take 1 l)) l)
  unfolding tokens_after completed next ended flag_of
  sharp-first [] = refl
  sharp-first (c ∷ cs) = refl

by-class : (b : ℕ) (bs : List ℕ) (k : Class) → ClassIs b k → is_separating b ≡ false → class_of b ≡ k
    → tokens_after nothing (b ∷ bs) ≡ token_of k b bs ∷ tokens_after nothing (drop (width_of k bs) (b ∷ bs))
unfolding token_of width_of tokens_after completed next alone begun
by-class b bs separating (is_separator n s) h e = never s h
by-class b bs opening is_opening h e = rw e
by-class b bs closing is_closing h e = rw e
by-class b bs sharp is_sharp h e = rw e (sharp-first b bs bs)
by-class b bs running (is_run r) h e = run-first b bs r
by-class b bs foreign (is_foreign r) h e = rw e

-- bytes that begin with no separator have the first token, and then the tokens of the bytes past it
pub first_taken : (bs : List ℕ) → is_separating (get_or bs 0 0) ≡ false
    → tokens_after nothing bs ≡ before (first_of bs) (tokens_after nothing (drop (first_width bs) bs))
unfolding before first_of first_width tokens_after ended
first_taken [] h = refl
first_taken (b ∷ bs) h = by-class b bs (class_of b) (class_is b) h refl

-- the first token takes a byte at least, and none past the end
width-bounds : (k : Class) (bs : List ℕ) → (1 ≤ width_of k bs) × (width_of k bs ≤ suc (length bs))
unfolding width_of
width-bounds separating bs = (omega arith, omega arith)
width-bounds opening bs = (omega arith, omega arith)
width-bounds closing bs = (omega arith, omega arith)
width-bounds sharp bs = (omega arith, omega (arith, length-take 1 bs))
width-bounds running bs = (omega arith, omega (arith, leading-within is_running bs))
width-bounds foreign bs = (omega arith, omega arith)

pub first-within : (bs : List ℕ) → first_width bs ≤ length bs
unfolding first_width
first-within [] = omega arith
first-within (b ∷ bs) = (width-bounds (class_of b) bs).1

pub first_some : (bs : List ℕ) (t : Token) → first_of bs ≡ some t → 1 ≤ first_width bs
unfolding first_of first_width
first_some [] t e = absurd (none-ne-some t e)
first_some (b ∷ bs) t e = (width-bounds (class_of b) bs).0

-- ---- offsets

-- past the separators
pub separators-taken : (bs : List ℕ) → tokens_after nothing bs ≡ tokens_after nothing (drop (leading is_separating bs) bs)
unfolding leading
separators-taken [] = refl
separators-taken (b ∷ bs) = either (is_separating b) (λ h. rw h (separator-skipped b bs h ∙ separators-taken bs)) (λ h. rw h)

pub separators-stop : (bs : List ℕ) → is_separating (get_or (drop (leading is_separating bs) bs) 0 0) ≡ false
unfolding leading is_separating any_of bytes
separators-stop [] = refl
separators-stop (b ∷ bs) = either (is_separating b) (λ h. rw h (separators-stop bs)) (λ h. rw (h, h))

module _ (text : List ℕ) (at : ℕ) where
  -- the bytes from the start of the token on
  from_start : drop (start_at text at) text ≡ drop (leading is_separating (drop at text)) (drop at text)
  unfolding start_at
  from_start = sym (drop-drop (leading is_separating (drop at text)) at text)

  -- the tokens from an offset on: the one there, then those from the next offset on
  pub tokens-from : tokens_after nothing (drop at text) ≡ before (token_at text at) (tokens_after nothing (drop (next_at text at) text))
  unfolding token_at next_at
  tokens-from =
      let bs = drop (start_at text at) text in
      separators-taken (drop at text) ∙ ap (tokens_after nothing) (sym from_start)
      ∙ first_taken bs (ap (λ l. is_separating (get_or l 0 0)) from_start ∙ separators-stop (drop at text))
      ∙ ap (λ l. before (first_of bs) (tokens_after nothing l)) (drop-drop (first_width bs) (start_at text at) text)

  pub start-low : at ≤ start_at text at
  unfolding start_at
  start-low = omega arith

  pub start-high : at ≤ length text → start_at text at ≤ length text
  unfolding start_at
  start-high h = omega (arith, leading-within is_separating (drop at text), length-drop at text)

  pub next-high : at ≤ length text → next_at text at ≤ length text
  unfolding next_at
  next-high h = omega (arith, start-high h, first-within (drop (start_at text at) text), length-drop (start_at text at) text)

  pub next-later : (t : Token) → token_at text at ≡ some t → start_at text at < next_at text at
  unfolding token_at next_at
  next-later t e = omega (arith, first_some (drop (start_at text at) text) t e)

  -- no token stands past the end
  pub past_end : length text ≤ at → token_at text at ≡ none
  unfolding token_at first_of
  past_end h =
      let e : drop (start_at text at) text ≡ [] = drop_of_length-le text {i = start_at text at} (omega (arith, start-low)) in rw e

-- ---- one after another

before_same : (o : Option Token) (ts us : List Token) → ((t : Token) → o ≡ some t → ts ≡ us) → before o ts ≡ before o us
unfolding before
before_same none ts us h = refl
before_same (some t) ts us h = ap (λ l. t ∷ l) (h t refl)

-- as many as the bytes that are left are all
pub taken-from : (n : ℕ) (text : List ℕ) (at : ℕ) → at ≤ length text → length text ≤ at + n → taken n text at ≡ tokens_after nothing (drop at text)
unfolding taken tokens_after ended
taken-from zero text at h l = let e : at ≡ length text = omega arith in rw (e, drop-length)
taken-from (suc n) text at h l =
    before_same (token_at text at) (taken n text (next_at text at)) (tokens_after nothing (drop (next_at text at) text))
    (λ t e. taken-from n text (next_at text at) (next-high text at h) (omega (arith, next-later text at t e, start-low text at)))
    ∙ sym (tokens-from text at)

-- the law: taken one after another from the start they are the tokens of the text
pub taken-all : (text : List ℕ) → taken (length text) text 0 ≡ tokens text
unfolding tokens
taken-all text = taken-from (length text) text 0 (omega arith) (omega arith)

-- Laws of reading numbers, in the shape of the code: digits one after another on both sides of a dot, and a value that stops growing
-- past the range.
use Rattle.std.specs.Prelude.{◌≡◌, refl, Bool, eqb, leb, pos, negsuc, neg_ℤ, ◌-ℤ◌, get_or, take}
use Rattle.std.proofs.Math.Path.{sym, ap}
use Rattle.std.proofs.Common.{subst, ◌∙◌, add-one, take-suc, SFits, to_z, of_z, to_z-of_z}
use Rattle.std.proofs.Math.Bool.{true, false, and-false}
use mathlib.Core.List.{List, [], ◌∷◌, ◌++◌, append-nil}
use Prim.Native.Nat.{ℕ, zero, suc, ◌+◌, ◌*◌, ◌-◌, ◌≤◌, ◌<◌, ◌^◌, min}
use native.Mathlib.Omega.{arith}
use Rattle.std.proofs.Math.ListN.{length, drop}
use Rattle.std.proofs.Math.Seq.{drop-cons, drop-length, take-length}
use mir.Syntax.{w32}
use Rattle.std.proofs.Math.Facts.{to_z_pos}
use borrow.Author.Tests.{le-leb, lt-leb, leb-true, leb-false, eqb-true, eq-eqb, ne_eqb}
use Rattle.words.specs.Limits.{places_most}
use Rattle.words.specs.Lists.{within, all_of}
use Rattle.words.specs.Parts.{rest}
use Rattle.words.specs.TestLaws.{iff-eq, within-is, within-least, within-most}
use Rattle.words.specs.ListLaws.{either, rest-is}
use Rattle.lexer.specs.declared.number.Digits.{Digits}
use Rattle.lexer.specs.Answers.{DigitsAfter, behind_dot}
use Rattle.reading.specs.Token.{is_digit}
use Rattle.reading.specs.Meaning.{Meaning, constant, refused, is_negative, unsigned, is_numeral, whole, fraction, are_places, is_fraction, places, value_from, size, number, signed, numeral_of}
use Rattle.reading.specs.Offset.{leading}
use Rattle.reading.proofs.Laws.Offsets.{leading-all, leading-within, leading-append}
use Rattle.reading.proofs.Laws.MeaningsLaws.{numeral-is, numeral-malformed}

-- ---- digits

pub digit-range : (c : ℕ) → is_digit c ≡ true → (48 ≤ c) × (c ≤ 57)
unfolding is_digit
digit-range c h = (within-least 48 57 c h, within-most 48 57 c h)

-- all are digits where as many lead as there are
all-leading : (cs : List ℕ) → eqb (leading is_digit cs) (length cs) ≡ all_of is_digit cs
unfolding leading
all-leading cs =
    iff-eq (eqb (leading is_digit cs) (length cs)) (all_of is_digit cs)
    (λ h. subst (λ l. all_of is_digit l ≡ true) (ap (λ n. take n cs) (eqb-true (leading is_digit cs) (length cs) h) ∙ take-length cs) (leading-all is_digit cs))
    (λ h. eq-eqb _ _ (ap (leading is_digit) (sym (append-nil cs)) ∙ leading-append is_digit cs [] h ∙ none))
  where
    none : length cs + 0 ≡ length cs
    none = omega arith

-- ---- values

-- a value only grows
value-least : (n : ℕ) (cs : List ℕ) → n ≤ value_from n cs
unfolding value_from
value-least n [] = omega arith
value-least n (c ∷ cs) = omega (arith, value-least (10 * n + (c - 48)) cs)

value-append : (n : ℕ) (a b : List ℕ) → value_from n (a ++ b) ≡ value_from (value_from n a) b
unfolding value_from
value-append n [] b = refl
value-append n (c ∷ cs) b = value-append (10 * n + (c - 48)) cs b

pub value_none : (n : ℕ) → n ≤ 2147483649 → n ≡ min (value_from n []) 2147483649
unfolding value_from
value_none n h = omega arith

-- one digit more, of a value that stops growing
pub value-more : (n : ℕ) (l : List ℕ) (i v r : ℕ) → i < length l → v ≡ min (value_from n (take i l)) 2147483649
    → r ≡ min (10 * v + (get_or l i 0 - 48)) 2147483649 → r ≡ min (value_from n (take (i + 1) l)) 2147483649
unfolding value_from
value-more n l i v r h e f =
    let k : value_from n (take (i + 1) l) ≡ 10 * value_from n (take i l) + (get_or l i 0 - 48)
    = rw (add-one, take-suc l i 0 h) (value-append n (take i l) (get_or l i 0 ∷ [])) in
    omega (arith, k)

-- digits after a value that has stopped growing
value-most : (n : ℕ) (cs : List ℕ) → min (value_from (min n 2147483649) cs) 2147483649 ≡ min (value_from n cs) 2147483649
value-most n cs =
    either (leb n 2147483649)
    (λ h. let e : min n 2147483649 ≡ n = omega (arith, leb-true n 2147483649 h) in rw e)
    (λ h. let e : min n 2147483649 ≡ 2147483649 = omega (arith, leb-false n 2147483649 h) in
    rw e (omega (arith, leb-false n 2147483649 h, value-least 2147483649 cs, value-least n cs)))

-- ---- the sign

module _ (p : ℕ) where
  -- past the range the value itself does not matter
  signed-most : (t : Bool) (n : ℕ) → signed t (min n 2147483649) p ≡ signed t n p
  unfolding signed
  signed-most true n =
      either (leb n 2147483648)
      (λ h. let e : min n 2147483649 ≡ n = omega (arith, leb-true n 2147483648 h) in rw e)
      (λ h. let k : 2147483648 < min n 2147483649 = omega (arith, leb-false n 2147483648 h) in rw (h, lt-leb _ _ k))
  signed-most false n =
      either (leb n 2147483647)
      (λ h. let e : min n 2147483649 ≡ n = omega (arith, leb-true n 2147483647 h) in rw e)
      (λ h. let k : 2147483647 < min n 2147483649 = omega (arith, leb-false n 2147483647 h) in rw (h, lt-leb _ _ k))

  signed-after : (t : Bool) (n : ℕ) (cs : List ℕ) → signed t (value_from (min n 2147483649) cs) p ≡ signed t (value_from n cs) p
  signed-after t n cs =
      sym (signed-most t (value_from (min n 2147483649) cs)) ∙ ap (λ i. signed t i p) (value-most n cs) ∙ signed-most t (value_from n cs)

  pub positive-past : (n : ℕ) → 2147483647 < n → refused 4 ≡ signed false n p
  unfolding signed
  positive-past n h = rw (lt-leb _ _ h)

  pub negative-past : (n : ℕ) → 2147483648 < n → refused 4 ≡ signed true n p
  unfolding signed
  negative-past n h = rw (lt-leb _ _ h)

  pub positive-is : (n : ℕ) → n ≤ 2147483647 → constant (number (of_z w32 (to_z w32 n)) p) ≡ signed false n p
  unfolding signed
  positive-is n h = let k : n < 2 ^ 31 = omega arith in rw (le-leb _ _ h, to_z_pos w32 k)

  pub zero_is : (n : ℕ) → n ≡ 0 → constant (number 0 p) ≡ signed true n p
  unfolding signed
  zero_is n h = rw h

-- -1 - k
below-zero : (k : ℕ) → negsuc 0 -ℤ pos k ≡ negsuc k
below-zero zero = refl
below-zero (suc k) = ap negsuc (omega arith)

negated : (n : ℕ) → (n ≡ 0 → ⊥) → negsuc (n - 1) ≡ neg_ℤ (pos n)
negated zero h = absurd (h refl)
negated (suc n) h = let e : suc n - 1 ≡ n = omega arith in rw e

-- the code's -1 - (n - 1), which no sum passes the range for
module _ (n : ℕ) (h : n ≤ 2147483648) (p : n ≡ 0 → ⊥) where
  small : n - 1 < 2 ^ 31
  small = omega arith

  value : negsuc 0 -ℤ to_z w32 (n - 1) ≡ negsuc (n - 1)
  value = ap (λ z. negsuc 0 -ℤ z) (to_z_pos w32 small) ∙ below-zero (n - 1)

  pub negative_fits : SFits w32 (negsuc 0 -ℤ to_z w32 (n - 1))
  negative_fits = rw value (record { sfits = small })

  pub negative-is : (places : ℕ)
      → constant (number (of_z w32 (to_z w32 (of_z w32 (negsuc 0 -ℤ to_z w32 (n - 1))))) places) ≡ signed true n places
  unfolding signed
  negative-is places =
      ap (λ z. constant (number (of_z w32 z) places)) (to_z-of_z negative_fits ∙ value ∙ negated n p) ∙ rw (le-leb n 2147483648 h)

-- ---- runs, way by way through the code

module _ (cs : List ℕ) where
  pub numeral-plain : (get_or cs 0 0 ≡ 45 → ⊥) → is_digit (get_or cs 0 0) ≡ is_numeral cs
  unfolding is_numeral unsigned is_negative
  numeral-plain h = rw (ne_eqb _ _ h)

  pub plain-numeral : (get_or cs 0 0 ≡ 45 → ⊥) → numeral_of false cs ≡ numeral_of (is_negative cs) (unsigned cs)
  unfolding unsigned is_negative
  plain-numeral h = rw (ne_eqb _ _ h)

  pub minus-numeral : get_or cs 0 0 ≡ 45 → numeral_of true (rest 1 cs) ≡ numeral_of (is_negative cs) (unsigned cs)
  unfolding unsigned is_negative
  minus-numeral h = rw (rest-is 1 cs, eq-eqb _ _ h)

pub numeral-none : (cs : List ℕ) → length cs ≡ 0 → false ≡ is_numeral cs
unfolding is_numeral unsigned is_negative is_digit within
numeral-none [] h = refl
numeral-none (c ∷ cs) h = absurd (omega arith)

pub numeral-one : (cs : List ℕ) → length cs ≡ 1 → get_or cs 0 0 ≡ 45 → false ≡ is_numeral cs
unfolding is_numeral unsigned is_negative is_digit within
numeral-one [] h e = refl
numeral-one (c ∷ []) h e = rw e
numeral-one (c ∷ d ∷ cs) h e = absurd (omega arith)

pub numeral-minus : (cs : List ℕ) → get_or cs 0 0 ≡ 45 → is_digit (get_or cs 1 0) ≡ is_numeral cs
unfolding is_numeral unsigned is_negative
numeral-minus [] e = absurd (omega arith)
numeral-minus (c ∷ cs) e = rw e

-- ---- places, way by way through the code

module _ (cs : List ℕ) where
  pub places-none : length cs ≡ 0 → are_places cs ≡ false
  unfolding are_places within
  places-none h = rw h

  pub places-many : places_most < length cs → are_places cs ≡ false
  unfolding are_places within
  places-many h = rw (lt-leb _ _ h, and-false)

  module _ (h : length cs ≡ 0 → ⊥) (k : length cs ≤ places_most) (n : ℕ) (e : n ≡ leading is_digit cs) where
    places-few : are_places cs ≡ eqb n (length cs)
    unfolding are_places
    places-few =
        let l : 1 ≤ length cs = omega arith in
        rw (within-is 1 places_most (length cs) l k, e) (sym (all-leading cs))

    pub places-other : (n ≡ length cs → ⊥) → are_places cs ≡ false
    places-other l = places-few ∙ ne_eqb _ _ l

    pub with-places : (t : Bool) (whole : ℕ) (m : Meaning) (v : ℕ) → n ≡ length cs → m ≡ signed t v n
        → v ≡ min (value_from whole (take n cs)) 2147483649 → m ≡ behind_dot t whole cs
    with-places t whole m v l w f =
        w ∙ ap (λ j. signed t j n) f ∙ signed-most n t (value_from whole (take n cs)) ∙ rw (places-few, l, take-length cs, eq-eqb (length cs) (length cs) refl)

pub places-malformed : (t : Bool) (whole : ℕ) (cs : List ℕ) → are_places cs ≡ false → refused 3 ≡ behind_dot t whole cs
places-malformed t whole cs h = rw h

-- ---- a run past its minus, by the digits that it begins with

module _ (cs : List ℕ) (r : Digits) (d : DigitsAfter 0 cs r) where
  -- where they are not all of it
  pub dot-within : (r.count ≡ length cs → ⊥) → r.count < length cs
  dot-within h = omega (arith, h, d.count, leading-within is_digit cs)

  -- its value is taken from the digits before the dot to those behind it
  size-split : size cs ≡ value_from (value_from 0 (take r.count cs)) (places cs)
  unfolding size whole
  size-split = rw d.count (value-append 0 (take (leading is_digit cs) cs) (places cs))

  pub no-dot : (t : Bool) (m : Meaning) → r.count ≡ length cs → m ≡ signed t r.value 0 → m ≡ numeral_of t cs
  unfolding fraction is_fraction places value_from
  no-dot t m h w =
      let f : drop (leading is_digit cs) cs ≡ [] = ap (λ i. drop i cs) (sym d.count ∙ h) ∙ drop-length cs in
      w ∙ ap (λ i. signed t i 0) d.value ∙ signed-most 0 t (value_from 0 (take r.count cs))
      ∙ sym (numeral-is t cs (rw f) ∙ rw (size-split, f))

  module _ (h : r.count < length cs) (t : Bool) where
    behind : fraction cs ≡ get_or cs r.count 0 ∷ rest (r.count + 1) cs
    unfolding fraction
    behind = ap (λ i. drop i cs) (sym d.count) ∙ drop-cons cs r.count 0 h ∙ rw (rest-is (r.count + 1) cs, add-one)

    pub other_byte : (get_or cs r.count 0 ≡ 46 → ⊥) → refused 3 ≡ numeral_of t cs
    unfolding is_fraction
    other_byte n = sym (numeral-malformed t cs (rw (behind, ne_eqb _ _ n)))

    pub dot-taken : get_or cs r.count 0 ≡ 46 → behind_dot t r.value (rest (r.count + 1) cs) ≡ numeral_of t cs
    unfolding is_fraction places
    dot-taken b =
        let ps = rest (r.count + 1) cs in
        let whole = value_from 0 (take r.count cs) in
        either (are_places ps)
        (λ a. let e : numeral_of t cs ≡ signed t (value_from whole ps) (length ps) = numeral-is t cs (rw (behind, b, a)) ∙ rw (size-split, behind) in
        rw (a, d.value) (signed-after (length ps) t whole ps ∙ sym e))
        (λ a. rw a (sym (numeral-malformed t cs (rw (behind, a, and-false)))))

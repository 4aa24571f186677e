-- Meanings: a token means what meaning_of gives, where that is no refusal, and nothing else.
use Rattle.std.specs.Prelude.{◌≡◌, Bool, not, List, [], ◌∷◌, ◌++◌, ℕ, ◌≤◌, eqb, leb, pos, neg_ℤ, length, take, drop}
use Rattle.std.proofs.Math.Path.{refl, ap, ap₂}
use Rattle.std.proofs.Common.{sym, subst, ◌∙◌, arith, take-append-drop, of_z, eqb-true, ne_eqb, leb-true, le-leb}
use Rattle.std.proofs.Math.Bool.{true, false}
use Rattle.std.proofs.Math.Seq.{take_at, drop_at}
use Rattle.std.specs.Int.{w32}
use Rattle.std.proofs.lemmas.Bool.{not-true}
use Rattle.words.specs.Limits.{name_length_most, places_most}
use Rattle.words.specs.Lists.{within, all_of, equal}
use Rattle.words.specs.TestLaws.{and_left, and_right, and_parts, within-parts, within-is, within-least, within-most}
use Rattle.words.specs.ListLaws.{either, never, equal-true, equal-refl}
use Rattle.reading.specs.Token.{Token, open', close', bad, flag, run, is_digit}
use Rattle.reading.specs.Meaning.{Meaning, constant, name, refused, is_negative, unsigned, is_numeral, whole, fraction, are_places, is_fraction, places, value_from, size, number, signed, numeral_of, is_name, name_of, meaning_of}
use Rattle.reading.specs.Offset.{leading}
use Rattle.reading.specs.RecipeText.{StartsNumber, digit, minus, Fraction, no_dot, dot, Means, opens, closes, boolean', positive, negative, named}
use Rattle.reading.proofs.Laws.Offsets.{leading-all, leading-append}
use Rattle.reading.specs.Laws.Meanings.{is_refused}

-- ---- runs that are numbers

-- a digit is no minus
digit-no-minus : (c : ℕ) → is_digit c ≡ true → eqb c 45 ≡ false
unfolding is_digit
digit-no-minus c h = ne_eqb c 45 (λ e. omega (arith, within-least 48 57 c h))

unsigned-plain : (c : ℕ) (cs : List ℕ) → eqb c 45 ≡ false → unsigned (c ∷ cs) ≡ c ∷ cs
unfolding unsigned is_negative
unsigned-plain c cs e = rw e

pub starts-numeral : {cs : List ℕ} → StartsNumber cs → is_numeral cs ≡ true
unfolding is_numeral unsigned is_negative
starts-numeral (digit {c} {cs} h) = rw (digit-no-minus c h, h)
starts-numeral (minus {c} {cs} h) = h

-- after a minus
minus-starts : (cs : List ℕ) → is_numeral (45 ∷ cs) ≡ true → StartsNumber (45 ∷ cs)
unfolding is_numeral unsigned is_negative is_digit within
minus-starts [] h = never h refl
minus-starts (c ∷ cs) h = minus h

pub numeral-starts : (cs : List ℕ) → is_numeral cs ≡ true → StartsNumber cs
unfolding is_numeral unsigned is_negative is_digit within
numeral-starts [] h = never h refl
numeral-starts (c ∷ cs) h =
    either (eqb c 45)
    (λ e. let k = eqb-true c 45 e in subst (λ n. StartsNumber (n ∷ cs)) (sym k) (minus-starts cs (subst (λ n. is_numeral (n ∷ cs) ≡ true) k h)))
    (λ e. digit (rw (unsigned-plain c cs e) at h))

-- ---- digits, and what stands behind them

-- behind them is no digit
fraction-leading : {fs ps : List ℕ} → Fraction fs ps → leading is_digit fs ≡ 0
unfolding leading is_digit within
fraction-leading no_dot = refl
fraction-leading (dot l u d) = refl

fraction-is : {fs ps : List ℕ} → Fraction fs ps → (is_fraction fs ≡ true) × (drop 1 fs ≡ ps)
unfolding is_fraction are_places
fraction-is no_dot = (refl, refl)
fraction-is (dot {ps} l u d) = (rw (within-is 1 places_most (length ps) l u, d), refl)

is-fraction : (fs : List ℕ) → is_fraction fs ≡ true → Fraction fs (drop 1 fs)
unfolding is_fraction are_places
is-fraction [] h = no_dot
is-fraction (c ∷ cs) h =
    let p = and_parts (eqb c 46) (are_places cs) h in
    let q = and_parts (within 1 places_most (length cs)) (all_of is_digit cs) p.1 in
    let w = within-parts 1 places_most (length cs) q.0 in
    subst (λ n. Fraction (n ∷ cs) cs) (sym (eqb-true c 46 p.0)) (dot w.0 w.1 q.1)

pub fraction-places : {fs ps : List ℕ} → Fraction fs ps → length ps ≤ places_most
fraction-places no_dot = omega arith
fraction-places (dot l u d) = u

-- digits before a fraction are told from it
module _ (ds : List ℕ) (h : all_of is_digit ds ≡ true) {fs ps : List ℕ} (f : Fraction fs ps) where
  digits-leading : leading is_digit (ds ++ fs) ≡ length ds
  digits-leading = leading-append is_digit ds fs h ∙ rw (fraction-leading f) (omega arith)

  whole_is : whole (ds ++ fs) ≡ ds
  unfolding whole
  whole_is = take_at ds fs _ (sym digits-leading)

  fraction-behind : fraction (ds ++ fs) ≡ fs
  unfolding fraction
  fraction-behind = drop_at ds fs _ (sym digits-leading)

  places-are : places (ds ++ fs) ≡ ps
  unfolding places
  places-are = ap (drop 1) fraction-behind ∙ (fraction-is f).1

  size_is : size (ds ++ fs) ≡ value_from 0 (ds ++ ps)
  unfolding size
  size_is = ap₂ (λ a b. value_from 0 (a ++ b)) whole_is places-are

  digits-numeral : (t : Bool) → numeral_of t (ds ++ fs) ≡ signed t (value_from 0 (ds ++ ps)) (length ps)
  unfolding numeral_of
  digits-numeral t = rw (fraction-behind, (fraction-is f).0, size_is, places-are)

-- what holds of all digits before a fraction holds of a run that starts with a digit, where a fraction stands behind its digits
digits-split : (P : List ℕ → ℕ → ℕ → Type 0) (c : ℕ) (cs : List ℕ) → is_digit c ≡ true → is_fraction (fraction (c ∷ cs)) ≡ true
    → ((ds fs ps : List ℕ) → all_of is_digit (c ∷ ds) ≡ true → Fraction fs ps → P (c ∷ ds ++ fs) (value_from 0 (c ∷ ds ++ ps)) (length ps))
    → P (c ∷ cs) (size (c ∷ cs)) (length (places (c ∷ cs)))
unfolding size places whole fraction leading all_of
digits-split P c cs d h all =
    let n = leading is_digit cs in
    let fs = drop n cs in
    let p = all (take n cs) fs (drop 1 fs) (rw (d, leading-all is_digit cs)) (is-fraction fs (rw d at h)) in
    rw d (subst (λ l. P (c ∷ l) (value_from 0 (c ∷ take n cs ++ drop 1 fs)) (length (drop 1 fs))) (take-append-drop n cs) p)

-- ---- what a run means

pub numeral-means : (cs : List ℕ) → is_numeral cs ≡ true → meaning_of (run cs) ≡ numeral_of (is_negative cs) (unsigned cs)
unfolding meaning_of
numeral-means cs h = rw h

pub other-means : (cs : List ℕ) → is_numeral cs ≡ false → meaning_of (run cs) ≡ name_of cs
unfolding meaning_of
other-means cs h = rw h

pub numeral-is : (t : Bool) (cs : List ℕ) → is_fraction (fraction cs) ≡ true → numeral_of t cs ≡ signed t (size cs) (length (places cs))
unfolding numeral_of
numeral-is t cs h = rw h

pub numeral-malformed : (t : Bool) (cs : List ℕ) → is_fraction (fraction cs) ≡ false → numeral_of t cs ≡ refused 3
unfolding numeral_of
numeral-malformed t cs h = rw h

pub name-is : (cs : List ℕ) → is_name cs ≡ true → name_of cs ≡ name cs
unfolding name_of
name-is cs h = rw h

pub name-malformed : (cs : List ℕ) → is_name cs ≡ false → name_of cs ≡ refused 3
unfolding name_of
name-malformed cs h = rw h

is_name_lem : (cs : List ℕ) → within 1 name_length_most (length cs) ≡ true → equal cs (46 ∷ []) ≡ false → is_name cs ≡ true
unfolding is_name
is_name_lem cs h k = rw (h, k)

-- ---- what a token means is what meaning_of gives

module _ (c : ℕ) (cs : List ℕ) (h : all_of is_digit (c ∷ cs) ≡ true) where
  first-digit : is_digit c ≡ true
  unfolding all_of
  first-digit = and_left (is_digit c) (all_of is_digit cs) h

  plain : eqb c 45 ≡ false
  plain = digit-no-minus c first-digit

  module _ {fs ps : List ℕ} (f : Fraction fs ps) where
    positive-is : value_from 0 (c ∷ cs ++ ps) ≤ 2147483647
        → meaning_of (run (c ∷ cs ++ fs)) ≡ constant (number (value_from 0 (c ∷ cs ++ ps)) (length ps))
    unfolding signed is_negative
    positive-is k =
        numeral-means (c ∷ cs ++ fs) (starts-numeral (digit first-digit))
        ∙ rw (plain, unsigned-plain c (cs ++ fs) plain) (digits-numeral (c ∷ cs) h f false ∙ rw (le-leb _ _ k))

    negative-is : value_from 0 (c ∷ cs ++ ps) ≤ 2147483648
        → meaning_of (run (45 ∷ c ∷ cs ++ fs)) ≡ constant (number (of_z w32 (neg_ℤ (pos (value_from 0 (c ∷ cs ++ ps))))) (length ps))
    unfolding signed is_negative unsigned
    negative-is k =
        numeral-means (45 ∷ c ∷ cs ++ fs) (starts-numeral (minus first-digit))
        ∙ digits-numeral (c ∷ cs) h f true ∙ rw (le-leb _ _ k)

named-is : (cs : List ℕ) → (StartsNumber cs → ⊥) → 1 ≤ length cs → length cs ≤ name_length_most → (cs ≡ 46 ∷ [] → ⊥)
    → meaning_of (run cs) ≡ name cs
unfolding within
named-is cs n l u d =
    either (is_numeral cs) (λ h. absurd (n (numeral-starts cs h)))
    (λ h. other-means cs h
    ∙ name-is cs (is_name_lem cs (rw (le-leb _ _ l, le-leb _ _ u))
    (either (equal cs (46 ∷ [])) (λ e. absurd (d (equal-true cs (46 ∷ []) e))) (λ e. e))))

pub means_is : {t : Token} {m : Meaning} → Means t m → meaning_of t ≡ m
unfolding meaning_of
means_is opens = refl
means_is closes = refl
means_is boolean' = refl
means_is (positive {c} cs h f k) = positive-is c cs h f k
means_is (negative {c} cs h f k) = negative-is c cs h f k
means_is (named {cs} n l u d) = named-is cs n l u d

-- ---- and what it gives, where it is no refusal, is what the token means

-- digits within the range, and not otherwise
module _ (c : ℕ) (cs : List ℕ) (h : all_of is_digit (c ∷ cs) ≡ true) {fs ps : List ℕ} (f : Fraction fs ps) where
  abbrev value : ℕ
  value = value_from 0 (c ∷ cs ++ ps)

  positive-means : is_refused (signed false value (length ps)) ≡ false → Means (run (c ∷ cs ++ fs)) (signed false value (length ps))
  unfolding signed is_refused
  positive-means k = either (leb value 2147483647) (λ r. rw r (positive cs h f (leb-true _ _ r))) (λ r. never refl (rw r at k))

  negative-means : is_refused (signed true value (length ps)) ≡ false → Means (run (45 ∷ c ∷ cs ++ fs)) (signed true value (length ps))
  unfolding signed is_refused
  negative-means k = either (leb value 2147483648) (λ r. rw r (negative cs h f (leb-true _ _ r))) (λ r. never refl (rw r at k))

number-means : (cs : List ℕ) → StartsNumber cs → is_fraction (fraction (unsigned cs)) ≡ true
    → (let ds = unsigned cs in let m = signed (is_negative cs) (size ds) (length (places ds)) in is_refused m ≡ false → Means (run cs) m)
unfolding is_negative unsigned
number-means cs (digit {c} {cs = ds} d) =
    rw (digit-no-minus c d) (λ h. digits-split (λ r n p. is_refused (signed false n p) ≡ false → Means (run r) (signed false n p)) c ds d h
    (λ ds fs ps a f. positive-means c ds a f))
number-means cs (minus {c} {cs = ds} d) =
    λ h. digits-split (λ r n p. is_refused (signed true n p) ≡ false → Means (run (45 ∷ r)) (signed true n p)) c ds d h
    (λ ds fs ps a f. negative-means c ds a f)

module _ (cs : List ℕ) where
  numeral-meant : is_numeral cs ≡ true → (let m = numeral_of (is_negative cs) (unsigned cs) in is_refused m ≡ false → Means (run cs) m)
  unfolding is_refused
  numeral-meant n h =
      either (is_fraction (fraction (unsigned cs)))
      (λ d. let e = numeral-is (is_negative cs) (unsigned cs) d in rw e (number-means cs (numeral-starts cs n) d (rw e at h)))
      (λ d. never refl (rw (numeral-malformed (is_negative cs) (unsigned cs) d) at h))

  name-means : is_numeral cs ≡ false → is_refused (name_of cs) ≡ false → Means (run cs) (name_of cs)
  unfolding is_refused is_name
  name-means n h =
      let w = within 1 name_length_most (length cs) in
      let d = equal cs (46 ∷ []) in
      either (is_name cs)
      (λ k. let l = and_left w (not d) k in
      rw (name-is cs k)
      (named (λ s. never (starts-numeral s) n) (within-least 1 63 (length cs) l) (within-most 1 63 (length cs) l)
      (λ e. never (subst (λ l. equal l (46 ∷ []) ≡ true) (sym e) (equal-refl (46 ∷ []))) (not-true d (and_right w (not d) k)))))
      (λ k. never refl (rw (name-malformed cs k) at h))

  run-means : is_refused (meaning_of (run cs)) ≡ false → Means (run cs) (meaning_of (run cs))
  run-means h =
      either (is_numeral cs)
      (λ n. let e = numeral-means cs n in rw e (numeral-meant n (rw e at h)))
      (λ n. let e = other-means cs n in rw e (name-means n (rw e at h)))

pub is-meant : (t : Token) → is_refused (meaning_of t) ≡ false → Means t (meaning_of t)
unfolding meaning_of is_refused
is-meant open' h = opens
is-meant close' h = closes
is-meant bad h = never refl h
is-meant (flag b) h = boolean'
is-meant (run cs) h = run-means cs h

-- Laws of numbers' text: the digits' value is the number, how many there are, and the sign.
use Rattle.std.specs.Prelude.{◌≡◌, Bool, true, false, List, [], ◌∷◌, ◌++◌, ltb, ℤ, pos, negsuc, nat_abs, length}
use Rattle.std.proofs.Math.Path.{refl}
use Rattle.std.proofs.Common.{ap, ◌∙◌, true≢false, arith, div-le_self, length-append, Fits, to_z, of_z, to_z-of_z}
use Prim.Native.Nat.{ℕ, zero, suc, ◌+◌, ◌-◌, ◌*◌, ◌/◌, ◌%◌, ◌^◌, ◌≤◌, ◌<◌}
use Rattle.std.proofs.Math.Nat.{pow-succ'}
use Rattle.std.specs.Int.Signed.{lt_z}
use mir.Syntax.{w32}
use Rattle.std.proofs.Math.Facts.{to_z_pos, sfits_to_z}
use borrow.Author.Tests.{ltb-true, ltb-false}
use Rattle.words.specs.ListLaws.{either}
use Rattle.core_term.specs.Decimal.{leading, digits_by, decimal, value_after, value, padded, pointed, signed, integer_text, decimal_text}

-- one digit or more
digits-case : {X : Type 0} (n : ℕ) → (n < 10 → X) → (10 ≤ n → X) → X
digits-case {X} n a b = go (ltb n 10) refl
  where
    go : (c : Bool) → ltb n 10 ≡ c → X
    go true e = a (ltb-true n 10 e)
    go false e = b (ltb-false n 10 e)

leading-some : (f : ℕ → List ℕ) (n : ℕ) → 1 ≤ n → leading f n ≡ f n
unfolding leading
leading-some f zero h = absurd (omega arith)
leading-some f (suc n) h = refl

-- ---- gas

leading-same : (f g : ℕ → List ℕ) (n : ℕ) → (1 ≤ n → f n ≡ g n) → leading f n ≡ leading g n
unfolding leading
leading-same f g zero h = refl
leading-same f g (suc n) h = h (omega arith)

-- any gas above n gives the same
digits-any : (f g n : ℕ) → n < f → n < g → digits_by f n ≡ digits_by g n
unfolding digits_by
digits-any zero g n h k = absurd (omega arith)
digits-any (suc f) zero n h k = absurd (omega arith)
digits-any (suc f) (suc g) n h k =
    ap (λ (s : List ℕ). s ++ ((48 + n % 10) ∷ [])) (leading-same (digits_by f) (digits_by g) (n / 10) (λ l. digits-any f g (n / 10) (omega arith) (omega arith)))

-- ---- decimal

decimal-by : (n : ℕ) → digits_by (suc n) n ≡ decimal n
unfolding decimal
decimal-by n = refl

digits_of : (n : ℕ) → decimal n ≡ leading (digits_by n) (n / 10) ++ ((48 + n % 10) ∷ [])
unfolding decimal digits_by
digits_of n = refl

pub decimal-one : (n : ℕ) → n < 10 → decimal n ≡ (48 + n) ∷ []
unfolding decimal digits_by leading
decimal-one n h =
    let e : n / 10 ≡ 0 = omega arith in
    let g : n % 10 ≡ n = omega arith in
    rw (e, g)

pub decimal-more : (n : ℕ) → 10 ≤ n → decimal n ≡ decimal (n / 10) ++ ((48 + n % 10) ∷ [])
decimal-more n h =
    let l : 1 ≤ n / 10 = omega arith in
    digits_of n ∙ ap (λ (s : List ℕ). s ++ ((48 + n % 10) ∷ [])) (leading-some (digits_by n) (n / 10) l ∙ digits-any n (suc (n / 10)) (n / 10) (omega arith) (omega arith) ∙ decimal-by (n / 10))

-- a number below 10 to the k + 1 has at most k + 1 digits
pub decimal-count : (k n : ℕ) → n < 10 ^ suc k → length (decimal n) ≤ suc k
decimal-count zero n h = rw (decimal-one n h) (omega arith)
decimal-count (suc k) n h =
    digits-case n
    (λ l. rw (decimal-one n l) (omega arith))
    (λ l. let d : n / 10 < 10 ^ suc k = omega (arith, pow-succ' 10 (suc k)) in
    rw (decimal-more n l) (omega (arith, length-append (decimal (n / 10)) ((48 + n % 10) ∷ []), decimal-count k (n / 10) d)))

-- a word's number has at most ten
pub decimal-word : (n : ℕ) → n < 4294967296 → length (decimal n) ≤ 10
decimal-word n h = decimal-count 9 n (omega arith)

-- ---- value

value-append : (m : ℕ) (xs ys : List ℕ) → value_after m (xs ++ ys) ≡ value_after (value_after m xs) ys
unfolding value_after
value-append m [] ys = refl
value-append m (c ∷ xs) ys = value-append (10 * m + (c - 48)) xs ys

value-by : (f n : ℕ) → n < f → value (decimal n) ≡ n
unfolding value value_after
value-by zero n h = absurd (omega arith)
value-by (suc f) n h =
    digits-case n
    (λ l. rw (decimal-one n l) (omega arith))
    (λ l. rw (decimal-more n l) (value-append 0 (decimal (n / 10)) ((48 + n % 10) ∷ [])
    ∙ ap (λ (v : ℕ). 10 * v + (48 + n % 10 - 48)) (value-by f (n / 10) (omega arith)) ∙ last n))
  where
    last : (n : ℕ) → 10 * (n / 10) + (48 + n % 10 - 48) ≡ n
    last n = omega arith

-- the digits' value is the number
pub value-decimal : (n : ℕ) → value (decimal n) ≡ n
value-decimal n = value-by (suc n) n (omega arith)

-- ---- with a sign

pub integer-plain : (w : ℕ) → w < 2147483648 → integer_text w ≡ decimal w
unfolding integer_text signed
integer-plain w h = rw (to_z_pos w32 h)

module _ (text : ℕ → List ℕ) where
  signed_below : (y : ℤ) → lt_z y (pos 0) ≡ true → 45 ∷ text (nat_abs y) ≡ signed text y
  unfolding signed
  signed_below (pos m) h = absurd (omega (arith, ltb-true m 0 h))
  signed_below (negsuc m) h = refl

  signed_above : (y : ℤ) → lt_z y (pos 0) ≡ false → text (nat_abs y) ≡ signed text y
  unfolding signed
  signed_above (pos m) h = refl
  signed_above (negsuc m) h = absurd (true≢false h)

  -- no more than a byte longer than the text of a size of at most 31 bits
  signed-length : (w k : ℕ) → ((n : ℕ) → n < 4294967296 → length (text n) ≤ k) → length (signed text (to_z w32 w)) ≤ suc k
  unfolding signed
  signed-length w k h =
      either (ltb w 2147483648)
      (λ e. let l = ltb-true w 2147483648 e in rw (to_z_pos w32 l) (omega (arith, h w (omega arith))))
      (λ e. let l = ltb-false w 2147483648 e in rw e (omega (arith, h (suc (4294967296 - suc w)) (omega arith))))

-- ---- room

pub integer-room : (w : ℕ) → length (integer_text w) ≤ 11
unfolding integer_text
integer-room w = signed-length decimal w 10 decimal-word

pub padded-length : (k n : ℕ) → length (padded k n) ≡ suc k
unfolding padded
padded-length zero n = refl
padded-length (suc k) n = ap suc (padded-length k (n % 10 ^ suc k))

pub decimal-room : (w places : ℕ) → 1 ≤ places → length (decimal_text w places) ≤ 12 + places
unfolding decimal_text pointed
decimal-room w places h =
    omega (
      arith,
      signed-length (pointed places) w (11 + places) (λ n l.
          let whole = n / 10 ^ places in
          omega (
            arith,
            decimal-word whole (omega (arith, div-le_self n (10 ^ places))),
            length-append (decimal whole) (46 ∷ padded (places - 1) (n % 10 ^ places)),
            padded-length (places - 1) (n % 10 ^ places),
          )),
    )

-- ---- the number of a word

-- the number of a word, as its bits come back, and its size: below 0 a minus stands before it
module _ (w : ℕ) (word : Fits w32 w) (z : ℤ) (value : z ≡ to_z w32 w) (n : ℕ) (size : n ≡ nat_abs (to_z w32 (of_z w32 z))) where
  back : to_z w32 (of_z w32 z) ≡ to_z w32 w
  back = ap (λ y. to_z w32 (of_z w32 y)) value ∙ to_z-of_z (sfits_to_z word)

  module _ (text : ℕ → List ℕ) where
    word_below : lt_z (to_z w32 (of_z w32 z)) (pos 0) ≡ true → 45 ∷ text n ≡ signed text (to_z w32 w)
    word_below h = ap (λ m. 45 ∷ text m) size ∙ signed_below text (to_z w32 (of_z w32 z)) h ∙ ap (signed text) back

    word-above : lt_z (to_z w32 (of_z w32 z)) (pos 0) ≡ false → text n ≡ signed text (to_z w32 w)
    word-above h = ap text size ∙ signed_above text (to_z w32 (of_z w32 z)) h ∙ ap (signed text) back

  pub integer-below : lt_z (to_z w32 (of_z w32 z)) (pos 0) ≡ true → 45 ∷ decimal n ≡ integer_text w
  unfolding integer_text
  integer-below = word_below decimal

  pub integer-above : lt_z (to_z w32 (of_z w32 z)) (pos 0) ≡ false → decimal n ≡ integer_text w
  unfolding integer_text
  integer-above = word-above decimal

  pub decimal-below : (places : ℕ) → lt_z (to_z w32 (of_z w32 z)) (pos 0) ≡ true → 45 ∷ pointed places n ≡ decimal_text w places
  unfolding decimal_text
  decimal-below places = word_below (pointed places)

  pub decimal-above : (places : ℕ) → lt_z (to_z w32 (of_z w32 z)) (pos 0) ≡ false → pointed places n ≡ decimal_text w places
  unfolding decimal_text
  decimal-above places = word-above (pointed places)

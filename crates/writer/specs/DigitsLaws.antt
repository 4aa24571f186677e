-- Laws of digits from a power of ten down: the table's rule, a digit by subtracting, and that the digits so made are decimal's.
use Rattle.std.specs.Prelude.{◌≡◌, ℕ, zero, suc, ◌+◌, ◌-◌, ◌*◌, ◌/◌, ◌%◌, ◌^◌, ◌<◌, ◌≤◌, Bool, true, false, T, List, [], ◌∷◌, ◌++◌, length, ◌==◌, slice_index, slice_set}
use Rattle.std.proofs.Math.Path.{refl, ap, ap₂}
use Rattle.std.proofs.Common.{sym, subst, ◌∙◌, add-one, add-zero, zero-add, add-suc, suc-add, le_of_suc-le-suc, not-suc-le-zero, mul_comm, mod-lt, mod-eq_of_lt, eqb→eq, pow-add}
use native.Mathlib.Omega.{arith}
use Rattle.std.proofs.Math.Nat.{div-eq_of_lt, div-div-eq-div-mul, pow-succ', pow-le-pow_right}
use Rattle.std.proofs.Math.Arith.{digits_div, digits_mod, mod-mul}
use Rattle.core_term.specs.Decimal.{decimal, padded}
use Rattle.core_term.proofs.DecimalLaws.{decimal-one, decimal-more, padded-length}
use Rattle.std.specs.Prelude.{Some, None}
use Rattle.writer.specs.Laid.{laid, Left, done, full}
use Rattle.writer.specs.LaidLaws.{laid-dry, laid-byte, laid-append}
use Rattle.writer.specs.Digits.{tens}

-- ---- a rule of a table: a test that is computed at each entry and its place

both : Bool → Bool → Bool
both true b = b
both false b = false

both_left : (a b : Bool) → T (both a b) → T a
unfolding both
both_left true b t = tt
both_left false b t = t

both_right : (a b : Bool) → T (both a b) → T b
unfolding both
both_right true b t = t
both_right false b t = absurd t

-- the test passes at each entry, places counted from i
every : (ℕ → ℕ → Bool) → ℕ → List ℕ → Bool
every f i [] = true
every f i (x ∷ xs) = both (f i x) (every f (suc i) xs)

every-at : (f : ℕ → ℕ → Bool) (xs : List ℕ) (i : ℕ) → T (every f i xs) → (k : ℕ) → k < length xs → T (f (i + k) (slice_index xs k))
unfolding every
every-at f [] i t k h = absurd (not-suc-le-zero h)
every-at f (x ∷ xs) i t zero h = subst (λ (m : ℕ). T (f m x)) (sym (add-zero i)) (both_left (f i x) (every f (suc i) xs) t)
every-at f (x ∷ xs) i t (suc k) h =
    subst (λ (m : ℕ). T (f m (slice_index xs k))) (suc-add i k ∙ sym (add-suc i k))
    (every-at f xs (suc i) (both_right (f i x) (every f (suc i) xs) t) k (le_of_suc-le-suc h))

is-power : ℕ → ℕ → Bool
is-power k x = x == 10 ^ k

-- each entry is ten to its place
tens-are : (k : ℕ) → k ≤ 10 → slice_index tens k ≡ 10 ^ k
unfolding every both is-power
tens-are k h =
    eqb→eq (slice_index tens k) (10 ^ k) (subst (λ (m : ℕ). T (is-power m (slice_index tens k))) (zero-add k) (every-at is-power tens 0 tt k (omega arith)))

pub tens-at : (k : ℕ) (s : List ℕ) → s ≡ tens → k ≤ 10 → slice_index s k ≡ 10 ^ k
tens-at k s e h = ap (λ (x : List ℕ). slice_index x k) e ∙ tens-are k h

-- the higher powers are products of two entries
pub tens-product : (k : ℕ) (s : List ℕ) → s ≡ tens → 10 < k → k < 20 → slice_index s 9 * slice_index s (k - 9) ≡ 10 ^ k
tens-product k s e h l =
    let m : 9 + (k - 9) ≡ k = omega arith in
    ap₂ ◌*◌ (tens-at 9 s e (omega arith)) (tens-at (k - 9) s e (omega arith)) ∙ sym (pow-add 10 9 (k - 9)) ∙ ap (λ (x : ℕ). 10 ^ x) m

pub power_below : (k : ℕ) → k < 20 → 10 ^ k ≤ 10000000000000000000
power_below k h = pow-le-pow_right {n = 10} (omega arith) {i = k} {j = 19} (omega arith)

pub power-low : (k : ℕ) → k < 19 → 10 ^ k ≤ 1000000000000000000
power-low k h = pow-le-pow_right {n = 10} (omega arith) {i = k} {j = 18} (omega arith)

pub power-some : (k : ℕ) → 0 < 10 ^ k
power-some k = pow-le-pow_right {n = 10} (omega arith) {i = 0} {j = k} (omega arith)

pub power-more : (k : ℕ) → 10 ^ suc k ≡ 10 * 10 ^ k
power-more k = pow-succ' 10 k

-- ---- a digit by subtracting

-- a number below twice q has q in it once, or not at all
pub less-taken : (d m left q rest : ℕ) → left ≡ rest + q → left < 2 * q
    → (d + m ≡ d + m * (left / q)) × (rest ≡ left % q) × (d + m ≤ d + m) × (rest < q)
less-taken d m left q rest e h =
    let f : left ≡ 1 * q + rest = omega arith in
    let l : rest < q = omega arith in
    let a : left / q ≡ 1 = ap (λ (x : ℕ). x / q) f ∙ digits_div 1 l in
    let b : left % q ≡ rest = ap (λ (x : ℕ). x % q) f ∙ digits_mod 1 l in
    (rw a (omega arith), sym b, omega arith, l)

pub less-left : (d m left q : ℕ) → left < q → (d ≡ d + m * (left / q)) × (left ≡ left % q) × (d ≤ d + m) × (left < q)
less-left d m left q h = (rw (div-eq_of_lt h) (omega arith), sym (mod-eq_of_lt h), omega arith, h)

-- a difference that wraps below 0 has the highest of 64 bits
pub taken_is : (left q rest : ℕ) → (rest + q) % 2 ^ 64 ≡ left → rest < 9223372036854775808 → q ≤ 8000000000000000000 → left ≡ rest + q
taken_is left q rest e h l = omega arith

pub left_below : (left q rest : ℕ) → (rest + q) % 2 ^ 64 ≡ left → 9223372036854775808 ≤ rest → rest < 18446744073709551616 → left < 2 * q → q ≤ 8000000000000000000 → left < q
left_below left q rest e h f k l = omega arith

-- in halves of what is subtracted
half-div : (n q : ℕ) → 0 < q → n % (q + q) / q ≡ n / q % 2
half-div n q h =
    let e : q + q ≡ 2 * q = omega arith in
    ap (λ (x : ℕ). n % x / q) e ∙ ap (λ (x : ℕ). x / q) (mod-mul n {m = 2} {c = q} (omega arith) h) ∙ digits_div (n / q % 2) (mod-lt n h)

half-mod : (n q : ℕ) → 0 < q → n % (q + q) % q ≡ n % q
half-mod n q h =
    let e : q + q ≡ 2 * q = omega arith in
    ap (λ (x : ℕ). n % x % q) e ∙ ap (λ (x : ℕ). x % q) (mod-mul n {m = 2} {c = q} (omega arith) h) ∙ digits_mod (n / q % 2) (mod-lt n h)

half_of : (n q : ℕ) → n / (q + q) ≡ n / q / 2
half_of n q =
    let e : q + q ≡ q * 2 = omega arith in
    ap (λ (x : ℕ). n / x) e ∙ sym (div-div-eq-div-mul n q 2)

binary : (x : ℕ) → 48 + 8 * (x / 2 / 2 / 2) + 4 * (x / 2 / 2 % 2) + 2 * (x / 2 % 2) + 1 * (x % 2) ≡ 48 + x
binary x = omega arith

-- eight times the power, four times, twice and once: the digit, and what is left below the power
pub split-is : (n p : ℕ) {A a B b C c D d : ℕ} → 0 < p
    → A ≡ 48 + 8 * (n / (p + p + (p + p) + (p + p + (p + p)))) → a ≡ n % (p + p + (p + p) + (p + p + (p + p)))
    → B ≡ A + 4 * (a / (p + p + (p + p))) → b ≡ a % (p + p + (p + p))
    → C ≡ B + 2 * (b / (p + p)) → c ≡ b % (p + p)
    → D ≡ C + 1 * (c / p) → d ≡ c % p
    → (D ≡ 48 + n / p) × (d ≡ n % p)
split-is n p {A} {a} {B} {b} {C} {c} {D} {d} h e1 l1 e2 l2 e3 l3 e4 l4 =
    let two = p + p in
    let four = two + two in
    let b-is : b ≡ n % four = l2 ∙ ap (λ (x : ℕ). x % four) l1 ∙ half-mod n four (omega arith) in
    let c-is : c ≡ n % two = l3 ∙ ap (λ (x : ℕ). x % two) b-is ∙ half-mod n two (omega arith) in
    let d-is : d ≡ n % p = l4 ∙ ap (λ (x : ℕ). x % p) c-is ∙ half-mod n p h in
    let by_two : n / two ≡ n / p / 2 = half_of n p in
    let by-four : n / four ≡ n / p / 2 / 2 = half_of n two ∙ ap (λ (x : ℕ). x / 2) by_two in
    let s1 : n / (four + four) ≡ n / p / 2 / 2 / 2 = half_of n four ∙ ap (λ (x : ℕ). x / 2) by-four in
    let s2 : a / four ≡ n / p / 2 / 2 % 2 = ap (λ (x : ℕ). x / four) l1 ∙ half-div n four (omega arith) ∙ ap (λ (x : ℕ). x % 2) by-four in
    let s3 : b / two ≡ n / p / 2 % 2 = ap (λ (x : ℕ). x / two) b-is ∙ half-div n two (omega arith) ∙ ap (λ (x : ℕ). x % 2) by_two in
    let s4 : c / p ≡ n / p % 2 = ap (λ (x : ℕ). x / p) c-is ∙ half-div n p h in
    (e4 ∙ omega (arith, binary (n / p), s1, s2, s3, s4), d-is)

-- ---- the digits are decimal's

-- the last digit by itself
padded-last : (k n : ℕ) → padded (suc k) n ≡ padded k (n / 10) ++ ((48 + n % 10) ∷ [])
unfolding padded
padded-last zero n = refl
padded-last (suc k) n =
    let s = 10 ^ suc k in
    let e : 10 ^ suc (suc k) ≡ s * 10 = power-more (suc k) ∙ mul_comm 10 s in
    let m : n % (s * 10) ≡ n / 10 % s * 10 + n % 10 = mod-mul n {m = s} {c = 10} (power-some (suc k)) (omega arith) in
    let l : n % 10 < 10 = omega arith in
    let a : n / 10 ^ suc (suc k) ≡ n / 10 / s = ap (λ (x : ℕ). n / x) (power-more (suc k)) ∙ sym (div-div-eq-div-mul n 10 s) in
    let b : n % 10 ^ suc (suc k) / 10 ≡ n / 10 % s = ap (λ (x : ℕ). n % x / 10) e ∙ ap (λ (x : ℕ). x / 10) m ∙ digits_div (n / 10 % s) l in
    let c : n % 10 ^ suc (suc k) % 10 ≡ n % 10 = ap (λ (x : ℕ). n % x % 10) e ∙ ap (λ (x : ℕ). x % 10) m ∙ digits_mod (n / 10 % s) l in
    ap₂ (λ (x : ℕ) (t : List ℕ). (48 + x) ∷ t) a
    (padded-last k (n % 10 ^ suc (suc k)) ∙ ap₂ (λ (x y : ℕ). padded k x ++ ((48 + y) ∷ [])) b c)

padded-one : (n : ℕ) → n < 10 → padded 0 n ≡ decimal n
unfolding padded
padded-one n h = sym (decimal-one n h)

-- a number with no zero before its digits
pub padded-decimal : (k n : ℕ) → 10 ≤ n → 10 ^ k ≤ n → n < 10 ^ suc k → padded k n ≡ decimal n
padded-decimal zero n o h l = absurd (omega arith)
padded-decimal (suc zero) n o h l =
    padded-last zero n ∙ ap (λ (t : List ℕ). t ++ ((48 + n % 10) ∷ [])) (padded-one (n / 10) (omega arith)) ∙ sym (decimal-more n o)
padded-decimal (suc (suc k)) n o h l =
    padded-last (suc k) n
    ∙ ap (λ (t : List ℕ). t ++ ((48 + n % 10) ∷ []))
    (padded-decimal (suc k) (n / 10) (omega (arith, power-more (suc k), power-more k, power-some k)) (omega (arith, power-more (suc k))) (omega (arith, power-more (suc (suc k)))))
    ∙ sym (decimal-more n o)

-- twenty digits in 64 bits begin with 1
pub padded-most : (n : ℕ) → 10000000000000000000 ≤ n → n < 18446744073709551616 → 49 ∷ padded 18 (n - 10000000000000000000) ≡ padded 19 n
unfolding padded
padded-most n h l =
    let a : n / 10000000000000000000 ≡ 1 = omega arith in
    let b : n % 10000000000000000000 ≡ n - 10000000000000000000 = omega arith in
    ap₂ (λ (x y : ℕ). (48 + x) ∷ padded 18 y) (sym a) (sym b)

-- ---- laid one after another

laid_next : (b : ℕ) (x : List ℕ) (at : ℕ) (d : List ℕ) → at < length d → laid true x (at + 1) (slice_set d at b) ≡ laid true (b ∷ x) at d
unfolding laid
laid_next b x at d h = ap (laid true x (at + 1)) (laid-byte b at d h) ∙ laid-append true (b ∷ []) x at (at + 1) d refl (omega arith)

-- a digit laid, and those below it after it
module _ (i left p b rest at : ℕ) (o : List ℕ) (some : 0 < i) (power : p ≡ 10 ^ i) (digit : b ≡ 48 + left / p) (low : rest ≡ left % p) where
  pub lay-left : rest < 10 ^ suc (i - 1)
  lay-left =
      let e : suc (i - 1) ≡ i = omega arith in
      rw (e, low, power) (mod-lt left (power-some i))

  pub lay-next : (to : ℕ) → to ≡ at + 1 → at < length o → laid true (padded (i - 1) rest) to (slice_set o at b) ≡ laid true (padded i left) at o
  unfolding padded
  lay-next to t h =
      let e : suc (i - 1) ≡ i = omega arith in
      let d : 48 + left / 10 ^ suc (i - 1) ≡ b = rw (e, digit, power) refl in
      let m : left % 10 ^ suc (i - 1) ≡ rest = rw (e, low, power) refl in
      ap (λ (x : ℕ). laid true (padded (i - 1) rest) x (slice_set o at b)) t ∙ laid_next b (padded (i - 1) rest) at o h
      ∙ ap₂ (λ (x y : ℕ). laid true (x ∷ padded (i - 1) y) at o) (sym d) (sym m)
      ∙ ap (λ (x : ℕ). laid true (padded x left) at o) e

-- the last digit
pub lay-one : (i left : ℕ) → i ≡ 0 → left < 10 ^ suc i → left < 10
lay-one i left e h = subst (λ (x : ℕ). left < 10 ^ suc x) e h

pub lay-last : (i left at to : ℕ) (o : List ℕ) → i ≡ 0 → to ≡ at → at < length o → slice_set o at (48 + left) ≡ laid true (padded i left) to o
unfolding padded laid
lay-last i left at to o e t h = rw (e, t) (laid-byte (48 + left) at o h)

-- ---- the whole number, with k digits after the first

module _ (n k : ℕ) (some : 10 ≤ n) (least : 10 ^ k ≤ n) (most : n < 10 ^ (k + 1)) where
  pub digits_are : padded k n ≡ decimal n
  digits_are = padded-decimal k n some least (subst (λ (x : ℕ). n < 10 ^ x) (add-one k) most)

  digits-count : length (decimal n) ≡ k + 1
  digits-count = ap length (sym digits_are) ∙ padded-length k n ∙ sym (add-one k)

  module _ (ink : Bool) (at : ℕ) (d : List ℕ) where
    pub digits-full : length d ≤ at + k → Left ink (decimal n) at d d None
    digits-full h = full (omega (arith, digits-count)) (λ i. refl)

    module _ (room : at + k < length d) where
      pub digits-dry : ink ≡ false → Left ink (decimal n) at d d (Some (at + k + 1))
      digits-dry i = done (omega (arith, digits-count)) (omega arith) (sym (laid-dry ink (decimal n) at d i))

      pub digits-laid : (e : List ℕ) → ink ≡ true → e ≡ laid true (padded k n) at d → Left ink (decimal n) at d e (Some (at + k + 1))
      digits-laid e i l = done (omega (arith, digits-count)) (omega arith) (l ∙ ap₂ (λ (b : Bool) (x : List ℕ). laid b x at d) (sym i) digits_are)

-- twenty digits
pub most-first : (n k : ℕ) → 10 ^ k ≤ n → k ≡ 19 → 10000000000000000000 ≤ n
most-first n k h e = subst (λ (x : ℕ). 10 ^ x ≤ n) e h

pub most-laid : (n k p at : ℕ) (d e : List ℕ) → 10 ^ k ≤ n → n < 18446744073709551616 → k ≡ 19 → p ≡ 10000000000000000000 → at < length d
    → e ≡ laid true (padded 18 (n - p)) (at + 1) (slice_set d at 49) → e ≡ laid true (padded k n) at d
most-laid n k p at d e h l t q r f =
    f ∙ ap (λ (x : ℕ). laid true (padded 18 (n - x)) (at + 1) (slice_set d at 49)) q ∙ laid_next 49 (padded 18 (n - 10000000000000000000)) at d r
    ∙ ap (λ (x : List ℕ). laid true x at d) (padded-most n (most-first n k h t) l ∙ ap (λ (x : ℕ). padded x n) (sym t))

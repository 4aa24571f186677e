-- Laws of a decimal's text: a number's digits, with a dot before the last of them.
use Rattle.std.specs.Prelude.{◌≡◌, ℕ, zero, suc, ◌+◌, ◌-◌, ◌*◌, ◌/◌, ◌%◌, ◌^◌, ◌<◌, ◌≤◌, true, List, ◌∷◌, ◌++◌, length, take, drop}
use Rattle.std.proofs.Math.Path.{sym, ap, ap₂}
use Rattle.std.proofs.Common.{subst, ◌∙◌, append_assoc, arith, zero-add, suc-add, mod-lt, mul_comm, le-div_iff_mul-le, div-lt_iff_lt-mul, pow-add, take_at, drop_at}
use Rattle.std.proofs.Math.Nat.{div-div-eq-div-mul, pow-le-pow_right}
use Rattle.std.proofs.Math.Arith.{digits_div, digits_mod, mod-mul}
use Rattle.core_term.specs.Decimal.{decimal, padded, pointed}
use Rattle.core_term.proofs.DecimalLaws.{decimal-one, padded-length}
use Rattle.core_term.specs.Code.WindowLaws.{case}
use Rattle.writer.specs.Laid.{laid}
use Rattle.writer.specs.LaidLaws.{laid-first}
use Rattle.writer.specs.DigitsLaws.{power-some, padded-decimal}

-- digits from a power down are those of the quotient by a lower power, then those of what is left
padded-split : (j q n : ℕ) → padded (j + suc q) n ≡ padded j (n / 10 ^ suc q) ++ padded q (n % 10 ^ suc q)
unfolding padded
padded-split zero q n = ap (λ (k : ℕ). padded k n) (zero-add (suc q))
padded-split (suc j) q n =
    let k = j + suc q in
    let p = 10 ^ suc q in
    let s = 10 ^ suc j in
    let e : 10 ^ suc k ≡ s * p = ap (λ (x : ℕ). 10 ^ x) (sym (suc-add j (suc q))) ∙ pow-add 10 (suc j) (suc q) in
    let m : n % (s * p) ≡ n / p % s * p + n % p = mod-mul n {m = s} {c = p} (power-some (suc j)) (power-some (suc q)) in
    let l : n % p < p = mod-lt n (power-some (suc q)) in
    let a : n / 10 ^ suc k ≡ n / p / s = ap (λ (x : ℕ). n / x) (e ∙ mul_comm s p) ∙ sym (div-div-eq-div-mul n p s) in
    let b : n % 10 ^ suc k / p ≡ n / p % s = ap (λ (x : ℕ). n % x / p) e ∙ ap (λ (x : ℕ). x / p) m ∙ digits_div (n / p % s) l in
    let c : n % 10 ^ suc k % p ≡ n % p = ap (λ (x : ℕ). n % x % p) e ∙ ap (λ (x : ℕ). x % p) m ∙ digits_mod (n / p % s) l in
    ap (λ (x : ℕ). padded x n) (suc-add j (suc q))
    ∙ ap₂ (λ (x : ℕ) (t : List ℕ). (48 + x) ∷ t) a
    (padded-split j q (n % 10 ^ suc k) ∙ ap₂ (λ (x y : ℕ). padded j x ++ padded q y) b c)

-- n with k digits after its first, or with the places and a zero before them
module _ (n k places : ℕ) (some : 1 ≤ places) (low : places ≤ k) (most : n < 10 ^ (k + 1)) (least : places < k → 10 ^ k ≤ n) where
  abbrev whole : ℕ
  whole = n / 10 ^ places

  whole_below : whole < 10 ^ suc (k - places)
  whole_below =
      let e : k + 1 ≡ suc (k - places) + places = omega arith in
      (div-lt_iff_lt-mul {k = 10 ^ places} {x = n} {y = 10 ^ suc (k - places)} (power-some places)).1
      (subst (λ (x : ℕ). n < x) (ap (λ (x : ℕ). 10 ^ x) e ∙ pow-add 10 (suc (k - places)) places) most)

  -- the whole part has no zero that leads but its own
  whole-digits : padded (k - places) whole ≡ decimal whole
  unfolding padded
  whole-digits = case places k more (λ l. one (omega arith))
    where
      one : k - places ≡ 0 → padded (k - places) whole ≡ decimal whole
      one e = ap (λ (x : ℕ). padded x whole) e ∙ sym (decimal-one whole (subst (λ (x : ℕ). whole < 10 ^ suc x) e whole_below))

      more : places < k → padded (k - places) whole ≡ decimal whole
      more l =
          let e : k ≡ (k - places) + places = omega arith in
          let h : 10 ^ (k - places) ≤ whole =
          (le-div_iff_mul-le {k = 10 ^ places} {x = 10 ^ (k - places)} {y = n} (power-some places)).1
          (subst (λ (x : ℕ). x ≤ n) (ap (λ (x : ℕ). 10 ^ x) e ∙ pow-add 10 (k - places) places) (least l)) in
          let t : 10 ^ 1 ≤ 10 ^ (k - places) = pow-le-pow_right {n = 10} (omega arith) {i = 1} {j = k - places} (omega arith) in
          padded-decimal (k - places) whole (omega arith) h whole_below

  digits-split : padded k n ≡ decimal whole ++ padded (places - 1) (n % 10 ^ places)
  digits-split =
      let e : suc (places - 1) ≡ places = omega arith in
      let f : k ≡ (k - places) + suc (places - 1) = omega arith in
      ap (λ (x : ℕ). padded x n) f ∙ padded-split (k - places) (places - 1) n
      ∙ ap (λ (x : ℕ). padded (k - places) (n / 10 ^ x) ++ padded (places - 1) (n % 10 ^ x)) e
      ∙ ap (λ (t : List ℕ). t ++ padded (places - 1) (n % 10 ^ places)) whole-digits

  -- as code cuts them out of a table that they are laid into
  module _ (d e : List ℕ) (is : e ≡ laid true (padded k n) 0 d) where
    abbrev dot : ℕ
    dot = k + 1 - places

    table_is : e ≡ decimal whole ++ (padded (places - 1) (n % 10 ^ places) ++ drop (length (padded k n)) d)
    table_is =
        is ∙ laid-first (padded k n) d ∙ ap (λ (t : List ℕ). t ++ drop (length (padded k n)) d) digits-split
        ∙ append_assoc (decimal whole) (padded (places - 1) (n % 10 ^ places)) (drop (length (padded k n)) d)

    whole_length : length (decimal whole) ≡ dot
    whole_length = ap length (sym whole-digits) ∙ padded-length (k - places) whole ∙ omega arith

    whole-cut : take dot e ≡ decimal whole
    whole-cut = ap (take dot) table_is ∙ take_at (decimal whole) _ dot whole_length

    places-cut : take (k + 1 - dot) (drop dot e) ≡ padded (places - 1) (n % 10 ^ places)
    places-cut =
        ap (λ (t : List ℕ). take (k + 1 - dot) (drop dot t)) table_is
        ∙ ap (take (k + 1 - dot)) (drop_at (decimal whole) _ dot whole_length)
        ∙ take_at (padded (places - 1) (n % 10 ^ places)) _ (k + 1 - dot) (padded-length (places - 1) (n % 10 ^ places) ∙ omega arith)

    pub pointed-cut : take dot e ++ (46 ∷ take (k + 1 - dot) (drop dot e)) ≡ pointed places n
    unfolding pointed
    pointed-cut = ap₂ (λ (x y : List ℕ). x ++ (46 ∷ y)) whole-cut places-cut

-- ---- how many digits come after the first

pub least-one : (n least : ℕ) → n < 10 → n < 10 ^ (least + 1)
least-one n least h = omega (arith, pow-le-pow_right {n = 10} (omega arith) {i = 1} {j = least + 1} (omega arith))

pub least-few : (n k least : ℕ) → k < least → n < 10 ^ (k + 1) → n < 10 ^ (least + 1)
least-few n k least l h = omega (arith, pow-le-pow_right {n = 10} (omega arith) {i = k + 1} {j = least + 1} (omega arith))

-- a word has at most ten digits
pub places-few : (n k : ℕ) → n < 4294967296 → 10 ^ k ≤ n → k < 10
places-few n k l h = case k 10 (λ m. m) (λ m. absurd (omega (arith, pow-le-pow_right {n = 10} (omega arith) {i = 10} {j = k} m)))

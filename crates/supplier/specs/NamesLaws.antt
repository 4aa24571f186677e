-- Laws of names by spelling.
use Rattle.std.specs.List.{list_any}
use Rattle.std.specs.Prelude.{◌≡◌, Bool, true, ◌||◌, ltb, leb, replicate}
use Rattle.std.proofs.Math.Path.{refl, sym, ap}
use Rattle.std.proofs.Common.{◌∙◌, arith}
use mathlib.Core.List.{List, [], ◌∷◌, ◌++◌, map}
use Prim.Native.Nat.{ℕ, zero, suc, ◌+◌, ◌-◌, ◌*◌, ◌≤◌, ◌<◌}
use Rattle.std.proofs.Math.ListN.{length, get_or, take, drop}
use Rattle.std.proofs.Math.Seq.{get_or-append-add}
use borrow.Author.Tests.{ltb-true, ltb-false, leb-true}
use Rattle.words.specs.Lists.{all_of, any_of}
use Rattle.words.specs.ListLaws.{either}
use Rattle.words.specs.TestLaws.{and_left, and_right, within-most}
use Rattle.datum.specs.NameTable.{slots, length_at, name_at, has_name}
use Rattle.datum.specs.NameTableLaws.{is_short, length-slots, name-at, length-at}
use Rattle.supplier.specs.Names.{Slot}

-- the part of a table that spells name n
pub part-name : (table : List ℕ) (n to : ℕ) → to ≡ 64 * n + 1 + get_or table (64 * n) 0 → take (to - (64 * n + 1)) (drop (64 * n + 1) table) ≡ name_at table n
unfolding name_at length_at
part-name table n to e =
    let s : to - (64 * n + 1) ≡ get_or table (64 * n) 0 = omega (arith, e) in
    let k : 64 * n + 1 ≡ suc (64 * n) = omega arith in
    ap (λ m. take m (drop (64 * n + 1) table)) s ∙ ap (λ m. take (get_or table (64 * n) 0) (drop m table)) k

-- ---- slots

-- a name that ground 19 lets pass has a slot
pub has-slot : (table : List ℕ) (n : ℕ) → has_name table n ≡ true → Slot table n
unfolding has_name
has-slot table n h =
    let k = and_right (ltb n 1024) _ h in
    (omega (arith, leb-true (64 * suc n) (length table) (and_left (leb (64 * suc n) (length table)) _ k)), within-most 1 63 (length_at table n) (and_right (leb (64 * suc n) (length table)) _ k))

-- so have all of them
pub have-slots : (table numbers : List ℕ) → all_of (has_name table) numbers ≡ true → (k : ℕ) → k < length numbers → Slot table (get_or numbers k 0)
unfolding all_of
have-slots table [] h k l = absurd (omega arith)
have-slots table (n ∷ ns) h zero l = has-slot table n (and_left (has_name table n) _ h)
have-slots table (n ∷ ns) h (suc k) l = have-slots table ns (and_right (has_name table n) _ h) k (omega arith)

-- ---- slots of names, and zeros behind them

zeros : (k j : ℕ) → ◌≡◌ {A = ℕ} (get_or (replicate k 0) j 0) 0
zeros zero j = refl
zeros (suc k) zero = refl
zeros (suc k) (suc j) = zeros k j

past-name : (l : List (List ℕ)) (n : ℕ) → length l ≤ n → get_or l n [] ≡ []
past-name [] n h = refl
past-name (cs ∷ l) zero h = absurd (omega arith)
past-name (cs ∷ l) (suc n) h = past-name l n (omega arith)

module _ (names : List (List ℕ)) (short : all_of is_short names ≡ true) (z : ℕ) where
  abbrev table : List ℕ
  table = slots names ++ replicate z 0

  past-length : (n : ℕ) → length names ≤ n → length_at table n ≡ 0
  unfolding length_at
  past-length n h =
      let j = 64 * n - 64 * length names in
      let e : 64 * n ≡ length (slots names) + j = omega (arith, length-slots names short) in
      ap (λ m. get_or table m 0) e ∙ get_or-append-add (slots names) (replicate z 0) j 0 ∙ zeros z j

  pub filled-length : (n : ℕ) → length_at table n ≤ 63
  filled-length n =
      either (ltb n (length names)) (λ t. length-at names (replicate z 0) n short (ltb-true n (length names) t))
      (λ t. omega (arith, past-length n (ltb-false n (length names) t)))

  pub filled-name : (n : ℕ) → name_at table n ≡ get_or names n []
  unfolding name_at
  filled-name n =
      either (ltb n (length names)) (λ t. name-at names (replicate z 0) n short (ltb-true n (length names) t))
      (λ t. let h = ltb-false n (length names) t in ap (λ m. take m (drop (suc (64 * n)) table)) (past-length n h) ∙ sym (past-name names n h))

-- ---- any of them, as the code finds it

pub list_any-any_of : (f : List ℕ → Bool) (g : ℕ → List ℕ) (l : List ℕ) → list_any (λ k. f (g k)) l ≡ any_of f (map g l)
unfolding any_of
list_any-any_of f g [] = refl
list_any-any_of f g (n ∷ l) = ap (λ b. f (g n) || b) (list_any-any_of f g l)

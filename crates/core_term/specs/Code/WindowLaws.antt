-- Laws of the window's flags.
use Rattle.std.specs.Prelude.{◌≡◌, Bool, cond, ◌&&◌, List, [], ◌∷◌, eqb, ltb, leb, get_or, set, drop}
use Rattle.std.specs.List.{list_all}
use Rattle.std.proofs.Math.Path.{refl, sym, ap}
use Rattle.std.proofs.Common.{◌∙◌, drop-cons, get_or-set_same, get_or-set_other, ext_get_or}
use Rattle.std.proofs.Math.Bool.{true, false}
use Prim.Native.Nat.{ℕ, zero, suc, ◌+◌, ◌-◌, ◌*◌, ◌≤◌, ◌<◌}
use native.Mathlib.Omega.{arith}
use Rattle.std.proofs.Math.Numerals.{add-one}
use Rattle.std.proofs.Math.ListN.{length, length-set, get_or-eq_default}
use Rattle.std.proofs.Math.Seq.{drop-length, set_out}
use borrow.Author.Tests.{lt-ltb, le-ltb, ltb-true, ltb-false, le-leb, lt-leb}
use Rattle.words.specs.Lists.{within, all_of}
use Rattle.datum.specs.NameTable.{length_at, has_name}
use Rattle.core_term.specs.Node.{Node, is_node, variable_n, operation_n, constant_n, name_n, list_n, if_n, lambda_n, application_n}
use Rattle.core_term.specs.NodeLaws.{both}
use Rattle.core_term.specs.Check.{small}
use Rattle.core_term.specs.Code.Shape.{Clear}
use Rattle.core_term.specs.Code.Window.{put, marked, noted, good_name, allowed, window}

-- ---- put

module _ (base k v : ℕ) (fl : List ℕ) where
  pub put-below : k < base → put base k v fl ≡ fl
  unfolding put
  put-below h = rw (lt-ltb k base h)

  pub put_in : base ≤ k → put base k v fl ≡ set fl (k - base) v
  unfolding put
  put_in h = rw (le-ltb k base h)

  pub put-past : base ≤ k → length fl ≤ k - base → put base k v fl ≡ fl
  put-past h l = put_in h ∙ set_out fl (k - base) v l

  pub put-length : length (put base k v fl) ≡ length fl
  unfolding put
  put-length = go (ltb k base)
    where
      go : (b : Bool) → length (cond b fl (set fl (k - base) v)) ≡ length fl
      go true = refl
      go false = length-set fl (k - base) v

-- ---- marked

pub marked_more : (base k t v : ℕ) (fl : List ℕ) → k ≤ t → put base t v (marked base k (t - k) v fl) ≡ marked base k (t + 1 - k) v fl
unfolding marked
marked_more base k t v fl h =
    let e : t + 1 - k ≡ suc (t - k) = omega arith in
    let g : k + (t - k) ≡ t = omega arith in
    rw (e, g)

pub marked-length : (base k n v : ℕ) (fl : List ℕ) → length (marked base k n v fl) ≡ length fl
unfolding marked
marked-length base k zero v fl = refl
marked-length base k (suc n) v fl = put-length base (k + n) v (marked base k n v fl) ∙ marked-length base k n v fl

-- ---- a flag by its variable

pub case : {X : Type 0} (a b : ℕ) → (a < b → X) → (b ≤ a → X) → X
case {X} a b x y = go (ltb a b) refl
  where
    go : (c : Bool) → ltb a b ≡ c → X
    go true e = x (ltb-true a b e)
    go false e = y (ltb-false a b e)

module _ (base j v d : ℕ) (h : base ≤ j) where
  put_other : (m : ℕ) (fl : List ℕ) → (j ≡ m → ⊥) → get_or (put base m v fl) (j - base) d ≡ get_or fl (j - base) d
  put_other m fl k =
      case m base
      (λ l. rw (put-below base m v fl l))
      (λ l. rw (put_in base m v fl l) (get_or-set_other fl (m - base) (j - base) v d (λ e. k (omega arith))))

  put_same : (fl : List ℕ) → j - base < length fl → get_or (put base j v fl) (j - base) d ≡ v
  put_same fl l = rw (put_in base j v fl h) (get_or-set_same fl (j - base) v d l)

  pub marked-out : (k n : ℕ) (fl : List ℕ) → (k ≤ j → j < k + n → ⊥) → get_or (marked base k n v fl) (j - base) d ≡ get_or fl (j - base) d
  unfolding marked
  marked-out k zero fl o = refl
  marked-out k (suc n) fl o =
      put_other (k + n) (marked base k n v fl) (λ e. o (omega arith) (omega arith)) ∙ marked-out k n fl (λ a b. o a (omega arith))

  pub marked-in : (k n : ℕ) (fl : List ℕ) → k ≤ j → j < k + n → j - base < length fl → get_or (marked base k n v fl) (j - base) d ≡ v
  unfolding marked
  marked-in k zero fl a b l = absurd (omega arith)
  marked-in k (suc n) fl a b l =
      case j (k + n)
      (λ z. put_other (k + n) (marked base k n v fl) (λ e. omega arith) ∙ marked-in k n fl a z l)
      (λ z. let e : k + n ≡ j = omega arith in rw e (put_same (marked base k n v fl) (omega (arith, marked-length base k n v fl))))

-- setting and clearing the flags of variables not yet bound changes nothing
pub marked-undo : (base k n : ℕ) (fl : List ℕ) → Clear base k fl → marked base k n 0 (marked base k n 1 fl) ≡ fl
marked-undo base k n fl h =
    ext_get_or 0 (marked base k n 0 (marked base k n 1 fl)) fl size at
  where
    size : length (marked base k n 0 (marked base k n 1 fl)) ≡ length fl
    size = marked-length base k n 0 (marked base k n 1 fl) ∙ marked-length base k n 1 fl

    by : (j i : ℕ) → j - base ≡ i → base ≤ j → i < length fl → get_or (marked base k n 0 (marked base k n 1 fl)) i 0 ≡ get_or fl i 0
    by j i e b l =
        let x = marked base k n 1 fl in
        rw (sym e)
        (case j k
        (λ z. marked-out base j 0 0 b k n x (λ p r. omega arith) ∙ marked-out base j 1 0 b k n fl (λ p r. omega arith))
        (λ z. case j (k + n)
        (λ y. marked-in base j 0 0 b k n x z y (omega (arith, marked-length base k n 1 fl)) ∙ sym (h j z b))
        (λ y. marked-out base j 0 0 b k n x (λ p r. omega arith) ∙ marked-out base j 1 0 b k n fl (λ p r. omega arith))))

    at : (i : ℕ) → i < length (marked base k n 0 (marked base k n 1 fl)) → get_or (marked base k n 0 (marked base k n 1 fl)) i 0 ≡ get_or fl i 0
    at i l = by (base + i) i (omega arith) (omega arith) (omega (arith, size))

-- and leaves those after them clear
pub marked-clear : (base k n : ℕ) (fl : List ℕ) → Clear base k fl → Clear base (k + n) (marked base k n 1 fl)
marked-clear base k n fl h j l b = marked-out base j 1 0 b k n fl (λ p r. omega arith) ∙ h j (omega arith) b

-- ---- noted

-- of a place within, whatever is put for the others
get_d_any : (l : List ℕ) (i a b : ℕ) → i < length l → get_or l i a ≡ get_or l i b
get_d_any [] i a b h = absurd (omega arith)
get_d_any (x ∷ l) zero a b h = refl
get_d_any (x ∷ l) (suc i) a b h = get_d_any l i a b (omega arith)

module _ (base n : ℕ) (fl : List ℕ) where
  pub noted-below : n < base → noted base fl n ≡ true
  unfolding noted
  noted-below h = rw (lt-ltb n base h)

  pub noted_in : base ≤ n → noted base fl n ≡ eqb (get_or fl (n - base) 1) 1
  unfolding noted
  noted_in h = rw (le-ltb n base h)

  pub noted-flag : base ≤ n → n - base < length fl → noted base fl n ≡ eqb (get_or fl (n - base) 0) 1
  noted-flag h l = noted_in h ∙ ap (λ (v : ℕ). eqb v 1) (get_d_any fl (n - base) 1 0 l)

  pub noted-past : base ≤ n → length fl ≤ n - base → noted base fl n ≡ true
  noted-past h l = noted_in h ∙ ap (λ (v : ℕ). eqb v 1) (get_or-eq_default fl 1 l)

-- ---- names

module _ (tabled : Bool) (table : List ℕ) (n : ℕ) where
  pub good-past : 1024 ≤ n → good_name tabled table n ≡ false
  unfolding good_name has_name small
  good-past h = go tabled
    where
      go : (t : Bool) → good_name t table n ≡ false
      go true = rw (le-ltb n 1024 h)
      go false = le-ltb n 1024 h

  pub good-free : n < 1024 → tabled ≡ false → good_name tabled table n ≡ true
  unfolding good_name small
  good-free h e = rw e (lt-ltb n 1024 h)

  pub good-short : n < 1024 → tabled ≡ true → length table < 64 * n + 64 → good_name tabled table n ≡ false
  unfolding good_name has_name
  good-short h e l = let k : length table < 64 * suc n = omega arith in rw (e, lt-ltb n 1024 h, lt-leb _ _ k)

  pub good_length : n < 1024 → tabled ≡ true → 64 * n + 64 ≤ length table → good_name tabled table n ≡ (leb 1 (get_or table (64 * n) 0) && leb (get_or table (64 * n) 0) 63)
  unfolding good_name has_name within length_at
  good_length h e l = let k : 64 * suc n ≤ length table = omega arith in rw (e, lt-ltb n 1024 h, le-leb _ _ k)

  -- by a length byte l
  module _ (l : ℕ) (is : l ≡ get_or table (64 * n) 0) (h : n < 1024) (e : tabled ≡ true) (room : 64 * n + 64 ≤ length table) where
    pub good-some : 1 ≤ l → good_name tabled table n ≡ leb l 63
    good-some k = good_length h e room ∙ rw (sym is, le-leb 1 l k)

    pub good-empty : l < 1 → good_name tabled table n ≡ leb 1 l
    good-empty k = good_length h e room ∙ rw (sym is, lt-leb 1 l k)

-- the library's test of all
pub list_all-all_of : (f : ℕ → Bool) (names : List ℕ) → list_all f names ≡ all_of f names
unfolding all_of
list_all-all_of f [] = refl
list_all-all_of f (n ∷ names) = ap (λ (b : Bool). f n && b) (list_all-all_of f names)

-- one of a lambda's names after another
module _ (f : ℕ → Bool) (names : List ℕ) (i : ℕ) (so_far : all_of f (drop i names) ≡ all_of f names) where
  pub names-next : i < length names → f (get_or names i 0) ≡ true → all_of f (drop (i + 1) names) ≡ all_of f names
  unfolding all_of
  names-next h g = rw add-one (sym (ap (all_of f) (drop-cons names i 0 h) ∙ rw g) ∙ so_far)

  pub names-bad : i < length names → f (get_or names i 0) ≡ false → false ≡ all_of f names
  unfolding all_of
  names-bad h g = sym (ap (all_of f) (drop-cons names i 0 h) ∙ rw g) ∙ so_far

  pub names-end : i ≡ length names → true ≡ all_of f names
  unfolding all_of
  names-end h = sym (ap (λ (n : ℕ). all_of f (drop n names)) h ∙ ap (all_of f) (drop-length names)) ∙ so_far

-- ---- nodes

-- what is allowed is a node
pub allowed-node : (operations : ℕ) (name_good : ℕ → Bool) (base : ℕ) (e : List ℕ) (b : ℕ) (x : Node) → (window operations name_good base).test e b x ≡ true → is_node x ≡ true
unfolding window allowed is_node
allowed-node operations name_good base e b (variable_n n) h = refl
allowed-node operations name_good base e b (operation_n n) h = refl
allowed-node operations name_good base e b (constant_n a) h = h
allowed-node operations name_good base e b (name_n n) h = refl
allowed-node operations name_good base e b (list_n n) h = refl
allowed-node operations name_good base e b if_n h = refl
allowed-node operations name_good base e b (lambda_n first names) h = (both (leb (length names) 8) _ h).0
allowed-node operations name_good base e b (application_n n) h = refl

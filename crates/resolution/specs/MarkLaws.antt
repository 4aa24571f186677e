-- Laws of marks in hand, and of descending lists.
use Rattle.std.specs.Prelude.{◌≡◌, refl, Bool, List, ◌∷◌, ℕ, zero, suc, ◌+◌, ◌-◌, ◌≤◌, ◌<◌, eqb, ltb, length, get_or, take, drop, reverse, set}
use Rattle.std.proofs.Common.{sym, ap, ap₂, ◌∙◌, arith, add-one, get_or-take, get_or-set_same}
use Rattle.std.proofs.Math.Seq.{take-suc}
use Rattle.std.proofs.lemmas.Bool.Decides.{Decides-eqb}
use Rattle.std.proofs.lemmas.List.{take-set-le, length-drop, get_or-drop, reverse-append, reverse-reverse}
use Rattle.std.proofs.lemmas.Slice.Eq.{slice_eq-Decides}
use Rattle.std.specs.List.{between}
use Rattle.std.specs.Str.{bytes_eq}
use borrow.Author.Tests.{lt-ltb, le-ltb, eq-eqb, ne_eqb, ltb-true, ltb-false, eqb-false}
use Rattle.words.specs.Lists.{equal}
use Rattle.recipe.specs.Name.{toggle}
use Rattle.arena.specs.Arena.{newest}
use Rattle.words.specs.ListLaws.{either, equal-refl, equal-true}
use Rattle.words.specs.TestLaws.{iff-eq}
use Rattle.arena.specs.ArenaLaws.{take_less}
use Rattle.resolution.specs.Marks.{marks_in, Descends, none, more, Toggled}

-- ---- marks_in

pub marks_in-length : (t : List ℕ) (s n : ℕ) → length (marks_in t s n) ≡ n
unfolding marks_in
marks_in-length t s zero = refl
marks_in-length t s (suc n) = ap suc (marks_in-length t s n)

pub marks_in-below : (a b : List ℕ) (s n : ℕ) → take (s + n) a ≡ take (s + n) b → marks_in a s n ≡ marks_in b s n
unfolding marks_in
marks_in-below a b s zero e = refl
marks_in-below a b s (suc n) e =
    let h : s + n < s + suc n = omega arith in
    ap₂ ◌∷◌
    (sym (get_or-take (s + suc n) a (s + n) 0 h) ∙ ap (λ (l : List ℕ). get_or l (s + n) 0) e ∙ get_or-take (s + suc n) b (s + n) 0 h)
    (marks_in-below a b s n (take_less a b (s + n) (s + suc n) (omega arith) e))

pub marks_in-last : (t : List ℕ) (s n : ℕ) → (n ≡ 0 → ⊥) → marks_in t s n ≡ get_or t (s + (n - 1)) 0 ∷ marks_in t s (n - 1)
unfolding marks_in
marks_in-last t s zero h = absurd (h refl)
marks_in-last t s (suc n) h = let e : suc n - 1 ≡ n = omega arith in rw e

pub marks_in-put : (t : List ℕ) (s n v : ℕ) → s + n < length t → marks_in (set t (s + n) v) s (n + 1) ≡ v ∷ marks_in t s n
unfolding marks_in
marks_in-put t s n v h = rw add-one (ap₂ ◌∷◌ (get_or-set_same t (s + n) v 0 h) (marks_in-below (set t (s + n) v) t s n (take-set-le (s + n) t (s + n) v (omega arith))))

pub newest-in : (t : List ℕ) (s n : ℕ) → (n ≡ 0 → ⊥) → newest (marks_in t s n) ≡ get_or t (s + (n - 1)) 0
unfolding newest
newest-in t s n h = rw (marks_in-last t s n h)

-- ---- toggle

toggle-none : (t : List ℕ) (s n m : ℕ) → n ≡ 0 → toggle m (marks_in t s n) ≡ m ∷ marks_in t s 0
unfolding toggle marks_in
toggle-none t s zero m e = refl
toggle-none t s (suc n) m e = absurd (omega arith)

module _ (t : List ℕ) (s n m : ℕ) (nz : n ≡ 0 → ⊥) where
  toggle-cancel : get_or t (s + (n - 1)) 0 ≡ m → toggle m (marks_in t s n) ≡ marks_in t s (n - 1)
  unfolding toggle
  toggle-cancel e = rw (marks_in-last t s n nz, eq-eqb m (get_or t (s + (n - 1)) 0) (sym e))

  toggle-front : (get_or t (s + (n - 1)) 0 ≡ m → ⊥) → get_or t (s + (n - 1)) 0 < m → toggle m (marks_in t s n) ≡ m ∷ marks_in t s n
  unfolding toggle
  toggle-front d l = rw (marks_in-last t s n nz, ne_eqb m (get_or t (s + (n - 1)) 0) (λ q. d (sym q)), lt-ltb _ _ l)

  toggle-later : (get_or t (s + (n - 1)) 0 ≡ m → ⊥) → m ≤ get_or t (s + (n - 1)) 0 → toggle m (marks_in t s n) ≡ get_or t (s + (n - 1)) 0 ∷ toggle m (marks_in t s (n - 1))
  unfolding toggle
  toggle-later d l = rw (marks_in-last t s n nz, ne_eqb m (get_or t (s + (n - 1)) 0) (λ q. d (sym q)), le-ltb _ _ l)

-- ---- one for each way through the code

module _ (t : List ℕ) (s n m : ℕ) (room : s + n < length t) where
  pub toggled-none : n ≡ 0 → Toggled m s n t (set t s m) 1
  toggled-none e =
      let r : s + 0 < length t = omega arith in
      let z : s + 0 ≡ s = omega arith in
      record { marks-are = rw z at (marks_in-put t s 0 m r) ∙ sym (toggle-none t s n m e); kept = take-set-le s t s m (omega arith); room = omega arith }

  module _ (nz : n ≡ 0 → ⊥) where
    pub toggled-cancel : get_or t (s + (n - 1)) 0 ≡ m → Toggled m s n t t (n - 1)
    toggled-cancel e = record { marks-are = sym (toggle-cancel t s n m nz e); kept = refl; room = omega arith }

    pub toggled-front : (get_or t (s + (n - 1)) 0 ≡ m → ⊥) → get_or t (s + (n - 1)) 0 < m → Toggled m s n t (set t (s + n) m) (n + 1)
    toggled-front d l =
        record { marks-are = marks_in-put t s n m room ∙ sym (toggle-front t s n m nz d l); kept = take-set-le s t (s + n) m (omega arith); room = omega arith }

    pub toggled-later : (get_or t (s + (n - 1)) 0 ≡ m → ⊥) → m ≤ get_or t (s + (n - 1)) 0 → (u : List ℕ) (r : ℕ) → length u ≡ length t → Toggled m s (n - 1) t u r → Toggled m s n t (set u (s + r) (get_or t (s + (n - 1)) 0)) (r + 1)
    toggled-later d l u r len T =
        let h : s + r < length u = omega (arith, T.room) in
        record {
          marks-are = marks_in-put u s r (get_or t (s + (n - 1)) 0) h ∙ ap (λ (x : List ℕ). get_or t (s + (n - 1)) 0 ∷ x) T.marks-are ∙ sym (toggle-later t s n m nz d l);
          kept = take-set-le s u (s + r) _ (omega arith) ∙ T.kept;
          room = omega (arith, T.room);
        }

-- ---- descending lists

pub descends-wider : {a : ℕ} {l : List ℕ} (b : ℕ) → a ≤ b → Descends a l → Descends b l
descends-wider b h none = none
descends-wider b h (more {m = m} p d) = let l : m < b = omega arith in more l d

pub descends-length : {b : ℕ} {l : List ℕ} → Descends b l → length l ≤ b
descends-length none = omega arith
descends-length (more p d) = omega (arith, descends-length d)

pub descends-toggle : {b : ℕ} {l : List ℕ} (m : ℕ) → m < b → Descends b l → Descends b (toggle m l)
unfolding toggle
descends-toggle m h none = more h none
descends-toggle {b} m h (more {m = x} {ms = xs} p d) =
    either (eqb m x)
    (λ t. rw t (descends-wider b (omega arith) d))
    (λ t.
    either (ltb x m)
    (λ u. rw (t, u) (more h (more (ltb-true x m u) d)))
    (λ u. rw (t, u) (let ne : m ≡ x → ⊥ = eqb-false m x t in let le : m ≤ x = ltb-false x m u in let lt : m < x = omega arith in more p (descends-toggle m lt d))))

-- ---- parts of the table

-- the marks in hand are those of a part of the table, which has the oldest first
marks_in-part : (t : List ℕ) (s n : ℕ) → s + n ≤ length t → marks_in t s n ≡ reverse (take n (drop s t))
unfolding marks_in
marks_in-part t s zero h = refl
marks_in-part t s (suc n) h =
    let l : n < length (drop s t) = omega (arith, length-drop s t) in
    rw (take-suc (drop s t) n 0 l, reverse-append, get_or-drop) (ap (λ (ms : List ℕ). get_or t (s + n) 0 ∷ ms) (marks_in-part t s n (omega arith)))

-- a comparison of two parts is one of the marks in them
pub equal-parts : (t : List ℕ) (a b n : ℕ) → a + n ≤ length t → b + n ≤ length t → (r : Bool) → r ≡ bytes_eq (between a (a + n) t) (between b (b + n) t) → r ≡ equal (marks_in t a n) (marks_in t b n)
equal-parts t a b n g h r e =
    let p : a + n - a ≡ n = omega arith in
    let q : b + n - b ≡ n = omega arith in
    let d = slice_eq-Decides Decides-eqb (take n (drop a t)) (take n (drop b t)) r (rw (p, q) at e) in
    rw (marks_in-part t a n g, marks_in-part t b n h)
    (iff-eq r (equal (reverse (take n (drop a t))) (reverse (take n (drop b t))))
    (λ u. rw (d.0 u) (equal-refl (reverse (take n (drop b t)))))
    (λ u. d.1 (sym (reverse-reverse (take n (drop a t))) ∙ ap reverse (equal-true _ _ u) ∙ reverse-reverse (take n (drop b t)))))

pub newest-none : (t : List ℕ) (s n : ℕ) → n ≡ 0 → newest (marks_in t s n) ≡ 0
unfolding newest marks_in
newest-none t s zero e = refl
newest-none t s (suc n) e = absurd (omega arith)

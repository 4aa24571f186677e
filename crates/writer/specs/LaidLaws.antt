-- Laws of laying bytes: one text after another is both together.
use Rattle.std.specs.Prelude.{◌≡◌, ℕ, suc, ◌+◌, ◌-◌, ◌<◌, ◌≤◌, Bool, true, false, List, [], ◌∷◌, ◌++◌, length, take, drop, slice_range, slice_set, refl, Some, None}
use Rattle.std.proofs.Common.{sym, ap, subst, ◌∙◌, append_assoc, append-nil, arith, add-one, zero-add, add-zero, length-append, take-append-drop, length-drop, length-take-le, take_at, drop_at, take-take, drop-drop}
use Rattle.std.proofs.lemmas.List.{set_split, take-append-le, drop-append-le}
use Rattle.std.proofs.Math.Seq.{append_snoc, paste, take-length}
use Rattle.std.specs.declared.option.Option.{Option}
use Rattle.writer.specs.Laid.{laid, Left, done, full}

-- ---- one text

pub laid-dry : (ink : Bool) (x : List ℕ) (at : ℕ) (d : List ℕ) → ink ≡ false → laid ink x at d ≡ d
unfolding laid
laid-dry ink x at d h = rw h

pub laid-wet : (ink : Bool) (x : List ℕ) (at : ℕ) (d : List ℕ) → ink ≡ true → laid ink x at d ≡ take at d ++ x ++ drop (at + length x) d
unfolding laid
laid-wet ink x at d h = rw h

-- from the beginning on it is all that comes before the rest
pub laid-first : (x d : List ℕ) → laid true x 0 d ≡ x ++ drop (length x) d
unfolding laid
laid-first x d = ap (λ (i : ℕ). x ++ drop i d) (zero-add (length x))

pub laid_none : (ink : Bool) (at : ℕ) (d : List ℕ) → laid ink [] at d ≡ d
unfolding laid
laid_none true at d = rw (append-nil (take at d), add-zero at) (take-append-drop at d)
laid_none false at d = refl

pub laid-length : (ink : Bool) (x : List ℕ) (at : ℕ) (d : List ℕ) → at + length x ≤ length d → length (laid ink x at d) ≡ length d
unfolding laid
laid-length true x at d h =
    let k : at ≤ length d = omega arith in
    omega (arith, length-append (take at d ++ x) (drop (at + length x) d), length-append (take at d) x, length-take-le at d k, length-drop (at + length x) d)
laid-length false x at d h = refl

pub laid-byte : (b at : ℕ) (d : List ℕ) → at < length d → slice_set d at b ≡ take at d ++ (b ∷ []) ++ drop (at + 1) d
laid-byte b at d h = set_split d at b h ∙ rw add-one (sym (append_snoc (take at d) b (drop (suc at) d)))

-- ---- a copy

pub copy_done : (d : List ℕ) (at : ℕ) (s : List ℕ) (e : List ℕ) (i : ℕ) (ink : Bool) → i ≡ length s → ink ≡ true → e ≡ paste d at s i → e ≡ laid ink s at d
copy_done d at s e i ink l h p =
    p ∙ ap (paste d at s) l ∙ ap (λ (z : List ℕ). take at d ++ z ++ drop (at + length s) d) (take-length s) ∙ sym (laid-wet ink s at d h)

-- ---- one after another

pub laid-append : (ink : Bool) (x y : List ℕ) (at to : ℕ) (d : List ℕ) → to ≡ at + length x → to ≤ length d → laid ink y to (laid ink x at d) ≡ laid ink (x ++ y) at d
unfolding laid
laid-append false x y at to d e h = refl
laid-append true x y at to d e h =
    let k : at ≤ length d = omega arith in
    let l : length (take at d ++ x) ≡ to = omega (arith, length-append (take at d) x, length-take-le at d k) in
    let m : at + length (x ++ y) ≡ to + length y = omega (arith, length-append x y) in
    let p : take to (take at d ++ x ++ drop (at + length x) d) ≡ take at d ++ x = take_at (take at d ++ x) (drop (at + length x) d) to l in
    let q : drop (to + length y) (take at d ++ x ++ drop (at + length x) d) ≡ drop (to + length y) d =
    sym (drop-drop (length y) to (take at d ++ x ++ drop (at + length x) d))
    ∙ ap (drop (length y)) (drop_at (take at d ++ x) (drop (at + length x) d) to l ∙ ap (λ (n : ℕ). drop n d) (sym e))
    ∙ drop-drop (length y) to d in
    rw (p, q, m) (simp append_assoc)

-- the second text first
pub laid-before : (x y : List ℕ) (at to : ℕ) (d : List ℕ) → to ≡ at + length x → to + length y ≤ length d → laid true x at (laid true y to d) ≡ laid true (x ++ y) at d
unfolding laid
laid-before x y at to d e h =
    let l : length (take to d) ≡ to = length-take-le to d (omega arith) in
    let k : at ≤ length (take to d) = omega arith in
    let m : at + length (x ++ y) ≡ to + length y = omega (arith, length-append x y) in
    let p : take at (take to d ++ y ++ drop (to + length y) d) ≡ take at d =
    ap (take at) (append_assoc (take to d) y (drop (to + length y) d)) ∙ take-append-le at (take to d) (y ++ drop (to + length y) d) k ∙ take-take at to d (omega arith) in
    let q : drop (at + length x) (take to d ++ y ++ drop (to + length y) d) ≡ y ++ drop (to + length y) d =
    ap (drop (at + length x)) (append_assoc (take to d) y (drop (to + length y) d)) ∙ drop_at (take to d) (y ++ drop (to + length y) d) (at + length x) (l ∙ e) in
    rw (p, q, m) (simp append_assoc)

-- a part of the output with the text at its beginning, put back in its place
pub laid-part : (x : List ℕ) (at to : ℕ) (d : List ℕ) → to ≤ length d → at + length x ≤ to
    → take at d ++ ((x ++ drop (length x) (slice_range d at to)) ++ drop (to - at) (drop at d)) ≡ laid true x at d
unfolding laid
laid-part x at to d h k =
    let s = drop at d in
    let l : length x ≤ length (take (to - at) s) = omega (arith, length-take-le (to - at) s (omega (arith, length-drop at d)), length-drop at d) in
    let p : drop (length x) (take (to - at) s) ++ drop (to - at) s ≡ drop (at + length x) d =
    sym (drop-append-le (length x) (take (to - at) s) (drop (to - at) s) l) ∙ ap (drop (length x)) (take-append-drop (to - at) s) ∙ drop-drop (length x) at d in
    ap (λ (z : List ℕ). take at d ++ z) (append_assoc x _ _ ∙ ap (λ (z : List ℕ). x ++ z) p) ∙ sym (append_assoc (take at d) x _)

module _ {ink : Bool} {x : List ℕ} {at : ℕ} {d e : List ℕ} where
  -- where it ends, that it fits, and the output
  pub done-is : {to : ℕ} → Left ink x at d e (Some to) → (to ≡ at + length x) × (to ≤ length d) × (e ≡ laid ink x at d)
  done-is (done p q s) = (p, q, s)

  pub full_is : Left ink x at d e None → (length d < at + length x) × (ink ≡ false → e ≡ d)
  full_is (full p q) = (p, q)

  module _ {r : Option ℕ} (l : Left ink x at d e r) where
    pub left-done : (to : ℕ) → r ≡ Some to → Left ink x at d e (Some to)
    left-done to h = subst (λ (z : Option ℕ). Left ink x at d e z) h l

    -- how long the output is, and that the place is within it
    pub left-length : (to : ℕ) → r ≡ Some to → length e ≡ length d
    left-length to h = let k = done-is (left-done to h) in ap length k.2 ∙ laid-length ink x at d (omega arith)

    pub left-room : (to : ℕ) → r ≡ Some to → to ≤ length e
    left-room to h = let k = done-is (left-done to h) in omega (arith, left-length to h)

    -- the first of two texts does not fit
    pub left-full : (y : List ℕ) → r ≡ None → Left ink (x ++ y) at d e None
    left-full y h = let k = full_is (subst (λ (z : Option ℕ). Left ink x at d e z) h l) in full (omega (arith, length-append x y)) k.1

    -- as code hands it back
    pub left-stops : (y : List ℕ) → r ≡ None → {s : Option ℕ} → s ≡ None → Left ink (x ++ y) at d e s
    left-stops y h {s} k = rw k (left-full y h)

    -- a second text after it
    pub left-then : {y f : List ℕ} {s : Option ℕ} (to : ℕ) → r ≡ Some to → Left ink y to e f s → Left ink (x ++ y) at d f s
    left-then {y} to h (done {to = u} p q m) =
        let k = done-is (left-done to h) in
        done {to = u} (omega (arith, length-append x y)) (omega (arith, left-length to h)) (m ∙ ap (laid ink y to) k.2 ∙ laid-append ink x y at to d k.0 k.1)
    left-then {y} to h (full p q) =
        let k = done-is (left-done to h) in
        full (omega (arith, length-append x y, left-length to h)) (λ n. q n ∙ k.2 ∙ laid-dry ink x at d n)

  -- an equal text
  pub left_is : {y : List ℕ} {r : Option ℕ} → x ≡ y → Left ink x at d e r → Left ink y at d e r
  left_is {r = r} h l = subst (λ (z : List ℕ). Left ink z at d e r) h l

-- nothing laid
pub left-none : (ink : Bool) (at : ℕ) (d : List ℕ) → at ≤ length d → Left ink [] at d d (Some at)
left-none ink at d h = done (sym (add-zero at)) h (sym (laid_none ink at d))

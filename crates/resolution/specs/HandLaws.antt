-- Laws of a name in hand, one for each way through the code that walks a wrap.
use Rattle.std.specs.Prelude.{◌≡◌, refl, List, ℕ, zero, suc, ◌+◌, ◌≤◌, ◌<◌, length, Option, Some, None, MatchOption}
use Rattle.std.proofs.Math.Path.{sym, ap}
use Rattle.std.proofs.Common.{◌∙◌, arith, le-ltb}
use Rattle.recipe.specs.Name.{Name, toggle, mark_name}
use Rattle.arena.specs.Offsets.{TAG, INNER, STEP, OUTER}
use Rattle.arena.specs.Arena.{word_at, reference_at, step_limit, marked, rebound, wrap_at}
use Rattle.arena.specs.ArenaLaws.{reference_at-falls, marked-is, rebound-marks, wrap_at-none, wrap_at-mark, wrap_at-join, wrap_at-binder, wrap_at-other, word_at-some}
use Rattle.resolution.specs.Marks.{marks_in, Descends, none, Toggled, Hand, MarksAfter}
use Rattle.resolution.specs.MarkLaws.{marks_in-length, descends-length, descends-toggle}

-- ---- answers that may be missing, for want of room

-- what follows from what is answered
pub answer-then : {X : Type 0} {Q Q' : X → Type 0} (P : Type 0) (r : Option X) → MatchOption r P Q → ((x : X) → Q x → Q' x) → MatchOption r P Q'
answer-then P None h f = h
answer-then P (Some x) h f = f x h

-- ---- room

pub hand-none : (t : List ℕ) (s : ℕ) → s ≤ length t → Hand t s 0
unfolding marks_in
hand-none t s h = record { descends = none; room = omega arith }

pub count_most : (t : List ℕ) (s n : ℕ) → Descends step_limit (marks_in t s n) → n ≤ step_limit
count_most t s n d = omega (arith, marks_in-length t s n, descends-length d)

-- ---- marks

module _ (old : List ℕ) (s n : ℕ) where
  -- nothing changes
  pub after_none : (f : Name → Name) → Hand old s n → ((x : Name) → f x ≡ x) → MarksAfter f old old s n n
  after_none f h e = record { marks-are = λ x p. ap (λ (y : Name). y.marks) (e x) ∙ p; hand = h; kept = refl }

  pub after-marked : (m : ℕ) → Hand old s n → m < step_limit → s + n < length old → (new : List ℕ) (r : ℕ) → length new ≡ length old → Toggled m s n old new r → MarksAfter (marked m) old new s n r
  unfolding mark_name
  after-marked m h l room new r len t =
      record {
        marks-are = λ x p. ap (λ (y : Name). y.marks) (marked-is m x l) ∙ ap (toggle m) p ∙ sym t.marks-are;
        hand = record { descends = rw t.marks-are (descends-toggle m l h.descends); room = omega (arith, t.room) };
        kept = t.kept;
      }

  pub after-unmarked : (m : ℕ) → Hand old s n → step_limit ≤ m → MarksAfter (marked m) old old s n n
  unfolding marked
  after-unmarked m h l = after_none (marked m) h (λ x. rw (le-ltb m step_limit l))

-- one after another
pub after_both : (f g : Name → Name) (old mid new : List ℕ) (s n k r : ℕ) → MarksAfter f old mid s n k → MarksAfter g mid new s k r → MarksAfter (λ x. g (f x)) old new s n r
after_both f g old mid new s n k r p q =
    record { marks-are = λ x e. q.marks-are (f x) (p.marks-are x e); hand = q.hand; kept = q.kept ∙ p.kept }

pub after_is : (f g : Name → Name) (old new : List ℕ) (s n r : ℕ) → ((x : Name) → g x ≡ f x) → MarksAfter f old new s n r → MarksAfter g old new s n r
after_is f g old new s n r e p =
    record { marks-are = λ x h. ap (λ (y : Name). y.marks) (e x) ∙ p.marks-are x h; hand = p.hand; kept = p.kept }

-- ---- wraps. `tag` is the last word of the wrap's cell, `inner` the wrap inside it

pub wrap-none : (work : List ℕ) (w : ℕ) → w ≡ 0 → (x : Name) → wrap_at work w x ≡ x
wrap-none work w e x = rw e (wrap_at-none work x)

module _ (work : List ℕ) (w tag : ℕ) (tag_is : tag ≡ word_at work w TAG) where
  pub wrap-some : (tag ≡ 0 → ⊥) → 0 < w
  wrap-some h = word_at-some work w 1 (omega arith) (λ z. h (tag_is ∙ z))

  pub wrap-falls : (k r : ℕ) → (tag ≡ 0 → ⊥) → r ≡ reference_at work w k → r < w
  wrap-falls k r h e = rw e (reference_at-falls work w k (wrap-some h))

  wrap-idle-at : (v : ℕ) → v ≡ w → (tag ≡ 1 → ⊥) → (tag ≡ 2 → ⊥) → (tag ≡ 3 → ⊥) → (x : Name) → wrap_at work v x ≡ x
  wrap-idle-at zero e a b c x = wrap_at-none work x
  wrap-idle-at (suc v) e a b c x =
      let t : tag ≡ word_at work (suc v) TAG = tag_is ∙ ap (λ (u : ℕ). word_at work u TAG) (sym e) in
      wrap_at-other work (suc v) (omega arith) (λ z. a (t ∙ z)) (λ z. b (t ∙ z)) (λ z. c (t ∙ z)) x

  -- a cell that is no wrap
  pub wrap-idle : (tag ≡ 1 → ⊥) → (tag ≡ 2 → ⊥) → (tag ≡ 3 → ⊥) → (x : Name) → wrap_at work w x ≡ x
  wrap-idle a b c x = wrap-idle-at w refl a b c x

  module _ (inner : ℕ) (inner-is : inner ≡ reference_at work w INNER) where
    pub wrap-mark : (m : ℕ) → tag ≡ 1 → m ≡ word_at work w STEP → (x : Name) → wrap_at work w x ≡ marked m (wrap_at work inner x)
    wrap-mark m t e x = rw (e, inner-is) (wrap_at-mark work w (wrap-some (λ z. omega arith)) (sym tag_is ∙ t) x)

    pub wrap-join : (outer : ℕ) → tag ≡ 2 → outer ≡ reference_at work w OUTER → (x : Name) → wrap_at work w x ≡ wrap_at work outer (wrap_at work inner x)
    wrap-join outer t e x = rw (e, inner-is) (wrap_at-join work w (wrap-some (λ z. omega arith)) (sym tag_is ∙ t) x)

    pub wrap-binder : tag ≡ 3 → (x : Name) → wrap_at work w x ≡ rebound work (wrap_at work) w (wrap_at work inner x)
    wrap-binder t x = rw inner-is (wrap_at-binder work w (wrap-some (λ z. omega arith)) (sym tag_is ∙ t) x)

    -- the marks after each
    module _ (old mid : List ℕ) (s n k : ℕ) (before : MarksAfter (wrap_at work inner) old mid s n k) where
      pub marks-mark : (m : ℕ) → tag ≡ 1 → m ≡ word_at work w STEP → (new : List ℕ) (r : ℕ) → MarksAfter (marked m) mid new s k r → MarksAfter (wrap_at work w) old new s n r
      marks-mark m t e new r p = after_is _ _ old new s n r (wrap-mark m t e) (after_both (wrap_at work inner) (marked m) old mid new s n k r before p)

      pub marks-join : (outer : ℕ) → tag ≡ 2 → outer ≡ reference_at work w OUTER → (new : List ℕ) (r : ℕ) → MarksAfter (wrap_at work outer) mid new s k r → MarksAfter (wrap_at work w) old new s n r
      marks-join outer t e new r p = after_is _ _ old new s n r (wrap-join outer t e) (after_both (wrap_at work inner) (wrap_at work outer) old mid new s n k r before p)

      pub marks-binder : tag ≡ 3 → MarksAfter (wrap_at work w) old mid s n k
      marks-binder t =
          record {
            marks-are = λ x e. ap (λ (y : Name). y.marks) (wrap-binder t x) ∙ rebound-marks work (wrap_at work) w (wrap_at work inner x) ∙ before.marks-are x e;
            hand = before.hand;
            kept = before.kept;
          }

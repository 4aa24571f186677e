-- Laws of the walk of a wrap by the name in hand, one for each way through the code.
use Rattle.std.specs.Prelude.{◌≡◌, refl, List, ℕ}
use Rattle.std.proofs.Common.{ap, ◌∙◌}
use Rattle.recipe.specs.Name.{Name, binding_key}
use Rattle.arena.specs.Offsets.{TAG, INNER, STEP, OUTER}
use Rattle.arena.specs.Arena.{word_at, reference_at, marked, rebound, wrap_at}
use Rattle.arena.specs.ArenaLaws.{marked-number, marked-binding}
use Rattle.resolution.specs.Marks.{Hand, MarksAfter, NameAfter}
use Rattle.resolution.specs.HandLaws.{wrap-mark, wrap-join, wrap-binder}

-- ---- one after another

pub name-idle : (f : Name → Name) (old : List ℕ) (s number n b : ℕ) → Hand old s n → ((x : Name) → f x ≡ x) → NameAfter f old old s number n b n b
name-idle f old s number n b h e = record { holds = λ x o. rw (e x) o; hand = h; kept = refl }

pub name-both : (f g : Name → Name) (old mid new : List ℕ) (s number n b k c r d : ℕ) → NameAfter f old mid s number n b k c → NameAfter g mid new s number k c r d → NameAfter (λ x. g (f x)) old new s number n b r d
name-both f g old mid new s number n b k c r d p q = record { holds = λ x o. q.holds (f x) (p.holds x o); hand = q.hand; kept = q.kept ∙ p.kept }

pub name-is : (f g : Name → Name) (old new : List ℕ) (s number n b r d : ℕ) → ((x : Name) → g x ≡ f x) → NameAfter f old new s number n b r d → NameAfter g old new s number n b r d
name-is f g old new s number n b r d e p = record { holds = λ x o. rw (e x) (p.holds x o); hand = p.hand; kept = p.kept }

-- marks never change a binding
name-marked : (m : ℕ) (old new : List ℕ) (s number n b r : ℕ) → MarksAfter (marked m) old new s n r → NameAfter (marked m) old new s number n b r b
name-marked m old new s number n b r p =
    record {
      holds = λ x o. record { number_is = marked-number m x ∙ o.number_is; marks-are = p.marks-are x o.marks-are; binding-is = ap binding_key (marked-binding m x) ∙ o.binding-is };
      hand = p.hand;
      kept = p.kept;
    }

-- ---- wraps

module _ (work : List ℕ) (w tag : ℕ) (tag_is : tag ≡ word_at work w TAG) (inner : ℕ) (inner-is : inner ≡ reference_at work w INNER) where
  module _ (old mid : List ℕ) (s number n b k c : ℕ) (before : NameAfter (wrap_at work inner) old mid s number n b k c) where
    abbrev pub Walked : List ℕ → ℕ → ℕ → Type 0
    Walked new r d = NameAfter (wrap_at work w) old new s number n b r d

    pub walk-mark : (m : ℕ) → tag ≡ 1 → m ≡ word_at work w STEP → (new : List ℕ) (r : ℕ) → MarksAfter (marked m) mid new s k r → Walked new r c
    walk-mark m t e new r p =
        name-is _ _ old new s number n b r c (wrap-mark work w tag tag_is inner inner-is m t e)
        (name-both (wrap_at work inner) (marked m) old mid new s number n b k c r c before (name-marked m mid new s number k c r p))

    pub walk-join : (outer : ℕ) → tag ≡ 2 → outer ≡ reference_at work w OUTER → (new : List ℕ) (r d : ℕ) → NameAfter (wrap_at work outer) mid new s number k c r d → Walked new r d
    walk-join outer t e new r d p =
        name-is _ _ old new s number n b r d (wrap-join work w tag tag_is inner inner-is outer t e)
        (name-both (wrap_at work inner) (wrap_at work outer) old mid new s number n b k c r d before p)

    pub walk-binder : tag ≡ 3 → (new : List ℕ) (r d : ℕ) → NameAfter (rebound work (wrap_at work) w) mid new s number k c r d → Walked new r d
    walk-binder t new r d p =
        name-is _ _ old new s number n b r d (wrap-binder work w tag tag_is inner inner-is t)
        (name-both (wrap_at work inner) (rebound work (wrap_at work) w) old mid new s number n b k c r d before p)

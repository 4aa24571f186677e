-- Laws of a binder that is met by the name in hand, one for each way through the code.
use Rattle.std.specs.Prelude.{◌≡◌, refl, Bool, ◌&&◌, List, ℕ, ◌+◌, ◌≤◌, ◌<◌, eqb, ltb, length, take}
use Rattle.std.proofs.Math.Path.{sym}
use Rattle.std.proofs.Common.{ap, ap₂, ◌∙◌, arith}
use Rattle.std.proofs.Math.Bool.{true, false, or-true}
use borrow.Author.Tests.{eq-eqb, ne_eqb, lt-ltb, le-ltb}
use Rattle.words.specs.Lists.{equal}
use Rattle.recipe.specs.Name.{Name, binding_key, plain_name}
use Rattle.arena.specs.Offsets.{KEY, BOUND-KEY, BOUND-NUMBER, BOUND-COUNT, BOUND-NEWEST, BOUND-PENDING, BOUND-OWN}
use Rattle.arena.specs.Arena.{word_at, reference_at, newest, give_key, own_marks, same_marks, is_own, rebound, wrap_at}
use Rattle.words.specs.ListLaws.{either, equal-true}
use Rattle.arena.specs.ArenaLaws.{take_less, binding_key-of}
use Rattle.resolution.specs.Marks.{marks_in, Hand, MarksAfter, Holds, NameAfter, OwnMarks, OwnIs}
use Rattle.resolution.specs.MarkLaws.{marks_in-length, marks_in-below}

-- ---- the marks of its own name

pub own-both : (work : List ℕ) (w own pending : ℕ) → own ≡ reference_at work w BOUND-OWN → pending ≡ reference_at work w BOUND-PENDING → (old mid new : List ℕ) (s k r : ℕ) → MarksAfter (wrap_at work own) old mid s 0 k → MarksAfter (wrap_at work pending) mid new s k r → OwnMarks work w old new s r
unfolding own_marks marks_in plain_name
own-both work w own pending p q old mid new s k r f g =
    record {
      marks-are = ap₂ (λ (a b : ℕ). (wrap_at work b (wrap_at work a (plain_name 0 0))).marks) (sym p) (sym q) ∙ g.marks-are _ (f.marks-are (plain_name 0 0) refl);
      room = g.hand.room;
      kept = g.kept ∙ f.kept;
    }

-- ---- the tests

-- one test of five fails
second-fails : (b c d e : Bool) (a : Bool) → b ≡ false → (a && (b && (c && (d && e)))) ≡ false
second-fails b c d e true h = rw h
second-fails b c d e false h = refl

third-fails : (c d e : Bool) (a b : Bool) → c ≡ false → (a && (b && (c && (d && e)))) ≡ false
third-fails c d e true true h = rw h
third-fails c d e true false h = refl
third-fails c d e false b h = refl

fourth-fails : (d e : Bool) (a b c : Bool) → d ≡ false → (a && (b && (c && (d && e)))) ≡ false
fourth-fails d e true true true h = rw h
fourth-fails d e true true false h = refl
fourth-fails d e true false c h = refl
fourth-fails d e false b c h = refl

fifth-fails : (e : Bool) (a b c d : Bool) → e ≡ false → (a && (b && (c && (d && e)))) ≡ false
fifth-fails e true true true true h = h
fifth-fails e true true true false h = refl
fifth-fails e true true false d h = refl
fifth-fails e true false c d h = refl
fifth-fails e false b c d h = refl

pub equal-lengths : (a b : List ℕ) → (length a ≡ length b → ⊥) → equal a b ≡ false
equal-lengths a b h = either (equal a b) (λ t. absurd (h (ap length (equal-true a b t)))) (λ t. t)

module _ (work : List ℕ) (w : ℕ) (x : Name) where
  abbrev pub Not-own : Type 0
  Not-own = is_own work (wrap_at work) w x ≡ false

  abbrev number-test : Bool
  number-test = eqb (word_at work w BOUND-NUMBER) x.number

  abbrev binding-test : Bool
  binding-test = eqb (word_at work w BOUND-KEY) (binding_key x.binding)

  abbrev count-test : Bool
  count-test = eqb (word_at work w BOUND-COUNT) (length x.marks)

  abbrev newest-test : Bool
  newest-test = eqb (word_at work w BOUND-NEWEST) (newest x.marks)

  abbrev marks-test : Bool
  marks-test = same_marks work (wrap_at work) w x.marks

  pub own-number : (word_at work w BOUND-NUMBER ≡ x.number → ⊥) → Not-own
  unfolding is_own
  own-number h = rw (ne_eqb _ _ h)

  pub own-binding : (word_at work w BOUND-KEY ≡ binding_key x.binding → ⊥) → Not-own
  unfolding is_own
  own-binding h = second-fails binding-test count-test newest-test marks-test number-test (ne_eqb _ _ h)

  pub own-count : (word_at work w BOUND-COUNT ≡ length x.marks → ⊥) → Not-own
  unfolding is_own
  own-count h = third-fails count-test newest-test marks-test number-test binding-test (ne_eqb _ _ h)

  pub own-newest : (word_at work w BOUND-NEWEST ≡ newest x.marks → ⊥) → Not-own
  unfolding is_own
  own-newest h = fourth-fails newest-test marks-test number-test binding-test count-test (ne_eqb _ _ h)

  own-marks : 2 ≤ length x.marks → equal (own_marks work (wrap_at work) w) x.marks ≡ false → Not-own
  unfolding is_own same_marks
  own-marks l h = fifth-fails marks-test number-test binding-test count-test newest-test (rw (le-ltb (length x.marks) 2 l, h))

  -- at most one mark is the newest
  pub few-same : length x.marks < 2 → same_marks work (wrap_at work) w x.marks ≡ true
  unfolding same_marks
  few-same h = rw (lt-ltb (length x.marks) 2 h)

  equal-same : equal (own_marks work (wrap_at work) w) x.marks ≡ true → same_marks work (wrap_at work) w x.marks ≡ true
  unfolding same_marks
  equal-same h = rw h (or-true (ltb (length x.marks) 2))

  pub own-all : word_at work w BOUND-NUMBER ≡ x.number → word_at work w BOUND-KEY ≡ binding_key x.binding → word_at work w BOUND-COUNT ≡ length x.marks → word_at work w BOUND-NEWEST ≡ newest x.marks → same_marks work (wrap_at work) w x.marks ≡ true → is_own work (wrap_at work) w x ≡ true
  unfolding is_own
  own-all a b c d e = rw (eq-eqb _ _ a, eq-eqb _ _ b, eq-eqb _ _ c, eq-eqb _ _ d, e)

-- ---- what the tests tell of the name in hand

module _ (work : List ℕ) (w : ℕ) (old : List ℕ) (s number n binding : ℕ) where
  abbrev pub Told : List ℕ → Bool → Type 0
  Told new b = OwnIs work w old new s number n binding b

  count-is : (x : Name) → Holds x old s n number binding → length x.marks ≡ n
  count-is x o = ap length o.marks-are ∙ marks_in-length old s n

  pub other-number : (v : ℕ) → v ≡ word_at work w BOUND-NUMBER → (v ≡ number → ⊥) → Told old false
  other-number v e h = record { told = λ x o. own-number work w x (λ z. h (e ∙ z ∙ o.number_is)); kept = refl }

  pub other-binding : (v : ℕ) → v ≡ word_at work w BOUND-KEY → (v ≡ binding → ⊥) → Told old false
  other-binding v e h = record { told = λ x o. own-binding work w x (λ z. h (e ∙ z ∙ o.binding-is)); kept = refl }

  pub other-count : (v : ℕ) → v ≡ word_at work w BOUND-COUNT → (v ≡ n → ⊥) → Told old false
  other-count v e h = record { told = λ x o. own-count work w x (λ z. h (e ∙ z ∙ count-is x o)); kept = refl }

  pub other-newest : (v u : ℕ) → v ≡ word_at work w BOUND-NEWEST → u ≡ newest (marks_in old s n) → (v ≡ u → ⊥) → Told old false
  other-newest v u e d h = record { told = λ x o. own-newest work w x (λ z. h (e ∙ z ∙ ap newest o.marks-are ∙ sym d)); kept = refl }

  -- the binder's own marks stand behind those in hand
  module _ (new : List ℕ) (r : ℕ) (own : OwnMarks work w old new (s + n) r) where
    equal_is : (x : Name) → Holds x old s n number binding → r ≡ n → equal (own_marks work (wrap_at work) w) x.marks ≡ equal (marks_in new (s + n) n) (marks_in new s n)
    equal_is x o e = rw (own.marks-are, o.marks-are, marks_in-below new old s n own.kept, e)

    -- more than one mark, and they differ
    module _ (many : 2 ≤ n) where
      pub other_length : (r ≡ n → ⊥) → Told new false
      other_length h =
          record {
            told = λ x o.
                own-marks work w x (omega (arith, count-is x o))
                (rw (own.marks-are, o.marks-are)
                (equal-lengths _ _ (λ z. h (sym (marks_in-length new (s + n) r) ∙ z ∙ marks_in-length old s n))));
            kept = own.kept;
          }

      pub other-marks : r ≡ n → false ≡ equal (marks_in new (s + n) n) (marks_in new s n) → Told new false
      other-marks e h = record { told = λ x o. own-marks work w x (omega (arith, count-is x o)) (equal_is x o e ∙ sym h); kept = own.kept }

  -- all tests hold
  module _ (a b c d u : ℕ) (ea : a ≡ word_at work w BOUND-NUMBER) (fa : a ≡ number) (eb : b ≡ word_at work w BOUND-KEY) (fb : b ≡ binding) (ec : c ≡ word_at work w BOUND-COUNT) (fc : c ≡ n) (ed : d ≡ word_at work w BOUND-NEWEST) (eu : u ≡ newest (marks_in old s n)) (fd : d ≡ u) where
    same-as : (x : Name) → Holds x old s n number binding → same_marks work (wrap_at work) w x.marks ≡ true → is_own work (wrap_at work) w x ≡ true
    same-as x o =
        own-all work w x
        (sym ea ∙ fa ∙ sym o.number_is)
        (sym eb ∙ fb ∙ sym o.binding-is)
        (sym ec ∙ fc ∙ sym (count-is x o))
        (sym ed ∙ fd ∙ eu ∙ sym (ap newest o.marks-are))

    pub same-few : n < 2 → Told old true
    same-few h = record { told = λ x o. same-as x o (few-same work w x (omega (arith, count-is x o))); kept = refl }

    pub same-all : (new : List ℕ) (r : ℕ) → OwnMarks work w old new (s + n) r → r ≡ n → true ≡ equal (marks_in new (s + n) n) (marks_in new s n) → Told new true
    same-all new r own e h = record { told = λ x o. same-as x o (equal-same work w x (equal_is new r own x o e ∙ sym h)); kept = own.kept }

    -- more than one mark: those of the binder's own name decide
    pub by-marks : (new : List ℕ) (r : ℕ) → OwnMarks work w old new (s + n) r → 2 ≤ n → r ≡ n → (t : Bool) → t ≡ equal (marks_in new (s + n) n) (marks_in new s n) → Told new t
    by-marks new r own many e true h = same-all new r own e h
    by-marks new r own many e false h = other-marks new r own many e h

-- ---- what the binder leaves in hand

module _ (work : List ℕ) (w : ℕ) (old new : List ℕ) (s number n binding : ℕ) (hand : Hand old s n) (len : length new ≡ length old) where
  abbrev Left : ℕ → Type 0
  Left r = NameAfter (rebound work (wrap_at work) w) old new s number n binding n r

  module _ (b : Bool) (told : OwnIs work w old new s number n binding b) where
    marks-same : marks_in new s n ≡ marks_in old s n
    marks-same = marks_in-below new old s n told.kept

    hand-same : Hand new s n
    hand-same = record { descends = rw marks-same hand.descends; room = omega (arith, hand.room) }

    below-same : take s new ≡ take s old
    below-same = take_less new old s (s + n) (omega arith) told.kept

  pub left_alone : OwnIs work w old new s number n binding false → Left binding
  unfolding rebound
  left_alone h =
      record {
        holds = λ x o. rw (h.told x o) (record { number_is = o.number_is; marks-are = o.marks-are ∙ sym (marks-same false h); binding-is = o.binding-is });
        hand = hand-same false h;
        kept = below-same false h;
      }

  pub left-given : OwnIs work w old new s number n binding true → (v : ℕ) → v ≡ word_at work w KEY → Left v
  unfolding rebound give_key
  left-given h v e =
      record {
        holds = λ x o. rw (h.told x o) (record { number_is = o.number_is; marks-are = o.marks-are ∙ sym (marks-same true h); binding-is = binding_key-of (word_at work w KEY) ∙ sym e });
        hand = hand-same true h;
        kept = below-same true h;
      }

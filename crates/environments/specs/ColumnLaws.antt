-- Laws of entries, and of the walk of a pattern that finds them, one for each way through the code.
use Rattle.std.specs.Prelude.{◌≡◌, ℕ, ◌+◌, ◌*◌, ◌<◌, ◌≤◌, Bool, true, false, ◌||◌, List, [], ◌∷◌, length, ◌==◌, ◌≢◌, nat_eq, slice_set}
use Rattle.std.proofs.Math.Path.{refl, ap}
use Rattle.std.proofs.Common.{sym, ◌∙◌, true≢false}
use Rattle.std.proofs.lemmas.Bool.{false≢true}
use native.Mathlib.Omega.{arith}
use Rattle.std.proofs.Math.ListN.{length-set}
use Rattle.std.proofs.Math.Seq.{get_or-set_same, get_or-set_other}
use borrow.Author.Tests.{eqb-true, eqb-false, ne_eqb}
use Rattle.words.specs.ListLaws.{either}
use Rattle.words.specs.Limits.{pattern_variables_most}
use Rattle.expansion.specs.Rules.{variable_p, pair_p, ellipsis_p}
use Rattle.expansion.specs.Match.{holds}
use Rattle.arena.specs.Arena.{word_at, reference_at}
use Rattle.rule_cells.specs.Cells.{pattern_at}
use Rattle.environments.specs.declared.entries.Entry.{Entry}
use Rattle.environments.specs.PatternCells.{variable-is, other-is, pair_is, ellipsis-is}
use Rattle.environments.specs.Blocks.{slots, columns, shift, word_in}
use Rattle.environments.specs.BlockLaws.{Within, columns-within, other-holds}
use Rattle.environments.specs.Columns.{entries_words, entry_of, EntryStored, EntrySet, word32, moving_of, Words, advance, inside, found, within, placed, Columned}

-- ---- one entry

module _ (env : List ℕ) (k : ℕ) (x : Entry) (long : length env ≡ entries_words) (less : k < pattern_variables_most) where
  abbrev one : List ℕ
  one = slice_set env (4 * k) x.level

  abbrev two : List ℕ
  two = slice_set one (4 * k + 1) x.whole

  abbrev three : List ℕ
  three = slice_set two (4 * k + 2) x.first

  abbrev four : List ℕ
  four = slice_set three (4 * k + 3) x.second

  pub entry-stored : EntryStored k x env four
  unfolding entry_of
  entry-stored =
      let a : word_in four (4 * k) ≡ x.level =
      get_or-set_other three (4 * k + 3) (4 * k) _ 0 (omega arith) ∙ get_or-set_other two (4 * k + 2) (4 * k) _ 0 (omega arith) ∙ get_or-set_other one (4 * k + 1) (4 * k) _ 0 (omega arith) ∙ get_or-set_same env (4 * k) _ 0 (omega arith) in
      let b : word_in four (4 * k + 1) ≡ x.whole =
      get_or-set_other three (4 * k + 3) (4 * k + 1) _ 0 (omega arith) ∙ get_or-set_other two (4 * k + 2) (4 * k + 1) _ 0 (omega arith) ∙ get_or-set_same one (4 * k + 1) _ 0 (simp length-set (omega arith)) in
      let c : word_in four (4 * k + 2) ≡ x.first = get_or-set_other three (4 * k + 3) (4 * k + 2) _ 0 (omega arith) ∙ get_or-set_same two (4 * k + 2) _ 0 (simp length-set (omega arith)) in
      let d : word_in four (4 * k + 3) ≡ x.second = get_or-set_same three (4 * k + 3) _ 0 (simp length-set (omega arith)) in
      record { here = rw (a, b, c, d) refl; other = λ m n. let z : 4 * m + 0 ≡ 4 * m = omega arith in let f : word_in four (4 * m) ≡ word_in env (4 * m) = rw z at (far m n 0 (omega arith)) in rw (f, far m n 1 (omega arith), far m n 2 (omega arith), far m n 3 (omega arith)) refl }
    where
      far : (m : ℕ) → (m ≢ k) → (i : ℕ) → i < 4 → word_in four (4 * m + i) ≡ word_in env (4 * m + i)
      far m n i l =
          get_or-set_other three (4 * k + 3) (4 * m + i) _ 0 (omega arith) ∙ get_or-set_other two (4 * k + 2) (4 * m + i) _ 0 (omega arith) ∙ get_or-set_other one (4 * k + 1) (4 * m + i) _ 0 (omega arith)
          ∙ get_or-set_other env (4 * k) (4 * m + i) _ 0 (omega arith)

module _ (k : ℕ) (x : Entry) (old : List ℕ) where
  pub set_past : pattern_variables_most ≤ k → EntrySet k x old old
  set_past h = record { here = λ l z. absurd (omega arith); kept = λ z. refl; other = λ m n. refl }

  pub set-kept : ((entry_of old k).level ≢ 0) → EntrySet k x old old
  set-kept h = record { here = λ l z. absurd (h z); kept = λ z. refl; other = λ m n. refl }

  pub set-stored : (new : List ℕ) → (entry_of old k).level ≡ 0 → EntryStored k x old new → EntrySet k x old new
  set-stored new e s = record { here = λ l z. s.here; kept = λ h. absurd (h e); other = s.other }

-- ---- the next slot

one-not-two : (n : ℕ) → (n == 1) ≡ true → (n == 2) ≡ false
one-not-two n e = ne_eqb n 2 (λ z. let o : n ≡ 1 = eqb-true n 1 e in omega arith)

pub advance-none : (x : Entry) → Words x → advance x 0 ≡ x
unfolding advance moving_of
advance-none x h =
    either (x.level == 1)
    (λ a. let m : word32 (x.whole + 0) ≡ x.whole = omega (arith, rw a at h.low) in let n : nat_eq x.level 2 ≡ false = one-not-two x.level a in rw (a, n, m) refl)
    (λ a.
    either (x.level == 2)
    (λ b. let m : word32 (x.first + 0) ≡ x.first = omega (arith, rw (a, b) at h.low) in rw (a, b, m) refl)
    (λ b. let m : word32 (x.second + 0) ≡ x.second = omega (arith, rw (a, b) at h.low) in rw (a, b, m) refl))

pub advance-more : (x : Entry) (a b : ℕ) → advance (advance x a) b ≡ advance x (a + b)
unfolding advance
advance-more x a b =
    let m : word32 (word32 (x.whole + a) + b) ≡ word32 (x.whole + (a + b)) = omega arith in
    let n : word32 (word32 (x.first + a) + b) ≡ word32 (x.first + (a + b)) = omega arith in
    let o : word32 (word32 (x.second + a) + b) ≡ word32 (x.second + (a + b)) = omega arith in
    either (x.level == 1)
    (λ e. let z : nat_eq x.level 2 ≡ false = one-not-two x.level e in rw (e, z, m) refl)
    (λ e. either (x.level == 2) (λ f. rw (e, f, n) refl) (λ f. rw (e, f, o) refl))

pub advance-words : (x : Entry) (s : ℕ) → Words x → Words (advance x s)
unfolding advance moving_of
advance-words x s h =
    record {
      low =
          either (x.level == 1)
          (λ a. rw a (omega arith))
          (λ a. either (x.level == 2) (λ b. rw (a, b) (omega arith)) (λ b. rw (a, b) (omega arith)));
      some = h.some;
    }

pub inside-words : (work : List ℕ) (x : Entry) → Words (inside work x)
unfolding inside moving_of
inside-words work x = either (x.level == 1) (λ a. rw a (record { low = omega arith; some = λ z. omega arith })) (λ a. rw a (record { low = omega arith; some = λ z. omega arith }))

within-some : (work : List ℕ) (x : Entry) (l : List ℕ) → (x.level ≢ 0) → (within work x l).level ≢ 0
unfolding within found advance
within-some work x [] h = h
within-some work x (s ∷ ss) h = within-some work (advance (inside work x) s) ss (inside-words work x).some

pub placed-some : (work : List ℕ) (x : Entry) (l : List ℕ) → Words x → (placed work x l).level ≢ 0
unfolding placed advance
placed-some work x [] h = h.some
placed-some work x (s ∷ ss) h = within-some work (advance x s) ss h.some

placed-shift : (work : List ℕ) (x : Entry) (n m : ℕ) (l : List ℕ) → Within m l → placed work (advance x n) l ≡ placed work x (shift n l)
unfolding placed shift Within
placed-shift work x n m [] h = absurd h
placed-shift work x n m (s ∷ ss) h = rw (advance-more x n s) refl

placed-inside : (work : List ℕ) (x : Entry) (m : ℕ) (l : List ℕ) → Words x → Within m l → placed work (inside work x) l ≡ placed work x (0 ∷ l)
unfolding placed within Within
placed-inside work x m [] h w = absurd w
placed-inside work x m (s ∷ ss) h w = rw (advance-none x h) refl

-- ---- the walk

module _ (work : List ℕ) (p tag : ℕ) (tag_is : tag ≡ word_at work p 1) (x : Entry) (ok : Words x) (old : List ℕ) where
  pub columned-variable : tag ≡ 1 → (k : ℕ) → k ≡ word_at work p 2 → (new : List ℕ) (y r : Entry) → y ≡ found work x → r ≡ advance x 1 → EntrySet k y old new → Columned work p x old new r
  unfolding slots holds columns placed within
  columned-variable e k k-is new y r y-is r-is s =
      let is : pattern_at work p ≡ variable_p k = variable-is work p tag tag_is e ∙ ap variable_p (sym k-is) in
      record {
        next = rw is r-is;
        held = λ j l h z.
            let same : j ≡ k = eqb-true j k (rw is at h) in
            rw (is, same, advance-none x ok) (s.here (omega arith) (rw same at z) ∙ y-is);
        kept = λ j z. either (j == k) (λ t. let same : j ≡ k = eqb-true j k t in rw same (s.kept (rw same at z))) (λ t. s.other j (eqb-false j k t));
        other = λ j h. s.other j (eqb-false j k (rw is at h));
      }

  pub columned-none : (tag ≢ 1) → (tag ≢ 6) → (tag ≢ 7) → Columned work p x old old x
  unfolding slots holds
  columned-none a b c =
      let n : (slots (pattern_at work p) ≡ 0) × ((k : ℕ) → holds k (pattern_at work p) ≡ false) =
      other-is work p tag tag_is (λ q. (slots q ≡ 0) × ((k : ℕ) → holds k q ≡ false)) (λ y. (refl, λ k. refl)) (refl, λ k. refl) (λ y. (refl, λ k. refl)) (refl, λ k. refl) a b c in
      record {
        next = rw n.0 (sym (advance-none x ok));
        held = λ k l h z. absurd (false≢true (sym (n.1 k) ∙ h));
        kept = λ k z. refl;
        other = λ k h. refl;
      }

  both_false : (a b : Bool) → (a || b) ≡ false → (a ≡ false) × (b ≡ false)
  both_false true b h = absurd (true≢false h)
  both_false false b h = (refl, h)

  module _ (rest head : ℕ) (rest-is : rest ≡ reference_at work p 2) (head-is : head ≡ reference_at work p 3) (mid new : List ℕ) where
    module _ (e : tag ≡ 6) (y r : Entry) (a : Columned work head x old mid y) where
      pub pair-words : Words y
      pair-words = rw a.next (advance-words x _ ok)

      pub columned-pair : Columned work rest y mid new r → Columned work p x old new r
      unfolding slots holds columns
      columned-pair b =
          let is : pattern_at work p ≡ pair_p (pattern_at work head) (pattern_at work rest) = pair_is work p tag tag_is head rest head-is rest-is e in
          record {
            next = rw is (b.next ∙ rw a.next (advance-more x _ _));
            held = λ k l h z.
                rw is
                (either (holds k (pattern_at work head))
                (λ t. let here = a.held k l t z in rw t (b.kept k (λ n. placed-some work x _ ok (sym (ap (λ (y : Entry). y.level) here) ∙ n)) ∙ here))
                (λ t.
                let h2 : holds k (pattern_at work rest) ≡ true = other-holds (holds k (pattern_at work head)) (holds k (pattern_at work rest)) (rw is at h) t in
                rw t (b.held k l h2 (ap (λ (y : Entry). y.level) (a.other k t) ∙ z) ∙ rw a.next (placed-shift work x _ _ (columns (pattern_at work rest) k) (columns-within (pattern_at work rest) k h2)))));
            kept = λ k z. b.kept k (λ n. z (sym (ap (λ (y : Entry). y.level) (a.kept k z)) ∙ n)) ∙ a.kept k z;
            other = λ k h. let n = both_false (holds k (pattern_at work head)) _ (rw is at h) in b.other k n.1 ∙ a.other k n.0;
          }

    module _ (e : tag ≡ 7) (i y z r : Entry) (i-is : i ≡ inside work x) (z-is : z ≡ advance x 1) where
      pub columned-ellipsis : Columned work head i old mid y → Columned work rest z mid new r → Columned work p x old new r
      unfolding slots holds columns
      columned-ellipsis a b =
          let is : pattern_at work p ≡ ellipsis_p (pattern_at work head) (word_at work p 4) (pattern_at work rest) = ellipsis-is work p tag tag_is head rest head-is rest-is e in
          record {
            next = rw is (b.next ∙ rw z-is (advance-more x _ _));
            held = λ k l h z.
                rw is
                (either (holds k (pattern_at work head))
                (λ t.
                let here = a.held k l t z in
                rw t
                (b.kept k (λ n. placed-some work i _ (rw i-is (inside-words work x)) (sym (ap (λ (y : Entry). y.level) here) ∙ n)) ∙ here
                ∙ rw i-is (placed-inside work x _ (columns (pattern_at work head) k) ok (columns-within (pattern_at work head) k t))))
                (λ t.
                let h2 : holds k (pattern_at work rest) ≡ true = other-holds (holds k (pattern_at work head)) (holds k (pattern_at work rest)) (rw is at h) t in
                rw t (b.held k l h2 (ap (λ (y : Entry). y.level) (a.other k t) ∙ z) ∙ rw z-is (placed-shift work x _ _ (columns (pattern_at work rest) k) (columns-within (pattern_at work rest) k h2)))));
            kept = λ k z. b.kept k (λ n. z (sym (ap (λ (y : Entry). y.level) (a.kept k z)) ∙ n)) ∙ a.kept k z;
            other = λ k h. let n = both_false (holds k (pattern_at work head)) _ (rw is at h) in b.other k n.1 ∙ a.other k n.0;
          }

-- Ground 17 in all copies of an element at once is ground 17 in each, and laws of comparing there, one for each way through the code.
use Rattle.std.specs.Prelude.{◌≡◌, Option, Some, None, Result, Ok, Err, ℕ, zero, suc, ◌+◌, ◌-◌, ◌<◌, Bool, true, cond, ◌&&◌, List, [], ◌∷◌, ◌++◌, nat_eq, nat_lt, slice_index}
use Rattle.std.proofs.Math.Path.{refl, sym, ap, ap₂, subst}
use Rattle.std.proofs.Common.{◌∙◌, max, unwrap_or}
use mathlib.Core.List.{map-append}
use native.Mathlib.Omega.{arith}
use borrow.Author.Tests.{ltb-true, ltb-false}
use Rattle.words.specs.Limits.{depth_most}
use Rattle.words.specs.Lists.{all_of}
use Rattle.words.specs.ListLaws.{either}
use Rattle.expansion.specs.Rules.{Template, pair_t, ellipsis_t, drivers}
use Rattle.expansion.specs.Transcribe.{all_below}
use Rattle.rule_cells.specs.Cells.{template_at}
use Rattle.environments.specs.Environment.{Environment, share_of, counts, within, enter, lengths_by, count_by, agree_by}
use Rattle.environments.specs.BelowLaws.{and-turned, below_true, below-cong, below_both, below_false, below-fewer}
use Rattle.environments.specs.EnvironmentLaws.{entering-whole, entering-one, entering-first, entering-second}
use Rattle.environments.specs.Sound.{Plain, variable, insert, constant, empty, pairs, ellipsis}
use Rattle.environments.specs.Entries.{environment_at}
use Rattle.environments.specs.Lengths.{Driving, driving, after, Copies, Counted, Drives}
use Rattle.environments.specs.LengthLaws.{Told, told, copies-of}
use Rattle.environments.specs.Reached.{same_by, same_below, larger, most_below, agree_below, same_in, most_in, agree_in, Reached, DiffersIn, CountedIn}
use Rattle.environments.specs.declared.lengths.Differ.{Differ}

-- ---- the larger of two numbers

below-larger : (g : ℕ → Bool) (a b : ℕ) → (all_below g a && all_below g b) ≡ all_below g (larger a b)
unfolding larger
below-larger g a b =
    either (nat_lt a b)
    (λ t. rw t (below-fewer g a b (omega (arith, ltb-true a b t))))
    (λ t. rw t (and-turned (all_below g a) (all_below g b) ∙ below-fewer g b a (ltb-false a b t)))

pub larger-max : (a b : ℕ) → larger a b ≡ max a b
unfolding larger
larger-max a b = either (nat_lt a b) (λ t. rw t (omega (arith, ltb-true a b t))) (λ t. rw t (omega (arith, ltb-false a b t)))

-- ---- environments that a copy does not tell apart

-- they have the same lists under none and one of the innermost indices
record Alike (v u : Environment) : Type 0 where
  whole_same : (k : ℕ) → (v k).whole ≡ (u k).whole
  one_same : (k : ℕ) → (v k).one ≡ (u k).one
  first-same : (k : ℕ) → (v k).first ≡ (u k).first
  second-same : (k : ℕ) → (v k).second ≡ (u k).second

enter-alike : (i : ℕ) (v u : Environment) → ((k : ℕ) → (v k).whole ≡ (u k).whole) → ((k : ℕ) → (v k).first ≡ (u k).first) → ((k : ℕ) → (v k).second ≡ (u k).second) → Alike (enter i v) (enter i u)
unfolding enter
enter-alike i v u a b c =
    record {
      whole_same = λ k. entering-whole k i (v k).first (v k) ∙ a k ∙ sym (entering-whole k i (u k).first (u k));
      one_same = λ k. entering-one k i (v k).first (v k) ∙ ap₂ (within k i) (b k) (a k) ∙ sym (entering-one k i (u k).first (u k));
      first-same = λ k. entering-first k i (v k).first (v k) ∙ b k ∙ sym (entering-first k i (u k).first (u k));
      second-same = λ k. entering-second k i (v k).first (v k) ∙ c k ∙ sym (entering-second k i (u k).first (u k));
    }

module _ (v u : Environment) (alike : Alike v u) where
  counts-alike : (k d : ℕ) → d < depth_most → counts d (v k) ≡ counts d (u k)
  unfolding counts
  counts-alike k zero h = ap₂ share_of (alike.first-same k) (alike.whole_same k)
  counts-alike k (suc zero) h = ap₂ share_of (alike.second-same k) (alike.one_same k)
  counts-alike k (suc (suc d)) h = absurd (omega arith)

  drivers-alike : (j : ℕ) {t : Template} → Plain t → lengths_by v j t ≡ lengths_by u j t
  unfolding lengths_by drivers
  drivers-alike j (variable {k} {d} h m) =
      either (nat_lt j d) (λ e. rw e (ap (λ (c : ℕ). c ∷ []) (counts-alike k (d - suc j) (omega arith)))) (λ e. rw e refl)
  drivers-alike j insert = refl
  drivers-alike j (constant x y z) = refl
  drivers-alike j empty = refl
  drivers-alike j (pairs {a} {b} x y) =
      map-append _ (drivers j a) (drivers j b) ∙ ap₂ ◌++◌ (drivers-alike j x) (drivers-alike j y) ∙ sym (map-append _ (drivers j a) (drivers j b))
  drivers-alike j (ellipsis {a} {b} x y) =
      map-append _ (drivers (suc j) a) (drivers j b) ∙ ap₂ ◌++◌ (drivers-alike (suc j) x) (drivers-alike j y) ∙ sym (map-append _ (drivers (suc j) a) (drivers j b))

agree-alike : (v u : Environment) → Alike v u → {t : Template} → Plain t → agree_by v t ≡ agree_by u t
unfolding agree_by count_by
agree-alike v u s (variable h m) = refl
agree-alike v u s insert = refl
agree-alike v u s (constant x y z) = refl
agree-alike v u s empty = refl
agree-alike v u s (pairs x y) = ap₂ ◌&&◌ (agree-alike v u s x) (agree-alike v u s y)
agree-alike v u s (ellipsis {a = e} x y) =
    ap₂ ◌&&◌ (ap (λ (l : List ℕ). all_of (nat_eq (slice_index l 0)) l) (drivers-alike v u s 0 x))
    (ap₂ ◌&&◌
    (ap (λ (l : List ℕ). all_below (λ i. agree_by (enter i v) e) (slice_index l 0)) (drivers-alike v u s 0 x)
    ∙ below-cong _ _ _ (λ i. agree-alike (enter i v) (enter i u) (enter-alike i v u s.whole_same s.first-same s.second-same) x))
    (agree-alike v u s y))

-- a copy within a copy: the outer index does not tell
agree-inner : (v : Environment) (i j : ℕ) {e : Template} → Plain e → agree_by (enter j (enter i v)) e ≡ agree_by (enter j v) e
unfolding enter
agree-inner v i j p =
    agree-alike (enter j (enter i v)) (enter j v) (enter-alike j (enter i v) v (λ k. entering-whole k i (v k).first (v k)) (λ k. entering-first k i (v k).first (v k)) (λ k. entering-second k i (v k).first (v k))) p

-- ---- the law

below-most : (v : Environment) (n : ℕ) (e : Template) (g : ℕ → Bool) → all_below (λ i. all_below g (count_by (enter i v) e)) n ≡ all_below g (most_below v n e)
unfolding all_below most_below
below-most v zero e g = refl
below-most v (suc n) e g = ap (λ (b : Bool). b && all_below g (count_by (enter n v) e)) (below-most v n e g) ∙ below-larger g (most_below v n e) (count_by (enter n v) e)

pub reached-pair : (r : Option ℕ) (v : Environment) (a b : Template) → agree_in r v (pair_t a b) ≡ (agree_in r v a && agree_in r v b)
unfolding agree_in agree_below agree_by
reached-pair None v a b = refl
reached-pair (Some n) v a b = below_both (λ i. agree_by (enter i v) a) (λ i. agree_by (enter i v) b) n

-- ground 17 of an ellipsis: its lists wherever it is reached, then its element in as many copies as the largest of their counts, and the
-- rest
pub reached-ellipsis : (o : Option ℕ) (v : Environment) (e r : Template) → Plain e
    → agree_in o v (ellipsis_t e r) ≡ (same_in o v e && (agree_in (Some (most_in o v e)) v e && agree_in o v r))
unfolding agree_in same_in most_in agree_below same_below agree_by same_by
reached-ellipsis None v e r p = refl
reached-ellipsis (Some n) v e r p =
    below_both _ _ n
    ∙ ap (λ (b : Bool). same_below v n e && b)
    (below_both _ _ n
    ∙ ap (λ (b : Bool). b && all_below (λ i. agree_by (enter i v) r) n)
    (below-cong _ _ n (λ i. below-cong _ _ (count_by (enter i v) e) (λ j. agree-inner v i j p)) ∙ below-most v n e (λ j. agree_by (enter j v) e)))

-- ---- going through the copies

module _ (work env : List ℕ) (e : ℕ) where
  pub reached-begins : Reached work env e (Some 0) 0
  unfolding same_in most_in same_below most_below all_below
  reached-begins = record { same = λ w. refl; most = λ w. refl }

  -- x is what the lists tell in copy i
  module _ (i : ℕ) (x : Driving) (x-is : (w : ℕ) → x ≡ after (Ok None) (lengths_by (enter i (environment_at work env w)) 0 (template_at work e))) where
    tells : (w : ℕ) (y : Driving) → x ≡ y → Told (lengths_by (enter i (environment_at work env w)) 0 (template_at work e)) y
    tells w y q =
        let ls : List ℕ = lengths_by (enter i (environment_at work env w)) 0 (template_at work e) in
        subst (Told ls) (sym (x-is w) ∙ q) (told ls)

    -- a copy with lists of one length, of which there may be none
    reached-with : (c d : ℕ) → ((w : ℕ) → (count_by (enter i (environment_at work env w)) (template_at work e) ≡ d) × (same_by (enter i (environment_at work env w)) (template_at work e) ≡ true))
        → Reached work env e (Some i) c → Reached work env e (Some (i + 1)) (larger c d)
    unfolding same_in most_in same_below most_below all_below
    reached-with c d f g =
        let s : i + 1 ≡ suc i = omega arith in
        rw s (record {
          same = λ w. rw ((f w).1, ← g.same w) refl;
          most = λ w. rw ((f w).0, ← g.most w) refl;
        })

    pub reached-more : (c : ℕ) (o : Option ℕ) → x ≡ Ok o → Reached work env e (Some i) c → Reached work env e (Some (i + 1)) (max c (unwrap_or o 0))
    unfolding count_by same_by all_of
    reached-more c None q g = rw (← larger-max c 0) (reached-with c 0 (λ w. let n = tells w (Ok None) q in (rw n refl, rw n refl)) g)
    reached-more c (Some d) q g = rw (← larger-max c d) (reached-with c d (λ w. let n = tells w (Ok (Some d)) q in (sym n.0, rw (← n.0) (sym n.1))) g)

    pub reached-differs : (d : Differ) (n : ℕ) → x ≡ Err d → i < n → DiffersIn work env e (Some n)
    unfolding same_in same_below same_by count_by
    reached-differs d n q l = record { differ = λ w. sym (below_false _ n i l (sym (tells w (Err d) q))) }

-- ---- where the lists are the same in each copy

module _ (work env : List ℕ) (e : ℕ) (x : Driving) (x-is : Drives work env 0 e (Ok None) x) (still : (v : Environment) (i : ℕ) → lengths_by (enter i v) 0 (template_at work e) ≡ lengths_by v 0 (template_at work e)) where
  most-still : (v : Environment) (n : ℕ) → most_below v (suc n) (template_at work e) ≡ count_by v (template_at work e)
  unfolding most_below count_by larger
  most-still v zero = rw (still v 0) (larger-none _)
    where
      larger-none : (c : ℕ) → cond (nat_lt 0 c) c 0 ≡ c
      larger-none c = either (nat_lt 0 c) (λ t. rw t refl) (λ t. let z : 0 ≡ c = omega (arith, ltb-false 0 c t) in rw t z)
  most-still v (suc n) = rw (most-still v n, still v (suc n)) (larger-self _)
    where
      larger-self : (c : ℕ) → cond (nat_lt c c) c c ≡ c
      larger-self c = either (nat_lt c c) (λ t. rw t refl) (λ t. rw t refl)

  module _ (n : ℕ) (some : 0 < n) where
    still-with : (d : ℕ) → Copies work env e d → Reached work env e (Some n) d
    unfolding same_in most_in same_below same_by count_by driving
    still-with d f =
        let s : n ≡ suc (n - 1) = omega arith in
        record {
          same = λ w. below_true _ n (λ i. rw (still (environment_at work env w) i, ← f.count w) (f.same w));
          most = λ w. f.count w ∙ sym (ap (λ (m : ℕ). most_below (environment_at work env w) m (template_at work e)) s ∙ most-still (environment_at work env w) (n - 1));
        }

    pub reached-still : (o : Option ℕ) → x ≡ Ok o → Reached work env e (Some n) (unwrap_or o 0)
    reached-still o q = still-with (unwrap_or o 0) (copies-of work env e x x-is o q)

-- ---- where nothing is round

pub reached-once : (work env : List ℕ) (e : ℕ) (r : Result ℕ Differ) → Counted work env e r → CountedIn work env e None r
unfolding same_in most_in same_by count_by driving
reached-once work env e (Ok c) k = record { same = λ w. rw (← k.count w) (k.same w); most = k.count }
reached-once work env e (Err d) k = record { differ = k.differ }

-- Transcription by an environment is the definition's: an environment that knows what each variable takes under the innermost
-- indices still knows it in every copy.
use Rattle.std.specs.Prelude.{◌≡◌, ℕ, zero, suc, ◌+◌, ◌-◌, ◌<◌, ◌≤◌, true, ◌&&◌, List, [], ◌∷◌, ◌++◌, map, reverse, length, take, nat_eq, nat_lt, slice_index}
use Rattle.std.proofs.Math.Path.{refl, sym, ap, ap₂}
use Rattle.std.proofs.Common.{◌∙◌, arith}
use mathlib.Core.List.{map-append}
use Rattle.std.proofs.Math.Option.{Option, none, some}
use borrow.Author.Tests.{ltb-true}
use Rattle.words.specs.Limits.{pattern_variables_most, depth_most}
use Rattle.words.specs.Lists.{all_of}
use Rattle.recipe.specs.Tree.{Tree, pair}
use Rattle.expansion.specs.Rules.{Pattern, variable_p, literal_p, wildcard_p, constant_p, empty_p, pair_p, ellipsis_p, Template, drivers}
use Rattle.expansion.specs.Match.{holds, part, taken_count}
use Rattle.expansion.specs.Transcribe.{copies, all_below, taken, lengths, copy_count, equal_lengths, transcribe}
use Rattle.words.specs.ListLaws.{either}
use Rattle.environments.specs.Environment.{Ellipsis, Taking, Environment, takes, share_of, counts, within, entering, enter, lengths_by, count_by, agree_by, result_by, entered, entered_next, taking, environment}
use Rattle.environments.specs.BelowLaws.{below-cong}
use Rattle.environments.specs.Sound.{Sound, variable, insert, constant, empty, pairs, ellipsis}

-- ---- parts, index by index

part-one : (p : Pattern) (k i : ℕ) (t : Tree) → part p k (i ∷ []) t ≡ within k i (entered k p) (part p k [] t)
unfolding part within entered
part-one (variable_p j) k i t = refl
part-one (literal_p x) k i t = refl
part-one wildcard_p k i t = refl
part-one (constant_p a) k i t = refl
part-one empty_p k i t = refl
part-one (pair_p p q) k i t = either (holds k p) (λ h. rw h (part-one p k i _)) (λ h. rw h (part-one q k i _))
part-one (ellipsis_p p n q) k i t = either (holds k p) (λ h. rw h refl) (λ h. rw h (part-one q k i _))

part-two : (p : Pattern) (k j i : ℕ) (t : Tree) → part p k (j ∷ i ∷ []) t ≡ within k i (entered_next k p) (part p k (j ∷ []) t)
unfolding part within entered_next
part-two (variable_p m) k j i t = refl
part-two (literal_p x) k j i t = refl
part-two wildcard_p k j i t = refl
part-two (constant_p a) k j i t = refl
part-two empty_p k j i t = refl
part-two (pair_p p q) k j i t = either (holds k p) (λ h. rw h (part-two p k j i _)) (λ h. rw h (part-two q k j i _))
part-two (ellipsis_p p n q) k j i t = either (holds k p) (λ h. rw h (part-one p k i _)) (λ h. rw h (part-two q k j i _))

-- ---- entering a copy

pub entering-whole : (k i : ℕ) (o : Option Ellipsis) (x : Taking) → (entering k i o x).whole ≡ x.whole
unfolding entering
entering-whole k i none x = refl
entering-whole k i (some q) x = refl

pub entering-one : (k i : ℕ) (o : Option Ellipsis) (x : Taking) → (entering k i o x).one ≡ within k i o x.whole
unfolding entering within
entering-one k i none x = refl
entering-one k i (some q) x = refl

-- a second index is entered only where a first is
entering-two : (p : Pattern) (k i : ℕ) (x : Taking) → x.second ≡ entered_next k p → (entering k i (entered k p) x).two ≡ within k i (entered_next k p) x.one
unfolding entering within entered entered_next
entering-two (variable_p m) k i x e = refl
entering-two (literal_p y) k i x e = refl
entering-two wildcard_p k i x e = refl
entering-two (constant_p a) k i x e = refl
entering-two empty_p k i x e = refl
entering-two (pair_p p q) k i x e = either (holds k p) (λ h. rw h (entering-two p k i x (rw h at e))) (λ h. rw h (entering-two q k i x (rw h at e)))
entering-two (ellipsis_p p n q) k i x e =
    either (holds k p)
    (λ h. rw h (ap (λ (o : Option Ellipsis). within k i o x.one) (rw h at e)))
    (λ h. rw h (entering-two q k i x (rw h at e)))

pub entering-first : (k i : ℕ) (o : Option Ellipsis) (x : Taking) → (entering k i o x).first ≡ x.first
unfolding entering
entering-first k i none x = refl
entering-first k i (some q) x = refl

pub entering-second : (k i : ℕ) (o : Option Ellipsis) (x : Taking) → (entering k i o x).second ≡ x.second
unfolding entering
entering-second k i none x = refl
entering-second k i (some q) x = refl

-- ---- what the ellipses take

count-first : (p : Pattern) (k : ℕ) (t : Tree) → taken_count p k [] t ≡ share_of (entered k p) (part p k [] t)
unfolding taken_count share_of entered part
count-first (variable_p j) k t = refl
count-first (literal_p x) k t = refl
count-first wildcard_p k t = refl
count-first (constant_p a) k t = refl
count-first empty_p k t = refl
count-first (pair_p p q) k t = either (holds k p) (λ h. rw h (count-first p k _)) (λ h. rw h (count-first q k _))
count-first (ellipsis_p p n q) k t = either (holds k p) (λ h. rw h refl) (λ h. rw h (count-first q k _))

count-second : (p : Pattern) (k i : ℕ) (t : Tree) → taken_count p k (i ∷ []) t ≡ share_of (entered_next k p) (part p k (i ∷ []) t)
unfolding taken_count share_of entered_next part
count-second (variable_p j) k i t = refl
count-second (literal_p x) k i t = refl
count-second wildcard_p k i t = refl
count-second (constant_p a) k i t = refl
count-second empty_p k i t = refl
count-second (pair_p p q) k i t = either (holds k p) (λ h. rw h (count-second p k i _)) (λ h. rw h (count-second q k i _))
count-second (ellipsis_p p n q) k i t = either (holds k p) (λ h. rw h (count-first p k _)) (λ h. rw h (count-second q k i _))

-- ---- copies

pub copies-cong : (f g : ℕ → Tree) (k n : ℕ) (a b : Tree) → ((i : ℕ) → f i ≡ g i) → a ≡ b → copies f k n a ≡ copies g k n b
unfolding copies
copies-cong f g k zero a b h e = e
copies-cong f g k (suc n) a b h e = ap₂ pair (h k) (copies-cong f g (suc k) n a b h e)

-- ---- environments at a place of the template

-- x is what variable k takes at these indices
record Standing (p : Pattern) (used : Tree) (is : List ℕ) (k : ℕ) (x : Taking) : Type 0 where
  takes-is : (d : ℕ) → d ≤ depth_most → d ≤ length is → takes d x ≡ taken p used is k d
  first-is : x.first ≡ entered k p
  second_is : x.second ≡ entered_next k p

module _ (p : Pattern) (used : Tree) where
  abbrev Stands : List ℕ → Environment → Type 0
  Stands is v = (k : ℕ) → k < pattern_variables_most → holds k p ≡ true → Standing p used is k (v k)

  standing-enter : (i : ℕ) (is : List ℕ) (k : ℕ) (x : Taking) → Standing p used is k x → Standing p used (i ∷ is) k (entering k i x.first x)
  unfolding takes taken
  standing-enter i is k x s =
      record { takes-is = known is s; first-is = entering-first k i x.first x ∙ s.first-is; second_is = entering-second k i x.first x ∙ s.second_is }
    where
      known : (is : List ℕ) → Standing p used is k x → (d : ℕ) → d ≤ depth_most → d ≤ length (i ∷ is) → takes d (entering k i x.first x) ≡ taken p used (i ∷ is) k d
      known is s zero a b = entering-whole k i x.first x ∙ s.takes-is 0 (omega arith) (omega arith)
      known is s (suc zero) a b =
          entering-one k i x.first x ∙ ap₂ (within k i) s.first-is (s.takes-is 0 (omega arith) (omega arith)) ∙ sym (part-one p k i used)
      known [] s (suc (suc d)) a b = absurd (omega arith)
      known (j ∷ is) s (suc (suc zero)) a b =
          ap (λ (o : Option Ellipsis). (entering k i o x).two) s.first-is ∙ entering-two p k i x s.second_is
          ∙ ap (within k i (entered_next k p)) (s.takes-is 1 (omega arith) (omega arith)) ∙ sym (part-two p k j i used)
      known (j ∷ is) s (suc (suc (suc d))) a b = absurd (omega arith)

  stands-enter : (i : ℕ) (is : List ℕ) (v : Environment) → Stands is v → Stands (i ∷ is) (enter i v)
  unfolding enter
  stands-enter i is v s k l h = standing-enter i is k (v k) (s k l h)

  abbrev long : List ℕ → ℕ × ℕ → ℕ
  long is x = taken_count p x.0 (reverse (take x.1 is)) used

  abbrev long_by : Environment → ℕ × ℕ → ℕ
  long_by v x = counts x.1 (v x.0)

  standing-long : (is : List ℕ) (k : ℕ) (x : Taking) → Standing p used is k x → (d : ℕ) → d < depth_most → d ≤ length is → counts d x ≡ long is (k, d)
  unfolding counts takes taken
  standing-long is k x s zero l m = ap₂ share_of s.first-is (s.takes-is 0 (omega arith) m) ∙ sym (count-first p k used)
  standing-long [] k x s (suc zero) l m = absurd (omega arith)
  standing-long (i ∷ is) k x s (suc zero) l m = ap₂ share_of s.second_is (s.takes-is 1 (omega arith) m) ∙ sym (count-second p k i used)
  standing-long is k x s (suc (suc d)) l m = absurd (omega arith)

  -- a driver has one ellipsis fewer than its variable, since the element's own is not entered
  drivers-is : (is : List ℕ) (v : Environment) (j : ℕ) {n : ℕ} {t : Template} → Stands is v → n ≤ suc (j + length is) → Sound p n t
      → map (long_by v) (drivers j t) ≡ map (long is) (drivers j t)
  unfolding drivers
  drivers-is is v j s b (variable {k = k} {d = d} l h m f) =
      either (nat_lt j d)
      (λ t. rw t (ap (λ (c : ℕ). c ∷ []) (standing-long is k (v k) (s k l h) (d - suc j) (omega (arith, ltb-true j d t)) (omega (arith, ltb-true j d t)))))
      (λ t. rw t refl)
  drivers-is is v j s b insert = refl
  drivers-is is v j s b (constant x y z) = refl
  drivers-is is v j s b empty = refl
  drivers-is is v j s b (pairs {a = a} {b = c} x y) =
      map-append (long_by v) (drivers j a) (drivers j c) ∙ ap₂ ◌++◌ (drivers-is is v j s b x) (drivers-is is v j s b y) ∙ sym (map-append (long is) (drivers j a) (drivers j c))
  drivers-is is v j s b (ellipsis {a = a} {b = c} x y) =
      map-append (long_by v) (drivers (suc j) a) (drivers j c) ∙ ap₂ ◌++◌ (drivers-is is v (suc j) s (omega arith) x) (drivers-is is v j s b y)
      ∙ sym (map-append (long is) (drivers (suc j) a) (drivers j c))

  lengths-is : (is : List ℕ) (v : Environment) {n : ℕ} {e : Template} → Stands is v → n ≤ length is → Sound p (suc n) e → lengths_by v 0 e ≡ lengths p used is e
  unfolding lengths_by lengths
  lengths-is is v s b x = drivers-is is v 0 s (omega arith) x

  count-is : (is : List ℕ) (v : Environment) {n : ℕ} {e : Template} → Stands is v → n ≤ length is → Sound p (suc n) e → count_by v e ≡ copy_count p used is e
  unfolding count_by copy_count
  count-is is v s b x = ap (λ (l : List ℕ). slice_index l 0) (lengths-is is v s b x)

  agree_by-is : (is : List ℕ) (v : Environment) {n : ℕ} {t : Template} → Stands is v → n ≤ length is → Sound p n t → agree_by v t ≡ equal_lengths p used is t
  unfolding agree_by equal_lengths
  agree_by-is is v s b (variable l h m f) = refl
  agree_by-is is v s b insert = refl
  agree_by-is is v s b (constant x y z) = refl
  agree_by-is is v s b empty = refl
  agree_by-is is v s b (pairs x y) = ap₂ ◌&&◌ (agree_by-is is v s b x) (agree_by-is is v s b y)
  agree_by-is is v s b (ellipsis {a = e} x y) =
      ap₂ ◌&&◌ (ap₂ (λ (c : ℕ) (l : List ℕ). all_of (nat_eq c) l) (count-is is v s b x) (lengths-is is v s b x))
      (ap₂ ◌&&◌
      (ap (all_below (λ i. agree_by (enter i v) e)) (count-is is v s b x) ∙ below-cong _ _ _ (λ i. agree_by-is (i ∷ is) (enter i v) (stands-enter i is v s) (omega arith) x))
      (agree_by-is is v s b y))

  result_by-is : (is : List ℕ) (v : Environment) {n : ℕ} {t : Template} → Stands is v → n ≤ length is → Sound p n t → result_by v t ≡ transcribe p used is t
  unfolding result_by transcribe
  result_by-is is v s b (variable {k = k} {d = d} l h m f) = (s k l h).takes-is d m (omega arith)
  result_by-is is v s b insert = refl
  result_by-is is v s b (constant x y z) = refl
  result_by-is is v s b empty = refl
  result_by-is is v s b (pairs x y) = ap₂ pair (result_by-is is v s b x) (result_by-is is v s b y)
  result_by-is is v s b (ellipsis {a = e} {b = r} x y) =
      ap (λ (c : ℕ). copies (λ i. result_by (enter i v) e) 0 c (result_by v r)) (count-is is v s b x)
      ∙ copies-cong _ _ 0 (copy_count p used is e) _ _ (λ i. result_by-is (i ∷ is) (enter i v) (stands-enter i is v s) (omega arith) x) (result_by-is is v s b y)

-- ---- the whole template

-- the environment of the pattern's variables
abbrev pub Agrees : Pattern → Tree → Environment → Type 0
Agrees p used v = (k : ℕ) → k < pattern_variables_most → holds k p ≡ true → v k ≡ environment p used k

module _ (p : Pattern) (used : Tree) (v : Environment) where
  agrees-stands : Agrees p used v → Stands p used [] v
  unfolding environment taking takes taken
  agrees-stands a k l h = rw (a k l h) (record { takes-is = known; first-is = refl; second_is = refl })
    where
      known : (d : ℕ) → d ≤ depth_most → d ≤ 0 → takes d (environment p used k) ≡ taken p used [] k d
      known zero m b = refl
      known (suc d) m b = absurd (omega arith)

  pub result-is : (t : Template) → Agrees p used v → Sound p 0 t → result_by v t ≡ transcribe p used [] t
  result-is t a s = result_by-is p used [] v (agrees-stands a) (omega arith) s

  pub agree-is : (t : Template) → Agrees p used v → Sound p 0 t → agree_by v t ≡ equal_lengths p used [] t
  agree-is t a s = agree_by-is p used [] v (agrees-stands a) (omega arith) s

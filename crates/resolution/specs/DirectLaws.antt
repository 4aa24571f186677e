-- Laws of bindings found from the outside in, one for each way through the code.
use Rattle.std.specs.Prelude.{◌≡◌, refl, false, List, ℕ, ◌<◌, eqb, length}
use Rattle.std.proofs.Math.Path.{sym, ap}
use Rattle.std.proofs.Common.{◌∙◌, ne_eqb, eqb-true}
use Rattle.std.proofs.Math.Bool.{true}
use Rattle.std.proofs.Math.Option.{none}
use native.Mathlib.Omega.{arith}
use Rattle.recipe.specs.Name.{Name, binding_key, mark_name, toggle}
use Rattle.arena.specs.Offsets.{OWN, TAG, INNER, STEP, KEY, BOUND-KEY, BOUND-NUMBER, BOUND-COUNT, BOUND-NEWEST}
use Rattle.arena.specs.Arena.{word_at, reference_at, step_limit, newest, give_key, marked, is_own, rebound, wrap_at, origin_name, node_name, name_at, number_of}
use Rattle.words.specs.ListLaws.{either}
use Rattle.arena.specs.ArenaLaws.{word_at-some, wrap_at-none, wrap_at-mark, wrap_at-binder, wrap_at-number, marked-is, marked-binding, binding_key-of}
use Rattle.resolution.specs.BinderLaws.{own-number, own-binding, own-count, own-newest, few-same, own-all}
use Rattle.resolution.specs.Names.{Summed}
use Rattle.resolution.specs.Direct.{SkipsTo, Passes, IsMark, OneMark, mark_once, count_of, LoneMark, OnlyMark, Bare, Gives, Finds}

-- ---- one mark or none

mark_once-some : (m : ℕ) (x : Name) → (m ≡ 0 → ⊥) → mark_once m x ≡ mark_name m x
unfolding mark_once
mark_once-some m x h = rw (ne_eqb m 0 h)

module _ (number m : ℕ) (x : Name) (bare : Bare number x) where
  once-number : (mark_once m x).number ≡ number
  unfolding mark_once mark_name
  once-number = either (eqb m 0) (λ t. rw t bare.number_is) (λ t. rw t bare.number_is)

  once-binding : (mark_once m x).binding ≡ none
  unfolding mark_once mark_name
  once-binding = either (eqb m 0) (λ t. rw t bare.no-binding) (λ t. rw t bare.no-binding)

  once-count : length (mark_once m x).marks ≡ count_of m
  unfolding mark_once mark_name count_of toggle
  once-count = either (eqb m 0) (λ t. rw (t, bare.no-marks)) (λ t. rw (t, bare.no-marks))

  once-newest : newest (mark_once m x).marks ≡ m
  unfolding mark_once mark_name newest toggle
  once-newest = either (eqb m 0) (λ t. rw (t, bare.no-marks) (sym (eqb-true m 0 t))) (λ t. rw (t, bare.no-marks))

  once-few : length (mark_once m x).marks < 2
  unfolding count_of
  once-few = rw once-count (either (eqb m 0) (λ t. rw t (omega arith)) (λ t. rw t (omega arith)))

-- ---- cells that are passed

rebound-idle : (work : List ℕ) (w : ℕ) (x : Name) → is_own work (wrap_at work) w x ≡ false → rebound work (wrap_at work) w x ≡ x
unfolding rebound
rebound-idle work w x h = rw h

module _ (work : List ℕ) (w tag : ℕ) (tag_is : tag ≡ word_at work w TAG) where
  some_word : (tag ≡ 0 → ⊥) → 0 < w
  some_word h = word_at-some work w 1 (omega arith) (λ z. h (tag_is ∙ z))

  pub binder-skips : tag ≡ 3 → (number v : ℕ) → v ≡ word_at work w BOUND-NUMBER → (v ≡ number → ⊥) → SkipsTo work number w
  binder-skips t number v e h x n =
      wrap_at-binder work w (some_word (λ z. omega arith)) (sym tag_is ∙ t) x
      ∙ rebound-idle work w _ (own-number work w _ (λ z. h (e ∙ z ∙ wrap_at-number work (reference_at work w INNER) x ∙ n)))

  pub mark-passes : tag ≡ 1 → (number : ℕ) → Passes work number w (reference_at work w INNER)
  mark-passes t number x n = ap (λ (y : Name). y.binding) (wrap_at-mark work w (some_word (λ z. omega arith)) (sym tag_is ∙ t) x) ∙ marked-binding (word_at work w STEP) _

  pub mark-cell : tag ≡ 1 → (r : ℕ) → r ≡ word_at work w STEP → (r ≡ 0 → ⊥) → r < step_limit → IsMark work w r
  mark-cell t r e h l =
      record {
        some-step = h;
        means = λ x.
            wrap_at-mark work w (some_word (λ z. omega arith)) (sym tag_is ∙ t) x
            ∙ ap (λ (m : ℕ). marked m (wrap_at work (reference_at work w INNER) x)) (sym e)
            ∙ marked-is r _ l;
      }

-- ---- wraps

module _ (work : List ℕ) (number w : ℕ) where
  pub skip-passes : SkipsTo work number w → Passes work number w (reference_at work w INNER)
  skip-passes s x n = ap (λ (y : Name). y.binding) (s x n)

  pub passes_on : (at r : ℕ) → Passes work number w at → Passes work number at (reference_at work at INNER) → r ≡ reference_at work at INNER → Passes work number w r
  passes_on at r p q e x n = p x n ∙ q x n ∙ ap (λ (v : ℕ). (wrap_at work v x).binding) (sym e)

  pub passes-ends : (at : ℕ) → Passes work number w at → at ≡ 0 → Passes work number w 0
  passes-ends at p e x n = p x n ∙ ap (λ (v : ℕ). (wrap_at work v x).binding) e

  pub skip-mark : (mark : ℕ) → SkipsTo work number w → OneMark work number w mark mark
  skip-mark mark s x n = ap (mark_once mark) (s x n)

  pub first-mark : (mark r : ℕ) → mark ≡ 0 → IsMark work w r → OneMark work number w mark r
  unfolding mark_once
  first-mark mark r e c x n = rw e (c.means x ∙ sym (mark_once-some r _ c.some-step))

-- a mark around what is left of a wrap
abbrev pub Around : List ℕ → (number w at mark : ℕ) → Type 0
Around work number w at mark = (x : Name) → x.number ≡ number → wrap_at work w x ≡ mark_once mark (wrap_at work at x)

module _ (work : List ℕ) (number w : ℕ) where
  pub around-begins : Around work number w w 0
  unfolding mark_once
  around-begins x n = refl

  pub around-on : (at mark r v : ℕ) → Around work number w at mark → OneMark work number at mark r → v ≡ reference_at work at INNER → Around work number w v r
  around-on at mark r v a o e x n = a x n ∙ o x n ∙ ap (λ (u : ℕ). mark_once r (wrap_at work u x)) (sym e)

  pub around-ends : (at mark : ℕ) → Around work number w at mark → at ≡ 0 → LoneMark work number w mark
  around-ends at mark a e x n = a x n ∙ ap (λ (u : ℕ). mark_once mark (wrap_at work u x)) e ∙ ap (mark_once mark) (wrap_at-none work x)

-- ---- a name's own wrap and a pending one

module _ (work : List ℕ) (number own w : ℕ) where
  pub only-pending : (r l : ℕ) → LoneMark work number own l → l ≡ 0 → LoneMark work number w r → OnlyMark work number own w r
  unfolding mark_once
  only-pending r l n z m x e = ap (wrap_at work w) (n x e ∙ ap (λ (v : ℕ). mark_once v x) z) ∙ m x e

-- a node's name is bare before any wrap
node-bare : (work : List ℕ) (node number : ℕ) → number ≡ number_of work node → Bare number (node_name work node)
unfolding node_name origin_name number_of
node-bare work node number n = record { number_is = sym n; no-marks = refl; no-binding = refl }

-- so that one mark or none is all of its summary
pub marked-summed : (work : List ℕ) (node w number own m k : ℕ) → number ≡ number_of work node → own ≡ reference_at work node OWN → OnlyMark work number own w m → k ≡ count_of m → Summed (name_at work node w) 0 k m
unfolding name_at binding_key
marked-summed work node w number own m k n o f e =
    let x = node_name work node in
    let bare = node-bare work node number n in
    let means : name_at work node w ≡ mark_once m x = ap (λ (v : ℕ). wrap_at work w (wrap_at work v x)) (sym o) ∙ f x bare.number_is in
    rw means
    (record {
      binding-is = sym (ap binding_key (once-binding number m x bare));
      count-is = e ∙ sym (once-count number m x bare);
      newest-is = sym (once-newest number m x bare);
      most = omega (arith, once-few number m x bare, once-count number m x bare);
    })

-- ---- binders

module _ (work : List ℕ) (number w mark : ℕ) where
  gives_nothing : ((x : Name) → Bare number x → is_own work (wrap_at work) w (mark_once mark x) ≡ false) → Gives work number w mark 0
  unfolding binding_key
  gives_nothing h x b = sym (ap (λ (y : Name). binding_key y.binding) (rebound-idle work w (mark_once mark x) (h x b)) ∙ ap binding_key (once-binding number mark x b))

  pub gives-number : (v : ℕ) → v ≡ word_at work w BOUND-NUMBER → (v ≡ number → ⊥) → Gives work number w mark 0
  gives-number v e h = gives_nothing λ x b. own-number work w _ (λ z. h (e ∙ z ∙ once-number number mark x b))

  pub gives-binding : (v : ℕ) → v ≡ word_at work w BOUND-KEY → (v ≡ 0 → ⊥) → Gives work number w mark 0
  unfolding binding_key
  gives-binding v e h = gives_nothing λ x b. own-binding work w _ (λ z. h (e ∙ z ∙ ap binding_key (once-binding number mark x b)))

  pub gives-count : (v u : ℕ) → v ≡ word_at work w BOUND-COUNT → u ≡ count_of mark → (v ≡ u → ⊥) → Gives work number w mark 0
  gives-count v u e f h = gives_nothing λ x b. own-count work w _ (λ z. h (e ∙ z ∙ once-count number mark x b ∙ sym f))

  pub gives-newest : (v : ℕ) → v ≡ word_at work w BOUND-NEWEST → (v ≡ mark → ⊥) → Gives work number w mark 0
  gives-newest v e h = gives_nothing λ x b. own-newest work w _ (λ z. h (e ∙ z ∙ once-newest number mark x b))

  given-key : (x : Name) → is_own work (wrap_at work) w x ≡ true → binding_key (rebound work (wrap_at work) w x).binding ≡ word_at work w KEY
  unfolding rebound give_key
  given-key x h = rw h (binding_key-of (word_at work w KEY))

  pub gives_key : (a b c u d r : ℕ) → a ≡ word_at work w BOUND-NUMBER → a ≡ number → b ≡ word_at work w BOUND-KEY → b ≡ 0 → c ≡ word_at work w BOUND-COUNT → u ≡ count_of mark → c ≡ u → d ≡ word_at work w BOUND-NEWEST → d ≡ mark → r ≡ word_at work w STEP → Gives work number w mark r
  unfolding binding_key
  gives_key a b c u d r ea fa eb fb ec eu fc ed fd er x bare =
      let own : is_own work (wrap_at work) w (mark_once mark x) ≡ true =
      own-all work w (mark_once mark x)
      (sym ea ∙ fa ∙ sym (once-number number mark x bare))
      (sym eb ∙ fb ∙ sym (ap binding_key (once-binding number mark x bare)))
      (sym ec ∙ fc ∙ eu ∙ sym (once-count number mark x bare))
      (sym ed ∙ fd ∙ sym (once-newest number mark x bare))
      (few-same work w (mark_once mark x) (once-few number mark x bare)) in
      er ∙ sym (given-key (mark_once mark x) own)

-- ---- what is found

pub finds-name : (work : List ℕ) (node w number own r : ℕ) → number ≡ number_of work node → own ≡ reference_at work node OWN → Finds work number own w r → r ≡ binding_key (name_at work node w).binding
unfolding name_at
finds-name work node w number own r n o f =
    f (node_name work node) (node-bare work node number n) ∙ ap (λ (v : ℕ). binding_key (wrap_at work w (wrap_at work v (node_name work node))).binding) o

module _ (work : List ℕ) (number own w : ℕ) where
  pub finds-binder : (tag inner mark r : ℕ) → tag ≡ word_at work w TAG → tag ≡ 3 → inner ≡ reference_at work w INNER → OnlyMark work number own inner mark → Gives work number w mark r → Finds work number own w r
  finds-binder tag inner mark r e t i m g x b =
      let means : wrap_at work w (wrap_at work own x) ≡ rebound work (wrap_at work) w (mark_once mark x) =
      wrap_at-binder work w (some_word work w tag e (λ q. omega arith)) (sym e ∙ t) (wrap_at work own x)
      ∙ ap (λ (v : ℕ). rebound work (wrap_at work) w (wrap_at work v (wrap_at work own x))) (sym i)
      ∙ ap (rebound work (wrap_at work) w) (m x b.number_is) in
      g x b ∙ sym (ap (λ (y : Name). binding_key y.binding) means)

  module _ (outer : ℕ) (passes : Passes work number w outer) where
    pub finds-outer : (r : ℕ) → Finds work number own outer r → Finds work number own w r
    finds-outer r f x b = f x b ∙ ap binding_key (sym (passes (wrap_at work own x) (wrap_at-number work own x ∙ b.number_is)))

    outer-none : outer ≡ 0 → (x : Name) → Bare number x → (wrap_at work w (wrap_at work own x)).binding ≡ (wrap_at work own x).binding
    outer-none e x b = passes (wrap_at work own x) (wrap_at-number work own x ∙ b.number_is) ∙ ap (λ (v : ℕ). (wrap_at work v (wrap_at work own x)).binding) e ∙ ap (λ (y : Name). y.binding) (wrap_at-none work _)

    pub finds-inner : (inner r : ℕ) → outer ≡ 0 → Passes work number own inner → Finds work number 0 inner r → Finds work number own w r
    finds-inner inner r e p f x b =
        f x b ∙ ap (λ (y : Name). binding_key (wrap_at work inner y).binding) (wrap_at-none work x)
        ∙ ap binding_key (sym (outer-none e x b ∙ p x b.number_is))

    pub finds-none : (inner : ℕ) → outer ≡ 0 → Passes work number own inner → inner ≡ 0 → Finds work number own w 0
    unfolding binding_key
    finds-none inner e p z x b =
        sym (ap binding_key (outer-none e x b ∙ p x b.number_is ∙ ap (λ (v : ℕ). (wrap_at work v x).binding) z ∙ ap (λ (y : Name). y.binding) (wrap_at-none work x) ∙ b.no-binding))

-- Sets of names at hand in one run, and what is kept of them: every mark is that of a step made, and number and marks determine F,
-- whatever F of a name is carried along by marks, results and bindings.
use Rattle.std.specs.Prelude.{◌≡◌, refl, ℕ, suc, ◌≤◌}
use Rattle.std.proofs.Common.{ap, sym, ◌∙◌, subst, arith}
use mathlib.Core.List.{List, [], ◌∷◌}
use Rattle.words.specs.Each.{none_of, also, each_weaken}
use Rattle.datum.specs.Constant.{Constant}
use Rattle.recipe.specs.Name.{Binding, Name, mark_name, produce_name, bind_name}
use Rattle.recipe.specs.Tree.{Tree, bind, bind_all}
use Rattle.recipe.specs.TreeNames.{bind_name-number, bind_name-marks}
use Rattle.recipe.specs.Tidy.{Tidy, tidy-on_names}
use Rattle.simulation.specs.Marks.{Older}
use Rattle.simulation.proofs.MarksLaws.{toggle-new, toggle-twice}
use Rattle.private_names_proof.specs.Invariants.Kinds.{Bound, BoundAll, Carried, Fresh, Made, bound}

-- ---- marks

fresh-older : (k : ℕ) (ms : List ℕ) → Made k ms → Older (suc k) ms
fresh-older k [] none_of = tt
fresh-older k (m ∷ ms) (also h a) = omega arith

fresh-not-new : (k : ℕ) (ms : List ℕ) → Made k (suc k ∷ ms) → ⊥
fresh-not-new k ms (also h a) = omega arith

-- the next step's mark on a name of the template: it has all its marks, and the new one
pub inserted-marks : (k : ℕ) (x : Name) → Fresh k x → (produce_name (mark_name (suc k) x)).marks ≡ suc k ∷ x.marks
unfolding produce_name mark_name
inserted-marks k x f = toggle-new (suc k) x.marks (fresh-older k x.marks f)

-- a name of the use is marked twice: it has its marks again
pub used-marks : (k : ℕ) (x : Name) → Fresh k x → (produce_name (mark_name (suc k) (mark_name (suc k) x))).marks ≡ x.marks
unfolding produce_name mark_name
used-marks k x f = toggle-twice (suc k) x.marks (fresh-older k x.marks f)

-- ---- a form binds a name

pub bound_all-tidy : {C : Constant → Type 0} (f : ℕ → Binding) (j : ℕ) (xs : List Name) {Q : Name → Type 0} {t : Tree} → Tidy Q C t → Tidy (BoundAll f j xs Q) C (bind_all f j xs t)
unfolding BoundAll bind_all bind
bound_all-tidy f j [] a = a
bound_all-tidy f j (x ∷ xs) a = bound_all-tidy f (suc j) xs (tidy-on_names (bind_name x (f j)) (λ y q. bound y q refl) a)

-- ---- what is carried along

module _ {Z : Type 0} (F : Name → Z) where
  -- names Q, after k steps
  pub record Good (k : ℕ) (Q : Name → Type 0) : Type 0 where
    pub fresh : (x : Name) → Q x → Fresh k x
    pub determines : (x y : Name) → Q x → Q y → x.number ≡ y.number → x.marks ≡ y.marks → F x ≡ F y

  pub good-fewer : {k : ℕ} {Q P : Name → Type 0} → ((x : Name) → P x → Q x) → Good k Q → Good k P
  good-fewer h g = record { fresh = λ x p. g.fresh x (h x p); determines = λ x y p q. g.determines x y (h x p) (h y q) }

  pub good-later : {k l : ℕ} {Q : Name → Type 0} → k ≤ l → Good k Q → Good l Q
  good-later h g = record { fresh = λ x q. each_weaken (λ m i. omega arith) (g.fresh x q); determines = g.determines }

  module _ (E : Name → Type 0) where
    -- names Q of an expression, after k steps
    pub record Sound (k : ℕ) (Q : Name → Type 0) : Type 0 where
      pub good : Good k Q
      pub each : (x : Name) → Q x → E x

    -- ---- a step

    -- z stems from x, and has these marks
    pub record From (ms : List ℕ) (x z : Name) : Type 0 where
      pub number : z.number ≡ x.number
      pub marks : z.marks ≡ ms
      pub same : F z ≡ F x
      pub each : E z

    -- the result of step k + 1: a name of the template, Q, with all its marks and the new one; or a name of the use, P, with its marks as they were
    pub data Result (k : ℕ) (Q P : Name → Type 0) (z : Name) : Type 0 where
      inserted : (x : Name) → Q x → From (suc k ∷ x.marks) x z → Result k Q P z
      handed : (x : Name) → P x → From x.marks x z → Result k Q P z

    module _ (c : Carried F E) where
      bound-sound : {k : ℕ} (i : Name) (b : Binding) {Q : Name → Type 0} → Sound k Q → Sound k (Bound i b Q)
      bound-sound {k} i b {Q} g = record { good = record { fresh = fresh; determines = determines }; each = each }
        where
          fresh : (z : Name) → Bound i b Q z → Fresh k z
          fresh z (bound x q e) = subst (Made k) (sym (ap (λ y. y.marks) e ∙ bind_name-marks i b x)) (g.good.fresh x q)

          each : (z : Name) → Bound i b Q z → E z
          each z (bound x q e) = subst E (sym e) (c.each-bound i b x (g.each x q))

          determines : (z w : Name) → Bound i b Q z → Bound i b Q w → z.number ≡ w.number → z.marks ≡ w.marks → F z ≡ F w
          determines z w (bound x q e) (bound y r f) n ms =
              let m : x.number ≡ y.number = sym (ap (λ v. v.number) e ∙ bind_name-number i b x) ∙ n ∙ ap (λ v. v.number) f ∙ bind_name-number i b y in
              let l : x.marks ≡ y.marks = sym (ap (λ v. v.marks) e ∙ bind_name-marks i b x) ∙ ms ∙ ap (λ v. v.marks) f ∙ bind_name-marks i b y in
              ap F e ∙ c.bound i b x y m l (g.good.determines x y q r m l) ∙ sym (ap F f)

      pub bound_all-sound : {k : ℕ} (f : ℕ → Binding) (j : ℕ) (xs : List Name) {Q : Name → Type 0} → Sound k Q → Sound k (BoundAll f j xs Q)
      unfolding BoundAll
      bound_all-sound f j [] g = g
      bound_all-sound f j (x ∷ xs) g = bound_all-sound f (suc j) xs (bound-sound x (f j) g)

      pub inserted-from : (k : ℕ) (x : Name) → Fresh k x → From (suc k ∷ x.marks) x (produce_name (mark_name (suc k) x))
      unfolding produce_name mark_name
      inserted-from k x h = record { number = refl; marks = inserted-marks k x h; same = c.produced (mark_name (suc k) x) ∙ c.marked (suc k) x; each = c.each-produced (mark_name (suc k) x) }

      pub used-from : (k : ℕ) (x : Name) → Fresh k x → From x.marks x (produce_name (mark_name (suc k) (mark_name (suc k) x)))
      unfolding produce_name mark_name
      used-from k x h = record { number = refl; marks = used-marks k x h; same = c.produced (mark_name (suc k) (mark_name (suc k) x)) ∙ c.marked (suc k) (mark_name (suc k) x) ∙ c.marked (suc k) x; each = c.each-produced (mark_name (suc k) (mark_name (suc k) x)) }

      pub result-sound : {k : ℕ} {Q P : Name → Type 0} → Good k Q → Good k P → Sound (suc k) (Result k Q P)
      result-sound {k} {Q} {P} g h = record { good = record { fresh = fresh; determines = determines }; each = each }
        where
          fresh : (z : Name) → Result k Q P z → Fresh (suc k) z
          fresh z (inserted x q e) = subst (Made (suc k)) (sym e.marks) (also (omega arith) (each_weaken (λ m i. omega arith) (g.fresh x q)))
          fresh z (handed x p e) = subst (Made (suc k)) (sym e.marks) (each_weaken (λ m i. omega arith) (h.fresh x p))

          each : (z : Name) → Result k Q P z → E z
          each z (inserted x q e) = e.each
          each z (handed x p e) = e.each

          apart : (x y : Name) → P y → suc k ∷ x.marks ≡ y.marks → ⊥
          apart x y p e = fresh-not-new k x.marks (subst (Made k) (sym e) (h.fresh y p))

          determines : (z w : Name) → Result k Q P z → Result k Q P w → z.number ≡ w.number → z.marks ≡ w.marks → F z ≡ F w
          determines z w (inserted x q e) (inserted y r f) n ms =
              let l : suc k ∷ x.marks ≡ suc k ∷ y.marks = sym e.marks ∙ ms ∙ f.marks in
              e.same ∙ g.determines x y q r (sym e.number ∙ n ∙ f.number) (cc) ∙ sym f.same
          determines z w (inserted x q e) (handed y p f) n ms = absurd (apart x y p (sym e.marks ∙ ms ∙ f.marks))
          determines z w (handed x p e) (inserted y q f) n ms = absurd (apart y x p (sym f.marks ∙ sym ms ∙ e.marks))
          determines z w (handed x p e) (handed y r f) n ms = e.same ∙ h.determines x y p r (sym e.number ∙ n ∙ f.number) (sym e.marks ∙ ms ∙ f.marks) ∙ sym f.same

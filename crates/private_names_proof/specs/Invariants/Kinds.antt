-- Sets of names at hand in one run, and what is kept of them: every mark is that of a step made, and number and marks determine F,
-- whatever F of a name is carried along by marks, results and bindings.
use Rattle.std.specs.Prelude.{◌≡◌, ℕ, suc, ◌≤◌}
use Rattle.std.proofs.Common.{◌∙◌}
use mathlib.Core.List.{List, [], ◌∷◌}
use Rattle.words.specs.Each.{Each}
use Rattle.recipe.specs.Name.{Binding, Name, mark_name, produce_name, bind_name}

-- ---- marks

-- every mark is that of one of the first k steps
abbrev pub Made : ℕ → List ℕ → Type 0
Made k ms = Each (λ m. m ≤ k) ms

abbrev pub Fresh : ℕ → Name → Type 0
Fresh k x = Made k x.marks

-- ---- a form binds a name

pub data Bound (i : Name) (b : Binding) (Q : Name → Type 0) (z : Name) : Type 0 where
  bound : (x : Name) → Q x → z ≡ bind_name i b x → Bound i b Q z

unfoldable pub BoundAll : (ℕ → Binding) → ℕ → List Name → (Name → Type 0) → Name → Type 0
BoundAll f j [] Q = Q
BoundAll f j (x ∷ xs) Q = BoundAll f (suc j) xs (Bound x (f j) Q)

-- ---- what is carried along

-- F of a name stays with it, and a form's binding changes it by number, marks and F alone; E, of names of expressions, stays too, and holds in results
pub record Carried {Z : Type 0} (F : Name → Z) (E : Name → Type 0) : Type 0 where
  pub marked : (m : ℕ) (x : Name) → F (mark_name m x) ≡ F x
  pub produced : (x : Name) → F (produce_name x) ≡ F x
  pub bound : (i : Name) (b : Binding) (x y : Name) → x.number ≡ y.number → x.marks ≡ y.marks → F x ≡ F y → F (bind_name i b x) ≡ F (bind_name i b y)
  pub each-bound : (i : Name) (b : Binding) (x : Name) → E x → E (bind_name i b x)
  pub each-produced : (x : Name) → E (produce_name x)

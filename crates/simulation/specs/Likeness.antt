-- What two runs ask of their names in order to go side by side: a relation of names, by what is known of those of a tree, under which
-- expansion asks the same of both. A template's private name renamed is one case (`privately`), other numbers for the names another (`numbers`).
use Rattle.std.specs.Prelude.{◌≡◌, Bool, List, ◌++◌, ℕ}
use Rattle.recipe.specs.Name.{Binding, Name, same, is_ellipsis, is_wildcard, mark_name, produce_name, bind_name}
use Rattle.expansion.specs.Lookup.{is_syntax_rules, agree}
use Rattle.expansion.specs.Computation.{Event, looked, quoted, binds}
use Rattle.simulation.specs.Marks.{Kind, Below, Marked, Produced, Result}

pub record Likeness : Type 1 where
  -- names of a kind that are related; literals of patterns; numbers of quoted names; own names of variables
  pub Rel : Kind → Name → Name → Type 0
  pub Literal : Name → Name → Type 0
  pub Number : ℕ → ℕ → Type 0
  pub Formal : Name → Name → Type 0
  -- of the kind of a tree's names: sameness goes by them; they may be looked up
  pub Coherent : Kind → Type 0
  pub Ready : Kind → Type 0
  -- what the first run may show
  pub Fine : Event → Type 0
  -- ---- what is asked of names
  pub map-rel : (Q P : Kind) → ((k i : ℕ) (b : Bool) (ms : List ℕ) → Q k i b ms → P k i b ms) → (x y : Name) → Rel Q x y → Rel P x y
  pub dots-rel : (Q : Kind) (x y : Name) → Rel Q x y → is_ellipsis x ≡ is_ellipsis y
  pub wild-rel : (Q : Kind) (x y : Name) → Rel Q x y → is_wildcard x ≡ is_wildcard y
  pub same-rel : (Q : Kind) → Coherent Q → (i j x y : Name) → Rel Q i j → Rel Q x y → same i x ≡ same j y
  pub head-rel : (Q : Kind) → Ready Q → (x y : Name) → Rel Q x y → Fine (looked x) → is_syntax_rules x ≡ is_syntax_rules y
  pub agree-rel : (P : Kind) → Ready P → (x x' y y' : Name) → Literal x x' → Rel P y y' → Fine (looked x) → Fine (looked y) → agree x y ≡ agree x' y'
  pub literal-rel : (Q : Kind) → Ready Q → (x y : Name) → Rel Q x y → Literal x y
  pub number-rel : (Q : Kind) → Ready Q → (x y : Name) → Rel Q x y → Fine (quoted x) → Number x.number y.number
  pub formal-rel : (Q : Kind) → Ready Q → (x y : Name) → Rel Q x y → Formal x y
  -- ---- what is done to them
  pub mark-rel : (Q : Kind) (m : ℕ) (x y : Name) → Rel Q x y → Rel (Marked m Q) (mark_name m x) (mark_name m y)
  pub produce-rel : (Q : Kind) (x y : Name) → Rel Q x y → Rel (Produced Q) (produce_name x) (produce_name y)
  pub bind-rel : (Q : Kind) → Coherent Q → Ready Q → (b : Binding) (i j : Name) → Rel Q i j → Fine (binds b i) → (x y : Name) → Rel Q x y
      → Rel Q (bind_name i b x) (bind_name j b y)
  -- ---- a step: Q of the template's names and P of the use's
  pub marked-ready : (m : ℕ) (Q : Kind) → Ready Q → Ready (Marked m Q)
  pub result-ready : (m : ℕ) (Q P : Kind) → Ready (Result m Q P)
  pub result-coherent : (m : ℕ) (Q P : Kind) → Below m Q → Below m P → Coherent Q → Coherent P → Coherent (Result m Q P)

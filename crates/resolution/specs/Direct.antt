-- Bindings found from the outside in, without marks in hand: what a cell, a wrap and a binder do to a name of a number.
use Rattle.std.specs.Prelude.{◌≡◌, cond, List, [], ℕ, eqb}
use Rattle.std.proofs.Math.Option.{none}
use Rattle.recipe.specs.Name.{Name, binding_key, mark_name}
use Rattle.arena.specs.Offsets.{INNER}
use Rattle.arena.specs.Arena.{reference_at, rebound, wrap_at}

-- a wrap means of a name of this number what the wrap inside it means
abbrev pub SkipsTo : List ℕ → (number w : ℕ) → Type 0
SkipsTo work number w = (x : Name) → x.number ≡ number → wrap_at work w x ≡ wrap_at work (reference_at work w INNER) x

-- wraps w and r bind a name of this number alike
abbrev pub Passes : List ℕ → (number w r : ℕ) → Type 0
Passes work number w r = (x : Name) → x.number ≡ number → (wrap_at work w x).binding ≡ (wrap_at work r x).binding

-- the step of a mark, which is not 0
pub record IsMark (work : List ℕ) (w r : ℕ) : Type 0 where
  pub some-step : r ≡ 0 → ⊥
  pub means : (x : Name) → wrap_at work w x ≡ mark_name r (wrap_at work (reference_at work w INNER) x)

-- one mark or, where it is 0, none
unfoldable pub mark_once : ℕ → Name → Name
mark_once m x = cond (eqb m 0) x (mark_name m x)

unfoldable pub count_of : ℕ → ℕ
count_of m = cond (eqb m 0) 0 1

-- a wrap and a mark around it, or none, mean of a name of this number what the wrap inside and mark r around that mean
abbrev pub OneMark : List ℕ → (number w mark r : ℕ) → Type 0
OneMark work number w mark r = (x : Name) → x.number ≡ number → mark_once mark (wrap_at work w x) ≡ mark_once r (wrap_at work (reference_at work w INNER) x)

-- all that a wrap means of a name of this number is one mark or none
abbrev pub LoneMark : List ℕ → (number w r : ℕ) → Type 0
LoneMark work number w r = (x : Name) → x.number ≡ number → wrap_at work w x ≡ mark_once r x

-- all that a name's own wrap and a pending one mean of it is one mark or none
abbrev pub OnlyMark : List ℕ → (number own w r : ℕ) → Type 0
OnlyMark work number own w r = (x : Name) → x.number ≡ number → wrap_at work w (wrap_at work own x) ≡ mark_once r x

-- a name of this number without marks and binding
pub record Bare (number : ℕ) (x : Name) : Type 0 where
  pub number_is : x.number ≡ number
  pub no-marks : x.marks ≡ []
  pub no-binding : x.binding ≡ none

-- the key that a binder gives a bare name with one mark or none
abbrev pub Gives : List ℕ → (number w mark r : ℕ) → Type 0
Gives work number w mark r = (x : Name) → Bare number x → r ≡ binding_key (rebound work (wrap_at work) w (mark_once mark x)).binding

-- the key of a bare name under its own wrap and a pending one
abbrev pub Finds : List ℕ → (number own w r : ℕ) → Type 0
Finds work number own w r = (x : Name) → Bare number x → r ≡ binding_key (wrap_at work w (wrap_at work own x)).binding

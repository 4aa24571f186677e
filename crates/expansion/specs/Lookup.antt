-- Lookups (document 01, 'Names, marks and bindings'): what a name means, and when two literals agree.
use Rattle.std.specs.Prelude.{Bool, ◌&&◌, ◌||◌, cond, List, [], ◌∷◌, ℕ, suc, eqb, ltb, get_or}
use Rattle.std.proofs.Math.Option.{Option, none, some}
use Rattle.words.specs.Limits.{base_name_count}
use Rattle.recipe.specs.Name.{Binding, Name, binding_key, is_bound}

-- the base forms, names 0 to 7; syntax-rules, `...` and `_` head no expression
pub data Form : Type 0 where
  quote if lambda let-syntax letrec-syntax auxiliary : Form

pub data Found : Type 0 where
  bound : Binding → Found
  form : Form → Found
  operation : (place : ℕ) → Found
  nothing : Found

unfoldable pub form_of : ℕ → Form
form_of n = get_or (quote ∷ if ∷ lambda ∷ let-syntax ∷ letrec-syntax ∷ []) n auxiliary

-- the place of name n among the operations, counted from k
unfoldable pub place_from : ℕ → ℕ → List ℕ → Found
place_from k n [] = nothing
place_from k n (x ∷ xs) = let later = place_from (suc k) n xs in cond (eqb x n) (operation k) later

unfoldable pub unbound_meaning : List ℕ → ℕ → Found
unbound_meaning operations n = cond (ltb n base_name_count) (form (form_of n)) (place_from 0 n operations)

unfoldable pub or_unbound : Option Binding → Found → Found
or_unbound none found = found
or_unbound (some b) found = bound b

-- a lookup finds the binding; without one, a base form, an operation, or nothing
unfoldable pub lookup : List ℕ → Name → Found
lookup operations x = or_unbound x.binding (unbound_meaning operations x.number)

-- the head of a rules form finds the base form syntax-rules
unfoldable pub is_syntax_rules : Name → Bool
is_syntax_rules x = eqb (binding_key x.binding) 0 && eqb x.number 5

-- literals agree: the same binding, or no binding and equal numbers
unfoldable pub agree : Name → Name → Bool
agree x y = eqb (binding_key x.binding) (binding_key y.binding) && (is_bound x.binding || eqb x.number y.number)

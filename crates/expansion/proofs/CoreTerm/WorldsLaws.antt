-- The world of a call: the numbers that the names at hand may have, and the variables and macros of the run that they may be bound to.
-- Names and trees of a world, what keeps them in it, and what a lookup finds there.
use Rattle.std.specs.Prelude.{◌≡◌, Bool, true, false, cond, ℕ, suc, ◌+◌, ◌≤◌, ◌<◌, eqb, ltb, length}
use Rattle.std.proofs.Common.{sym, arith}
use Rattle.std.proofs.Math.Path.{subst}
use mathlib.Core.List.{List, [], ◌∷◌}
use Rattle.std.proofs.Math.Option.{Option, some}
use Rattle.words.specs.Limits.{base_name_count}
use Rattle.recipe.specs.Name.{Binding, variable, macro, Name, plain_name, mark_name, produce_name, give_binding}
use Rattle.recipe.specs.TableNames.{Plain}
use Rattle.expansion.specs.Lookup.{Found, place_from, unbound_meaning, or_unbound, lookup}
use Rattle.expansion.specs.CoreTerm.Worlds.{Fine, Meant, Reaches, Within, World, meant_form, meant_macro, meant_nothing, meant_operation, meant_variable, reaches_macro, reaches_none, reaches_variable}

-- ---- names

reaches-within : {W W' : World} {b : Option Binding} → Within W W' → Reaches W b → Reaches W' b
reaches-within i reaches_none = reaches_none
reaches-within i (reaches_variable e) = reaches_variable (i.variable _ e)
reaches-within i (reaches_macro e) = reaches_macro (i.macro _ e)

pub fine-within : {W W' : World} → Within W W' → (x : Name) → Fine W x → Fine W' x
fine-within i x f = record { number = i.name _ f.number; binding = reaches-within i f.binding }

module _ {W : World} where
  pub fine-mark : (m : ℕ) (x : Name) → Fine W x → Fine W (mark_name m x)
  unfolding mark_name
  fine-mark m x f = record { number = f.number; binding = f.binding }

  pub fine-produce : (x : Name) → Fine W x → Fine W (produce_name x)
  unfolding produce_name
  fine-produce x f = record { number = f.number; binding = f.binding }

  pub fine-give : (b : Binding) → Reaches W (some b) → (x : Name) → Fine W x → Fine W (give_binding b x)
  unfolding give_binding
  fine-give b r x f = record { number = f.number; binding = r }

  pub fine-plain : (x : Name) → W.names x.number ≡ true → Plain x → Fine W x
  unfolding plain_name
  fine-plain x n p = record { number = n; binding = subst (λ (y : Name). Reaches W y.binding) (sym p) reaches_none }

-- ---- lookups

module _ {W : World} where
  meant-cond : (b : Bool) {count : ℕ} {f g : Found} → Meant W count f → Meant W count g → Meant W count (cond b f g)
  meant-cond true p q = p
  meant-cond false p q = q

  place-meant : (k n : ℕ) (operations : List ℕ) (count : ℕ) → k + length operations ≤ count → Meant W count (place_from k n operations)
  unfolding place_from
  place-meant k n [] count h = meant_nothing
  place-meant k n (x ∷ xs) count h = meant-cond (eqb x n) (meant_operation (omega arith)) (place-meant (suc k) n xs count (omega arith))

  unbound-meant : {b : Option Binding} {count : ℕ} {f : Found} → Reaches W b → Meant W count f → Meant W count (or_unbound b f)
  unfolding or_unbound
  unbound-meant reaches_none m = m
  unbound-meant (reaches_variable e) m = meant_variable e
  unbound-meant (reaches_macro e) m = meant_macro e

  pub lookup-meant : (operations : List ℕ) (x : Name) → Fine W x → Meant W (length operations) (lookup operations x)
  unfolding lookup unbound_meaning
  lookup-meant operations x f = unbound-meant f.binding (meant-cond (ltb x.number base_name_count) meant_form (place-meant 0 x.number operations (length operations) (omega arith)))

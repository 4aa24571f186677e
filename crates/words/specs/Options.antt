-- Answers that may be missing.
use Rattle.std.specs.Prelude.{Bool, cond, List, [], ◌∷◌}
use Rattle.std.proofs.Math.Option.{Option, none, some}

-- the answer, where the test passes
unfoldable pub only_if : {A : Type 0} → Bool → Option A → Option A
only_if b a = cond b a none

unfoldable pub map_some : {A B : Type 0} → (A → B) → Option A → Option B
map_some f none = none
map_some f (some a) = some (f a)

-- both answers together
unfoldable pub map_both : {A B C : Type 0} → (A → B → C) → Option A → Option B → Option C
map_both f none b = none
map_both f (some a) b = map_some (f a) b

-- the answer at each element, where none is missing
unfoldable pub traverse : {A B : Type 0} → (A → Option B) → List A → Option (List B)
traverse f [] = some []
traverse f (x ∷ xs) = map_both ◌∷◌ (f x) (traverse f xs)

-- Lists and answers whose parts are related, and what keeps that. Laws over any relation; the order is that of words/specs.
use Rattle.std.specs.Prelude.{◌≡◌, ◌&&◌, ◌||◌, List, [], ◌∷◌, ◌++◌}
use Rattle.std.proofs.Math.Option.{Option, none, some}

pub data ListRel {A : Type 0} (R : A → A → Type 0) : List A → List A → Type 0 where
  ends : ListRel R [] []
  joins : {x y : A} {xs ys : List A} → R x y → ListRel R xs ys → ListRel R (x ∷ xs) (y ∷ ys)

pub data OptionRel {A : Type 0} (R : A → A → Type 0) : Option A → Option A → Type 0 where
  nones : OptionRel R none none
  somes : {a b : A} → R a b → OptionRel R (some a) (some b)

-- Sameness as equations: what the tests `same`, `equal` and `binding_key` decide.
use Rattle.std.specs.Prelude.{◌≡◌, ◌&&◌}
use Rattle.recipe.specs.Name.{Name}

-- ---- names

pub record Same (x y : Name) : Type 0 where
  pub number : x.number ≡ y.number
  pub marks : x.marks ≡ y.marks
  pub binding : x.binding ≡ y.binding

-- Two runs whose names have other numbers, one for one, with 0 to 7 fixed: they come to the same ground, counts, and term but for these
-- numbers (`numbers-agree`). What a name stems from, and whether it was produced, is free: expansion reads neither.
use Rattle.std.proofs.Math.Path.{◌≡◌}
use Rattle.std.proofs.Common.{◌∙◌}
use Rattle.std.specs.Prelude.{[], ℕ, ◌<◌}
use Rattle.std.proofs.Math.Bool.{◌&&◌, ◌||◌}
use Rattle.std.proofs.Math.Dec.{eqb}
use Rattle.words.specs.Limits.{base_name_count}
use Rattle.recipe.specs.Name.{Name}

-- numbers of names in one run and in the other, one for one; those of the base forms are their own
pub record Correspondence (P : ℕ → ℕ → Type 0) : Type 0 where
  pub one : (a b c d : ℕ) → P a b → P c d → eqb a c ≡ eqb b d
  pub base : (n : ℕ) → n < base_name_count → P n n

-- names that differ in the number alone
pub record Renumbered (P : ℕ → ℕ → Type 0) (x y : Name) : Type 0 where
  pub number : P x.number y.number
  pub marks : x.marks ≡ y.marks
  pub binding : x.binding ≡ y.binding

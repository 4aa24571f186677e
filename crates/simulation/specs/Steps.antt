-- Names of two runs that differ in a private name, marked and in a step's result. And so these names are alike, as expansion asks it.
use Rattle.std.specs.Prelude.{◌≡◌, true}
use Rattle.recipe.specs.Name.{Name}
use Rattle.simulation.specs.Names.Shown.{Renaming}
use Rattle.simulation.specs.Names.{Raw, NameRel}

-- ---- these names are alike

-- a pattern's literals: those that are private are copies
abbrev pub Literal : (ρ : Renaming) → Raw ρ → Name → Name → Type 0
Literal ρ raw = NameRel ρ raw (λ k i b ms. ρ.is_private i ≡ true → b ≡ true)

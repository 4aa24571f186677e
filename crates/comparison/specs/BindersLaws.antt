-- After yes, each reference has the same binder in both terms.
use Rattle.std.specs.Prelude.{◌≡◌, ◌&&◌, ℕ, ◌+◌, ◌<◌}
use Rattle.std.proofs.Common.{◌∙◌}
use mathlib.Core.List.{List, [], ◌∷◌, ◌++◌, map}
use Rattle.comparison.specs.Agrees.{Scope}

-- ---- scopes

abbrev pub names_in : Scope → List ℕ
names_in s = map (λ b. b.0) s

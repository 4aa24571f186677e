-- Sound terms: every node is one and passes all of ground 19, in one test that follows expansion. The words of a sound term are read back
-- as that term, and pass.
use Rattle.std.specs.Prelude.{◌≡◌, Bool, ◌&&◌, ℕ, ◌+◌, ◌≤◌, ◌<◌}
use Rattle.std.proofs.Common.{◌∙◌}
use Rattle.core_term.specs.Node.{is_node}
use Rattle.core_term.specs.Every.{Asked}
use Rattle.core_term.specs.Check.{Scope, inside, variable_inside, first_number, known}

-- ---- what is asked of every node: that it is one, and all of ground 19

unfoldable pub sound : (operations : ℕ) (good : ℕ → Bool) → Asked Scope
sound operations good = record { test = λ e b x. is_node x && (variable_inside e b x && (first_number e b x && known operations good e b x)); enter = inside }

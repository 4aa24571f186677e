-- What is done changes the numbers that an expansion carries so; code has a method for each.
use Rattle.std.specs.Prelude.{ℕ, suc, ◌+◌}
use Rattle.turns.specs.declared.answers.Reached.{Reached}

-- before the first turn: the arena is laid out, and nothing else is done
unfoldable pub at_start : (top : ℕ) → Reached
at_start top = record { top = top; at = 0; steps = 0; sum = 0; variables = 0; macros = 0 }

-- core words reach to `at`
unfoldable pub moved : (at : ℕ) → Reached → Reached
moved at r = record { top = r.top; at = at; steps = r.steps; sum = r.sum; variables = r.variables; macros = r.macros }

-- n new variables, whose binders end at `top`, and core words to `at`
unfoldable pub widened : (top at n : ℕ) → Reached → Reached
widened top at n r = record { top = top; at = at; steps = r.steps; sum = r.sum; variables = r.variables + n; macros = r.macros }

-- n new macros, whose rules end at `top`
unfoldable pub grown : (top n : ℕ) → Reached → Reached
grown top n r = record { top = top; at = r.at; steps = r.steps; sum = r.sum; variables = r.variables; macros = r.macros + n }

-- a step that costs n, whose cells end at `top`
unfoldable pub stepped : (top n : ℕ) → Reached → Reached
stepped top n r = record { top = top; at = r.at; steps = suc r.steps; sum = r.sum + n; variables = r.variables; macros = r.macros }

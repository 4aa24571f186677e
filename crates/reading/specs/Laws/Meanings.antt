-- Meanings: a token means what meaning_of gives, where that is no refusal, and nothing else.
use Rattle.std.specs.Prelude.{◌≡◌, Bool, [], ◌∷◌, ◌++◌, ◌≤◌}
use Rattle.std.proofs.Common.{◌∙◌}
use Rattle.std.proofs.Math.Bool.{true, false}
use Rattle.reading.specs.Meaning.{Meaning, begins, ends, constant, name, refused}

-- ---- and what it gives, where it is no refusal, is what the token means

unfoldable pub is_refused : Meaning → Bool
is_refused begins = false
is_refused ends = false
is_refused (constant a) = false
is_refused (name cs) = false
is_refused (refused g) = true

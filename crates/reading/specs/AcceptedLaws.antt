-- What callers may rely on of an accepted text, however many elements it is to have: N = 1 + 2 × e, at most 4,095 items, at most 1,024 names, and each name's number is its own.
use Rattle.std.specs.Prelude.{◌≡◌, List, [], ◌∷◌, ◌++◌, ℕ, ◌+◌, ◌*◌, ◌≤◌, ◌<◌, length, get_or}
use Rattle.std.proofs.Common.{◌∙◌}
use Rattle.reading.specs.Numbering.{number_of}

-- ---- names

-- each name's number is its own, so no two are equal
unfoldable pub Own : List (List ℕ) → Type 0
Own names = (n : ℕ) → n < length names → number_of (get_or names n []) names ≡ n

-- Two expressions of two texts that differ in the choice of bound names: each reference means the formal at the same place, and other names
-- are spelled alike, each by its own text's name table.
use Rattle.std.specs.Prelude.{◌≡◌, [], ◌∷◌}

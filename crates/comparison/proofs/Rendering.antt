-- A rendering of our term: each variable has a name of its own choice, such that no reference is captured, and other names are spelled as ours.
use Rattle.std.specs.Prelude.{◌≡◌, [], ◌∷◌}

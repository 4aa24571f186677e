-- An expression as an element of a text, and which expressions texts have.
use Rattle.std.specs.Prelude.{◌&&◌, [], ◌∷◌}

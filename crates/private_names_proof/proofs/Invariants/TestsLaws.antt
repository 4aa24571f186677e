-- Tests of an expression that a run has at hand, in the state at that place.
use Rattle.std.specs.Prelude.{◌&&◌, ◌||◌}

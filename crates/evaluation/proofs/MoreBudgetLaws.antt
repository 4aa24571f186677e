-- Running with more budget, stated over the definition of a call. Nothing is proved here.
use Rattle.std.specs.Prelude.{◌≡◌, ◌+◌, ◌*◌, ◌≤◌, ◌<◌}

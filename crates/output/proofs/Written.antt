-- An accepted recipe is written, stated over the definitions of reading, a run and ground 19. Nothing is proved here.
use Rattle.std.specs.Prelude.{◌≡◌, ◌≤◌}

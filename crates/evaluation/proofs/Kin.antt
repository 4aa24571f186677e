-- Codes and values that go side by side: the same but for the places of quoted data, related by P, and for numbers, related by S.
use Rattle.std.specs.Prelude.{◌≡◌, [], ◌∷◌}

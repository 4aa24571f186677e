-- What an agreement says, form by form: `agrees` decides it (SameLaws).
use Rattle.std.specs.Prelude.{◌≡◌, []}

-- Yes is exactly 'a rendering of our term': what a rendering is for an expression, and the choice of names that an expression shows.
use Rattle.std.specs.Prelude.{◌≡◌, [], ◌++◌}

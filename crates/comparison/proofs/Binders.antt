-- Which formal each reference means. Formals of the lambdas round a reference are counted from the innermost outwards.
use Rattle.std.specs.Prelude.{[], ◌∷◌, ◌++◌}

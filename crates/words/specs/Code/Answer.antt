-- An answer of the code that may be missing, as definitions have it.
use Rattle.std.specs.Prelude.{Some, None}
use Rattle.std.proofs.Math.Option.{some, none}
use Rattle.std.proofs.Math.Option as M
use Rattle.std.specs.declared.option.Option.{Option}

abbrev pub option_of : {A : Type 0} → Option A → M.Option A
option_of None = none
option_of (Some x) = some x

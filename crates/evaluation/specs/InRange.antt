-- Every number that a call gives is of 32 bits, so that a word holds it.
use Rattle.std.specs.Prelude.{◌≡◌, true, ◌+◌, ◌*◌, ◌-◌, ◌≤◌, ◌<◌, ℤ, ◌+ℤ◌, ◌-ℤ◌}
use Rattle.evaluation.specs.Numbers.{in_range}
use Rattle.evaluation.specs.Run.{Result, number, boolean, datum, closure, operation, Outcome, unfit, refused_on, accepted}

-- ---- a call

-- where it gives a number, that is of 32 bits
abbrev pub InRange : Outcome (Result ℤ) → Type 0
InRange (unfit g) = Unit {0}
InRange (refused_on g) = Unit {0}
InRange (accepted (number z) u) = in_range z ≡ true
InRange (accepted (boolean b) u) = Unit {0}
InRange (accepted (datum at) u) = Unit {0}
InRange (accepted closure u) = Unit {0}
InRange (accepted operation u) = Unit {0}

-- Those before i and the leading ones from i on are the leading ones, and the value is of those before i.
use Rattle.std.proofs.Common.{◌≡◌, ◌+◌, min, take, drop}
use Rattle.reading.specs.Token.{is_digit}
use Rattle.reading.specs.Offset.{leading}
use Rattle.reading.specs.Meaning.{value_from}
use Rattle.lexer.proofs.number.digits_after.Given as goal

abbrev pub invariant-loop-i : goal.invariant-loop-i
invariant-loop-i l =
    (l.i + leading is_digit (drop l.i l.run) ≡ leading is_digit l.run) × (l.value ≡ min (value_from l.before (take l.i l.run)) 2147483649)

use Rattle.std.proofs.Common.{arith}
use Rattle.lexer.specs.NumberLaws.{digit-range}
use Rattle.lexer.proofs.number.appended.Goals as goal

pub overflow_sub-next : goal.overflow_sub-next
overflow_sub-next c = omega (arith, digit-range _ c.requires.digit_value)

pub overflow_add-next : goal.overflow_add-next
overflow_add-next c = omega (arith, digit-range _ c.requires.digit_value)

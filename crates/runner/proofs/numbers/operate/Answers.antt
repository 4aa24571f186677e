-- Each operation is done with the numbers of its words.
use native.Mathlib.Omega.{arith}
use mathlib.Core.Path.{◌≡◌}
use Rattle.std.proofs.Common.{rules, refl, ◌+ℤ◌, ◌-ℤ◌}
use Rattle.runner.specs.Rows.{boolean_i}
use Rattle.runner.specs.Made.{made_by}
use Rattle.runner.specs.NumberLaws.{word, sum-told, difference-told, less-told, equal-told}
use Rattle.runner.proofs.numbers.operate.Goals as goal

pub returns-then-place-eq-SUM : goal.returns-then-place-eq-SUM
returns-then-place-eq-SUM c = let a = c.cast_signed-a.result in let b = c.cast_signed-b.result in
    rw c.if-place-eq-SUM.true (made_by _ (sum-told c.args.x c.args.y a b c.cast_signed-a.ensures c.cast_signed-b.ensures c.ranges.x c.ranges.y)
    (c.number.ensures (word a +ℤ word b) (search rules)))

pub returns-then-place-eq-DIFFERENCE : goal.returns-then-place-eq-DIFFERENCE
returns-then-place-eq-DIFFERENCE c = let a = c.cast_signed-a.result in let b = c.cast_signed-b.result in
    rw c.if-place-eq-DIFFERENCE.true (made_by _ (difference-told c.args.x c.args.y a b c.cast_signed-a.ensures c.cast_signed-b.ensures c.ranges.x c.ranges.y)
    (c.number-then-place-eq-DIFFERENCE.ensures (word a -ℤ word b) (search rules)))

pub returns-then-place-eq-LESS : goal.returns-then-place-eq-LESS
returns-then-place-eq-LESS c =
    rw c.if-place-eq-LESS.true (made_by _ (less-told c.args.x c.args.y _ _ c.cast_signed-a.ensures c.cast_signed-b.ensures c.ranges.x c.ranges.y) (λ ws t top. boolean_i _ refl refl))

pub returns : goal.returns
returns c = let three : c.args.place ≡ 3 = omega (arith, c.requires, c.if-place-eq-SUM.false, c.if-place-eq-DIFFERENCE.false, c.if-place-eq-LESS.false) in
    rw three (made_by _ (equal-told c.args.x c.args.y _ _ c.cast_signed-a.ensures c.cast_signed-b.ensures c.ranges.x c.ranges.y) (λ ws t top. boolean_i _ refl refl))

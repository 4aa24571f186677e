-- `wraps::is_own`: each test that fails tells another name; where all hold, it is the same.
use Rattle.std.proofs.Common.{arith}
use Rattle.resolution.specs.HandLaws.{count_most}
use Rattle.resolution.specs.BinderLaws.{other-number, other-binding, other-count, other-newest, other_length, same-few, by-marks}
use Rattle.resolution.proofs.wraps.is_own.Goals as goal

pub returns-then-word-number : goal.returns-then-word-number
returns-then-word-number c =
    let a = c.args in
    other-number a.work.now a.w a.table.now a.start a.number a.held.count a.held.binding _ c.word.ensures c.if-word-number.true

pub returns-then-word-held : goal.returns-then-word-held
returns-then-word-held c =
    let a = c.args in
    other-binding a.work.now a.w a.table.now a.start a.number a.held.count a.held.binding _ c.word-2.ensures c.if-word-held.true

pub returns-then-word-held-2 : goal.returns-then-word-held-2
returns-then-word-held-2 c =
    let a = c.args in
    other-count a.work.now a.w a.table.now a.start a.number a.held.count a.held.binding _ c.word-3.ensures c.if-word-held-2.true

pub returns-then-word-newest_of : goal.returns-then-word-newest_of
returns-then-word-newest_of c =
    let a = c.args in
    other-newest a.work.now a.w a.table.now a.start a.number a.held.count a.held.binding _ _ c.word-4.ensures c.newest_of.ensures c.if-word-newest_of.true

pub returns-then-held-lt2 : goal.returns-then-held-lt2
returns-then-held-lt2 c =
    let a = c.args in
    same-few a.work.now a.w a.table.now a.start a.number a.held.count a.held.binding _ _ _ _ _
    c.word.ensures c.if-word-number.false c.word-2.ensures c.if-word-held.false c.word-3.ensures c.if-word-held-2.false c.word-4.ensures c.newest_of.ensures c.if-word-newest_of.false c.if-held-lt2.true

pub returns-in_err-own : goal.returns-in_err-own
returns-in_err-own c =
    let a = c.args in
    rw c.from_residual.ensures (omega (arith, c.in_err-own.ensures, count_most a.table.now a.start a.held.count c.requires.descends))

pub returns-then-own-held : goal.returns-then-own-held
returns-then-own-held c =
    let a = c.args in
    other_length a.work.now a.w a.table.now a.start a.number a.held.count a.held.binding _ _ c.in_ok-own.ensures (omega (arith, c.if-held-lt2.false)) c.if-own-held.true

pub returns : goal.returns
returns c =
    let a = c.args in
    by-marks a.work.now a.w a.table.now a.start a.number a.held.count a.held.binding _ _ _ _ _
    c.word.ensures c.if-word-number.false c.word-2.ensures c.if-word-held.false c.word-3.ensures c.if-word-held-2.false c.word-4.ensures c.newest_of.ensures c.if-word-newest_of.false
    _ _ c.in_ok-own.ensures (omega (arith, c.if-held-lt2.false)) c.if-own-held.false _ c.equal_marks.ensures

use Rattle.std.proofs.Common.{sym}
use borrow.Author.Tests.{not-true, not-false}
use Rattle.core_term.specs.Code.WindowLaws.{good-past, good-free, good-short, good-some, good-empty}
use Rattle.core_term.proofs.head.name_good.Goals as goal

pub returns-then-n-ge-NAMES : goal.returns-then-n-ge-NAMES
returns-then-n-ge-NAMES c = sym (good-past _ _ _ c.if-n-ge-NAMES.true)

pub returns-then-not-tabled : goal.returns-then-not-tabled
returns-then-not-tabled c = sym (good-free _ _ _ c.if-n-ge-NAMES.false (not-true c.args.tabled c.if-not-tabled.true-raw))

pub returns-then-names-start : goal.returns-then-names-start
returns-then-names-start c = sym (good-short _ _ _ c.if-n-ge-NAMES.false (not-false c.args.tabled c.if-not-tabled.false-raw) c.if-names-start.true)

pub returns-then-length-ge1 : goal.returns-then-length-ge1
returns-then-length-ge1 c = sym (good-some _ _ _ _ c.from-length.ensures c.if-n-ge-NAMES.false (not-false c.args.tabled c.if-not-tabled.false-raw) c.if-names-start.false c.if-length-ge1.true)

pub returns-else-length-ge1 : goal.returns-else-length-ge1
returns-else-length-ge1 c = sym (good-empty _ _ _ _ c.from-length.ensures c.if-n-ge-NAMES.false (not-false c.args.tabled c.if-not-tabled.false-raw) c.if-names-start.false c.if-length-ge1.false)

use borrow.Author.Rules.{rules}
use Rattle.lexer.proofs.number.signed.Statement.{statement}
use Rattle.lexer.proofs.number.signed.Tie as tie
use borrow.Author.Tests.{not-true, not-false}
use Rattle.lexer.specs.NumberLaws.{positive-past, positive-is, negative-past, zero_is, negative_fits, negative-is}

returns : tie.Need-returns-then-size-gt2147483647
returns c =
    let args = c.args in
    rw (not-true args.negative c.if-not-negative.true-raw) (positive-past args.places _ c.if-size-gt2147483647.true)

cast-t6 : tie.Need-overflow_cast-result
cast-t6 c =
    search rules

returns-2 : tie.Need-returns-then-not-negative
returns-2 c =
    let args = c.args in
    rw (not-true args.negative c.if-not-negative.true-raw) (positive-is args.places _ c.if-size-gt2147483647.false)

returns-4 : tie.Need-returns-then-size-eq0
returns-4 c =
    let args = c.args in
    rw (not-false args.negative c.if-not-negative.false-raw) (zero_is args.places _ c.if-size-eq0.true)

sub-t7 : tie.Need-overflow_sub-result
sub-t7 c =
    search rules

cast-t8 : tie.Need-overflow_cast-result-2
cast-t8 c =
    search rules

sub-t9 : tie.Need-overflow_sub-result-2
sub-t9 c =
    negative_fits _ (search rules) c.if-size-eq0.false

returns-5 : tie.Need-returns
returns-5 c =
    let args = c.args in
    rw (not-false args.negative c.if-not-negative.false-raw) (negative-is _ (search rules) c.if-size-eq0.false args.places)

pub signed_spec : {M : Type 1} → statement M
signed_spec =
    tie.close
    (tie.spec returns cast-t6 returns-2
    (λ c. rw (not-false c.args.negative c.if-not-negative.false-raw) (negative-past c.args.places _ (search rules)))  -- returns-3
    returns-4 sub-t7 cast-t8 sub-t9 returns-5)

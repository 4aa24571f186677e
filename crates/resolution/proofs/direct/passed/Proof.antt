-- `direct::passed`: what is passed changes no binding.
use Rattle.resolution.proofs.direct.passed.Statement.{statement}
use Rattle.resolution.proofs.direct.passed.Tie as tie
use borrow.Author.Rules.{rules}
use mathlib.Core.Path.{refl}
use native.Mathlib.Omega.{arith}
use borrow.Author.Tests.{not-false}
use Rattle.arena.specs.ArenaLaws.{reference_at-falls}
use Rattle.resolution.specs.Direct.{Passes}
use Rattle.resolution.specs.DirectLaws.{passes_on, passes-ends}

abbrev invariant-loop : tie.invariant-loop-at
invariant-loop work number w at₀ at =
    Passes work number w at

abbrev decreases-loop : tie.decreases-loop-at
decreases-loop work number w at₀ at =
    at

loop-holds : tie.Need-loop-at-init invariant-loop decreases-loop
loop-holds c =
    λ x n. refl

returns : tie.Need-returns-then-not-is_passed invariant-loop decreases-loop
returns c =
    c.loop-at.invariant

loop-less : tie.Need-loop-at-smaller invariant-loop decreases-loop
loop-less c =
    omega (arith, c.reference-at.ensures, reference_at-falls c.args.work.now c.loop-at.at 2 (omega (arith, c.loop-at-test.true)))

loop-again : tie.Need-loop-at-preserved invariant-loop decreases-loop
loop-again c =
    let a = c.args in
    passes_on a.work.now a.number a.w c.loop-at.at _ c.loop-at.invariant (c.is_passed.ensures (not-false _ c.if-not-is_passed.false-raw)) c.reference-at.ensures

returns-2 : tie.Need-returns invariant-loop decreases-loop
returns-2 c =
    let a = c.args in
    passes-ends a.work.now a.number a.w c.loop-at.at c.loop-at.invariant c.loop-at-test.false

pub passed_spec : {M : Type 1} → statement M
passed_spec =
    tie.close
    (tie.spec
    invariant-loop
    decreases-loop
    loop-holds
    (λ c κs. search rules)  -- is-passed-requires
    returns
    (λ c κs. search rules)  -- reference-requires
    loop-less
    loop-again
    returns-2)

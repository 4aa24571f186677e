use Rattle.std.proofs.Common.{◌≡◌, ℕ, Some, max, unwrap_or, refl, subst, arith, rules}
use borrow.Author.Tests.{not-true}
use Rattle.environments.specs.EntryLaws.{moving-along}
use Rattle.environments.specs.Reached.{Reached}
use Rattle.environments.specs.LengthLaws.{differ-passed}
use Rattle.environments.specs.MarkLaws.{marks-none, gathered-tells, still-differs, still-drives, still-same}
use Rattle.environments.specs.ReachedLaws.{reached-begins, reached-more, reached-differs, reached-still}
use Rattle.environments.proofs.agree.reached.Goals as goal

pub mark-requires : goal.mark-requires
mark-requires c = (omega arith, refl, c.requires.1)

pub returns-in_err-still : goal.returns-in_err-still
returns-in_err-still c =
    let a = c.args in
    let told = still-differs a.work.now a.env.now _ _ a.e c.requires.1 marks-none c.mark.ensures _ c.in_err-still.ensures _ refl 0 in
    rw (differ-passed c.from_residual.result c.from_residual.ensures.0) (reached-differs a.work.now a.env.now a.e 0 _ told _ a.n refl c.requires.0)

pub returns-then-not-any : goal.returns-then-not-any
returns-then-not-any c =
    let a = c.args in
    let unmarked = c.any.ensures (not-true _ c.if-not-any.true-raw) in
    let told = still-drives a.work.now a.env.now _ _ a.e c.requires.1 marks-none c.mark.ensures _ c.in_ok-still.ensures unmarked in
    let same = still-same a.work.now a.env.now _ _ a.e c.requires.1 marks-none c.mark.ensures _ c.in_ok-still.ensures unmarked in
    rw c.unwrap_or.ensures (reached-still a.work.now a.env.now a.e _ told same a.n c.requires.0 _ refl)

pub loop-init : goal.loop-init
loop-init c =
    let a = c.args in
    (reached-begins a.work.now a.env.now a.e, record { kept = _; keeps = c.keep.ensures; moves = c.begin-moving.ensures.2; along = c.begin-moving.ensures.0 a.work.now })

pub enter-requires : goal.enter-requires
enter-requires c =
    let a = c.args in
    let g = c.loop.invariant.1 in
    moving-along a.work.now g.kept _ c.loop.counter _ g.along g.moves

pub returns-in_err-x : goal.returns-in_err-x
returns-in_err-x c =
    let a = c.args in
    let g = c.loop.invariant.1 in
    let goes = c.enter.ensures.goes g.kept c.loop.counter g.along in
    let told = gathered-tells a.work.now a.env.now _ _ a.e c.requires.1 marks-none c.mark.ensures _ c.in_ok-still.ensures c.loop.counter g.kept _ _ c.in_err-x.ensures g.keeps goes.1 in
    rw (differ-passed c.from_residual-in_err-x.result c.from_residual-in_err-x.ensures.0) (reached-differs a.work.now a.env.now a.e c.loop.counter _ told _ a.n refl (omega arith))

pub loop-preserved : goal.loop-preserved
loop-preserved c =
    let a = c.args in
    let g = c.loop.invariant.1 in
    let goes = c.enter.ensures.goes g.kept c.loop.counter g.along in
    let told = gathered-tells a.work.now a.env.now _ _ a.e c.requires.1 marks-none c.mark.ensures _ c.in_ok-still.ensures c.loop.counter g.kept _ _ c.in_ok-x.ensures g.keeps goes.1 in
    let m : c.max-largest.result ≡ max c.loop.largest (unwrap_or c.in_ok-x.x 0) = search rules in
    (rw m (reached-more a.work.now a.env.now a.e c.loop.counter _ told c.loop.largest _ refl c.loop.invariant.0), record { kept = g.kept; keeps = g.keeps; moves = g.moves; along = goes.0 })

pub returns : goal.returns
returns c =
    let a = c.args in
    let e : c.loop.counter ≡ a.n = omega arith in
    subst (λ (k : ℕ). Reached a.work.now a.env.now a.e (Some k) c.loop.largest) e c.loop.invariant.0

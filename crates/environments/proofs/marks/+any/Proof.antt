-- The proof of the cycle {any}. The measure is the number of variables.
use Rattle.std.proofs.Common.{ℕ, ◌<◌, sym, arith, rules}
use borrow.Fn.Kinds.{In}
use borrow.Fn.PlainCycle.{Measures, is, falls, and}
use Rattle.environments.proofs.marks.any.Reads as any
use Rattle.environments.proofs.marks.any.Kinds as any-kinds
use Rattle.environments.proofs.marks.+any.Lts-any as any-lts
use Rattle.environments.proofs.marks.place.Reads as place-reads
use Rattle.environments.proofs.marks.+any.{statement}
use Rattle.environments.proofs.marks.+any.Tie.{close}
use Rattle.environments.specs.MarkLaws.{unmarked-more}
use mathlib.Core.Bool.{false≢true}

abbrev μ-any : Measures 1 any-kinds.ps ℕ
μ-any κs a =
    a.1.1.0

abbrev any_at : ℕ → In 1 any-kinds.ps
any_at t = and 1 any-kinds.ps (is 1 any-kinds.ps μ-any t) any.Pre

abbrev any_below : ℕ → In 1 any-kinds.ps
any_below t = and 1 any-kinds.ps (falls 1 any-kinds.ps ◌<◌ μ-any t) any.Pre

abbrev any-claims : ℕ → any-lts.Claims
any-claims t = (place-reads.Asked, place-reads.Learnt, any_below t, any.Post)

any-returns : (t : ℕ) → any-lts.Need-returns-then-n-eq0 (any-claims t) (any_at t) any.Post
any-returns t c =
    λ z k l. absurd (omega arith)

any-place-requires : (t : ℕ) → any-lts.Need-place-requires (any-claims t) (any_at t) any.Post
any-place-requires t c κs =
    (omega (arith, c.requires.1.2), c.requires.1.1)

any-mul-if2 : (t : ℕ) → any-lts.Need-offset_bounds-marks-place (any-claims t) (any_at t) any.Post
any-mul-if2 t c =
    omega (arith, c.place.ensures, c.requires.1.1, c.requires.1.2)

any-shared-slice-read-if2 : (t : ℕ) → any-lts.Need-bounds-marks-place (any-claims t) (any_at t) any.Post
any-shared-slice-read-if2 t c =
    omega (arith, c.place.ensures, c.requires.1.0, c.requires.1.1, c.requires.1.2)

any-returns-2 : (t : ℕ) → any-lts.Need-returns-then-marks-place-eq1 (any-claims t) (any_at t) any.Post
any-returns-2 t c =
    λ z. absurd (false≢true (sym z))

any-any-requires : (t : ℕ) → any-lts.Need-any-requires (any-claims t) (any_at t) any.Post
any-any-requires t c κs =
    (omega (arith, c.requires.0), (c.requires.1.0, c.requires.1.1, omega (arith, c.requires.1.2)))

any-returns-3 : (t : ℕ) → any-lts.Need-returns (any-claims t) (any_at t) any.Post
any-returns-3 t c =
    let a = c.args in
    λ z. unmarked-more a.marks.now a.level a.n _ _ (omega arith) c.place.ensures c.if-marks-place-eq1.false (c.any.ensures z)

pub +any_spec : {M : Type 1} → statement M
+any_spec = close μ-any λ t. any-lts.spec (any-claims t)
    (any_at t)
    any.Post
    (any-returns t)
    (λ c. search rules)  -- any-sub-k
    (any-place-requires t)
    (any-mul-if2 t)
    (any-shared-slice-read-if2 t)
    (any-returns-2 t)
    (any-any-requires t)
    (any-returns-3 t)

use Rattle.std.proofs.Common.{◌≡◌, ℕ, suc, sym, ap, ◌∙◌, leb, ltb, leb-true, leb-false, arith}
use borrow.Author.Tests.{lt-ltb, le-ltb}
use Rattle.words.specs.ListLaws.{either}
use Rattle.supplier.specs.Scope.{place_after}
use Rattle.supplier.proofs.scope.is_bound.Goals as goal

at-most : (a k : ℕ) → leb a k ≡ ltb a (suc k)
at-most a k =
    either (leb a k) (λ h. h ∙ sym (lt-ltb a (suc k) (omega (arith, leb-true a k h))))
    (λ h. h ∙ sym (le-ltb a (suc k) (omega (arith, leb-false a k h))))

pub returns-in-Some : goal.returns-in-Some
unfolding place_after
returns-in-Some c = at-most _ _ ∙ ap (ltb c.args.from) (sym (ap place_after c.in-Some.is) ∙ c.innermost.ensures)

pub returns-in-None : goal.returns-in-None
unfolding place_after
returns-in-None c =
    let e = sym (ap place_after c.in-None.is) ∙ c.innermost.ensures in
    sym (le-ltb _ _ (omega (arith, e)))

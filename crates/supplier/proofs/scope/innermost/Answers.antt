use Rattle.std.specs.Prelude.{Option, None, Some}
use Rattle.std.proofs.Common.{rules, ◌≡◌, ℕ, refl}
use Rattle.supplier.specs.ScopeLaws.{place-found, place-nowhere}
use Rattle.supplier.proofs.scope.innermost.Goals as goal

either-way : (r : Option ℕ) (P : Type 0) → ((k : ℕ) → r ≡ Some k → P) → (r ≡ None → P) → P
either-way (Some k) P f g = f k refl
either-way None P f g = g refl

pub returns : goal.returns
returns c =
    either-way c.rposition.result _
    (λ k e. place-found c.args.name c.args.scope.now c.args.top c.requires _ k e (search rules) (search rules) (search rules))
    (λ e. place-nowhere c.args.name c.args.scope.now c.args.top c.requires _ e (search rules))

-- The own names of variables in two runs that differ in a private name, and what is told of them.
use Rattle.std.proofs.Math.Path.{◌≡◌}
use Rattle.std.specs.Prelude.{refl, true, false, ℕ}
use Rattle.std.proofs.Common.{ap, sym}
use Rattle.recipe.specs.Name.{Name}
use Rattle.core_term.specs.Term.{Term, Terms, on_formals}
use Rattle.expansion.specs.Run.{told}
use Rattle.private_names.specs.Statement.{formal_number}
use Rattle.simulation.specs.Marks.{Kind}
use Rattle.simulation.specs.Terms.{TermOf, TermsOf}
use Rattle.simulation.proofs.TermsLaws.{told-rel, first-rel}
use Rattle.simulation.specs.Names.Shown.{Renaming, is_copy}
use Rattle.simulation.proofs.Names.ShownLaws.{not-private-not-copy, private-copy}
use Rattle.simulation.specs.Names.{Ready, Raw, NameRel, kept, turned}

module _ (ρ : Renaming) where
  -- a formal's own name is the same in both runs, or it is a copy: of one item, with the old number in the first and the new in the second
  pub data FormalRel (x y : Name) : Type 0 where
    same-formal : is_copy ρ x ≡ false → x ≡ y → FormalRel x y
    copied-formal : is_copy ρ x ≡ true → x.item ≡ y.item → x.number ≡ ρ.old → y.number ≡ ρ.new → FormalRel x y

  abbrev pub TermRel : Term Name → Term Name → Type 0
  TermRel = TermOf (◌≡◌ {A = ℕ}) FormalRel

  abbrev pub TermsRel : Terms Name → Terms Name → Type 0
  TermsRel = TermsOf (◌≡◌ {A = ℕ}) FormalRel

  -- the second run has the new number where a copy stands, and the first the old
  pub second-told : {a b : Term Name} → TermRel a b → on_formals (formal_number ρ.is_private ρ.new) a ≡ told b
  unfolding formal_number
  second-told = told-rel (λ n m e. e) _ _ number
    where
      number : (x y : Name) → FormalRel x y → formal_number ρ.is_private ρ.new x ≡ y.number
      number x y (same-formal c e) = rw c (ap (λ z. z.number) e)
      number x y (copied-formal c i o n) = rw c (sym n)

  pub first-told : {a b : Term Name} → TermRel a b → on_formals (formal_number ρ.is_private ρ.old) a ≡ told a
  unfolding formal_number
  first-told r = told-rel {N = ◌≡◌ {A = ℕ}} (λ n m e. e) _ _ (λ x y e. e) (first-rel (◌≡◌ {A = ℕ}) (λ n m e. refl) (λ x y. formal_number ρ.is_private ρ.old x ≡ y.number) number r)
    where
      number : (x y : Name) → FormalRel x y → formal_number ρ.is_private ρ.old x ≡ x.number
      number x y (same-formal c e) = rw c
      number x y (copied-formal c i o n) = rw c (sym o)

  pub formal-rel : {Q : Kind} → Ready ρ Q → (raw : Raw ρ) (x y : Name) → NameRel ρ raw Q x y → FormalRel x y
  formal-rel rd raw x y (kept q k) = same-formal (not-private-not-copy ρ x k.not-private) k.eq
  formal-rel rd raw x y (turned q t) = copied-formal (private-copy ρ x (rd _ _ _ _ q t.private) t.private) t.item t.old t.new

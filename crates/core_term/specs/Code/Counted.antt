-- What the checker tells of words: how many variables their term binds, or that they are none.
use Rattle.std.specs.Prelude.{◌≡◌, refl, true, false, ℕ, Some, None}
use Rattle.std.specs.declared.option.Option.{Option}
use Rattle.std.proofs.Math.Option as M
use Rattle.std.proofs.Math.Option.{none, some}
use Rattle.std.proofs.Common.{arith}
use Rattle.core_term.specs.Term.{Plain, variables}
use Rattle.std.specs.Option as O
use Rattle.core_term.specs.Check.{is_some}

unfoldable pub counted_of : M.Option Plain → Option ℕ
counted_of none = None
counted_of (some t) = Some (variables t)

pub none-counted : (o : M.Option Plain) → o ≡ none → None ≡ counted_of o
unfolding counted_of
none-counted o h = rw h

-- ---- what an answer says

pub counted_none : (o : M.Option Plain) → counted_of o ≡ None → o ≡ none
unfolding counted_of
counted_none none h = refl
counted_none (some t) h = let z : ◌≡◌ {A = ℕ} 0 1 = cc in absurd (omega arith)

pub counted-some : (o : M.Option Plain) (n : ℕ) → counted_of o ≡ Some n → (t : Plain) × (o ≡ some t) × (n ≡ variables t)
unfolding counted_of
counted-some none n h = let z : ◌≡◌ {A = ℕ} 0 1 = cc in absurd (omega arith)
counted-some (some t) n h = (t, refl, cc)

-- ---- whether there is a term

pub counted-told : (o : M.Option Plain) → O.is_some (counted_of o) ≡ is_some o
unfolding counted_of is_some
counted-told none = refl
counted-told (some t) = refl

pub counted-no : (o : M.Option Plain) → counted_of o ≡ None → is_some o ≡ false
unfolding is_some
counted-no o h = rw (counted_none o h)

pub counted-yes : (o : M.Option Plain) (n : ℕ) → counted_of o ≡ Some n → is_some o ≡ true
unfolding is_some
counted-yes o n h = rw (counted-some o n h).1

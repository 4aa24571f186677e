-- Laws of a text's element against our term: what is answered of what the walk found.
use Rattle.std.specs.Prelude.{◌≡◌, List, [], Bool, true, Result, Ok, Err}
use Rattle.words.specs.declared.ground.Ground.{Ground}
use Rattle.words.specs.declared.ground.Ground.TheVariants.{OpenName, OutsideGrammar}
use Rattle.std.proofs.Math.Path.{ap}
use Rattle.std.proofs.Common.{◌∙◌}
use Rattle.std.proofs.Math.Bool.{false}
use Prim.Native.Nat.{ℕ}
use Rattle.datum.specs.Datum.{Datum}
use Rattle.supplier.specs.declared.front.Difference.{Difference}
use Rattle.supplier.specs.declared.front.Difference.TheVariants.{Other, Open, Outside}
use Rattle.supplier.specs.Items.{DatumAt}
use Rattle.supplier.specs.declared.scope.Formal.{Formal}
use Rattle.supplier.specs.Scope.{scope_of}
use Rattle.supplier.specs.Walk.{walk}
use Rattle.supplier.specs.WalkSays.{answered, walk-decides}
use Rattle.supplier.specs.Told.{Walked, found_of, Told}
use Rattle.supplier.specs.Service.{verdict_of}
use Rattle.supplier.specs.Text.{ElementRight}

module _ (items theirs words ours operations : List ℕ) (scope : List Formal) (w : Walked)
    (told : (d : Datum) → DatumAt items 1 d → Told words (walk theirs ours operations d false (scope_of scope 0) words) w) where
  by_finding : (r : Result Bool Ground) → verdict_of r ≡ answered theirs ours operations (found_of words w) → ElementRight items theirs words ours operations r
  unfolding scope_of
  by_finding r e d t o g z =
      e ∙ ap (answered theirs ours operations) ((told d o).is ∙ ap (walk theirs ours operations d false []) z) ∙ walk-decides theirs ours operations d t g

  pub element-yes : (n : ℕ) → w ≡ Ok n → ElementRight items theirs words ours operations (Ok true)
  unfolding verdict_of answered found_of
  element-yes n e = by_finding (Ok true) (rw e)

  pub element-no : (d : Difference) → w ≡ Err d → d ≡ Other → ElementRight items theirs words ours operations (Ok false)
  unfolding verdict_of answered found_of
  element-no d e f = by_finding (Ok false) (rw (e, f))

  pub element-open : (d : Difference) → w ≡ Err d → d ≡ Open → ElementRight items theirs words ours operations (Err OpenName)
  unfolding verdict_of answered found_of
  element-open d e f = by_finding (Err OpenName) (rw (e, f))

  pub element-outside : (d : Difference) → w ≡ Err d → d ≡ Outside → ElementRight items theirs words ours operations (Err OutsideGrammar)
  unfolding verdict_of answered found_of
  element-outside d e f = by_finding (Err OutsideGrammar) (rw (e, f))

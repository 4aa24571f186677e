-- Known answers to request L2, D1 to D15: variables under more ellipses of the template than of the pattern. All of them were refused
-- before; the recipes of document 01 were answered as now, and the claim is tried on one.
use Rattle.std.specs.Prelude.{◌≡◌, refl, [], ◌∷◌, map}
use Rattle.std.proofs.Common.{leb-true}
use Rattle.words.specs.Limits.{filing_work, filing_core}
use Rattle.expansion.specs.Run.{accepted, run}
use Rattle.expansion.specs.RunLaws.{Begun}
use Rattle.expansion.specs.Computed.{computed}
use Rattle.expansion.specs.Row.{refuses, with_fuel, filed}
use Rattle.expansion.specs.Rows.{E01-to-E16, E17-to-E33, E34-to-E48, E49-to-E62}
use Rattle.expansion.specs.Depths.{RecipesBefore}
use Rattle.expansion.proofs.DepthLaws.{recipes-before}
use Rattle.expansion.specs.RowsDepths.{depths, filed_before, items_from, nested, run_before}

pub depths-hold : map filed depths ≡ depths
unfolding filed depths
depths-hold = refl

-- ---- before

pub depths-before : map filed_before depths ≡ map (λ r. with_fuel r.fuel (refuses r.text 15 0 0)) depths
unfolding filed_before depths
depths-before = refl

pub E01-to-E16-before : map filed_before E01-to-E16 ≡ E01-to-E16
unfolding filed_before E01-to-E16
E01-to-E16-before = refl

pub E17-to-E33-before : map filed_before E17-to-E33 ≡ E17-to-E33
unfolding filed_before E17-to-E33
E17-to-E33-before = refl

pub E34-to-E48-before : map filed_before E34-to-E48 ≡ E34-to-E48
unfolding filed_before E34-to-E48
E34-to-E48-before = refl

pub E49-to-E62-before : map filed_before E49-to-E62 ≡ E49-to-E62
unfolding filed_before E49-to-E62
E49-to-E62-before = refl

nested-begins : (Begun (items_from nested) 512 filing_work filing_core) × (Begun (items_from nested) 31 filing_work filing_core)
unfolding items_from nested computed
nested-begins = (
  record { layout = refl; fuelled = leb-true _ _ refl; work-room = leb-true _ _ refl; core-room = leb-true _ _ refl; operations = refl },
  record { layout = refl; fuelled = leb-true _ _ refl; work-room = leb-true _ _ refl; core-room = leb-true _ _ refl; operations = refl },
)

nested-accepted : ((run_before nested 512).outcome ≡ accepted) × ((run_before nested 31).outcome ≡ accepted)
unfolding run_before nested
nested-accepted = (refl, refl)

pub nested_same : (run (items_from nested) 512 filing_work filing_core ≡ run_before nested 512) × (run (items_from nested) 31 filing_work filing_core ≡ run_before nested 31)
unfolding run_before nested RecipesBefore
nested_same = (
  recipes-before (items_from nested) 512 filing_work filing_core nested-begins.0 nested-accepted.0,
  recipes-before (items_from nested) 31 filing_work filing_core nested-begins.1 nested-accepted.1,
)

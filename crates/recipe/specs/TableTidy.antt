-- The tree of a table of the layout is tidy: its names are below 1,024, with no marks and no binding, its constants are constants.
use Rattle.std.specs.Prelude.{◌≡◌, ◌&&◌, ◌||◌, [], ◌∷◌}
use Rattle.std.proofs.Common.{◌∙◌}
use Rattle.std.proofs.Math.Bool.{true}
use Prim.Native.Nat.{◌+◌, ◌*◌, ◌-◌, ◌<◌}
use Rattle.words.specs.Limits.{names_most}
use Rattle.datum.specs.Constant.{Constant, is_constant}
use Rattle.recipe.specs.Name.{Name, plain_name}

-- a name as a name item holds it
pub record PlainName (x : Name) : Type 0 where
  pub small : x.number < names_most
  pub plain : x ≡ plain_name x.number x.item

abbrev pub IsConstant : Constant → Type 0
IsConstant a = is_constant a ≡ true

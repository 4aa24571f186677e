-- The names of a table's tree: every one is as its item holds it, and each item of a table of the layout is the origin of at most one.
use Rattle.std.specs.Prelude.{◌≡◌, List, [], ◌∷◌, get_or}
use Rattle.std.proofs.Common.{◌∙◌}
use Rattle.std.proofs.Math.Bool.{true}
use Prim.Native.Nat.{ℕ, ◌+◌, ◌*◌, ◌-◌, ◌≤◌, ◌<◌}
use Rattle.std.proofs.Math.Dec.{eqb}
use Rattle.recipe.specs.Name.{Name, plain_name}
use Rattle.recipe.specs.Table.{Item}

-- ---- by items

-- the name of the item, where it is a name
abbrev pub NameOf : (Name → Type 0) → Item → Type 0
NameOf P x = eqb x.kind 3 ≡ true → P (plain_name x.first x.place)

-- no marks, no binding, and in no result
abbrev pub Plain : Name → Type 0
Plain x = x ≡ plain_name x.number x.item

-- an item tells its name's number
unfoldable pub number_at : List ℕ → ℕ → ℕ
number_at ws i = get_or ws (3 * i + 1) 0

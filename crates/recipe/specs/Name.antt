-- Names, marks and bindings (document 01, the section of that title), one name at a time.
-- Marks are a set, kept as a descending list, so that equality of sets is equality of lists.
use Rattle.std.specs.Prelude.{Bool, true, false, not, ◌&&◌, cond, List, [], ◌∷◌, ℕ, suc, ◌*◌, eqb, ltb}
use Rattle.std.proofs.Math.Option.{Option, none, some}
use Rattle.words.specs.Lists.{any_of, equal}

-- a binding: variable n of the run, or macro n of the run
pub data Binding : Type 0 where
  variable macro : (n : ℕ) → Binding

-- a name in the tree: its number, a set of marks, and a binding or none;
-- besides, the name item that it stems from, and whether it has stood in a step's result
pub record Name : Type 0 where
  pub number : ℕ
  pub item : ℕ
  pub produced : Bool
  pub marks : List ℕ
  pub binding : Option Binding

-- the name that a name item holds
unfoldable pub plain_name : (number item : ℕ) → Name
plain_name n i = record { number = n; item = i; produced = false; marks = []; binding = none }

-- ---- sameness

-- bindings are told apart by kind and number
unfoldable pub binding_key : Option Binding → ℕ
binding_key none = 0
binding_key (some (variable n)) = suc (2 * n)
binding_key (some (macro n)) = suc (suc (2 * n))

unfoldable pub is_bound : Option Binding → Bool
is_bound none = false
is_bound (some b) = true

-- sameness: number, marks and binding together
unfoldable pub same : Name → Name → Bool
same x y = eqb x.number y.number && (equal x.marks y.marks && eqb (binding_key x.binding) (binding_key y.binding))

-- no two of these names are the same
unfoldable pub distinct : List Name → Bool
distinct [] = true
distinct (x ∷ xs) = not (any_of (same x) xs) && distinct xs

-- `...` and `_` are known by number alone
unfoldable pub is_ellipsis : Name → Bool
is_ellipsis x = eqb x.number 6

unfoldable pub is_wildcard : Name → Bool
is_wildcard x = eqb x.number 7

-- a name that forms may bind, and that an author may choose for the ellipsis (request L3): other than `...` and `_`
unfoldable pub is_ordinary : Name → Bool
is_ordinary x = not (is_ellipsis x) && not (is_wildcard x)

-- ---- marks and bindings

-- a mark met twice cancels (document 002, section 4: exclusive union)
unfoldable pub toggle : ℕ → List ℕ → List ℕ
toggle m [] = m ∷ []
toggle m (x ∷ xs) = let later = toggle m xs in cond (eqb m x) xs (cond (ltb x m) (m ∷ x ∷ xs) (x ∷ later))

-- marks never change a binding
unfoldable pub mark_name : ℕ → Name → Name
mark_name m x = record { number = x.number; item = x.item; produced = x.produced; marks = toggle m x.marks; binding = x.binding }

-- a name of a step's result
unfoldable pub produce_name : Name → Name
produce_name x = record { number = x.number; item = x.item; produced = true; marks = x.marks; binding = x.binding }

unfoldable pub give_binding : Binding → Name → Name
give_binding b x = record { number = x.number; item = x.item; produced = x.produced; marks = x.marks; binding = some b }

-- binding name i gives the new binding to every name that is the same as i
unfoldable pub bind_name : Name → Binding → Name → Name
bind_name i b x = cond (same i x) (give_binding b x) x

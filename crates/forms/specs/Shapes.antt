-- Lists of what a form binds, in the definition's words. A formal is a name itself, a macro is (name rules).
use Rattle.std.specs.Prelude.{Bool, ◌&&◌, ℕ, leb, length}
use Rattle.words.specs.Lists.{all_of}
use Rattle.recipe.specs.Tree.{Tree, is_ordinary_name, elements, element}
use Rattle.expansion.specs.Forms.{is_macro}
use Rattle.forms.specs.declared.shapes.Bound.{Bound}
use Rattle.forms.specs.declared.shapes.Bound.TheVariants.{Formals, Keywords}

-- the name that an element binds
unfoldable pub own_name : (bound : Bound) → Tree → Tree
own_name Formals c = c
own_name Keywords c = element 0 c

unfoldable pub binds_one : (bound : Bound) → Tree → Bool
binds_one Formals c = is_ordinary_name c
binds_one Keywords c = is_macro c

unfoldable pub binds_all : (bound : Bound) (most : ℕ) → Tree → Bool
binds_all bound most t = all_of (binds_one bound) (elements t) && leb (length (elements t)) most

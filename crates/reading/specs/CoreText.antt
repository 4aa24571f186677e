-- Which texts have one element. That reading accepts exactly these stands in CoreAccepts.
use Rattle.std.specs.Prelude.{List, ℕ}
use Rattle.reading.specs.Read.{Recipe}
use Rattle.reading.specs.RecipeText.{Element, Elements, none_e, more_e, HasElements, said_by}

-- a text's one element
unfoldable pub one : Element → Elements
one x = more_e x none_e

-- the text has exactly one element x
abbrev pub CoreText : List ℕ → Element → Type 0
CoreText text x = HasElements text (one x)

-- what the element gives
unfoldable pub core_element : Element → Recipe
unfolding said_by
core_element x = said_by (one x)

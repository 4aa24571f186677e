-- Yes is exactly 'a rendering of our term', tried on each known answer of request L4; and two renderings by hand.
use Rattle.std.specs.Prelude.{◌≡◌, [], ◌∷◌, ◌++◌, ◌+◌}
use Prim.Native.String as S
use Rattle.words.specs.Limits.{item_words_least, name_bytes_least, filing_fuel, filing_work, filing_core}
use Rattle.words.specs.Text.{bytes}
use Rattle.expansion.specs.Run.{core_of}
use Rattle.expansion.specs.Computed.{computed}
use Rattle.comparison.specs.Rows.{items_of, names_of}
use Rattle.comparison.specs.CallExactly.{ReadAsRendering}

-- the text is read as a rendering of the recipe's expansion
abbrev pub IsRendering : (recipe text : S.String) → Type 0
IsRendering recipe text =
    ReadAsRendering (items_of recipe) (names_of recipe) (core_of (computed (items_of recipe) filing_fuel filing_work filing_core)) (bytes text) item_words_least name_bytes_least

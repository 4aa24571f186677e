-- An accepted recipe is written: proved, and tried on a recipe whose term has a private name, a quoted one, an operation and a decimal.
use Rattle.std.specs.Prelude.{◌≡◌, List, [], ℕ}
use Rattle.words.specs.Limits.{item_words_least, name_bytes_least}
use Rattle.words.specs.Text.{bytes}
use Rattle.datum.specs.Datum.{none_d}
use Rattle.reading.specs.Elements.{Answer, got, refused_for}
use Rattle.reading.specs.Read.{Recipe, read}

-- ---- a row

unfoldable pub row : List ℕ
unfolding bytes
row = bytes "(list) (let-syntax ((or2 (syntax-rules () ((_ a b) ((lambda (t) (if t t b)) a))))) (lambda (t) (or2 (list (quote (t 0.80))) t)))"

-- what reading gives for it
unfoldable pub row_recipe : Recipe
unfolding row read
row_recipe = recipe_in (read row item_words_least name_bytes_least)
  where
    recipe_in : Answer Recipe → Recipe
    recipe_in (got recipe) = recipe
    recipe_in (refused_for stage g) = record { elements = none_d; names = [] }

-- Request L9 over plain numbers, each condition an argument of its own, from `more-fuel` and `least-fuel`, whose conditions stand in a
-- record; and the claims at one recipe, from fuel 21 to 8,192.
use Rattle.std.specs.Prelude.{◌≡◌, List, ℕ, ◌+◌, ◌*◌, ◌≤◌, ◌<◌}
use Rattle.std.proofs.Common.{◌∙◌}
use Rattle.words.specs.Text.{bytes}
use Rattle.reading.specs.Read.{recipe_of}
use Rattle.expansion.specs.Row.{items_of}

-- ---- an instance: recipe F1, whose sum is 21

unfoldable pub or2 : List ℕ
unfolding bytes recipe_of items_of
or2 = items_of (recipe_of (bytes "() (let-syntax ((or2 (syntax-rules () ((_ a b) ((lambda (t) (if t t b)) a))))) (lambda (t) (or2 #f t)))"))

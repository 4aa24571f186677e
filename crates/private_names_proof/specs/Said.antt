-- Demand 3 as it is said, phrase by phrase, from the test that computes: each condition gives its part of the test, and no part asks for
-- more.
use Rattle.std.specs.Prelude.{◌≡◌, true, ◌&&◌, ◌||◌, ℕ, ◌≤◌, ◌<◌}
use Rattle.std.proofs.Common.{◌∙◌}
use mathlib.Core.List.{List, [], ◌∷◌}
use Rattle.words.specs.Lists.{all_of}
use Rattle.recipe.specs.Tree.{Tree}
use Rattle.recipe.specs.Table.{tree_of}
use Rattle.expansion.specs.Run.{run}
use Rattle.private_names.specs.Statement.{Choice, is_item_of, is_old_item, hypotheses}

-- ---- the test

-- the test holds of a choice, and its copies are those of the template
pub data Tested (ws : List ℕ) (fuel work core : ℕ) (template : Tree) : (old new : ℕ) → Type 0 where
  tested : (c : Choice) → all_of (λ h. h) (hypotheses ws c (run ws fuel work core).events) ≡ true → is_old_item (tree_of ws) c ≡ is_item_of template c.old → Tested ws fuel work core template c.old c.new

-- The call (request L4): the recipe's two tables, our term's words and the supplier's text give yes, no, or the ground.
use Rattle.std.specs.Prelude.{Bool, true, false, cond, List, [], map, ℕ, length}
use Rattle.std.proofs.Math.Option.{Option, none, some}
use Rattle.words.specs.Lists.{all_of, any_of, equal}
use Rattle.words.specs.Tables.{Stage, testing, begun, left_at}
use Rattle.datum.specs.NameTable.{has_name, name_at}
use Rattle.reading.specs.Elements.{Answer, got, refused_for}
use Rattle.reading.specs.Read.{Recipe, read_elements, item_words, name_bytes}
use Rattle.recipe.specs.Table.{is_layout, tree_of}
use Rattle.core_term.specs.Term.{Plain}
use Rattle.core_term.specs.Check.{term_of}
use Rattle.expansion.specs.Run.{operation_numbers, are_operations}
use Rattle.comparison.specs.Expression.{Expression}
use Rattle.comparison.specs.Grammar.{the_one, after, expression_of}
use Rattle.comparison.specs.Closed.{closed}
use Rattle.comparison.specs.Agrees.{agrees}

pub data Verdict : Type 0 where
  yes no : Verdict
  refused_on : (ground_number : ℕ) → Verdict

-- ---- the text against our term

-- how each side spells its names, and the operations in the order of their places
module _ (theirs ours : ℕ → List ℕ) (operations : List (List ℕ)) where
  -- 22, then the answer
  unfoldable pub decided : Plain → Option Expression → Verdict
  decided t none = refused_on 21
  decided t (some e) =
      cond (closed (λ n. any_of (equal (theirs n)) operations) [] e)
      (cond (agrees theirs ours operations [] e t) yes no)
      (refused_on 22)

-- a text that was read: 21 where its element is no expression
unfoldable pub held : (ours : ℕ → List ℕ) → List (List ℕ) → Plain → Answer Recipe → Verdict
held ours operations t (refused_for stage g) = refused_on g
held ours operations t (got r) = decided (name_at (name_bytes r)) ours operations t (after (the_one r.elements) expression_of)

-- ---- the tests before it

-- what a call answers, and the stage that it has come to
pub record Reply : Type 0 where
  pub stage : Stage
  pub verdict : Verdict

-- refused by a test, before the text is read
unfoldable pub unread : (ground_number : ℕ) → Reply
unread g = record { stage = testing; verdict = refused_on g }

-- past the tests a call has come as far as the reading of its text
unfoldable pub replied : Answer Recipe → Verdict → Reply
replied (got r) v = record { stage = begun; verdict = v }
replied (refused_for stage g) v = record { stage = stage; verdict = v }

-- the rest of the call, where the test of ground g passes
unfoldable pub require : (ground_number : ℕ) → Bool → Reply → Reply
unfolding unread
require g true r = r
require g false r = unread g

-- the recipe's operations, spelled
unfoldable pub spelled_operations : (items names : List ℕ) → List (List ℕ)
spelled_operations items names = map (name_at names) (operation_numbers (tree_of items))

-- ground 19: our term, with the recipe's operations and names
unfoldable pub our_term : (items names words : List ℕ) → Option Plain
our_term items names words = term_of (length (operation_numbers (tree_of items))) (has_name names) words

unfoldable pub with_term : Option Plain → (Plain → Reply) → Reply
unfolding unread
with_term none f = unread 19
with_term (some t) f = f t

-- our term against the answer of reading the text
unfoldable pub comparison : (items names words : List ℕ) → Answer Recipe → Reply
unfolding replied
comparison items names words text =
    require 7 (is_layout items)
    (require 10 (are_operations (tree_of items))
    (with_term (our_term items names words) (λ t.
    require 19 (all_of (has_name names) (operation_numbers (tree_of items)))
    (replied text (held (name_at names) (spelled_operations items names) t text)))))

-- the call: the recipe's tables, our words, the text and the lengths of the two tables lent for it
unfoldable pub compare : (items names words text : List ℕ) (text_items text_names : ℕ) → Reply
compare items names words text text_items text_names = comparison items names words (read_elements 1 text text_items text_names)

-- ---- the text's tables

-- yes and no leave the reading, a refusal nothing of it
unfoldable pub kept : Verdict → List ℕ → List ℕ
kept yes words = words
kept no words = words
kept (refused_on g) words = []

-- a table that was lent for the text
unfoldable pub left_by : Reply → List ℕ → List ℕ → List ℕ
unfolding left_at kept
left_by r words table = left_at r.stage (kept r.verdict words) table

unfoldable pub read_words : (Recipe → List ℕ) → Answer Recipe → List ℕ
read_words f (got r) = f r
read_words f (refused_for stage g) = []

unfoldable pub items_left : Reply → Answer Recipe → List ℕ → List ℕ
items_left r text = left_by r (read_words item_words text)

unfoldable pub names_left : Reply → Answer Recipe → List ℕ → List ℕ
names_left r text = left_by r (read_words name_bytes text)

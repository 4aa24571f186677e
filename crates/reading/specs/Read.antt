-- The meaning of reading: for a text and the lengths of the lent tables the answer, and what both tables hold afterwards.
-- The interface is recipe_of, read_elements, read, and the functions of the call's answer below them; contracts are equations with these.
use Rattle.std.specs.Prelude.{◌||◌, cond, List, [], map, ℕ, ltb, length}
use Rattle.words.specs.Tables.{testing, begun, left_at}
use Rattle.words.specs.Limits.{item_words_least, name_bytes_least, text_bytes_most}
use Rattle.datum.specs.Datum.{Data, none_d, datum_items, data_items}
use Rattle.datum.specs.NameTable.{slots}
use Rattle.reading.specs.Token.{tokens}
use Rattle.reading.specs.Meaning.{meaning_of}
use Rattle.reading.specs.Elements.{Answer, got, refused_for, then, Reading, start, onto, is_complete, takes_all}
use Rattle.reading.specs.Numbering.{base_names, data_words}

-- what a text says: the list of its elements, two where it is a recipe's, names by number, and the names
pub record Recipe : Type 0 where
  pub elements : Data
  pub names : List (List ℕ)

-- at the end of the text: ground 5 where a list is open or an element missing
unfoldable pub finished : Reading → Answer Recipe
finished r = cond (is_complete r) (got (record { elements = onto r.here none_d; names = r.known })) (refused_for begun 5)

-- grounds 3 to 6 of a text that has so many elements, over the names that have numbers before it
unfoldable pub recipe_over : List (List ℕ) → ℕ → List ℕ → Answer Recipe
unfolding finished tokens meaning_of then start takes_all
recipe_over names wanted text = then (takes_all (map meaning_of (tokens text)) (start names wanted)) finished

-- over names 0 to 7
unfoldable pub elements_of : ℕ → List ℕ → Answer Recipe
unfolding recipe_over base_names
elements_of wanted text = recipe_over base_names wanted text

-- a recipe text has two
unfoldable pub recipe_of : List ℕ → Answer Recipe
unfolding elements_of
recipe_of text = elements_of 2 text

-- the call: how many elements a text has, the text and the lengths of the two lent tables; two tests of what is lent, and past them
-- the text is read
unfoldable pub read_elements : ℕ → List ℕ → ℕ → ℕ → Answer Recipe
unfolding elements_of
read_elements wanted text items names =
    cond (ltb items item_words_least || ltb names name_bytes_least) (refused_for testing 1)
    (cond (ltb text_bytes_most (length text)) (refused_for testing 2)
    (elements_of wanted text))

-- the call for a recipe text
unfoldable pub read : List ℕ → ℕ → ℕ → Answer Recipe
unfolding read_elements recipe_of
read text items names = read_elements 2 text items names

-- ---- the numbers of the answer

-- the ground, 0 where it is accepted; N; names, 0 to 7 among them
pub record Numbers : Type 0 where
  pub ground_number : ℕ
  pub items : ℕ
  pub names : ℕ

unfoldable pub read_numbers : Answer Recipe → Numbers
unfolding data_items
read_numbers (got r) = record { ground_number = 0; items = data_items r.elements; names = length r.names }
read_numbers (refused_for stage g) = record { ground_number = g; items = 0; names = 0 }

-- ---- the tables

-- the item table's words
unfoldable pub item_words : Recipe → List ℕ
unfolding data_words datum_items data_items
item_words r = data_words 0 r.elements

-- the name table's bytes
unfoldable pub name_bytes : Recipe → List ℕ
unfolding slots
name_bytes r = slots r.names

-- the lent item table after the call, from what it held before; a refused call leaves no words in it
unfoldable pub items_after : Answer Recipe → List ℕ → List ℕ
unfolding left_at item_words
items_after (got r) table = left_at begun (item_words r) table
items_after (refused_for stage g) table = left_at stage [] table

-- the lent name table after the call, from what it held before
unfoldable pub names_after : Answer Recipe → List ℕ → List ℕ
unfolding left_at name_bytes
names_after (got r) table = left_at begun (name_bytes r) table
names_after (refused_for stage g) table = left_at stage [] table

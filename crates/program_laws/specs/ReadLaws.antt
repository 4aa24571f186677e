-- The recipe behind an answer of reading, and the words and bytes that begin its tables.
use Rattle.std.specs.Prelude.{◌≡◌, List, ℕ, ◌*◌, ◌-◌, ◌≤◌, take, replicate, Result, Ok, Err}
use Rattle.std.proofs.Common.{sym, ap₂, subst, ◌∙◌, arith}
use Rattle.std.proofs.Math.Path.{ap}
use Rattle.std.proofs.Math.ListN.{length}
use Rattle.words.specs.Limits.{slot_size}
use Rattle.words.specs.Tables.{filled, Stage}
use Rattle.datum.specs.Datum.{data_items}
use Rattle.datum.specs.NameTable.{has_name}
use Rattle.reading.specs.Elements.{Answer, got, refused_for}
use Rattle.reading.specs.Read.{Recipe, read, read_numbers, item_words, name_bytes, items_after, names_after}
use Rattle.reading_layout.specs.Items.{data-length}
use Rattle.reading_layout.specs.Answers.{numbers-got, numbers-refused, read-slots}
use Rattle.reading_layout.specs.Named.{read_named}
use Rattle.expansion.specs.CoreTerm.{Named}
use Rattle.words.specs.Code.Ground.{number_of}
use Rattle.words.specs.declared.ground.Ground.{Ground}
use Rattle.reader.specs.declared.Counts.{Counts}
use Rattle.reader.specs.Served.{numbers_of, Served}
use Rattle.program_laws.specs.Front.{front}

module _ (text items items' names names' : List ℕ) (r : Result Counts Ground) (s : Served text items items' names names' r) where
  abbrev read' : Answer Recipe
  read' = read text (length items) (length names)

  told_of : (q : Result Counts Ground) → r ≡ q → numbers_of q ≡ read_numbers read'
  told_of q h = subst (λ (z : Result Counts Ground). numbers_of z ≡ read_numbers read') h s.numbers

  -- the recipe behind an answer
  pub recipe-read : (k : Counts) → r ≡ Ok k → (x : Recipe) × (read' ≡ got x) × (k.items ≡ data_items x.elements) × (k.names ≡ length x.names)
  unfolding read numbers_of
  recipe-read k h = numbers-got 2 text (length items) (length names) k.items k.names (told_of (Ok k) h)

  pub refused-read : (g : Ground) → r ≡ Err g → (stage : Stage) × (read' ≡ refused_for stage (number_of g))
  unfolding read numbers_of
  refused-read g h = numbers-refused 2 text (length items) (length names) (number_of g) (told_of (Err g) h)

  module _ (k : Counts) (h : r ≡ Ok k) where
    abbrev recipe : Recipe
    recipe = (recipe-read k h).0

    abbrev is_read : read' ≡ got recipe
    is_read = (recipe-read k h).1

    pub items-front : (3 * k.items ≤ length items') × (take (3 * k.items) items' ≡ item_words recipe)
    unfolding items_after filled item_words
    items-front =
        front (item_words recipe) (replicate (length items - length (item_words recipe)) 0) items' (3 * k.items)
        (s.items ∙ ap (λ (a : Answer Recipe). items_after a items) is_read)
        (omega (arith, data-length 0 recipe.elements, (recipe-read k h).2))

    pub names-front : (slot_size * k.names ≤ length names') × (take (slot_size * k.names) names' ≡ name_bytes recipe)
    unfolding names_after filled
    names-front =
        front (name_bytes recipe) (replicate (length names - length (name_bytes recipe)) 0) names' (slot_size * k.names)
        (s.names ∙ ap (λ (a : Answer Recipe). names_after a names) is_read)
        (omega (arith, read-slots text (length items) (length names) recipe is_read, (recipe-read k h).3))

    -- each name of the words is in the bytes
    pub items-named : Named (has_name (take (slot_size * k.names) names')) (take (3 * k.items) items')
    unfolding read
    items-named = rw (items-front.1, names-front.1) (read_named 2 text (length items) (length names) recipe is_read)

    -- what is said of the words and bytes that begin the tables is said of the answer
    pub of-recipe : {A : Type 0} (f : (items names : List ℕ) → A) (g : Answer Recipe → A) → ((x : Recipe) → f (item_words x) (name_bytes x) ≡ g (got x)) → f (take (3 * k.items) items') (take (slot_size * k.names) names') ≡ g read'
    of-recipe f g same = ap₂ f items-front.1 names-front.1 ∙ same recipe ∙ ap g (sym is_read)

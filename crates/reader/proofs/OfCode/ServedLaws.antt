-- Laws of the service: the loop over the tokens, and each way through the call.
use Rattle.std.specs.Prelude.{◌≡◌, List, [], ℕ, ◌-◌, ◌≤◌, ◌<◌, length, replicate, Result, Ok, Err}
use Rattle.std.proofs.Math.Path.{refl}
use Rattle.std.proofs.Common.{sym, subst, ◌∙◌}
use native.Mathlib.Omega.{arith}
use borrow.Author.Tests.{lt-ltb, le-ltb}
use Rattle.words.specs.Limits.{item_words_least, name_bytes_least, text_bytes_most}
use Rattle.words.specs.Lists.{all_of}
use Rattle.datum.specs.NameTable.{slots}
use Rattle.words.specs.Code.Ground.{number_of}
use Rattle.words.specs.declared.ground.Ground.{Ground}
use Rattle.words.specs.declared.ground.Ground.TheVariants as G
use Rattle.reader.specs.declared.Counts.{Counts}
use Rattle.reader.specs.declared.place.Place.{Place}
use Rattle.reading.specs.Token.{tokens}
use Rattle.reading.specs.Numbering.{base_names}
use Rattle.reading.specs.Elements as E
use Rattle.reading.specs.Elements.{got, refused_for, start}
use Rattle.reading.specs.Read.{
  Recipe,
  recipe_over,
  elements_of,
  read_elements,
  read_numbers,
  item_words,
  name_bytes,
  items_after,
  names_after,
}
use Rattle.words.specs.Tables.{filled, testing, begun, left_at}
use Rattle.words.specs.TableLaws.{zeros-left}
use Rattle.reader.specs.Code.Index.{index_size}
use Rattle.reader.proofs.OfCode.IndexLaws.{indexed-none}
use Rattle.reader.specs.Code.Stored.{NameTable}
use Rattle.lexer.specs.Told.{meanings_from, Took}
use Rattle.reading.specs.Meaning.{Meaning}
use Rattle.reader.specs.Code.Placed.{Holds, Taken, items_of, items_around, words_of, words_around, open_pair, next_item, placed}
use Rattle.words.specs.TableLaws.{filled-same}
use Rattle.reader.specs.Code.Moved.{counts_of, outcome_from, Whole, Outcome, Moved}
use Rattle.reader.specs.Code.MovedLaws.{taken-moved, ended-moved}
use Rattle.reader.specs.Served.{numbers_of, ServedElements}
use Rattle.reader.specs.Code.Reached.{Reached}

-- ---- the loop

-- before the first token of a text that has so many elements
abbrev first_place : ℕ → Place
first_place wanted = record { next = 0; pair = 0; depth = 0; count = 0; missing = wanted; known = 8 }

module _ (wanted : ℕ) (text words bytes index : List ℕ) where
  zeros-all : replicate {A = ℕ} (length words) 0 ≡ replicate (length words - 0) 0
  zeros-all = let e : length words - 0 ≡ length words = omega arith in rw e

  first_holds : item_words_least ≤ length words → words ≡ replicate (length words) 0 → NameTable base_names bytes index
      → Holds (start base_names wanted) (first_place wanted) words bytes
  unfolding start next_item placed items_of items_around words_of words_around open_pair filled base_names
  first_holds l z b = record {
    next = refl;
    pair = refl;
    depth = refl;
    count = refl;
    missing = refl;
    known = refl;
    even = refl;
    within = record { elements = omega arith; names = omega arith; lists = omega arith };
    short = b.short;
    items = z ∙ zeros-all;
    names = b.bytes;
    enough_items = l;
    enough_names = b.room;
  }

  pub reached-first : item_words_least ≤ length words → words ≡ replicate (length words) 0 → NameTable base_names bytes index
      → Reached wanted text words bytes index (first_place wanted) 0
  unfolding start outcome_from meanings_from elements_of recipe_over tokens
  reached-first l z b = record { reading = start base_names wanted; holds = first_holds l z b; indexed = b.indexed; high = omega arith; same = refl }

  module _ (p : Place) (at : ℕ) (r : Reached wanted text words bytes index p at) where
    -- a token that is taken
    module _ (m : Meaning) (next : ℕ) (t : Took text at m next) (words' bytes' index' : List ℕ) (s : Result Place Ground)
        (a : Taken m p words words' bytes bytes' index index' s) where
      here : (v : Result Place Ground) → s ≡ v → Moved text at r.reading next words' bytes' index' v
      here v e =
          let h = a r.reading r.holds r.indexed in
          subst (Moved text at r.reading next words' bytes' index') e (taken-moved text at r.reading words' bytes' index' m next t h.1 s h.0)

      pub reached-on : (q : Place) → s ≡ Ok q → Reached wanted text words' bytes' index' q next
      reached-on q e =
          let o = here (Ok q) e in
          record { reading = o.next; holds = o.holds; indexed = o.indexed; high = o.high; same = sym o.same ∙ r.same }

      pub reached-refused : (g : Ground) → s ≡ Err g → elements_of wanted text ≡ refused_for begun (number_of g)
      reached-refused g e = sym r.same ∙ here (Err g) e

    -- no token is left
    pub reached-end : meanings_from text at ≡ [] → Outcome (elements_of wanted text) words bytes (counts_of p)
    reached-end e = subst (λ o. Outcome o words bytes (counts_of p)) r.same (ended-moved text at r.reading p words bytes r.holds e)

-- ---- the call

module _ (wanted : ℕ) (text words bytes : List ℕ) where
  served-by : (a : E.Answer Recipe) (words' bytes' : List ℕ) (r : Result Counts Ground) → read_elements wanted text (length words) (length bytes) ≡ a → numbers_of r ≡ read_numbers a
      → words' ≡ items_after a words → bytes' ≡ names_after a bytes → ServedElements wanted text words words' bytes bytes' r
  served-by a words' bytes' r e f i n = record { numbers = rw e f; items = rw e i; names = rw e n }

  -- grounds 1 and 2 change nothing
  pub served-few-items : length words < item_words_least → ServedElements wanted text words words bytes bytes (Err G.ShortTables)
  unfolding read_elements numbers_of read_numbers items_after names_after left_at
  served-few-items h = served-by (refused_for testing 1) words bytes (Err G.ShortTables) (rw (lt-ltb _ _ h)) refl refl refl

  module _ (i : item_words_least ≤ length words) where
    pub served-few-names : length bytes < name_bytes_least → ServedElements wanted text words words bytes bytes (Err G.ShortTables)
    unfolding read_elements numbers_of read_numbers items_after names_after left_at
    served-few-names h = served-by (refused_for testing 1) words bytes (Err G.ShortTables) (rw (le-ltb _ _ i, lt-ltb _ _ h)) refl refl refl

    module _ (n : name_bytes_least ≤ length bytes) where
      pub served-long : text_bytes_most < length text → ServedElements wanted text words words bytes bytes (Err G.LongText)
      unfolding read_elements numbers_of read_numbers items_after names_after left_at
      served-long h = served-by (refused_for testing 2) words bytes (Err G.LongText) (rw (le-ltb _ _ i, le-ltb _ _ n, lt-ltb _ _ h)) refl refl refl

      module _ (t : length text ≤ text_bytes_most) (words' bytes' : List ℕ) where
        read_is : read_elements wanted text (length words) (length bytes) ≡ elements_of wanted text
        unfolding read_elements
        read_is = rw (le-ltb _ _ i, le-ltb _ _ n, le-ltb _ _ t)

        -- an accepted text: its layout and its names, then zeros
        pub served-read : (c : Counts) → Whole (elements_of wanted text) c words' bytes' → length words' ≡ length words → length bytes' ≡ length bytes
            → ServedElements wanted text words words' bytes bytes' (Ok c)
        unfolding numbers_of read_numbers items_after names_after
        served-read c w e f =
            served-by (got w.recipe) words' bytes' (Ok c) (read_is ∙ w.accepted) (rw (w.item_count, w.name_count))
            (w.items ∙ filled-same (item_words w.recipe) words' words e) (w.names ∙ filled-same (name_bytes w.recipe) bytes' bytes f)

        -- a text that is refused: both tables zeroed
        pub served-refused : (g : Ground) → elements_of wanted text ≡ refused_for begun (number_of g) → words' ≡ replicate (length words) 0 → bytes' ≡ replicate (length bytes) 0
            → ServedElements wanted text words words' bytes bytes' (Err g)
        unfolding numbers_of read_numbers items_after names_after left_at
        served-refused g e z y =
            served-by (refused_for begun (number_of g)) words' bytes' (Err g) (read_is ∙ e) refl (z ∙ zeros-left words) (y ∙ zeros-left bytes)

-- ---- a table that was zeroed

-- zeros are zeros of the table's own length
pub zeroed : (t u : List ℕ) → length u ≡ length t → u ≡ replicate (length t) 0 → u ≡ replicate (length u) 0
zeroed t u l e = e ∙ rw l

-- and hold no name
pub zeroed-names : (t u index : List ℕ) → name_bytes_least ≤ length t → length u ≡ length t → u ≡ replicate (length t) 0
    → index ≡ replicate index_size 0 → NameTable [] u index
unfolding all_of slots filled
zeroed-names t u index h l e z =
    let m : length u - 0 ≡ length t = omega arith in
    record { short = refl; bytes = e ∙ rw m; room = omega arith; indexed = indexed-none index z }

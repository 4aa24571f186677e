-- Laws of going on, being done and turning back, one for each kind of token.
use Rattle.std.specs.Prelude.{◌≡◌, Bool, true, false, cond, ℕ, zero, suc, ◌+◌, ◌≤◌, eqb, length, Result, Ok, Err}
use Rattle.std.proofs.Math.Path.{refl, ap}
use Rattle.std.proofs.Common.{sym, ◌∙◌, length-append}
use mathlib.Core.List.{List, [], ◌∷◌, ◌++◌}
use native.Mathlib.Omega.{arith}
use Rattle.words.specs.Code.Ground.{number_of}
use Rattle.words.specs.declared.ground.Ground.{Ground}
use Rattle.words.specs.TestLaws.{and_left}
use Rattle.words.specs.ListLaws.{either, never}
use Rattle.datum.specs.Constant.{Constant, integer, boolean, decimal}
use mir.Val.{bool_byte}
use Rattle.datum.specs.Datum.{Datum, constant_d, none_d, data_items, datum_items}
use Rattle.lexer.specs.declared.token.Token.{Token}
use Rattle.reader.specs.declared.place.Place.{Place}
use Rattle.reading.specs.Meaning.{Meaning, begins, ends, constant, refused, number}
use Rattle.reading.specs.Numbering.{datum_words, data_words}
use Rattle.reading.specs.Elements.{Answer, got, refused_for, then, Reading, onto, none_open, is_complete, counted, put, opened, closed, takes, takes_all}
use Rattle.reading.specs.Laws.Elements.{got-only, never-got, begin-got}
use Rattle.reading.specs.Read.{finished, item_words, name_bytes}
use Rattle.words.specs.Tables.{filled, begun}
use Rattle.lexer.specs.Told.{meanings_from, Took, said}
use Rattle.reader.specs.Code.Index.{Indexed}
use Rattle.reader.specs.Code.Placed.{Holds, Stepped, IndexedAfter, with_token, NumberKind, TokenPut, ListOpened, ListClosed, Taken, items_of, words_of, items_around, words_around, next_item, placed}
use Rattle.reader.specs.Code.PlacedLaws.{onto-items, onto-words, length-words, zeros, refill}
use Rattle.reader.specs.Code.StepLaws.{complete-is}
use Rattle.reader.specs.Code.Moved.{counts_of, outcome_from, Whole, Outcome, Moved}

-- ---- a token that is taken

module _ (text : List ℕ) (at : ℕ) (r : Reading) (words bytes index : List ℕ) (m : Meaning) (next : ℕ) (t : Took text at m next)
    (i : IndexedAfter m r index) where
  onward : (a : Answer Reading) → takes m r ≡ a → (s : Result Place Ground) → Stepped a words bytes s → Moved text at r next words bytes index s
  unfolding outcome_from takes_all then
  onward (got q) e (Ok p) h = record {
    next = q;
    holds = h;
    indexed = i q e;
    low = t.low;
    high = t.high;
    same = rw (t.means, e);
  }
  onward (got q) e (Err g) h = absurd h
  onward (refused_for stage g) e (Ok p) h = absurd h
  onward (refused_for stage g) e (Err k) h = rw (t.means, e, h.0, h.1)

  pub taken-moved : (s : Result Place Ground) → Stepped (takes m r) words bytes s → Moved text at r next words bytes index s
  taken-moved s h = onward (takes m r) refl s h

-- what a token says is what it says as it was taken apart
pub taken-by : (word : List ℕ) (t u : Result Token Ground) (p : Place) (words words' bytes bytes' index index' : List ℕ) (s : Result Place Ground) → t ≡ u
    → Taken (said word u) p words words' bytes bytes' index index' s → Taken (said word t) p words words' bytes bytes' index index' s
taken-by word t u p words words' bytes bytes' index index' s e h = rw e h

-- the names, and with them the index, stay the same at other tokens than names
module _ (r : Reading) (index : List ℕ) (i : Indexed r.known index) where
  pub begins-indexed : IndexedAfter begins r index
  unfolding takes opened counted
  begins-indexed q e = rw (begin-got r (opened (counted r)) q e).same i

  pub constant-indexed : (a : Constant) → IndexedAfter (constant a) r index
  unfolding takes put counted
  constant-indexed a q e = rw (begin-got r (put (constant_d a) (counted r)) q e).same i

  closed-known : (ls : List (List Datum)) (q : Reading) → closed ls r ≡ got q → q.known ≡ r.known
  unfolding closed
  closed-known [] q e = never-got e
  closed-known (l ∷ ls) q e = ap (λ (x : Reading). x.known) (sym (got-only e))

  pub ends-indexed : IndexedAfter ends r index
  unfolding takes
  ends-indexed q e = rw (closed-known r.around q e) i

-- an element that is a constant
pub constant-stepped : (r : Reading) (p : Place) (words words' bytes : List ℕ) (a : Constant) (kind first second : ℕ) (s : Result Place Ground)
    → Holds r p words bytes → a ≡ record { kind = kind; first = first; second = second }
    → TokenPut p kind first second p.known words words' s → Stepped (takes (constant a) r) words' bytes s
unfolding takes put counted with_token datum_items datum_words
constant-stepped r p words words' bytes a kind first second s h e t =
    t r (constant_d a) r.known bytes bytes h (record { one = refl; words = λ i. rw e }) h.known h.short h.names h.enough_names

-- a number with places is a decimal
pub some-places : (places : ℕ) → (places ≡ 0 → ⊥) → NumberKind places 5
unfolding number decimal
some-places zero h w = absurd (h refl)
some-places (suc p) h w = refl

pub no-places : (places : ℕ) → places ≡ 0 → NumberKind places 1
unfolding number integer
no-places places e w = rw e

pub begins-taken : (p : Place) (words words' bytes index : List ℕ) (s : Result Place Ground) → ListOpened p words words' s
    → Taken begins p words words' bytes bytes index index s
begins-taken p words words' bytes index s o r h i = (o r bytes h, begins-indexed r index i)

pub ends-taken : (p : Place) (words words' bytes index : List ℕ) (s : Result Place Ground) → ListClosed p words words' s
    → Taken ends p words words' bytes bytes index index s
ends-taken p words words' bytes index s o r h i = (o r bytes h, ends-indexed r index i)

pub constant-taken : (p : Place) (words words' bytes index : List ℕ) (a : Constant) (kind first second : ℕ) (s : Result Place Ground)
    → a ≡ record { kind = kind; first = first; second = second } → TokenPut p kind first second p.known words words' s
    → Taken (constant a) p words words' bytes bytes index index s
constant-taken p words words' bytes index a kind first second s e t r h i =
    (constant-stepped r p words words' bytes a kind first second s h e t, constant-indexed r index i a)

pub boolean-is : (b : Bool) → boolean (cond b 1 0) ≡ record { kind = 2; first = bool_byte b; second = 0 }
unfolding boolean
boolean-is true = refl
boolean-is false = refl

-- ---- a token that is refused

pub refused-taken : (g : Ground) (p : Place) (words bytes index : List ℕ) → Taken (refused (number_of g)) p words words bytes bytes index index (Err g)
unfolding takes
refused-taken g p words bytes index r h i = ((refl, refl), λ q e. never-got e)

-- ---- the end

module _ (text : List ℕ) (at : ℕ) (r : Reading) (p : Place) (words bytes : List ℕ) (h : Holds r p words bytes) (e : meanings_from text at ≡ []) where
  at-end : outcome_from text at r ≡ finished r
  unfolding outcome_from takes_all then
  at-end = rw e

  end_refused : is_complete r ≡ false → outcome_from text at r ≡ refused_for begun 5
  unfolding finished
  end_refused c = at-end ∙ rw c

  -- the table with the empty list that ends the two elements
  module _ (c : is_complete r ≡ true) where
    none-around : (a : List (List Datum)) → none_open a ≡ true → a ≡ []
    unfolding none_open
    none-around [] k = refl
    none-around (l ∷ ls) k = never k refl

    alone : r.around ≡ []
    unfolding is_complete
    alone = none-around r.around (and_left (none_open r.around) (eqb r.missing 0) c)

    next-is : p.next ≡ items_of r.here
    unfolding next_item items_around
    next-is = h.next ∙ ap (λ a. items_around a + items_of r.here) alone ∙ omega arith

    room : length (words_of 0 r.here) + 3 ≤ length words
    room = omega (arith, length-words 0 r.here, next-is, h.next, h.even, h.within.elements, h.enough_items)

    words_are : data_words 0 (onto r.here none_d) ≡ words_of 0 r.here ++ (0 ∷ 0 ∷ 0 ∷ [])
    unfolding data_words
    words_are = onto-words 0 r.here none_d

    placed-is : placed r ≡ words_of 0 r.here
    unfolding placed words_around items_around
    placed-is = ap (λ a. words_around a ++ words_of (items_around a) r.here) alone

    table_is : words ≡ filled (data_words 0 (onto r.here none_d)) words
    table_is =
        let ws = words_of 0 r.here in
        let n : length ws + 3 ≡ length (ws ++ (0 ∷ 0 ∷ 0 ∷ [])) = omega (arith, length-append ws (0 ∷ 0 ∷ 0 ∷ [])) in
        h.items ∙ rw placed-is (zeros ws words room ∙ refill ws (0 ∷ 0 ∷ 0 ∷ []) words (length ws + 3) n ∙ rw words_are)

    end-done : Whole (outcome_from text at r) (record { items = p.next + 1; names = p.known }) words bytes
    unfolding finished item_words name_bytes data_items
    end-done = record {
      recipe = record { elements = onto r.here none_d; names = r.known };
      accepted = at-end ∙ rw c;
      item_count = omega (arith, onto-items r.here none_d, next-is);
      name_count = h.known;
      items = table_is;
      names = h.names;
    }

  pub ended-moved : Outcome (outcome_from text at r) words bytes (counts_of p)
  unfolding counts_of
  ended-moved =
      let k = complete-is r p words bytes h in
      either (is_complete r) (λ c. rw (sym k ∙ c) (end-done c)) (λ c. rw (sym k ∙ c) (end_refused c))

-- What the code holds after a token, from what it held before: one law for each kind of token, and the grounds 5 and 6.
use Rattle.std.specs.Prelude.{◌≡◌, Bool, true, false, ◌&&◌, cond, List, [], ◌∷◌, ◌++◌, eqb, leb, get_or, set, Result, Ok, Err, ⊤}
use Rattle.std.proofs.Math.Path.{refl, sym, ap, subst}
use Rattle.std.proofs.Common.{◌∙◌, append_assoc, length-append}
use Prim.Native.Nat.{ℕ, suc, ◌+◌, ◌*◌, ◌-◌, ◌≤◌, ◌<◌}
use native.Mathlib.Omega.{arith}
use Rattle.std.proofs.Math.Dec.{eqb-suc-zero}
use Rattle.std.proofs.Math.ListN.{length, length-set}
use borrow.Author.Tests.{leb-true}
use Rattle.words.specs.Code.Ground.{number_of}
use Rattle.words.specs.declared.ground.Ground.{Ground}
use Rattle.words.specs.declared.ground.Ground.TheVariants as G
use Rattle.words.specs.Limits.{name_bytes_least, elements_most, names_most, open_lists_most}
use Rattle.words.specs.Lists.{all_of}
use Rattle.words.specs.TestLaws.{and_left, and_right}
use Rattle.datum.specs.Datum.{Datum, list_d, none_d, datum_items, data_items}
use Rattle.datum.specs.NameTable.{slots}
use Rattle.datum.specs.NameTableLaws.{is_short}
use Rattle.reader.specs.declared.place.Place.{Place}
use Rattle.reading.specs.Numbering.{datum_words}
use Rattle.reading.specs.Meaning.{begins, ends}
use Rattle.reading.specs.Elements.{
  Answer,
  got,
  refused_for,
  Reading,
  onto,
  none_open,
  is_complete,
  counted,
  opened,
  closed,
  is_within,
  begin,
  takes,
}
use Rattle.reading.specs.Laws.Elements.{Within, within-is, begin-is}
use Rattle.words.specs.Tables.{filled, begun}
use Rattle.words.specs.TableLaws.{filled-same}
use Rattle.reader.specs.Code.Placed.{
  put3,
  items_of,
  words_of,
  items_around,
  open_pair,
  words_around,
  next_item,
  placed,
  Holds,
  Stepped,
  Sound,
  begun_at,
  IsToken,
  with_token,
}
use Rattle.reader.specs.Code.PlacedLaws.{
  length-placed,
  onto-items,
  token-placed,
  open-placed,
  put-length,
  put-filled,
  tail-read,
  tail-closed,
}

-- ---- grounds 5 and 6

pub none_open_lem : (ls : List (List Datum)) → none_open ls ≡ eqb (length ls) 0
unfolding none_open
none_open_lem [] = refl
none_open_lem (l ∷ ls) = sym (eqb-suc-zero (length ls))

pub complete-is : (r : Reading) (p : Place) (words bytes : List ℕ) → Holds r p words bytes
    → is_complete r ≡ eqb p.depth 0 && eqb p.missing 0
unfolding is_complete
complete-is r p words bytes h = rw (none_open_lem r.around, h.depth, h.missing)

-- the code's answer by two tests, and the definition's by the code's
abbrev by : Bool → Bool → Result ⊤ Ground
by c d = cond c (Err G.Unbalanced) (cond d (Ok tt) (Err G.TooMany))

abbrev answer_by : Reading → Result ⊤ Ground → Answer Reading
answer_by q (Ok u) = got q
answer_by q (Err g) = refused_for begun (number_of g)

tested : (q : Reading) (c d : Bool) → cond c (refused_for begun 5) (cond d (got q) (refused_for begun 6)) ≡ answer_by q (by c d)
tested q true d = refl
tested q false true = refl
tested q false false = refl

abbrev passes : Result ⊤ Ground → ℕ
passes (Ok u) = 1
passes (Err g) = 0

passed : (c d : Bool) → passes (by c d) ≡ 1 → (c ≡ false) × (d ≡ true)
passed true d h = absurd (omega (arith, h))
passed false true h = (refl, refl)
passed false false h = absurd (omega (arith, h))

module _ (r : Reading) (p : Place) (words bytes : List ℕ) (h : Holds r p words bytes) (q : Reading) (known depth : ℕ)
    (k : known ≡ length q.known) (d : depth ≡ length q.around) (c : q.count ≡ suc r.count) where
  same-complete : is_complete r ≡ eqb p.depth 0 && eqb p.missing 0
  same-complete = complete-is r p words bytes h

  same-within : is_within q ≡ leb (suc p.count) elements_most && (leb known names_most && leb depth open_lists_most)
  unfolding is_within
  same-within = rw (k, d, c, h.count)

  same-answer : by (is_complete r) (is_within q) ≡ begun_at p known depth
  unfolding begun_at
  same-answer = rw (same-complete, same-within)

  pub ground-back : (g : Ground) → begun_at p known depth ≡ Err g → begin r q ≡ refused_for begun (number_of g)
  unfolding begin
  ground-back g e = tested q (is_complete r) (is_within q) ∙ ap (answer_by q) (same-answer ∙ e)

  pub ground-passed : (u : ⊤) → begun_at p known depth ≡ Ok u → (is_complete r ≡ false) × Within q
  ground-passed u e =
      let t = passed (is_complete r) (is_within q) (ap passes (same-answer ∙ e)) in
      (t.0, within-is q t.1)

-- ---- tokens that are taken

-- the elements that the text lacks after one more
lacking-is : (r : Reading) (p : Place) (words bytes : List ℕ) → Holds r p words bytes
    → cond (eqb p.depth 0) (p.missing - 1) p.missing ≡ cond (none_open r.around) (r.missing - 1) r.missing
lacking-is r p words bytes h = rw (none_open_lem r.around, h.depth, h.missing)

-- one that is an element by itself, with the names that are known after it
module _ (r : Reading) (p : Place) (words bytes : List ℕ) (h : Holds r p words bytes) (d : Datum) (kind first second : ℕ)
    (one : datum_items d ≡ 1) (three : datum_words (suc (next_item r)) d ≡ kind ∷ first ∷ second ∷ []) where
  -- the table with the pair and the element
  abbrev pub element_put : List ℕ
  element_put = put3 (put3 words (3 * p.next) 4 (p.next + 1) (p.next + 2)) (3 * (p.next + 1)) kind first second

  put_same : length element_put ≡ length words
  put_same =
      let t = put3 words (3 * p.next) 4 (p.next + 1) (p.next + 2) in
      put-length t (3 * (p.next + 1)) kind first second ∙ put-length words (3 * p.next) 4 (p.next + 1) (p.next + 2)

  module _ (known : List (List ℕ)) (m : ℕ) where
    -- the reading with that element
    abbrev pub element_read : Reading
    element_read = record { here = d ∷ r.here; around = r.around; known = known; count = suc r.count; missing = m }

    next-two : next_item element_read ≡ p.next + 2
    unfolding next_item items_of
    next-two = omega (arith, h.next, one)

    placed-more : placed element_read ≡ placed r ++ (4 ∷ (p.next + 1) ∷ (p.next + 2) ∷ []) ++ (kind ∷ first ∷ second ∷ [])
    unfolding placed next_item
    placed-more =
        let k = items_around r.around + items_of r.here in
        let e1 : suc k ≡ p.next + 1 = omega (arith, h.next) in
        let e2 : suc (suc k) ≡ p.next + 2 = omega (arith, h.next) in
        token-placed d r.here r.around one
        ∙ rw (three, e2, e1) (sym (append_assoc (placed r) (4 ∷ (p.next + 1) ∷ (p.next + 2) ∷ []) (kind ∷ first ∷ second ∷ [])))

    module _ (w : Within element_read) where
      room : 3 * p.next + 6 ≤ length words
      room = omega (arith, h.next, h.even, w.elements, h.enough_items)

      put-words : element_put ≡ filled (placed element_read) element_put
      put-words =
          let a : List ℕ = 4 ∷ (p.next + 1) ∷ (p.next + 2) ∷ [] in
          let t = put3 words (3 * p.next) 4 (p.next + 1) (p.next + 2) in
          let l = put-length words (3 * p.next) 4 (p.next + 1) (p.next + 2) in
          let i : 3 * p.next ≡ length (placed r) = omega (arith, length-placed r, h.next) in
          let u : t ≡ filled (placed r ++ a) t = put-filled (placed r) words (3 * p.next) 4 (p.next + 1) (p.next + 2) i h.items (omega (arith, room)) ∙ filled-same _ _ _ (sym l) in
          let j : 3 * (p.next + 1) ≡ length (placed r ++ a) = omega (arith, length-append (placed r) a, i) in
          put-filled (placed r ++ a) t (3 * (p.next + 1)) kind first second j u (omega (arith, room, l))
          ∙ filled-same _ _ _ (sym (put-length t (3 * (p.next + 1)) kind first second))
          ∙ ap (λ ws. filled ws element_put) (sym placed-more)

      pub element-holds : (n missing : ℕ) (table : List ℕ) → n ≡ length known → all_of is_short known ≡ true → table ≡ filled (slots known) table
          → name_bytes_least ≤ length table → missing ≡ m
          → Holds element_read (record { next = p.next + 2; pair = p.pair; depth = p.depth; count = p.count + 1; missing = missing; known = n }) element_put table
      unfolding next_item
      element-holds n missing table e s f b g = record {
        next = sym next-two;
        pair = h.pair;
        depth = h.depth;
        count = omega (arith, h.count);
        missing = g;
        known = e;
        even = omega (arith, next-two, h.next, h.even);
        within = w;
        short = s;
        items = put-words;
        names = f;
        enough_items = omega (arith, put_same, h.enough_items);
        enough_names = b;
      }

-- a list opened
module _ (r : Reading) (p : Place) (words bytes : List ℕ) (h : Holds r p words bytes) (w : Within (opened (counted r))) where
  open_more : placed (opened (counted r)) ≡ placed r ++ (4 ∷ (p.next + 1) ∷ p.pair ∷ [])
  unfolding placed opened counted next_item
  open_more =
      let e : suc (items_around r.around + items_of r.here) ≡ p.next + 1 = omega (arith, h.next) in
      open-placed r.here r.around ∙ rw (e, h.pair)

  pub open-holds : (missing : ℕ) → missing ≡ (opened (counted r)).missing
      → Holds (opened (counted r)) (record { next = p.next + 1; pair = p.next; depth = p.depth + 1; count = p.count + 1; missing = missing; known = p.known })
      (put3 words (3 * p.next) 4 (p.next + 1) p.pair) bytes
  unfolding opened counted next_item open_pair items_around items_of
  open-holds missing g =
      let l = put-length words (3 * p.next) 4 (p.next + 1) p.pair in
      let i : 3 * p.next ≡ length (placed r) = omega (arith, length-placed r, h.next) in
      record {
        next = omega (arith, h.next);
        pair = h.next;
        depth = omega (arith, h.depth);
        count = omega (arith, h.count);
        missing = g;
        known = h.known;
        even = omega (arith, h.even);
        within = w;
        short = h.short;
        items =
            put-filled (placed r) words (3 * p.next) 4 (p.next + 1) p.pair i h.items (omega (arith, h.next, h.even, w.elements, h.enough_items))
            ∙ ap (λ ws. filled ws words) (sym open_more)
            ∙ filled-same _ _ _ (sym l);
        names = h.names;
        enough_items = omega (arith, l, h.enough_items);
        enough_names = h.enough_names;
      }

-- a list closed
module _ (r : Reading) (p : Place) (words bytes : List ℕ) (h : Holds r p words bytes) (l : List Datum) (ls : List (List Datum))
    (e : r.around ≡ l ∷ ls) where
  -- the reading with the list as an element of the list around it
  abbrev pub close_read : Reading
  close_read = record {
    here = list_d (onto r.here none_d) ∷ l;
    around = ls;
    known = r.known;
    count = r.count;
    missing = r.missing;
  }

  at_pair : p.pair ≡ open_pair (l ∷ ls)
  at_pair = h.pair ∙ ap open_pair e

  at_next : p.next ≡ items_around (l ∷ ls) + items_of r.here
  unfolding next_item
  at_next = h.next ∙ ap (λ a. items_around a + items_of r.here) e

  depth-one : p.depth ≡ suc (length ls)
  depth-one = h.depth ∙ ap length e

  close-room : 3 * p.next + 3 ≤ length words
  close-room = omega (arith, h.next, h.even, h.count, h.within.elements, h.enough_items)

  before : words ≡ filled (words_around (l ∷ ls) ++ words_of (items_around (l ∷ ls)) r.here) words
  unfolding placed
  before = subst (λ a. words ≡ filled (words_around a ++ words_of (items_around a) r.here) words) e h.items

  next-closed : next_item close_read ≡ p.next + 1
  unfolding next_item items_of items_around datum_items data_items
  next-closed = omega (arith, at_next, onto-items r.here none_d)

  pub close-holds : Holds close_read
      (record { next = p.next + 1; pair = get_or words (3 * p.pair + 2) 0; depth = p.depth - 1; count = p.count; missing = p.missing; known = p.known })
      (set words (3 * p.pair + 2) (p.next + 1)) bytes
  unfolding placed
  close-holds =
      let s = length-set words (3 * p.pair + 2) (p.next + 1) in
      record {
        next = sym next-closed;
        pair = tail-read r.here l ls words p.pair p.next at_pair at_next before close-room;
        depth = omega (arith, depth-one);
        count = h.count;
        missing = h.missing;
        known = h.known;
        even = omega (arith, next-closed, h.next, h.even, h.depth, depth-one);
        within = record { elements = h.within.elements; names = h.within.names; lists = omega (arith, h.within.lists, h.depth, depth-one) };
        short = h.short;
        items =
            tail-closed r.here l ls words p.pair p.next at_pair at_next before close-room
            ∙ filled-same _ _ _ (sym s);
        names = h.names;
        enough_items = omega (arith, s, h.enough_items);
        enough_names = h.enough_names;
      }

-- ---- the code's answers

stepped-back : (a : Answer Reading) (words bytes : List ℕ) (g : Ground) → a ≡ refused_for begun (number_of g) → Stepped a words bytes (Err g)
stepped-back a words bytes g e = subst (λ x. Stepped x words bytes (Err g)) (sym e) (refl, refl)

stepped-got : (a : Answer Reading) (words bytes : List ℕ) (q : Reading) (p : Place) → a ≡ got q → Holds q p words bytes
    → Stepped a words bytes (Ok p)
stepped-got a words bytes q p e f = subst (λ x. Stepped x words bytes (Ok p)) (sym e) f

-- where a token begins an element there is a number for its name
pub begun-names : (p : Place) (known depth : ℕ) (u : ⊤) → begun_at p known depth ≡ Ok u → known ≤ names_most
unfolding begun_at
begun-names p known depth u h =
    let few = leb (suc p.count) elements_most in
    let names = leb known names_most in
    let lists = leb depth open_lists_most in
    let t = passed (eqb p.depth 0 && eqb p.missing 0) (few && (names && lists)) (ap passes h) in
    leb-true known names_most (and_left names lists (and_right few (names && lists) t.1))

-- a token that is one element
module _ (r : Reading) (p : Place) (words bytes : List ℕ) (h : Holds r p words bytes) (d : Datum)
    (kind first second : ℕ) (t : IsToken d kind first second) (names : List (List ℕ)) (known : ℕ) (k : known ≡ length names) where
  pub token-refused : (words' table : List ℕ) (g : Ground) → begun_at p known p.depth ≡ Err g
      → Stepped (begin r (with_token r d names)) words' table (Err g)
  unfolding with_token
  token-refused words' table g e =
      stepped-back _ words' table g (ground-back r p words bytes h (with_token r d names) known p.depth k h.depth refl g e)

  pub token-went : (words' table : List ℕ) (missing : ℕ) (u : ⊤) → begun_at p known p.depth ≡ Ok u → all_of is_short names ≡ true
      → table ≡ filled (slots names) table → name_bytes_least ≤ length table
      → words' ≡ put3 (put3 words (3 * p.next) 4 (p.next + 1) (p.next + 2)) (3 * (p.next + 1)) kind first second
      → missing ≡ cond (eqb p.depth 0) (p.missing - 1) p.missing
      → Stepped (begin r (with_token r d names)) words' table
      (Ok (record { next = p.next + 2; pair = p.pair; depth = p.depth; count = p.count + 1; missing = missing; known = known }))
  unfolding with_token
  token-went words' table missing u z s f b e g =
      let w = ground-passed r p words bytes h (with_token r d names) known p.depth k h.depth refl u z in
      let m : missing ≡ (with_token r d names).missing = g ∙ lacking-is r p words bytes h in
      stepped-got _ words' table (with_token r d names) _ (begin-is r (with_token r d names) w.0 w.1)
      (rw e (element-holds r p words bytes h d kind first second t.one (t.words (suc (next_item r))) names (with_token r d names).missing w.1 known missing table k s f b m))

-- a list begins
module _ (r : Reading) (p : Place) (words bytes : List ℕ) (h : Holds r p words bytes) where
  depth-more : p.depth + 1 ≡ length (opened (counted r)).around
  unfolding opened counted
  depth-more = omega (arith, h.depth)

  pub open-refused : (words' : List ℕ) (g : Ground) → begun_at p p.known (p.depth + 1) ≡ Err g → Stepped (takes begins r) words' bytes (Err g)
  unfolding takes opened counted
  open-refused words' g e =
      stepped-back _ words' bytes g (ground-back r p words bytes h (opened (counted r)) p.known (p.depth + 1) h.known depth-more refl g e)

  pub open-went : (words' : List ℕ) (missing : ℕ) (u : ⊤) → begun_at p p.known (p.depth + 1) ≡ Ok u
      → words' ≡ put3 words (3 * p.next) 4 (p.next + 1) p.pair
      → missing ≡ cond (eqb p.depth 0) (p.missing - 1) p.missing
      → Stepped (takes begins r) words' bytes
      (Ok (record { next = p.next + 1; pair = p.next; depth = p.depth + 1; count = p.count + 1; missing = missing; known = p.known }))
  unfolding takes opened counted
  open-went words' missing u z e g =
      let q = opened (counted r) in
      let w = ground-passed r p words bytes h q p.known (p.depth + 1) h.known depth-more refl u z in
      stepped-got _ words' bytes q _ (begin-is r q w.0 w.1)
      (rw e (open-holds r p words bytes h w.1 missing (g ∙ lacking-is r p words bytes h)))

-- a list ends
close_stepped : (r : Reading) (p : Place) (words bytes : List ℕ) → Holds r p words bytes → (a : List (List Datum)) → r.around ≡ a → (p.depth ≡ 0 → ⊥)
    → Stepped (closed a r) (set words (3 * p.pair + 2) (p.next + 1)) bytes
    (Ok (record { next = p.next + 1; pair = get_or words (3 * p.pair + 2) 0; depth = p.depth - 1; count = p.count; missing = p.missing; known = p.known }))
unfolding closed
close_stepped r p words bytes h [] e n = absurd (n (h.depth ∙ ap length e))
close_stepped r p words bytes h (l ∷ ls) e n = close-holds r p words bytes h l ls e

close_refused : (r : Reading) (words bytes : List ℕ) (a : List (List Datum)) → length a ≡ 0 → Stepped (closed a r) words bytes (Err G.Unbalanced)
unfolding closed
close_refused r words bytes [] e = (refl, refl)
close_refused r words bytes (l ∷ ls) e = absurd (omega arith)

module _ (r : Reading) (p : Place) (words bytes : List ℕ) (h : Holds r p words bytes) where
  pub close-refused : (words' : List ℕ) → p.depth ≡ 0 → Stepped (takes ends r) words' bytes (Err G.Unbalanced)
  unfolding takes
  close-refused words' e = close_refused r words' bytes r.around (sym h.depth ∙ e)

  pub close-went : (p.depth ≡ 0 → ⊥)
      → Stepped (takes ends r) (set words (3 * p.pair + 2) (p.next + 1)) bytes
      (Ok (record { next = p.next + 1; pair = get_or words (3 * p.pair + 2) 0; depth = p.depth - 1; count = p.count; missing = p.missing; known = p.known }))
  unfolding takes
  close-went n = close_stepped r p words bytes h r.around refl n

-- ---- the numbers of a place that is held

pair-below : (ls : List (List Datum)) → 0 < length ls → open_pair ls < items_around ls
unfolding open_pair items_around
pair-below [] h = absurd (omega arith)
pair-below (l ∷ ls) h = omega arith

pair-low : (ls : List (List Datum)) → open_pair ls ≤ items_around ls
unfolding open_pair items_around
pair-low [] = omega arith
pair-low (l ∷ ls) = omega arith

pub holds-sound : (r : Reading) (p : Place) (words bytes : List ℕ) → Holds r p words bytes → Sound p (length words)
unfolding next_item
holds-sound r p words bytes h = record {
  even = omega (arith, h.next, h.even, h.depth, h.count);
  elements = omega (arith, h.count, h.within.elements);
  names = omega (arith, h.known, h.within.names);
  lists = omega (arith, h.depth, h.within.lists);
  low = omega (arith, h.pair, h.next, pair-low r.around);
  pair = λ d. omega (arith, h.pair, h.next, pair-below r.around (omega (arith, h.depth)));
  room = h.enough_items;
}

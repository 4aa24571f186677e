-- Laws of the call, one for each way through its code: the text that was read, what is left of its tables, the tests before it.
use Rattle.std.specs.Prelude.{◌≡◌, Bool, true, take, replicate, Result, Ok, Err}
use Rattle.words.specs.declared.ground.Ground.{Ground}
use Rattle.words.specs.declared.ground.Ground.TheVariants.{BadLayout, BadOperations, NoTerm}
use Rattle.words.specs.Code.Ground.{number_of}
use Rattle.std.specs.Result.{is_err}
use Rattle.std.proofs.Math.Path.{refl, sym, ap, subst}
use Rattle.std.proofs.Common.{◌∙◌, arith, length-take-le}
use Rattle.std.proofs.Math.Bool.{false}
use mathlib.Core.List.{List, [], map}
use Rattle.std.proofs.Math.Option.{Option, none, some}
use Prim.Native.Nat.{ℕ, ◌*◌, ◌-◌, ◌≤◌, ◌<◌}
use Rattle.std.proofs.Math.ListN.{length, length-append}
use Rattle.std.proofs.Math.Seq.{take_at}
use Rattle.words.specs.Limits.{names_most, item_words_least}
use Rattle.words.specs.Lists.{all_of}
use Rattle.words.specs.ListLaws.{never}
use Rattle.words.specs.Tables.{Stage, filled, left_at}
use Rattle.words.specs.TableLaws.{zeros-left}
use Rattle.datum.specs.Datum.{data_items}
use Rattle.datum.specs.NameTable.{name_at, has_name}
use Rattle.reading.specs.Elements.{Answer, got, refused_for}
use Rattle.reading.specs.Read.{Recipe, read_elements, item_words, name_bytes, items_after, names_after}
use Rattle.reading_layout.specs.Items.{data-length}
use Rattle.reading_layout.specs.Answers.{numbers-got, numbers-refused}
use Rattle.reader.specs.declared.Counts.{Counts}
use Rattle.reader.specs.Served as R
use Rattle.recipe.specs.Table.{is_layout, tree_of}
use Rattle.core_term.specs.Term.{Plain}
use Rattle.core_term.specs.Every.{every}
use Rattle.core_term.specs.Words.{encode}
use Rattle.core_term.specs.Check.{term_of, is_some, is_term}
use Rattle.core_term.proofs.OfCode.CheckLaws.{is_term-some}
use Rattle.expansion.specs.Run.{operation_numbers, are_operations}
use Rattle.comparison.specs.Grammar.{after, expression_of}
use Rattle.comparison.specs.Compare.{Verdict, decided, held, Reply, unread, replied, require, spelled_operations, our_term, with_term, comparison, compare, kept, left_by, read_words, items_left, names_left}
use Rattle.supplier.specs.Names.{Slot}
use Rattle.supplier.specs.Items.{DatumAt, Held}
use Rattle.supplier.specs.WalkSays.{good_in}
use Rattle.supplier.specs.OurTerm.{our-term}
use Rattle.supplier.specs.TextLaws.{element_of, the-element, element-at, items-few, text-slots, text-names}
use Rattle.supplier.specs.Service.{verdict_of, Gives, Compared}
use Rattle.supplier.specs.Text.{ElementRight, TextRight}

-- ---- reading's answer, by its numbers

module _ (wanted : ℕ) (text words words' bytes bytes' : List ℕ) where
  abbrev answer_of : Answer Recipe
  answer_of = read_elements wanted text (length words) (length bytes)

  answer-got : (c : Counts) → R.ServedElements wanted text words words' bytes bytes' (Ok c) → (x : Recipe) × (answer_of ≡ got x) × (c.items ≡ data_items x.elements) × (c.names ≡ length x.names)
  unfolding R.numbers_of
  answer-got c s = numbers-got wanted text (length words) (length bytes) c.items c.names s.numbers

  answer-refused : (g : Ground) → R.ServedElements wanted text words words' bytes bytes' (Err g) → (stage : Stage) × (answer_of ≡ refused_for stage (number_of g))
  unfolding R.numbers_of
  answer-refused g s = numbers-refused wanted text (length words) (length bytes) (number_of g) s.numbers

-- ---- yes and no leave the reading, a refusal nothing of it

kept_read : (r : Result Bool Ground) → is_err r ≡ false → (ws : List ℕ) → kept (verdict_of r) ws ≡ ws
unfolding verdict_of kept
kept_read (Ok true) h ws = refl
kept_read (Ok false) h ws = refl
kept_read (Err g) h ws = never refl h

kept-none : (r : Result Bool Ground) → is_err r ≡ true → (ws : List ℕ) → kept (verdict_of r) ws ≡ []
unfolding verdict_of kept
kept-none (Ok b) h ws = never h refl
kept-none (Err g) h ws = refl

-- ---- a text that was read

module _ (text words words' bytes bytes' : List ℕ) (counts : Counts) (s : R.ServedElements 1 text words words' bytes bytes' (Ok counts)) where
  abbrev answer : Answer Recipe
  answer = answer_of 1 text words words' bytes bytes'

  abbrev recipe : Recipe
  recipe = (answer-got 1 text words words' bytes bytes' counts s).0

  abbrev is_read : answer ≡ got recipe
  is_read = (answer-got 1 text words words' bytes bytes' counts s).1

  abbrev element : DatumAt (item_words recipe) 1 (element_of text (length words) (length bytes) recipe is_read)
  element = element-at text (length words) (length bytes) recipe is_read

  items-read : words' ≡ filled (item_words recipe) words
  unfolding items_after
  items-read = s.items ∙ ap (λ (a : Answer Recipe). items_after a words) is_read

  names-read : bytes' ≡ filled (name_bytes recipe) bytes
  unfolding names_after
  names-read = s.names ∙ ap (λ (a : Answer Recipe). names_after a bytes) is_read

  -- the items of the reading
  items-words : length (item_words recipe) ≡ 3 * counts.items
  unfolding item_words
  items-words = data-length 0 recipe.elements ∙ ap (λ (k : ℕ). 3 * k) (sym (answer-got 1 text words words' bytes bytes' counts s).2)

  pub items-within : 3 * counts.items ≤ length words'
  unfolding filled
  items-within = omega (arith, ap length items-read, length-append (item_words recipe) (replicate (length words - length (item_words recipe)) 0), items-words)

  items-front : take (3 * counts.items) words' ≡ item_words recipe
  unfolding filled
  items-front = ap (take (3 * counts.items)) items-read ∙ take_at (item_words recipe) (replicate (length words - length (item_words recipe)) 0) (3 * counts.items) items-words

  pub text-held : Held (take (3 * counts.items) words') 1
  text-held = subst (λ (l : List ℕ). Held l 1) (sym items-front) (_, element)

  pub text-few : length (take (3 * counts.items) words') ≤ item_words_least
  text-few = subst (λ (l : List ℕ). length l ≤ item_words_least) (sym items-front) (items-few text (length words) (length bytes) recipe is_read)

  pub names-slots : (k : ℕ) → k < names_most → Slot bytes' k
  names-slots k h = subst (λ (l : List ℕ). Slot l k) (sym names-read) (text-slots text (length words) (length bytes) recipe is_read bytes refl k h)

  module _ (our ours operations : List ℕ) (r : Result Bool Ground) (f : ElementRight (take (3 * counts.items) words') bytes' our ours operations r) where
    abbrev spelled : List (List ℕ)
    spelled = map (name_at ours) operations

    module _ (t : Plain) (g : every (good_in ours operations) tt 0 t ≡ true) (w : our ≡ encode t) where
      element-verdict : verdict_of r ≡ held (name_at ours) spelled t answer
      unfolding held after
      element-verdict =
          let d = element_of text (length words) (length bytes) recipe is_read in
          f d t (subst (λ (l : List ℕ). DatumAt l 1 d) (sym items-front) element) g w
          ∙ ap (λ (names : ℕ → List ℕ). decided names (name_at ours) spelled t (expression_of d)) (ap name_at names-read ∙ text-names text (length words) (length bytes) recipe is_read bytes refl)
          ∙ sym (ap (held (name_at ours) spelled t) is_read
          ∙ ap (λ o. decided (name_at (name_bytes recipe)) (name_at ours) spelled t (after o expression_of)) (the-element text (length words) (length bytes) recipe is_read))

      -- by what is left in both tables
      gives : (words'' bytes'' : List ℕ) → words'' ≡ filled (kept (verdict_of r) (item_words recipe)) words → bytes'' ≡ filled (kept (verdict_of r) (name_bytes recipe)) bytes
          → Gives (replied answer (held (name_at ours) spelled t answer)) answer words words'' bytes bytes'' r
      unfolding replied items_left names_left left_by read_words left_at
      gives words'' bytes'' x y =
          subst (λ (v : Verdict). Gives (replied answer v) answer words words'' bytes bytes'' r) element-verdict
          (subst (λ (a : Answer Recipe). Gives (replied a (verdict_of r)) a words words'' bytes bytes'' r) (sym is_read)
          (record { verdict = refl; items = x; names = y }))

    pub text-kept : is_err r ≡ false → TextRight our ours operations text words words' bytes bytes' r
    text-kept k t g w =
        let same = kept_read r k in
        gives t g w words' bytes' (items-read ∙ ap (λ (l : List ℕ). filled l words) (sym (same (item_words recipe))))
        (names-read ∙ ap (λ (l : List ℕ). filled l bytes) (sym (same (name_bytes recipe))))

    pub text-zeroed : is_err r ≡ true → (words'' bytes'' : List ℕ) → words'' ≡ replicate (length words) 0 → bytes'' ≡ replicate (length bytes) 0
        → TextRight our ours operations text words words'' bytes bytes'' r
    unfolding left_at
    text-zeroed k words'' bytes'' x y t g w =
        let none = kept-none r k in
        gives t g w words'' bytes'' (x ∙ zeros-left words ∙ ap (λ (l : List ℕ). filled l words) (sym (none (item_words recipe))))
        (y ∙ zeros-left bytes ∙ ap (λ (l : List ℕ). filled l bytes) (sym (none (name_bytes recipe))))

-- ---- a text that was not: what reading leaves of a table is what the call leaves

pub text-unread : (text words words' bytes bytes' : List ℕ) (g : Ground) → R.ServedElements 1 text words words' bytes bytes' (Err g)
    → (our ours operations : List ℕ) → TextRight our ours operations text words words' bytes bytes' (Err g)
unfolding verdict_of held replied items_left names_left left_by read_words items_after names_after
text-unread text words words' bytes bytes' g s our ours operations t good w =
    let e = (answer-refused 1 text words words' bytes bytes' g s).1 in
    record {
      verdict = rw e;
      items = s.items ∙ rw e;
      names = s.names ∙ rw e;
    }

-- ---- the tests before it

module _ (items names words text : List ℕ) (text_items text_names : List ℕ) where
  abbrev numbers : List ℕ
  numbers = operation_numbers (tree_of items)

  abbrev text-read : Answer Recipe
  text-read = read_elements 1 text (length text_items) (length text_names)

  abbrev reply : Reply
  reply = compare items names words text (length text_items) (length text_names)

  -- nothing is read from the text: both tables are as they were
  untouched : (g : Ground) → reply ≡ unread (number_of g) → Compared items names words text text_items text_items text_names text_names (Err g)
  unfolding verdict_of unread items_left names_left left_by
  untouched g e =
      subst (λ (v : Reply). Gives v text-read text_items text_items text_names text_names (Err g)) (sym e)
      (record { verdict = refl; items = refl; names = refl })

  pub compared-7 : is_layout items ≡ false → Compared items names words text text_items text_items text_names text_names (Err BadLayout)
  unfolding compare comparison require
  compared-7 h = untouched BadLayout (rw h)

  module _ (a : is_layout items ≡ true) where
    pub compared-10 : are_operations (tree_of items) ≡ false → Compared items names words text text_items text_items text_names text_names (Err BadOperations)
    unfolding compare comparison require
    compared-10 h = untouched BadOperations (rw (a, h))

    -- the operations' numbers are the first of a list
    module _ (b : are_operations (tree_of items) ≡ true) (list : List ℕ) (count : ℕ) (l : count ≤ length list) (o : take count list ≡ numbers) where
      counted : count ≡ length numbers
      counted = sym (length-take-le count list l) ∙ ap length o

      pub compared-term : is_term count (has_name names) words ≡ false → Compared items names words text text_items text_items text_names text_names (Err NoTerm)
      unfolding compare comparison require our_term is_term is_some with_term
      compared-term h = untouched NoTerm (rw (a, b) (go (term_of (length numbers) (has_name names) words) (rw counted at h)))
        where
          go : (x : Option Plain) → is_some x ≡ false → with_term x (λ t. require 19 (all_of (has_name names) numbers) (replied text-read (held (name_at names) (spelled_operations items names) t text-read))) ≡ unread 19
          go none k = refl
          go (some t) k = never refl k

      module _ (h : is_term count (has_name names) words ≡ true) where
        abbrev term : (t : Plain) × (term_of (length numbers) (has_name names) words ≡ some t)
        term = is_term-some (length numbers) (has_name names) words (subst (λ (k : ℕ). is_term k (has_name names) words ≡ true) counted h)

        pub compared-slots : all_of (has_name names) (take count list) ≡ false → Compared items names words text text_items text_items text_names text_names (Err NoTerm)
        unfolding compare comparison require our_term with_term
        compared-slots k = untouched NoTerm (rw (a, b, term.1, sym (ap (all_of (has_name names)) o) ∙ k))

        pub compared-text : all_of (has_name names) (take count list) ≡ true → (text_items' text_names' : List ℕ) (r : Result Bool Ground)
            → TextRight words names (take count list) text text_items text_items' text_names text_names' r → Compared items names words text text_items text_items' text_names text_names' r
        unfolding compare comparison require our_term with_term spelled_operations
        compared-text k text_items' text_names' r f =
            let g = our-term names numbers words term.0 term.1 in
            let f' = subst (λ (m : List ℕ). TextRight words names m text text_items text_items' text_names text_names' r) o f in
            rw (a, b, term.1, sym (ap (all_of (has_name names)) o) ∙ k) (f' term.0 g.0 g.1)

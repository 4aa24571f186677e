-- Every name of an accepted reading is a name of its own name table: its number is below the count of names, and its slot is there, of 1 to
-- 63 bytes.
use Rattle.std.specs.Prelude.{◌≡◌, refl, true, List, [], ◌∷◌, ◌++◌, ℕ, zero, suc, ◌+◌, ◌*◌, ◌≤◌, ◌<◌, length, get_or, drop}
use Rattle.std.proofs.Common.{sym, ap, subst, ◌∙◌, append-nil, arith, length-take, lt-ltb, le-leb}
use Rattle.words.specs.Limits.{names_most, name_length_most, slot_size}
use Rattle.words.specs.Lists.{all_of}
use Rattle.words.specs.ListLaws.{never}
use Rattle.words.specs.TestLaws.{and_parts, and_both, all-parts, within-is, within-least}
use Rattle.words.specs.Each.{Each, none_of, also, each_append, each_weaken}
use Rattle.datum.specs.NameTable.{slots, length_at, name_at, has_name}
use Rattle.datum.specs.NameTableLaws.{is_short, length-slots, name-at, length-at}
use Rattle.recipe.specs.Name.{plain_name}
use Rattle.recipe.specs.Table.{items}
use Rattle.recipe.specs.TableNames.{NameOf}
use Rattle.reading.specs.Numbering.{base_names, number_of, data_words}
use Rattle.reading.specs.Elements.{got}
use Rattle.reading.specs.Read.{Recipe, read_elements, item_words, name_bytes}
use Rattle.reading.specs.RecipeText.{Element, Elements, constant_e, name_e, list_e, none_e, more_e, names_of, names_of_all, numbered, numbered_all, said_by}
use Rattle.reading.specs.Laws.Elements.{names-grow-all}
use Rattle.reading.proofs.AcceptsLaws.{accepted-elements}
use Rattle.reading.proofs.AcceptedLaws.{names-few}
use Rattle.reading_layout.specs.Items.{fits, fit_all, no_name, item, items_of, items_of_all, items-are}
use Rattle.reading_layout.specs.Fit.{number-with, text-fits}
use Rattle.reading_layout.specs.Answers.{is_spelling, names-spelled, names-short}

-- ---- the names of a table that is slots

spelled_at : (names : List (List ℕ)) (n : ℕ) → all_of is_spelling names ≡ true → n < length names → 1 ≤ length (get_or names n [])
unfolding is_spelling
spelled_at [] n h l = absurd (omega arith)
spelled_at (cs ∷ names) zero h l = within-least 1 name_length_most (length cs) (all-parts is_spelling cs names h).0
spelled_at (cs ∷ names) (suc n) h l = spelled_at names n (all-parts is_spelling cs names h).1 (omega arith)

-- a name is no longer than its length byte says
length-least : (table : List ℕ) (n : ℕ) → length (name_at table n) ≤ length_at table n
unfolding name_at
length-least table n = omega (arith, length-take (length_at table n) (drop (suc (slot_size * n)) table))

pub slots-named : (names : List (List ℕ)) → all_of is_spelling names ≡ true → all_of is_short names ≡ true → length names ≤ names_most → (n : ℕ) → n < length names → has_name (slots names) n ≡ true
unfolding has_name
slots-named names s h few n l =
    let e : slots names ++ [] ≡ slots names = append-nil (slots names) in
    let at : name_at (slots names) n ≡ get_or names n [] = subst (λ t. name_at t n ≡ get_or names n []) e (name-at names [] n h l) in
    let most : length_at (slots names) n ≤ 63 = subst (λ t. length_at t n ≤ 63) e (length-at names [] n h l) in
    and_both _ _ (lt-ltb n names_most (omega (arith, few)))
    (and_both _ _ (le-leb (slot_size * suc n) (length (slots names)) (omega (arith, length-slots names h)))
    (within-is 1 name_length_most (length_at (slots names) n) (omega (arith, spelled_at names n s l, ap length at, length-least (slots names) n)) most))

-- ---- the items of elements, whose names are numbered over those before them: their numbers are below any count of all names so far

module _ (count : ℕ) where
  mutual
    unfolding fits fit_all numbered numbered_all names_of names_of_all items_of items_of_all item plain_name

    element-below : (i : ℕ) (x : Element) (names : List (List ℕ)) → fits (numbered x names) ≡ true → length (names_of x names) ≤ count → Each (NameOf (λ y. y.number < count)) (items_of i (numbered x names))
    element-below i (constant_e a) names h l = also (λ e. never e (no_name a.kind a.first a.second h)) none_of
    element-below i (name_e cs) names h l = let k : number_of cs names < count = omega (arith, number-with cs names) in also {x = item i 3 (number_of cs names) 0} (λ e. k) none_of
    element-below i (list_e xs) names h l = elements-below i xs names h l

    elements-below : (i : ℕ) (xs : Elements) (names : List (List ℕ)) → fit_all (numbered_all xs names) ≡ true → length (names_of_all xs names) ≤ count → Each (NameOf (λ y. y.number < count)) (items_of_all i (numbered_all xs names))
    elements-below i none_e names h l = also (λ e. never e refl) none_of
    elements-below i (more_e x xs) names h l =
        let p = and_parts (fits (numbered x names)) _ h in
        also (λ e. never e refl)
        (each_append (element-below (suc i) x names p.0 (omega (arith, l, names-grow-all xs (names_of x names)))) (elements-below _ xs (names_of x names) p.1 l))

-- ---- accepted readings

pub read_named : (wanted : ℕ) (text : List ℕ) (items' names : ℕ) (r : Recipe) → read_elements wanted text items' names ≡ got r
    → Each (NameOf (λ x. has_name (name_bytes r) x.number ≡ true)) (items 0 (item_words r))
unfolding item_words name_bytes said_by
read_named wanted text items' names r h =
    let a = accepted-elements wanted text items' names r h in
    let k = r.names in
    let e : r.elements ≡ numbered_all a.elements base_names = ap (λ q. q.elements) a.same in
    let n : k ≡ names_of_all a.elements base_names = ap (λ q. q.names) a.same in
    let below = elements-below (length k) 0 a.elements base_names (text-fits text a.elements a.has) (omega (arith, ap length n)) in
    let is : items 0 (data_words 0 r.elements) ≡ items_of_all 0 (numbered_all a.elements base_names) = items-are 0 r.elements ∙ ap (items_of_all 0) e in
    subst (Each (NameOf (λ x. has_name (slots k) x.number ≡ true))) (sym is)
    (each_weaken (λ x f q. slots-named k (names-spelled wanted text items' names r h) (names-short wanted text items' names r h) (names-few wanted text items' names r h) _ (f q)) below)

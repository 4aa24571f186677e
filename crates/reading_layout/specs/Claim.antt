-- An accepted reading's item table passes ground 7 exactly when the first of its two elements is a list.
use Rattle.std.specs.Prelude.{◌≡◌, Bool, ◌&&◌, ℕ, ◌*◌, ◌≤◌, eqb}
use Rattle.std.proofs.Math.Path.{refl, sym, ap}
use Rattle.std.proofs.Common.{◌∙◌, arith, eq-eqb}
use Rattle.std.proofs.Math.Bool.{true}
use mathlib.Core.List.{List, [], ◌++◌, append-nil}
use Rattle.std.proofs.Math.ListN.{length, drop}
use Rattle.words.specs.Limits.{items_least, items_most}
use Rattle.words.specs.Lists.{within, all_of}
use Rattle.words.specs.TestLaws.{and_parts, within-is}
use Rattle.datum.specs.Datum.{Datum, Data, none_d, more_d, data_items}
use Rattle.recipe.specs.Tree.{is_list, is_list_of, element}
use Rattle.recipe.specs.Table.{items, references, is_item, is_referred_once, tree_of, item_count, is_layout}
use Rattle.reading.specs.Numbering.{base_names, data_words}
use Rattle.reading.specs.Elements.{got}
use Rattle.reading.specs.Read.{Recipe, read, item_words}
use Rattle.reading.specs.RecipeText.{names_of, numbered, numbered_all, both, recipe}
use Rattle.reading.proofs.AcceptsLaws.{accepted-only}
use Rattle.reading.proofs.AcceptedLaws.{items-few}
use Rattle.reading_layout.specs.Items.{fits, fit_all, data-length, datum-positive, items-are}
use Rattle.reading_layout.specs.Places.{data-referred}
use Rattle.reading_layout.specs.Good.{data-good}
use Rattle.reading_layout.specs.Fit.{text-fits}
use Rattle.reading_layout.specs.Root.{is_list_datum, is_list_data, is-two, first-list}

-- the last of six tests decides where the others pass
last : (a b c d e f g : Bool) → a ≡ true → b ≡ true → c ≡ true → d ≡ true → e ≡ true → f ≡ g → (a && (b && (c && (d && (e && f))))) ≡ g
last a b c d e f g p q r s t u = rw (p, q, r, s, t) u

count-is : (ws : List ℕ) (n : ℕ) → length ws ≡ 3 * n → item_count ws ≡ n
unfolding item_count
count-is ws n l = omega (arith, l)

-- ---- two elements whose constants are ones and whose names have numbers below the limit

module _ (x y : Datum) where
  abbrev two : Data
  two = more_d x (more_d y none_d)

  least : items_least ≤ data_items two
  unfolding data_items
  least = omega (arith, datum-positive x, datum-positive y)

  first_fits : fit_all two ≡ true → fits x ≡ true
  unfolding fit_all
  first_fits h = (and_parts (fits x) (fit_all (more_d y none_d)) h).0

  pub two-layout : fit_all two ≡ true → data_items two ≤ items_most → is_layout (data_words 0 two) ≡ is_list_datum x
  unfolding is_layout
  two-layout h few =
      let ws = data_words 0 two in
      let n = data_items two in
      let l : length ws ≡ 3 * n = data-length 0 two in
      let c : item_count ws ≡ n = count-is ws n l in
      let w : drop (3 * 0) ws ≡ ws ++ [] = sym (append-nil ws) in
      let f : fits x ≡ true = first_fits h in
      let good : all_of (is_item ws (item_count ws)) (items 0 ws) ≡ true
      = ap (λ m. all_of (is_item ws m) (items 0 ws)) c ∙ ap (all_of (is_item ws n)) (items-are 0 two) ∙ data-good ws n 0 two [] h w (omega arith) in
      last (eqb (length ws) (3 * item_count ws)) (within items_least items_most (item_count ws)) (all_of (is_item ws (item_count ws)) (items 0 ws))
      (all_of (is_referred_once (references (items 0 ws))) (items 0 ws)) (is_list_of 2 (tree_of ws)) (is_list (element 0 (tree_of ws))) (is_list_datum x)
      (eq-eqb _ _ (l ∙ ap (λ m. 3 * m) (sym c)))
      (within-is items_least items_most (item_count ws) (omega (arith, c, least)) (omega (arith, c, few)))
      good
      (data-referred two h)
      (is-two ws n l x y f refl w)
      (first-list ws n l x y f refl w)

-- ---- accepted readings

pub accepted-layout : (text : List ℕ) (items names : ℕ) (r : Recipe) → read text items names ≡ got r → is_layout (item_words r) ≡ is_list_data r.elements
unfolding item_words is_list_data read recipe both numbered_all
accepted-layout text items names r h =
    let a = accepted-only text items names r h in
    let x = numbered a.first base_names in
    let y = numbered a.second (names_of a.first base_names) in
    let e : r.elements ≡ more_d x (more_d y none_d) = ap (λ q. q.elements) a.same in
    let few : data_items (more_d x (more_d y none_d)) ≤ 4095 = rw e at (items-few 2 text items names r h) in
    ap (λ ds. is_layout (data_words 0 ds)) e
    ∙ two-layout x y (text-fits text (both a.first a.second) a.is_recipe) (omega (arith, few))
    ∙ ap is_list_data (sym e)

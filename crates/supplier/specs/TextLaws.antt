-- What an accepted reading of one element gives: its element from item 1 on, and a slot for every name.
use Rattle.std.specs.Prelude.{◌≡◌, true, ℕ, ◌+◌, ◌*◌, ◌-◌, ◌≤◌, ◌<◌, replicate}
use Rattle.std.proofs.Math.Path.{sym, ap, subst, fun_ext}
use Rattle.std.proofs.Common.{◌∙◌, arith}
use mathlib.Core.List.{List, [], append-nil}
use Rattle.std.proofs.Math.Option.{some}
use Rattle.std.proofs.Math.ListN.{length, length-append, length-replicate}
use Rattle.words.specs.Limits.{names_most, item_words_least}
use Rattle.words.specs.Tables.{filled}
use Rattle.words.specs.TestLaws.{and_left}
use Rattle.datum.specs.Datum.{Datum, none_d, more_d, data_items}
use Rattle.datum.specs.NameTable.{name_at}
use Rattle.datum.specs.NameTableLaws.{length-slots}
use Rattle.reading.specs.Numbering.{base_names, data_words}
use Rattle.reading.specs.Elements.{got}
use Rattle.reading.specs.Read.{Recipe, read_elements, item_words, name_bytes}
use Rattle.reading.specs.RecipeText.{numbered, numbered_all, size_all}
use Rattle.reading.specs.CoreText.{one, core_element}
use Rattle.reading.specs.CoreAccepts.{AcceptedOne}
use Rattle.reading.proofs.CoreAcceptsLaws.{accepted-one}
use Rattle.reading.proofs.AcceptedLaws.{elements-items}
use Rattle.reading_layout.specs.Items.{fits, fit_all, data-length}
use Rattle.reading_layout.specs.Good.{head-words}
use Rattle.reading_layout.specs.Fit.{core-fits}
use Rattle.reading_layout.specs.Answers.{names-short}
use Rattle.comparison.specs.Grammar.{the_one}
use Rattle.supplier.specs.Names.{Slot}
use Rattle.supplier.specs.NamesLaws.{filled-length, filled-name}
use Rattle.supplier.specs.Items.{DatumAt}

module _ (text : List ℕ) (n m : ℕ) (r : Recipe) (h : read_elements 1 text n m ≡ got r) where
  abbrev read_one : AcceptedOne text n m r
  read_one = accepted-one text n m r h

  -- ---- its element

  abbrev pub element_of : Datum
  element_of = numbered read_one.element base_names

  elements-one : r.elements ≡ more_d element_of none_d
  unfolding core_element one numbered_all
  elements-one = ap (λ q. q.elements) read_one.same

  pub the-element : the_one r.elements ≡ some element_of
  unfolding the_one
  the-element = ap the_one elements-one

  element-fits : fits element_of ≡ true
  unfolding fit_all core_element one numbered_all
  element-fits = and_left (fits element_of) _ (core-fits text read_one.element read_one.is_core)

  pub element-at : DatumAt (item_words r) 1 element_of
  unfolding item_words
  element-at =
      let ws = data_words 0 (more_d element_of none_d) in
      let e : item_words r ≡ ws = ap (data_words 0) elements-one in
      subst (λ (l : List ℕ). DatumAt l 1 element_of) (sym e)
      (record { back = _; words = head-words ws 0 element_of none_d [] (sym (append-nil ws)); fine = element-fits })

  pub items-few : length (item_words r) ≤ item_words_least
  unfolding item_words core_element
  items-few =
      let c : data_items r.elements ≡ 1 + 2 * size_all (one read_one.element) = ap (λ q. data_items q.elements) read_one.same ∙ elements-items (one read_one.element) base_names in
      omega (arith, c, data-length 0 r.elements, read_one.is_core.few_elements)

  -- ---- its names, in a table with zeros behind them

  module _ (table : List ℕ) (e : length table ≡ m) where
    short-names : length (name_bytes r) ≤ 65536
    unfolding name_bytes core_element
    short-names =
        let k : length r.names ≤ names_most = subst (λ q. length q.names ≤ names_most) (sym read_one.same) read_one.is_core.few_names in
        omega (arith, k, length-slots r.names (names-short 1 text n m r h))

    table-long : 65536 ≤ length (filled (name_bytes r) table)
    unfolding filled
    table-long =
        let z = length table - length (name_bytes r) in
        omega (arith, short-names, e, read_one.enough_names, length-append (name_bytes r) (replicate z 0), length-replicate {A = ℕ} z 0)

    pub text-slots : (k : ℕ) → k < names_most → Slot (filled (name_bytes r) table) k
    unfolding filled name_bytes
    text-slots k l = (omega (arith, table-long, l), filled-length r.names (names-short 1 text n m r h) (length table - length (name_bytes r)) k)

    pub text-names : name_at (filled (name_bytes r) table) ≡ name_at (name_bytes r)
    unfolding filled name_bytes
    text-names =
        let s = names-short 1 text n m r h in
        fun_ext (λ k. filled-name r.names s (length table - length (name_bytes r)) k
        ∙ sym (ap (λ (l : List ℕ). name_at l k) (sym (append-nil (name_bytes r))) ∙ filled-name r.names s 0 k))

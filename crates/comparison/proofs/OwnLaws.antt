-- Each name of a text that was read is the one of its spelling.
use Rattle.std.specs.Prelude.{◌≡◌, ℕ, ◌≤◌, ◌<◌, length}
use Rattle.std.proofs.Math.Path.{ap, subst}
use Rattle.std.proofs.Common.{◌∙◌, arith}
use mathlib.Core.List.{List, [], append-nil}
use Rattle.std.proofs.Math.ListN.{get_or}
use Rattle.datum.specs.Datum.{Datum, Data}
use Rattle.datum.specs.NameTable.{slots, name_at}
use Rattle.datum.specs.NameTableLaws.{name-at}
use Rattle.reading.specs.Numbering.{base_names, number_of}
use Rattle.reading.specs.Elements.{got}
use Rattle.reading.specs.Read.{Recipe, read_elements, name_bytes}
use Rattle.reading.specs.RecipeText.{Element, Elements, constant_e, name_e, list_e, none_e, more_e, names_of, names_of_all, numbered, numbered_all, said_by}
use Rattle.reading.specs.Laws.Elements.{names-grow-all}
use Rattle.reading.proofs.AcceptsLaws.{accepted-elements}
use Rattle.reading.specs.AcceptedLaws.{Own}
use Rattle.reading.proofs.AcceptedLaws.{names-own}
use Rattle.reading_layout.specs.Fit.{number-with}
use Rattle.reading_layout.specs.Answers.{names-short}
use Rattle.comparison.specs.Exactly.{Named, NamedAll, constant_of, name_of, list_of, none_of, more_of}

module _ {P Q : ℕ → Type 0} (f : (n : ℕ) → P n → Q n) where
  mutual
    named-weaken : {d : Datum} → Named P d → Named Q d
    named-weaken constant_of = constant_of
    named-weaken (name_of p) = name_of (f _ p)
    named-weaken (list_of ps) = list_of (all-weaken ps)

    all-weaken : {ds : Data} → NamedAll P ds → NamedAll Q ds
    all-weaken none_of = none_of
    all-weaken (more_of p ps) = more_of (named-weaken p) (all-weaken ps)

-- names are numbered over those before them: their numbers are below any count of all names so far
module _ (count : ℕ) where
  mutual
    unfolding numbered numbered_all names_of names_of_all

    element-below : (x : Element) (names : List (List ℕ)) → length (names_of x names) ≤ count → Named (λ n. n < count) (numbered x names)
    element-below (constant_e a) names l = constant_of
    element-below (name_e cs) names l = let k : number_of cs names < count = omega (arith, number-with cs names) in name_of k
    element-below (list_e xs) names l = list_of (elements-below xs names l)

    elements-below : (xs : Elements) (names : List (List ℕ)) → length (names_of_all xs names) ≤ count → NamedAll (λ n. n < count) (numbered_all xs names)
    elements-below none_e names l = none_of
    elements-below (more_e x xs) names l = more_of (element-below x names (omega (arith, l, names-grow-all xs (names_of x names)))) (elements-below xs (names_of x names) l)

-- ---- accepted texts

module _ (wanted : ℕ) (text : List ℕ) (items names : ℕ) (r : Recipe) (h : read_elements wanted text items names ≡ got r) where
  read_below : NamedAll (λ n. n < length r.names) r.elements
  unfolding said_by
  read_below =
      let a = accepted-elements wanted text items names r h in
      rw a.same (elements-below (length (names_of_all a.elements base_names)) a.elements base_names (omega arith))

  name-own : (n : ℕ) → n < length r.names → number_of (name_at (name_bytes r) n) r.names ≡ n
  unfolding name_bytes Own
  name-own n l =
      let e : name_at (slots r.names) n ≡ get_or r.names n [] =
      subst (λ t. name_at t n ≡ get_or r.names n []) (append-nil (slots r.names)) (name-at r.names [] n (names-short wanted text items names r h) l) in
      ap (λ cs. number_of cs r.names) e ∙ names-own wanted text items names r h n l

  pub read-own : NamedAll (λ n. number_of (name_at (name_bytes r) n) r.names ≡ n) r.elements
  read-own = all-weaken name-own read_below

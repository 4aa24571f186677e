-- What callers may rely on of an accepted text, however many elements it is to have: N = 1 + 2 × e, at most 4,095 items, at most 1,024 names, and each name's number is its own.
use Rattle.std.specs.Prelude.{◌≡◌, refl, List, [], ◌∷◌, ◌++◌, ℕ, zero, suc, ◌+◌, ◌*◌, ◌≤◌, ◌<◌, ltb, length, get_or}
use Rattle.std.proofs.Math.Path.{sym, ap}
use Rattle.std.proofs.Common.{◌∙◌, arith, length-append, ltb-true, ltb-false}
use Rattle.std.proofs.Math.ListN.{get_or-append}
use Rattle.std.proofs.lemmas.List.{get_or_at}
use Rattle.words.specs.Limits.{names_most}
use Rattle.words.specs.ListLaws.{either}
use Rattle.datum.specs.Datum.{datum_items, data_items}
use Rattle.reading.specs.Numbering.{base_names, number_of, with_name}
use Rattle.reading.specs.NumberingLaws.{number-kept, number-new}
use Rattle.reading.specs.Elements.{got}
use Rattle.reading.specs.Read.{Recipe, read_elements}
use Rattle.reading.specs.RecipeText.{Element, Elements, constant_e, name_e, list_e, none_e, more_e, size, size_all, names_of, names_of_all, numbered, numbered_all, said_by}
use Rattle.reading.specs.Accepts.{AcceptedElements}
use Rattle.reading.proofs.AcceptsLaws.{accepted-elements}
use Rattle.reading.specs.AcceptedLaws.{Own}

-- ---- items

mutual
  unfolding size size_all numbered numbered_all datum_items data_items

  element-items : (x : Element) (names : List (List ℕ)) → suc (datum_items (numbered x names)) ≡ 2 * size x
  element-items (constant_e a) names = refl
  element-items (name_e cs) names = refl
  element-items (list_e xs) names = omega (arith, elements-items xs names)

  pub elements-items : (xs : Elements) (names : List (List ℕ)) → data_items (numbered_all xs names) ≡ 1 + 2 * size_all xs
  elements-items none_e names = refl
  elements-items (more_e x xs) names = omega (arith, element-items x names, elements-items xs (names_of x names))

-- ---- names

pub own-more : (cs : List ℕ) (names : List (List ℕ)) → Own names → length names ≤ number_of cs names → Own (names ++ (cs ∷ []))
unfolding Own
own-more cs names o h n l =
    either (ltb n (length names))
    (λ t. let k = ltb-true n (length names) t in
    let e = get_or-append names (cs ∷ []) [] n k in
    let m = o n k in
    rw e (number-kept (get_or names n []) names (cs ∷ []) (rw m k) ∙ m))
    (λ t. let e : n ≡ length names = omega (arith, ltb-false n (length names) t, length-append names (cs ∷ [])) in
    rw e (rw (get_or_at names cs [] [] (length names) refl) (number-new cs names h)))

own-with : (cs : List ℕ) (names : List (List ℕ)) → Own names → Own (with_name cs names)
unfolding with_name
own-with cs names o =
    either (ltb (number_of cs names) (length names)) (λ t. rw t o) (λ t. rw t (own-more cs names o (ltb-false _ _ t)))

mutual
  unfolding names_of names_of_all

  own-after : (x : Element) (names : List (List ℕ)) → Own names → Own (names_of x names)
  own-after (constant_e a) names o = o
  own-after (name_e cs) names o = own-with cs names o
  own-after (list_e xs) names o = own-after-all xs names o

  own-after-all : (xs : Elements) (names : List (List ℕ)) → Own names → Own (names_of_all xs names)
  own-after-all none_e names o = o
  own-after-all (more_e x xs) names o = own-after-all xs (names_of x names) (own-after x names o)

own-base : Own base_names
unfolding Own base_names number_of
own-base zero h = refl
own-base (suc zero) h = refl
own-base (suc (suc zero)) h = refl
own-base (suc (suc (suc zero))) h = refl
own-base (suc (suc (suc (suc zero)))) h = refl
own-base (suc (suc (suc (suc (suc zero))))) h = refl
own-base (suc (suc (suc (suc (suc (suc zero)))))) h = refl
own-base (suc (suc (suc (suc (suc (suc (suc zero))))))) h = refl
own-base (suc (suc (suc (suc (suc (suc (suc (suc n)))))))) h = absurd (omega arith)

-- ---- accepted texts

module _ (n : ℕ) (text : List ℕ) (items names : ℕ) (r : Recipe) (h : read_elements n text items names ≡ got r) where
  accepted : AcceptedElements n text items names r
  accepted = accepted-elements n text items names r h

  -- e, inner elements included
  pub element_count : ℕ
  element_count = size_all accepted.elements

  pub items-are : data_items r.elements ≡ 1 + 2 * element_count
  unfolding said_by element_count
  items-are = ap (λ q. data_items q.elements) accepted.same ∙ elements-items accepted.elements base_names

  pub items-few : data_items r.elements ≤ 4095
  unfolding element_count
  items-few = omega (arith, items-are, accepted.has.few_elements)

  pub names-few : length r.names ≤ names_most
  unfolding said_by
  names-few = rw accepted.same accepted.has.few_names

  pub names-own : Own r.names
  unfolding said_by
  names-own = rw accepted.same (own-after-all accepted.elements base_names own-base)

  -- no two names are equal
  pub names-distinct : (i j : ℕ) → i < length r.names → j < length r.names → get_or r.names i [] ≡ get_or r.names j [] → i ≡ j
  unfolding Own
  names-distinct i j hi hj e = sym (names-own i hi) ∙ ap (λ cs. number_of cs r.names) e ∙ names-own j hj

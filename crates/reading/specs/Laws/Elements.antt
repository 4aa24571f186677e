-- Elements: reading what an element is spelled by takes that element, within the limits and not otherwise.
use Rattle.std.specs.Prelude.{◌≡◌, true, false, ◌&&◌, cond, List, [], ◌∷◌, ◌++◌, ℕ, suc, ◌+◌, ◌-◌, ◌≤◌, eqb, ltb, leb, length}
use Rattle.std.proofs.Math.Path.{refl, ap}
use Rattle.std.proofs.Common.{sym, subst, ◌∙◌, append_assoc, arith, length-append, leb-true, le-leb}
use Rattle.std.proofs.Math.Seq.{append_snoc}
use Rattle.words.specs.Limits.{elements_most, names_most, open_lists_most}
use Rattle.words.specs.Tables.{Stage}
use Rattle.words.specs.TestLaws.{and_left, and_right}
use Rattle.words.specs.ListLaws.{either, never}
use Rattle.datum.specs.Constant.{Constant}
use Rattle.datum.specs.Datum.{Datum, constant_d, none_d}
use Rattle.reading.specs.Meaning.{Meaning, begins, ends, constant, name, refused}
use Rattle.reading.specs.Numbering.{number_of, with_name}
use Rattle.reading.specs.Elements.{
  Answer,
  got,
  refused_for,
  then,
  Reading,
  onto,
  none_open,
  is_complete,
  counted,
  put,
  named,
  opened,
  closed,
  is_within,
  begin,
  takes,
  takes_all,
}
use Rattle.reading.specs.RecipeText.{
  Element,
  Elements,
  constant_e,
  name_e,
  list_e,
  none_e,
  more_e,
  spelled,
  spelled_all,
  size,
  size_all,
  depth,
  depth_all,
  names_of,
  names_of_all,
  numbered,
  numbered_all,
}

-- ---- answers

module _ {A : Type 0} where
  pub got-only : {a b : A} → got a ≡ got b → a ≡ b
  got-only h = cc

  pub never-got : {P : Type 0} {stage : Stage} {g : ℕ} {a : A} → ◌≡◌ {A = Answer A} (refused_for stage g) (got a) → P
  never-got h = let e : ◌≡◌ {A = ℕ} 0 1 = cc in absurd (omega arith)

pub then-got : {A B : Type 0} (a : Answer A) (f : A → Answer B) (b : B) → then a f ≡ got b → (x : A) × (a ≡ got x) × (f x ≡ got b)
unfolding then
then-got (got x) f b h = (x, refl, h)
then-got (refused_for stage g) f b h = never-got h

-- ---- limits

-- within the limits of ground 6
pub record Within (r : Reading) : Type 0 where
  pub elements : r.count ≤ elements_most
  pub names : length r.known ≤ names_most
  pub lists : length r.around ≤ open_lists_most

pub is_within_lem : (r : Reading) → Within r → is_within r ≡ true
unfolding is_within
is_within_lem r w = rw (le-leb _ _ w.elements, le-leb _ _ w.names, le-leb _ _ w.lists)

pub within-is : (r : Reading) → is_within r ≡ true → Within r
unfolding is_within
within-is r h =
    let a = leb r.count elements_most in
    let b = leb (length r.known) names_most in
    let c = leb (length r.around) open_lists_most in
    record {
      elements = leb-true _ _ (and_left a (b && c) h);
      names = leb-true _ _ (and_left b c (and_right a (b && c) h));
      lists = leb-true _ _ (and_right b c (and_right a (b && c) h));
    }

pub begin-is : (r q : Reading) → is_complete r ≡ false → Within q → begin r q ≡ got q
unfolding begin
begin-is r q c w = rw (c, is_within_lem q w)

pub record Began (r q p : Reading) : Type 0 where
  pub room : is_complete r ≡ false
  pub within : Within q
  pub same : p ≡ q

pub begin-got : (r q p : Reading) → begin r q ≡ got p → Began r q p
unfolding begin
begin-got r q p h =
    either (is_complete r) (λ c. never-got (rw (c, begin) at h))
    (λ c. either (is_within q) (λ w. record { room = c; within = within-is q w; same = sym (got-only (rw (c, w, begin) at h)) })
    (λ w. never-got (rw (c, w, begin) at h)))

-- ---- names only grow in number

pub names_more : (cs : List ℕ) (names : List (List ℕ)) → length names ≤ length (with_name cs names)
unfolding with_name
names_more cs names =
    either (ltb (number_of cs names) (length names)) (λ e. rw e (omega arith)) (λ e. rw e (simp length-append (omega arith)))

mutual
  unfolding names_of names_of_all

  pub names-grow : (x : Element) (names : List (List ℕ)) → length names ≤ length (names_of x names)
  names-grow (constant_e a) names = omega arith
  names-grow (name_e cs) names = names_more cs names
  names-grow (list_e xs) names = names-grow-all xs names

  pub names-grow-all : (xs : Elements) (names : List (List ℕ)) → length names ≤ length (names_of_all xs names)
  names-grow-all none_e names = omega arith
  names-grow-all (more_e x xs) names = omega (arith, names-grow x names, names-grow-all xs (names_of x names))

-- ---- what an element makes of a reading

-- the elements of a list, from the last, before those that came earlier
unfoldable pub pushed : Elements → List (List ℕ) → List Datum → List Datum
pushed none_e names l = l
pushed (more_e x xs) names l = pushed xs (names_of x names) (numbered x names ∷ l)

pub onto-pushed : (xs : Elements) (names : List (List ℕ)) (l : List Datum) → onto (pushed xs names l) none_d ≡ onto l (numbered_all xs names)
unfolding pushed onto numbered_all
onto-pushed none_e names l = refl
onto-pushed (more_e x xs) names l = onto-pushed xs (names_of x names) (numbered x names ∷ l)

unfoldable pub after : Element → Reading → Reading
after x r = record {
  here = numbered x r.known ∷ r.here;
  around = r.around;
  known = names_of x r.known;
  count = r.count + size x;
  missing = cond (none_open r.around) (r.missing - 1) r.missing;
}

-- in a list
unfoldable pub after_all : Elements → Reading → Reading
after_all xs r = record {
  here = pushed xs r.known r.here;
  around = r.around;
  known = names_of_all xs r.known;
  count = r.count + size_all xs;
  missing = r.missing;
}

-- there is room for it
pub record Fits (x : Element) (r : Reading) : Type 0 where
  pub room : is_complete r ≡ false
  pub elements : r.count + size x ≤ elements_most
  pub names : length (names_of x r.known) ≤ names_most
  pub lists : length r.around + depth x ≤ open_lists_most

pub record FitAll (xs : Elements) (r : Reading) : Type 0 where
  pub elements : r.count + size_all xs ≤ elements_most
  pub names : length (names_of_all xs r.known) ≤ names_most
  pub lists : length r.around + depth_all xs ≤ open_lists_most

-- ---- an element that fits is taken

pub fits-within : (x : Element) (r : Reading) → Fits x r → Within (after x r)
unfolding after
fits-within x r f = record { elements = f.elements; names = f.names; lists = omega (arith, f.lists) }

-- readings that are alike but for the count
recounted : (h : List Datum) (a : List (List Datum)) (k : List (List ℕ)) (m : ℕ) {c d : ℕ} → c ≡ d
    → ◌≡◌ {A = Reading} (record { here = h; around = a; known = k; count = c; missing = m }) (record { here = h; around = a; known = k; count = d; missing = m })
recounted h a k m e = ap (λ n. record { here = h; around = a; known = k; count = n; missing = m }) e

module _ (r : Reading) where
  constant-after : (a : Constant) → put (constant_d a) (counted r) ≡ after (constant_e a) r
  unfolding put counted after numbered names_of size
  constant-after a = recounted _ _ _ _ (omega arith)

  name-after : (cs : List ℕ) → named cs (counted r) ≡ after (name_e cs) r
  unfolding named counted after numbered names_of size
  name-after cs = recounted _ _ _ _ (omega arith)

  -- a list's end
  list-after : (xs : Elements) → closed (r.here ∷ r.around) (after_all xs (opened (counted r))) ≡ got (after (list_e xs) r)
  unfolding closed opened counted after after_all numbered names_of size onto
  list-after xs = rw (onto-pushed xs r.known []) (ap got (recounted _ _ _ _ (omega arith)))

  -- an element of a list, then the others
  more-after : (x : Element) (xs : Elements) → none_open r.around ≡ false → after_all xs (after x r) ≡ after_all (more_e x xs) r
  unfolding after after_all pushed names_of_all size_all
  more-after x xs h = rw h (recounted _ _ _ _ (omega arith))

  open-room : none_open r.around ≡ false → is_complete r ≡ false
  unfolding is_complete
  open-room h = rw h

  pub first_fits : (x : Element) (xs : Elements) → is_complete r ≡ false → FitAll (more_e x xs) r → Fits x r
  unfolding size_all names_of_all depth_all
  first_fits x xs h f = record {
    room = h;
    elements = omega (arith, f.elements);
    names = omega (arith, f.names, names-grow-all xs (names_of x r.known));
    lists = omega (arith, f.lists);
  }

  pub others-fit : (x : Element) (xs : Elements) → FitAll (more_e x xs) r → FitAll xs (after x r)
  unfolding after size_all names_of_all depth_all
  others-fit x xs f = record {
    elements = omega (arith, f.elements);
    names = f.names;
    lists = omega (arith, f.lists);
  }

  list-within : (xs : Elements) → Fits (list_e xs) r → Within (opened (counted r))
  unfolding opened counted size depth names_of
  list-within xs f = record {
    elements = omega (arith, f.elements);
    names = omega (arith, f.names, names-grow-all xs r.known);
    lists = omega (arith, f.lists);
  }

  inner-fit : (xs : Elements) → Fits (list_e xs) r → FitAll xs (opened (counted r))
  unfolding opened counted size depth names_of
  inner-fit xs f = record {
    elements = omega (arith, f.elements);
    names = f.names;
    lists = omega (arith, f.lists);
  }

  none_after : after_all none_e r ≡ r
  unfolding after_all pushed names_of_all size_all
  none_after = recounted _ _ _ _ (omega arith)

  opened-open : none_open (opened (counted r)).around ≡ false
  unfolding opened none_open
  opened-open = refl

  after_open : (x : Element) → none_open r.around ≡ false → none_open (after x r).around ≡ false
  unfolding after
  after_open x h = h

  begun : (ms : List Meaning) (q : Reading) (m : Meaning) → takes m r ≡ begin r q → is_complete r ≡ false → Within q
      → takes_all (m ∷ ms) r ≡ takes_all ms q
  unfolding takes_all then
  begun ms q m e c w = rw (e, begin-is r q c w)

  module _ (ms : List Meaning) where
    constant-taken : (a : Constant) → Fits (constant_e a) r → takes_all (constant a ∷ ms) r ≡ takes_all ms (after (constant_e a) r)
    unfolding takes
    constant-taken a f =
        rw (← constant-after a)
        (begun ms (put (constant_d a) (counted r)) (constant a) refl f.room (rw (constant-after a) (fits-within (constant_e a) r f)))

    name-taken : (cs : List ℕ) → Fits (name_e cs) r → takes_all (name cs ∷ ms) r ≡ takes_all ms (after (name_e cs) r)
    unfolding takes
    name-taken cs f =
        rw (← name-after cs)
        (begun ms (named cs (counted r)) (name cs) refl f.room (rw (name-after cs) (fits-within (name_e cs) r f)))

    list-ended : (xs : Elements) → takes_all (ends ∷ ms) (after_all xs (opened (counted r))) ≡ takes_all ms (after (list_e xs) r)
    unfolding takes_all takes then after_all opened counted
    list-ended xs = ap (λ a. then a (takes_all ms)) (list-after xs)

    -- with the list's elements and its end
    list-taken : (xs : Elements) → Fits (list_e xs) r
        → takes_all (spelled_all xs ++ (ends ∷ ms)) (opened (counted r)) ≡ takes_all (ends ∷ ms) (after_all xs (opened (counted r)))
        → takes_all (begins ∷ (spelled_all xs ++ (ends ∷ []) ++ ms)) r ≡ takes_all ms (after (list_e xs) r)
    unfolding takes
    list-taken xs f e =
        ap (λ l. takes_all (begins ∷ l) r) (append_snoc (spelled_all xs) ends ms)
        ∙ begun (spelled_all xs ++ (ends ∷ ms)) (opened (counted r)) begins refl f.room (list-within xs f)
        ∙ e
        ∙ list-ended xs

mutual
  unfolding spelled spelled_all

  pub element-taken : (x : Element) (r : Reading) (ms : List Meaning) → Fits x r → takes_all (spelled x ++ ms) r ≡ takes_all ms (after x r)
  element-taken (constant_e a) r ms f = constant-taken r ms a f
  element-taken (name_e cs) r ms f = name-taken r ms cs f
  element-taken (list_e xs) r ms f =
      list-taken r ms xs f (elements-taken xs (opened (counted r)) (ends ∷ ms) (opened-open r) (inner-fit r xs f))

  elements-taken : (xs : Elements) (r : Reading) (ms : List Meaning) → none_open r.around ≡ false → FitAll xs r
      → takes_all (spelled_all xs ++ ms) r ≡ takes_all ms (after_all xs r)
  elements-taken none_e r ms h f = ap (takes_all ms) (sym (none_after r))
  elements-taken (more_e x xs) r ms h f =
      ap (λ l. takes_all l r) (append_assoc (spelled x) (spelled_all xs) ms)
      ∙ element-taken x r (spelled_all xs ++ ms) (first_fits r x xs (open-room r h) f)
      ∙ elements-taken xs (after x r) ms (after_open r x h) (others-fit r x xs f)
      ∙ ap (takes_all ms) (more-after r x xs h)

-- ---- an element that is taken fits

-- a token that begins an element was taken
began : (r : Reading) (ms : List Meaning) (q : Reading) (m : Meaning) (s : Reading) → takes m r ≡ begin r q → takes_all (m ∷ ms) r ≡ got s
    → Began r q q × (takes_all ms q ≡ got s)
unfolding takes_all
began r ms q m s e h =
    let t = then-got (takes m r) (takes_all ms) s h in
    let b = begin-got r q t.0 (sym e ∙ t.1) in
    (record { room = b.room; within = b.within; same = refl }, rw b.same at t.2)

module _ (r : Reading) where
  token-fits : (x : Element) → depth x ≡ 0 → is_complete r ≡ false → Within (after x r) → Fits x r
  unfolding after
  token-fits x d c w = record { room = c; elements = w.elements; names = w.names; lists = omega (arith, w.lists) }

  list-fits : (xs : Elements) → is_complete r ≡ false → FitAll xs (opened (counted r)) → Fits (list_e xs) r
  unfolding opened counted size depth names_of
  list-fits xs c f = record {
    room = c;
    elements = omega (arith, f.elements);
    names = f.names;
    lists = omega (arith, f.lists);
  }

  pub more-fit : (x : Element) (xs : Elements) → Fits x r → FitAll xs (after x r) → FitAll (more_e x xs) r
  unfolding after size_all names_of_all depth_all
  more-fit x xs f g = record {
    elements = omega (arith, g.elements);
    names = g.names;
    lists = omega (arith, f.lists, g.lists);
  }

  pub none-fit : Within r → FitAll none_e r
  unfolding size_all names_of_all depth_all
  none-fit w = record { elements = omega (arith, w.elements); names = w.names; lists = omega (arith, w.lists) }

mutual
  unfolding spelled spelled_all takes depth

  pub element-fits : (x : Element) (r : Reading) (ms : List Meaning) (s : Reading) → takes_all (spelled x ++ ms) r ≡ got s → Fits x r
  element-fits (constant_e a) r ms s h =
      let b = (began r ms (put (constant_d a) (counted r)) (constant a) s refl h).0 in
      token-fits r (constant_e a) refl b.room (rw (constant-after r a) at b.within)
  element-fits (name_e cs) r ms s h =
      let b = (began r ms (named cs (counted r)) (name cs) s refl h).0 in
      token-fits r (name_e cs) refl b.room (rw (name-after r cs) at b.within)
  element-fits (list_e xs) r ms s h =
      let b = began r (spelled_all xs ++ (ends ∷ ms)) (opened (counted r)) begins s refl (rw (append_snoc (spelled_all xs) ends ms) at h) in
      list-fits r xs b.0.room (elements-fit xs (opened (counted r)) (ends ∷ ms) s (opened-open r) b.0.within b.1)

  elements-fit : (xs : Elements) (r : Reading) (ms : List Meaning) (s : Reading) → none_open r.around ≡ false → Within r
      → takes_all (spelled_all xs ++ ms) r ≡ got s → FitAll xs r
  elements-fit none_e r ms s o w h = none-fit r w
  elements-fit (more_e x xs) r ms s o w h =
      let k : takes_all (spelled x ++ (spelled_all xs ++ ms)) r ≡ got s = rw append_assoc at h in
      let f = element-fits x r (spelled_all xs ++ ms) s k in
      let g = elements-fit xs (after x r) ms s (after_open r x o) (fits-within x r f) (sym (element-taken x r (spelled_all xs ++ ms) f) ∙ k) in
      more-fit r x xs f g

-- ---- what is taken to the end is elements

-- the rest of a text in which n lists are open: elements, and the end of a list each time
pub data Rest : ℕ → List Meaning → Type 0 where
  last : (xs : Elements) → Rest 0 (spelled_all xs)
  inner : (xs : Elements) {n : ℕ} {ms : List Meaning} → Rest n ms → Rest (suc n) (spelled_all xs ++ (ends ∷ ms))

prepend : (x : Element) {n : ℕ} {ms : List Meaning} → Rest n ms → Rest n (spelled x ++ ms)
unfolding spelled_all
prepend x (last xs) = last (more_e x xs)
prepend x (inner xs {n} {ms} r) = subst (Rest (suc n)) (append_assoc (spelled x) (spelled_all xs) (ends ∷ ms)) (inner (more_e x xs) r)

enclose : {n : ℕ} {ms : List Meaning} → Rest (suc n) ms → Rest n (begins ∷ ms)
unfolding spelled
enclose (inner xs {n} {ms} r) = subst (λ l. Rest n (begins ∷ l)) (append_snoc (spelled_all xs) ends ms) (prepend (list_e xs) r)

no_more : (ls : List (List Datum)) → none_open ls ≡ true → Rest (length ls) []
unfolding none_open spelled_all
no_more [] h = last none_e
no_more (l ∷ ls) h = never h refl

end_rest : (ls : List (List Datum)) (r s : Reading) (ms : List Meaning) → then (closed ls r) (takes_all ms) ≡ got s
    → ((q : Reading) → takes_all ms q ≡ got s → Rest (length q.around) ms) → Rest (length ls) (ends ∷ ms)
unfolding closed then spelled_all
end_rest [] r s ms h ih = never-got h
end_rest (l ∷ ls) r s ms h ih = inner none_e (ih _ h)

pub rest : (ms : List Meaning) (r s : Reading) → takes_all ms r ≡ got s → is_complete s ≡ true → Rest (length r.around) ms
unfolding takes_all takes then opened counted put named spelled is_complete
rest [] r s h c =
    let e : r ≡ s = got-only h in
    no_more r.around (and_left (none_open r.around) (eqb r.missing 0) (subst (λ q. is_complete q ≡ true) (sym e) c))
rest (begins ∷ ms) r s h c =
    enclose (rest ms (opened (counted r)) s (began r ms (opened (counted r)) begins s refl h).1 c)
rest (ends ∷ ms) r s h c = end_rest r.around r s ms h (λ q k. rest ms q s k c)
rest (constant a ∷ ms) r s h c =
    prepend (constant_e a) (rest ms (put (constant_d a) (counted r)) s (began r ms (put (constant_d a) (counted r)) (constant a) s refl h).1 c)
rest (name cs ∷ ms) r s h c =
    prepend (name_e cs) (rest ms (named cs (counted r)) s (began r ms (named cs (counted r)) (name cs) s refl h).1 c)
rest (refused g ∷ ms) r s h c = never-got h

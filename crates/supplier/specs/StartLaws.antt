-- Laws of how the walk through a list begins, one for each way through the code.
use Rattle.std.specs.Prelude.{◌≡◌, refl, Bool, cond, List, [], ◌∷◌, ℕ, ◌+◌, ◌*◌, ◌≤◌, ◌<◌, eqb, ltb, length, Option, Some, None, Err}
use Rattle.std.proofs.Math.Path.{sym, ap, ap₂, subst}
use Rattle.std.proofs.Common.{◌∙◌}
use Rattle.std.proofs.Math.Bool.{true, false}
use Rattle.std.proofs.Math.Option.{none, some}
use native.Mathlib.Omega.{arith}
use borrow.Author.Tests.{eq-eqb, ne_eqb, eqb-true}
use Rattle.words.specs.ListLaws.{either, never}
use Rattle.words.specs.Options.{only_if}
use Rattle.words.specs.TestLaws.{or_left, or_right}
use Rattle.recipe.specs.Layout.{is_list_kind}
use Rattle.datum.specs.Datum.{Datum, constant_d, name_d, list_d, Data, none_d, more_d, datum_items, data_items}
use Rattle.datum.specs.Datum as D
use Rattle.recipe.specs.Table.{kind_at}
use Rattle.recipe.specs.TreeFrom.{head_at, tail_at}
use Rattle.core_term.specs.Node.{node_at}
use Rattle.comparison.specs.Grammar.{first, after, formals}
use Rattle.comparison.specs.Agrees.{bind}
use Rattle.comparison.specs.Written.{name_data}
use Rattle.comparison.proofs.WrittenLaws.{formals-back}
use Rattle.supplier.specs.declared.grammar.Place.{Place}
use Rattle.supplier.specs.declared.grammar.Start.{Start}
use Rattle.supplier.specs.declared.front.Difference.TheVariants.{Outside}
use Rattle.supplier.specs.declared.front.Front.{Front}
use Rattle.supplier.specs.Items.{DatumAt, DataAt, Held, HeldAll, PairAt}
use Rattle.supplier.specs.ItemsLaws.{pair-kind, none-kind, as-list, name-datum, constant-datum, empty-datum, pair-datum}
use Rattle.supplier.specs.ListLaws.{count-pair}
use Rattle.supplier.specs.Scope.{scope_of, Kept}
use Rattle.supplier.specs.declared.scope.Formal.{Formal}
use Rattle.supplier.specs.ScopeLaws.{kept-scope}
use Rattle.supplier.specs.Walk.{Found, outside, same, left_of, joined, constant_here, quoted_name, name_here, takes, if_sort, list_sort, lambda_sort, application_sort, ours_of, form_of, quotes, quote_plan, if_plan, lambda_plan, formals_of, headed_plan, plan_of, walk, walk_from}
use Rattle.supplier.specs.Told.{Walked, found_of, Within, Told, ours_in, Fronted}
use Rattle.supplier.specs.ToldLaws.{told-as}
use Rattle.supplier.specs.Forms.{FormalsAre, Goes, Started, LambdaStarted, planned}

-- ---- the form at the head

form-is : (n m : ℕ) → cond (ltb n 3) n 3 ≡ m → m < 3 → n ≡ m
form-is n m e h = either (ltb n 3) (λ l. rw l at e) (λ l. let z : 3 ≡ m = rw l at e in absurd (omega (arith, z)))

form-name : (d : Datum) (m : ℕ) → form_of d ≡ m → m < 3 → d ≡ name_d m
unfolding form_of
form-name (constant_d a) m e h = absurd (omega (arith, e))
form-name (name_d n) m e h = ap name_d (form-is n m e h)
form-name (list_d ds) m e h = absurd (omega (arith, e))

-- ---- the items of formals

names-items : (ns : List ℕ) → data_items (name_data ns) ≡ 1 + 2 * length ns
unfolding name_data data_items
names-items [] = refl
names-items (n ∷ ns) = omega (arith, names-items ns)

formals-items : (f : Datum) (ns : List ℕ) → formals f ≡ some ns → datum_items f ≡ 1 + 2 * length ns
unfolding datum_items
formals-items f ns e = ap datum_items (sym (formals-back f ns e).0) ∙ names-items ns

-- ---- a start, by its numbers

abbrev pub begun_at : ℕ → ℕ → Bool → Walked → Start
begun_at i top q w = record { place = record { i = i; top = top; quoted = q }; found = w }

goes_on : (words : List ℕ) (scope : List Formal) (at : Place) (i : ℕ) (q : Bool) (w : Walked) → 2 * at.top ≤ at.i → at.i ≤ i → Within words w
    → Goes words scope scope at (begun_at i at.top q w)
goes_on words scope at i q w room later st = record { kept = λ k l. refl; within = st; room = omega arith; later = later; more = omega arith }

module _ (items words : List ℕ) (scope : List Formal) (at : Place) (room : 2 * at.top ≤ at.i) (w : Walked) where
  abbrev Starts : Start → Type 0
  Starts = Started items words scope scope at

  -- a quoted list
  pub start-quoted : at.quoted ≡ true → (n : ℕ) → ((ds : Data) → DataAt items at.i ds → n ≡ D.count ds) → Told words (takes list_sort n (ours_of (node_at words))) w
      → (r : Start) → r ≡ begun_at at.i at.top true w → Starts r
  unfolding walk plan_of
  start-quoted q n counts t r e =
      subst Starts (sym e) (
        (λ ds o. record {
          elements = ds;
          list = o;
          walked = λ theirs ours operations.
              rw q (ap (walk_from theirs ours operations ds 0 true (scope_of scope at.top)) (ap (λ k. takes list_sort k (ours_of (node_at words))) (sym (counts ds o)) ∙ sym t.is));
        }),
        goes_on words scope at at.i true w room (omega arith) t.within,
      )

  module _ (q : at.quoted ≡ false) (k : ℕ) (kind : k ≡ kind_at items at.i) where
    -- the empty list
    pub start_none : (k ≡ 4 → ⊥) → (r : Start) → r ≡ begun_at at.i at.top false (Err Outside) → Starts r
    unfolding walk plan_of found_of
    start_none f r e =
        subst Starts (sym e) (
          (λ ds o. record {
            elements = none_d;
            list = subst (DataAt items at.i) (none-kind items at.i ds o (λ z. f (kind ∙ z))) o;
            walked = λ theirs ours operations. rw (q, none-kind items at.i ds o (λ z. f (kind ∙ z)));
          }),
          goes_on words scope at at.i false (Err Outside) room (omega arith) tt,
        )

    module _ (pair : k ≡ 4) (head : ℕ) (a : head ≡ head_at items at.i) (form : ℕ) (forms : (d : Datum) → DatumAt items head d → form ≡ form_of d) (next : ℕ) (b : next ≡ tail_at items at.i) where
      pair-at : (ds : Data) → DataAt items at.i ds → PairAt items at.i ds
      pair-at ds o = pair-kind items at.i ds o (sym kind ∙ pair)

      form-at : (ds : Data) (o : DataAt items at.i ds) → form ≡ form_of (pair-at ds o).first
      form-at ds o = let p = pair-at ds o in forms p.first (subst (λ j. DatumAt items j p.first) (sym a) p.head)

      rest_at : (ds : Data) (o : DataAt items at.i ds) → DataAt items next (pair-at ds o).rest
      rest_at ds o = let p = pair-at ds o in subst (λ j. DataAt items j p.rest) (sym b) p.tail

      pub next-later : HeldAll items at.i → HeldAll items next × (at.i < next)
      next-later h = let p = pair-at h.0 h.1 in ((p.rest, rest_at h.0 h.1), omega (arith, b, p.tail_is))

      -- its walk, by the form
      by_form : (m : ℕ) → form ≡ m → (ds : Data) (o : DataAt items at.i ds) (theirs ours operations : List ℕ)
          → walk theirs ours operations (list_d ds) at.quoted (scope_of scope at.top) words
          ≡ planned theirs ours operations (more_d (pair-at ds o).first (pair-at ds o).rest) (headed_plan (scope_of scope at.top) m (pair-at ds o).rest words (ours_of (node_at words)))
      unfolding walk plan_of
      by_form m z ds o theirs ours operations =
          let p = pair-at ds o in
          ap₂ (λ x z. walk theirs ours operations (list_d x) z (scope_of scope at.top) words) p.is q
          ∙ ap (λ f. planned theirs ours operations (more_d p.first p.rest) (headed_plan (scope_of scope at.top) f p.rest words (ours_of (node_at words)))) (sym (form-at ds o) ∙ z)

      pub start-quote : form ≡ 0 → HeldAll items at.i → ((ds : Data) → DataAt items next ds → Told words (cond (quotes ds) (same words) outside) w)
          → (r : Start) → r ≡ begun_at next at.top true w → Starts r
      unfolding walk headed_plan quote_plan
      start-quote z h t r e =
          subst Starts (sym e) (
            (λ ds o. record {
              elements = (pair-at ds o).rest;
              list = rest_at ds o;
              walked = λ theirs ours operations.
                  by_form 0 z ds o theirs ours operations ∙ (ap (walk_from theirs ours operations (pair-at ds o).rest 0 true (scope_of scope at.top)) (sym (t (pair-at ds o).rest (rest_at ds o)).is));
            }),
            goes_on words scope at next true w room (omega (arith, (next-later h).1)) (t (next-later h).0.0 (next-later h).0.1).within,
          )

      pub start-if : form ≡ 1 → HeldAll items at.i → ((ds : Data) → DataAt items next ds → Told words (cond (eqb (D.count ds) 3) (takes if_sort 0 (ours_of (node_at words))) outside) w)
          → (r : Start) → r ≡ begun_at next at.top false w → Starts r
      unfolding walk headed_plan if_plan
      start-if z h t r e =
          subst Starts (sym e) (
            (λ ds o. record {
              elements = (pair-at ds o).rest;
              list = rest_at ds o;
              walked = λ theirs ours operations.
                  by_form 1 z ds o theirs ours operations ∙ (ap (walk_from theirs ours operations (pair-at ds o).rest 0 false (scope_of scope at.top)) (sym (t (pair-at ds o).rest (rest_at ds o)).is));
            }),
            goes_on words scope at next false w room (omega (arith, (next-later h).1)) (t (next-later h).0.0 (next-later h).0.1).within,
          )

      pub start-application : form ≡ 3 → HeldAll items at.i → (n : ℕ) → ((ds : Data) → DataAt items next ds → n ≡ D.count ds)
          → Told words (takes application_sort n (ours_of (node_at words))) w → (r : Start) → r ≡ begun_at at.i at.top false w → Starts r
      unfolding walk headed_plan
      start-application three h n counts t r e =
          subst Starts (sym e) (
            (λ ds o.
                let p = pair-at ds o in
                record {
                  elements = ds;
                  list = o;
                  walked = λ theirs ours operations.
                      by_form 3 three ds o theirs ours operations
                      ∙ (ap₂ (λ l f. walk_from theirs ours operations l 0 false (scope_of scope at.top) f) (sym p.is)
                      (ap (λ k. takes application_sort k (ours_of (node_at words))) (sym (counts p.rest (rest_at ds o))) ∙ sym t.is));
                }),
            goes_on words scope at at.i false w room (omega arith) t.within,
          )

      pub start-lambda : form ≡ 2 → HeldAll items at.i → (scope' : List Formal) (there : Place) → there.i ≡ next → there.top ≡ at.top → (r : Start)
          → LambdaStarted items words scope scope' there r → Started items words scope scope' at r
      unfolding headed_plan
      start-lambda z h scope' there x y r l = (
        (λ ds o.
            let p = pair-at ds o in
            let g = l.0 p.rest (subst (λ j. DataAt items j p.rest) (sym x) (rest_at ds o)) in
            record {
              elements = g.elements;
              list = g.list;
              walked = λ theirs ours operations.
                  by_form 2 z ds o theirs ours operations
                  ∙ (ap₂ (λ d s. planned theirs ours operations (more_d d p.rest) (lambda_plan s (formals_of p.rest) (ours_of (node_at words))))
                  (form-name p.first 2 (sym (form-at ds o) ∙ z) (omega arith)) (ap (scope_of scope) (sym y)) ∙ g.walked theirs ours operations);
            }),
        (record {
          kept = λ k m. l.1.kept k (omega (arith, y));
          within = l.1.within;
          room = l.1.room;
          later = omega (arith, x, (next-later h).1, l.1.later);
          more = omega (arith, y, l.1.more);
        }),
      )

-- ---- what stands behind lambda

module _ (items words : List ℕ) (scope : List Formal) (at : Place) (room : 2 * at.top ≤ at.i) (held : HeldAll items at.i) (n : ℕ) (counts : (ds : Data) → DataAt items at.i ds → n ≡ D.count ds) (w : Walked) where
  pub lambda-not-two : (n ≡ 2 → ⊥) → (r : Start) → r ≡ begun_at at.i at.top false (Err Outside) → LambdaStarted items words scope scope at r
  unfolding walk lambda_plan formals_of only_if found_of
  lambda-not-two f r e =
      subst (LambdaStarted items words scope scope at) (sym e) (
        (λ ds o. record {
          elements = ds;
          list = o;
          walked = λ theirs ours operations. rw (ne_eqb (D.count ds) 2 (λ z. f (counts ds o ∙ z)));
        }),
        goes_on words scope at at.i false (Err Outside) room (omega arith) tt,
      )

  module _ (two : n ≡ 2) (head : ℕ) (a : head ≡ head_at items at.i) where
    pair_of : (ds : Data) → DataAt items at.i ds → PairAt items at.i ds
    pair_of ds o = pair-kind items at.i ds o (count-pair items at.i ds o (omega (arith, counts ds o, two)))

    formals-at : (ds : Data) (o : DataAt items at.i ds) → DatumAt items head (pair_of ds o).first
    formals-at ds o = let p = pair_of ds o in subst (λ j. DatumAt items j p.first) (sym a) p.head

    pub formals-held : Held items head
    formals-held = ((pair_of held.0 held.1).first, formals-at held.0 held.1)

    formals-are : (ds : Data) (o : DataAt items at.i ds) → formals_of ds ≡ formals (pair_of ds o).first
    unfolding formals_of only_if after first
    formals-are ds o = rw (eq-eqb (D.count ds) 2 (sym (counts ds o) ∙ two)) (ap (λ x. after (first x) formals) (pair_of ds o).is)

    module _ (v : ℕ) (scope' : List Formal) (b : Option ℕ) (are : (d : Datum) → DatumAt items head d → FormalsAre d at.top v scope scope' b) (kept : Kept at.top scope scope') where
      pub lambda-no-formals : b ≡ None → (r : Start) → r ≡ begun_at at.i at.top false (Err Outside) → LambdaStarted items words scope scope' at r
      unfolding walk lambda_plan found_of
      lambda-no-formals e r g =
          subst (LambdaStarted items words scope scope' at) (sym g) (
            (λ ds o.
                let f : formals_of ds ≡ none = formals-are ds o ∙ subst (FormalsAre (pair_of ds o).first at.top v scope scope') e (are (pair_of ds o).first (formals-at ds o)) in
                record {
                  elements = ds;
                  list = o;
                  walked = λ theirs ours operations. rw f (ap (λ s. walk_from theirs ours operations ds 0 false s outside) (sym (kept-scope at.top scope scope' kept)));
                }),
            record { kept = kept; within = tt; room = room; later = omega arith; more = omega arith },
          )

      module _ (m : ℕ) (e : b ≡ Some m) where
        bound : (ds : Data) (o : DataAt items at.i ds) → FormalsAre (pair_of ds o).first at.top v scope scope' (Some m)
        bound ds o = subst (FormalsAre (pair_of ds o).first at.top v scope scope') e (are (pair_of ds o).first (formals-at ds o))

        -- each formal takes two items
        pub body-room : (next : ℕ) → next ≡ tail_at items at.i → (at.i < next) × (2 * (at.top + m) ≤ next)
        body-room next c =
            let p = pair_of held.0 held.1 in
            let f = bound held.0 held.1 in
            let s = formals-items p.first f.0 f.1 in
            (omega (arith, c, p.tail_is), omega (arith, c, p.tail_is, s, f.2, room))

        pub lambda-body : (node : Front) → Fronted words node → node.second ≡ v → Told words (takes lambda_sort m (ours_of (node_at words))) w
            → (next : ℕ) → next ≡ tail_at items at.i → (r : Start) → r ≡ begun_at next (at.top + m) false w → LambdaStarted items words scope scope' at r
        unfolding walk lambda_plan ours_in
        lambda-body node own z t next c r g =
            subst (LambdaStarted items words scope scope' at) (sym g) (
              (λ ds o.
                  let p = pair_of ds o in
                  let f = bound ds o in
                  let s : (ours_of (node_at words)).second ≡ v = sym (ap (λ x. x.second) own.is) ∙ z in
                  record {
                    elements = p.rest;
                    list = subst (λ j. DataAt items j p.rest) (sym c) p.tail;
                    walked = λ theirs ours operations.
                        ap₂ (λ x l. planned theirs ours operations (more_d (name_d 2) x) (lambda_plan (scope_of scope at.top) l (ours_of (node_at words)))) p.is (formals-are ds o ∙ f.1)
                        ∙ ap₂ (walk_from theirs ours operations p.rest 0 false) (ap (λ u. bind f.0 u (scope_of scope at.top)) s ∙ sym f.3) (ap (λ k. takes lambda_sort k (ours_of (node_at words))) (sym f.2) ∙ sym t.is);
                  }),
              record {
                kept = kept;
                within = t.within;
                room = (body-room next c).1;
                later = omega (arith, (body-room next c).0);
                more = omega arith;
              },
            )

-- ---- element by element

-- the list from place j on, and what was found before it
abbrev pub Walking : (theirs ours operations items : List ℕ) (q : Bool) (scope : List Formal) (top i j : ℕ) (before now : Found) → Type 0
Walking theirs ours operations items q scope top i j before now =
    (ds : Data) → DataAt items i ds
    → (es : Data) × (DataAt items j es × (walk_from theirs ours operations ds 0 q (scope_of scope top) before ≡ walk_from theirs ours operations es 0 q (scope_of scope top) now))

module _ (theirs ours operations items words : List ℕ) (q : Bool) (scope : List Formal) (top i : ℕ) (before : Found) where
  abbrev Walks : ℕ → Found → Type 0
  Walks j now = Walking theirs ours operations items q scope top i j before now

  pub walking_start : Walks i before
  walking_start ds o = (ds, (o, refl))

  module _ (j : ℕ) (found : Walked) (p : Walks j (found_of words found)) (k : ℕ) (kind : k ≡ kind_at items j) where
    pub walking-end : (k ≡ 4 → ⊥) → Within words found → (ds : Data) → DataAt items i ds
        → Told words (walk_from theirs ours operations ds 0 q (scope_of scope top) before) found
    unfolding walk
    walking-end f st ds o =
        let g = p ds o in
        record {
          is = sym (g.1.1 ∙ ap (λ es. walk_from theirs ours operations es 0 q (scope_of scope top) (found_of words found)) (none-kind items j g.0 g.1.0 (λ e. f (kind ∙ e))));
          within = st;
        }

    module _ (pair : k ≡ 4) (at : ℕ) (a : at ≡ head_at items j) (scope₁ : List Formal) (kept : Kept top scope scope₁) (l : List ℕ) (e : l ≡ left_of (found_of words found))
        (next : Walked) (told : (d : Datum) → DatumAt items at d → Told l (walk theirs ours operations d q (scope_of scope₁ top) l) next) where
      pub next-within : Held items at → Within (left_of (found_of words found)) next
      next-within h = subst (λ x. Within x next) e (told h.0 h.1).within

      pub walking-next : (both : Walked) → Told words (joined (found_of words found) (found_of (left_of (found_of words found)) next)) both → (t : ℕ) → t ≡ tail_at items j → Walks t (found_of words both)
      unfolding walk
      walking-next both joins t b ds o =
          let g = p ds o in
          let r = pair-kind items j g.0 g.1.0 (sym kind ∙ pair) in
          let told' = told r.first (subst (λ x. DatumAt items x r.first) (sym a) r.head) in
          let is : walk theirs ours operations r.first q (scope_of scope top) (left_of (found_of words found)) ≡ found_of (left_of (found_of words found)) next
          = ap (walk theirs ours operations r.first q (scope_of scope top)) (sym e) ∙ ap (λ s. walk theirs ours operations r.first q s l) (sym (kept-scope top scope scope₁ kept)) ∙ sym told'.is
          ∙ ap (λ x. found_of x next) e in (
            r.rest,
            (
              subst (λ x. DataAt items x r.rest) (sym b) r.tail,
              g.1.1 ∙ ap (λ es. walk_from theirs ours operations es 0 q (scope_of scope top) (found_of words found)) r.is
                  ∙ ap (λ f. walk_from theirs ours operations r.rest 0 q (scope_of scope top) (joined (found_of words found) f)) is
                  ∙ ap (walk_from theirs ours operations r.rest 0 q (scope_of scope top)) (sym joins.is),
            ),
          )

-- ---- an element, by the kind of its item

module _ (theirs ours operations items words : List ℕ) (q : Bool) (scope : List Formal) (top i k : ℕ) (kind : k ≡ kind_at items i) (w : Walked) where
  abbrev Element : Type 0
  Element = (d : Datum) → DatumAt items i d → Told words (walk theirs ours operations d q (scope_of scope top) words) w

  module _ (named : k ≡ 3) (n : ℕ) (a : n ≡ head_at items i) where
    name-is : (d : Datum) → DatumAt items i d → name_d n ≡ d
    name-is d o = ap name_d a ∙ sym (name-datum items i d o (sym kind ∙ named)).0

    pub walks-name : (t : Bool) → q ≡ t → Told words (name_here theirs ours operations t (scope_of scope top) n (ours_of (node_at words))) w → Element
    unfolding walk
    walks-name t e told d o = told-as words _ _ w (ap₂ (λ x y. walk theirs ours operations x y (scope_of scope top) words) (name-is d o) (sym e)) told

    pub walks-quoted : q ≡ true → ((operations : List ℕ) → Told words (quoted_name theirs ours operations n (ours_of (node_at words))) w) → Element
    unfolding name_here
    walks-quoted e told = walks-name true e (told operations)

  pub walks-constant : is_list_kind k ≡ false → (k ≡ 3 → ⊥) → (first second : ℕ) → first ≡ head_at items i → second ≡ tail_at items i
      → Told words (constant_here (record { kind = k; first = first; second = second }) (ours_of (node_at words))) w → Element
  unfolding walk is_list_kind
  walks-constant h f first second a b told d o =
      let e : k ≡ 0 → ⊥ = λ z. never (or_left (eqb k 0) (eqb k 4) (eq-eqb k 0 z)) h in
      let g : k ≡ 4 → ⊥ = λ z. never (or_right (eqb k 0) (eqb k 4) (eq-eqb k 4 z)) h in
      let l = constant-datum items i d o (λ z. e (kind ∙ z)) (λ z. g (kind ∙ z)) (λ z. f (kind ∙ z)) in
      told-as words _ _ w
      (ap₂ (λ x y. constant_here (record { kind = x; first = y; second = second }) (ours_of (node_at words))) (kind ∙ l.kind) (a ∙ l.first)
      ∙ ap (λ z. constant_here (record { kind = l.constant.kind; first = l.constant.first; second = z }) (ours_of (node_at words))) (b ∙ l.second)
      ∙ ap (λ x. walk theirs ours operations x q (scope_of scope top) words) (sym l.is)) told

  list-is : is_list_kind k ≡ true → (d : Datum) → DatumAt items i d → (ds : Data) × (list_d ds ≡ d) × DataAt items i ds
  unfolding is_list_kind
  list-is h d o =
      either (eqb k 0)
      (λ e. let z = empty-datum items i d o (sym kind ∙ eqb-true k 0 e) in (none_d, sym z, as-list items i none_d (subst (DatumAt items i) z o)))
      (λ e. let l = pair-datum items i d o (sym kind ∙ eqb-true k 4 (rw e at h)) in (l.elements, sym l.is_list, l.list))

  pub list_held : is_list_kind k ≡ true → Held items i → HeldAll items i
  list_held h o = let l = list-is h o.0 o.1 in (l.0, l.2)

  module _ (list : is_list_kind k ≡ true) (at : Place) (x : at.i ≡ i) (y : at.top ≡ top) (z : at.quoted ≡ q) (scope' : List Formal) (r : Start) (s : Started items words scope scope' at r) where
    pub start-held : Held items i → HeldAll items r.place.i
    start-held h = let l = list-is list h.0 h.1 in let g = s.0 l.0 (subst (λ j. DataAt items j l.0) (sym x) l.2) in (g.elements, g.list)

    pub walks-list : ((ds : Data) → DataAt items r.place.i ds → Told words (walk_from theirs ours operations ds 0 r.place.quoted (scope_of scope' r.place.top) (found_of words r.found)) w) → Element
    walks-list told d o =
        let l = list-is list d o in
        let g = s.0 l.0 (subst (λ j. DataAt items j l.0) (sym x) l.2) in
        told-as words _ _ w
        (sym (g.walked theirs ours operations) ∙ ap₂ (λ u v. walk theirs ours operations (list_d l.0) u (scope_of scope v) words) z y
        ∙ ap (λ u. walk theirs ours operations u q (scope_of scope top) words) l.1) (told g.elements g.list)

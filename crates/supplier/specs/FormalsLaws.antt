-- Laws of a lambda's formals: the walk through their list.
use Rattle.std.specs.Prelude.{◌≡◌, Bool, true, false, not, List, [], ◌∷◌, ◌++◌, ℕ, zero, suc, ◌+◌, ◌*◌, ◌-◌, ◌≤◌, ◌<◌, eqb, length, get_or, set, Some}
use Rattle.std.proofs.Math.Path.{refl, ap}
use Rattle.std.proofs.Common.{sym, subst, ◌∙◌, append_assoc, append-nil, arith, length-set}
use Rattle.std.proofs.Math.Option.{Option, none, some}
use Rattle.std.proofs.Math.ListN.{length-append}
use borrow.Author.Tests.{eq-eqb, ne_eqb, eqb-true, eqb-false, lt-ltb, le-ltb, le-leb, lt-leb, not-true}
use Rattle.words.specs.ListLaws.{either}
use Rattle.words.specs.Limits.{formals_most}
use Rattle.words.specs.Lists.{all_of, any_of}
use Rattle.words.specs.Options.{only_if, map_some}
use Rattle.words.specs.TestLaws.{and_left, and_right, and_both, and-none-left, and-none-right, or_left, or_right, all_append, any_append}
use Rattle.datum.specs.Datum.{Datum, constant_d, name_d, list_d, Data, none_d, more_d}
use Rattle.recipe.specs.Table.{kind_at}
use Rattle.recipe.specs.TreeFrom.{head_at, tail_at}
use Rattle.comparison.specs.Grammar.{is_free, distinct, are_formals, names, after, formals}
use Rattle.comparison.specs.Agrees.{bind}
use Rattle.supplier.specs.Items.{DatumAt, Held}
use Rattle.supplier.specs.ItemsLaws.{as-datum, pair-datum, name-datum, empty-datum, name-kind, none_is, more-is, as-list, datum-in, ListAt}
use Rattle.supplier.specs.Scope.{name_in, scope_of, innermost, Kept}
use Rattle.supplier.specs.declared.scope.Formal.{Formal}
use Rattle.supplier.specs.ScopeLaws.{found-past, none-past, formal, Own, own_name, own-scope, own-more, kept_set, kept-scope}
use Rattle.supplier.specs.Forms.{FormalsAre}

-- the names of a list, where it is one of names
unfoldable pub names_in : Datum → Option (List ℕ)
names_in (constant_d a) = none
names_in (name_d n) = none
names_in (list_d ds) = names ds

unfoldable pub bindable : List ℕ → Option (List ℕ)
bindable ns = only_if (are_formals ns) (some ns)

formals-are : (d : Datum) → formals d ≡ after (names_in d) bindable
unfolding formals names_in after bindable
formals-are (constant_d a) = refl
formals-are (name_d n) = refl
formals-are (list_d ds) = refl

-- ---- what may be bound, with one name more

all-at : (f : ℕ → Bool) (ps : List ℕ) (n : ℕ) (ns : List ℕ) → f n ≡ false → all_of f (ps ++ (n ∷ ns)) ≡ false
unfolding all_of
all-at f ps n ns h = all_append f ps (n ∷ ns) ∙ and-none-right (all_of f ps) _ (and-none-left (f n) _ h)

any_at : (f : ℕ → Bool) (ps : List ℕ) (n : ℕ) (ns : List ℕ) → f n ≡ true → any_of f (ps ++ (n ∷ ns)) ≡ true
unfolding any_of
any_at f ps n ns h = any_append f ps (n ∷ ns) ∙ or_right (any_of f ps) _ (or_left (f n) _ h)

-- a name that stands before is there twice
distinct-twice : (ps : List ℕ) (k n : ℕ) (ns : List ℕ) → k < length ps → get_or ps k 0 ≡ n → distinct (ps ++ (n ∷ ns)) ≡ false
unfolding distinct
distinct-twice [] k n ns h e = absurd (omega arith)
distinct-twice (p ∷ ps) zero n ns h e = rw (any_at (eqb p) ps n ns (eq-eqb p n e))
distinct-twice (p ∷ ps) (suc k) n ns h e = and-none-right (not (any_of (eqb p) (ps ++ (n ∷ ns)))) _ (distinct-twice ps k n ns (omega arith) e)

none_more : (p n : ℕ) (ps : List ℕ) → any_of (eqb p) ps ≡ false → (p ≡ n → ⊥) → any_of (eqb p) (ps ++ (n ∷ [])) ≡ false
unfolding any_of
none_more p n ps h f = any_append (eqb p) ps (n ∷ []) ∙ rw (h, ne_eqb p n f)

distinct_more : (ps : List ℕ) (n : ℕ) → distinct ps ≡ true → ((k : ℕ) → k < length ps → get_or ps k 0 ≡ n → ⊥) → distinct (ps ++ (n ∷ [])) ≡ true
unfolding distinct any_of
distinct_more [] n h f = refl
distinct_more (p ∷ ps) n h f =
    let a = not-true (any_of (eqb p) ps) (and_left (not (any_of (eqb p) ps)) _ h) in
    rw (none_more p n ps a (f 0 (omega arith))) (distinct_more ps n (and_right (not (any_of (eqb p) ps)) _ h) (λ k l. f (suc k) (omega arith)))

module _ (ps : List ℕ) (h : are_formals ps ≡ true) where
  free : all_of is_free ps ≡ true
  unfolding are_formals
  free = and_left (all_of is_free ps) _ h

  apart : distinct ps ≡ true
  unfolding are_formals
  apart = and_left (distinct ps) _ (and_right (all_of is_free ps) _ h)

  pub formals-more : (n : ℕ) → 3 ≤ n → ((k : ℕ) → k < length ps → get_or ps k 0 ≡ n → ⊥) → length ps < formals_most → are_formals (ps ++ (n ∷ [])) ≡ true
  unfolding are_formals is_free all_of
  formals-more n l f m =
      and_both _ _ (all_append is_free ps (n ∷ []) ∙ rw (free, lt-ltb 2 n (omega arith)))
      (and_both _ _ (distinct_more ps n apart f) (le-leb (length (ps ++ (n ∷ []))) formals_most (omega (arith, length-append ps (n ∷ [])))))

-- what may not be bound, whatever follows
module _ (ps : List ℕ) (n : ℕ) where
  pub formals-low : n < 3 → (ns : List ℕ) → are_formals (ps ++ (n ∷ ns)) ≡ false
  unfolding are_formals is_free
  formals-low l ns = and-none-left _ _ (all-at is_free ps n ns (le-ltb 2 n (omega arith)))

  pub formals-twice : (k : ℕ) → k < length ps → get_or ps k 0 ≡ n → (ns : List ℕ) → are_formals (ps ++ (n ∷ ns)) ≡ false
  unfolding are_formals
  formals-twice k l e ns = and-none-right (all_of is_free (ps ++ (n ∷ ns))) _ (and-none-left _ _ (distinct-twice ps k n ns l e))

  pub formals-many : length ps ≡ formals_most → (ns : List ℕ) → are_formals (ps ++ (n ∷ ns)) ≡ false
  unfolding are_formals
  formals-many l ns =
      and-none-right (all_of is_free (ps ++ (n ∷ ns))) _ (and-none-right (distinct (ps ++ (n ∷ ns))) _
      (lt-leb (length (ps ++ (n ∷ ns))) formals_most (omega (arith, l, length-append ps (n ∷ ns)))))

not-list : (ws : List ℕ) (j : ℕ) (e : Datum) → DatumAt ws j e → (kind_at ws j ≡ 4 → ⊥) → (kind_at ws j ≡ 0 → ⊥) → names_in e ≡ none
unfolding names_in
not-list ws j (constant_d a) h f g = refl
not-list ws j (name_d n) h f g = refl
not-list ws j (list_d none_d) h f g = absurd (g (none_is ws j none_d (as-list ws j none_d h) refl))
not-list ws j (list_d (more_d d ds)) h f g = absurd (f (more-is ws j d ds (as-list ws j (more_d d ds) h)))

-- ---- on the way: names passed, and the list from place j on

abbrev pub Passing : List ℕ → ℕ → ℕ → List ℕ → Type 0
Passing ws i j ps = (d : Datum) → DatumAt ws i d → (e : Datum) × (DatumAt ws j e × (names_in d ≡ map_some (◌++◌ ps) (names_in e)))

same_some : (o : Option (List ℕ)) → o ≡ map_some (◌++◌ []) o
unfolding map_some
same_some none = refl
same_some (some ns) = refl

pub passing-start : (ws : List ℕ) (i : ℕ) → Passing ws i i []
passing-start ws i d h = (d, (h, same_some (names_in d)))

some_more : (ps : List ℕ) (n : ℕ) (o : Option (List ℕ)) → map_some (◌++◌ ps) (map_some (◌∷◌ n) o) ≡ map_some (◌++◌ (ps ++ (n ∷ []))) o
unfolding map_some
some_more ps n none = refl
some_more ps n (some ns) = ap some (sym (append_assoc ps (n ∷ []) ns))

none-bindable : (ps : List ℕ) (n : ℕ) (o : Option (List ℕ)) → ((ns : List ℕ) → are_formals (ps ++ (n ∷ ns)) ≡ false) → after (map_some (◌++◌ ps) (map_some (◌∷◌ n) o)) bindable ≡ none
unfolding map_some after bindable only_if
none-bindable ps n none f = refl
none-bindable ps n (some ns) f = rw (f ns)

module _ (ws : List ℕ) (i j : ℕ) (ps : List ℕ) (p : Passing ws i j ps) where
  -- the next element is a name
  module _ (k : kind_at ws j ≡ 4) (at : ℕ) (a : at ≡ head_at ws j) (m : kind_at ws at ≡ 3) where
    next : (d : Datum) → DatumAt ws i d
        → (es : Data) × (DatumAt ws (tail_at ws j) (list_d es) × (names_in d ≡ map_some (◌++◌ ps) (map_some (◌∷◌ (head_at ws at)) (names es))))
    unfolding names_in names
    next d h =
        let q = p d h in
        let l = pair-datum ws j q.0 q.1.0 k in
        let r = l.pair in
        let f = name-datum ws at r.first (subst (λ x. DatumAt ws x r.first) (sym a) r.head) m in (
          r.rest,
          (
            as-datum ws (tail_at ws j) r.rest r.tail,
            q.1.1 ∙ ap (λ e. map_some (◌++◌ ps) (names_in e)) (l.is_list ∙ ap list_d (r.is ∙ ap (λ e. more_d e r.rest) f.0)),
          ),
        )

    pub passing-next : (t : ℕ) → t ≡ tail_at ws j → Passing ws i t (ps ++ (head_at ws at ∷ []))
    unfolding names_in
    passing-next t e d h =
        let q = next d h in
        (list_d q.0, (subst (λ x. DatumAt ws x (list_d q.0)) (sym e) q.1.0, q.1.1 ∙ some_more ps (head_at ws at) (names q.0)))

    pub passing-none : ((ns : List ℕ) → are_formals (ps ++ (head_at ws at ∷ ns)) ≡ false) → (d : Datum) → DatumAt ws i d → formals d ≡ none
    passing-none f d h = let q = next d h in formals-are d ∙ ap (λ o. after o bindable) q.1.1 ∙ none-bindable ps (head_at ws at) (names q.0) f

  no_names : (d : Datum) → (e : Datum) → names_in d ≡ map_some (◌++◌ ps) (names_in e) → names_in e ≡ none → formals d ≡ none
  unfolding map_some after
  no_names d e h n = formals-are d ∙ ap (λ o. after o bindable) (h ∙ ap (map_some (◌++◌ ps)) n)

  -- the next element is no name
  other-names : (e : Datum) (es : Data) (at : ℕ) → DatumAt ws at e → (kind_at ws at ≡ 3 → ⊥) → names (more_d e es) ≡ none
  unfolding names
  other-names (constant_d a) es at h f = refl
  other-names (name_d n) es at h f = absurd (f (name-kind ws at n h))
  other-names (list_d ds) es at h f = refl

  pub passing-other : (at : ℕ) → kind_at ws j ≡ 4 → at ≡ head_at ws j → (kind_at ws at ≡ 3 → ⊥) → (d : Datum) → DatumAt ws i d → formals d ≡ none
  unfolding names_in
  passing-other at k a f d h =
      let q = p d h in
      let l = pair-datum ws j q.0 q.1.0 k in
      let r = l.pair in
      no_names d q.0 q.1.1
      (ap names_in l.is_list ∙ ap names r.is ∙ other-names r.first r.rest at (subst (λ x. DatumAt ws x r.first) (sym a) r.head) f)

  -- the end
  pub passing-end : kind_at ws j ≡ 0 → are_formals ps ≡ true → (d : Datum) → DatumAt ws i d → formals d ≡ some ps
  unfolding names_in names map_some after bindable only_if
  passing-end k g d h =
      let q = p d h in
      let e : names_in d ≡ some (ps ++ []) = q.1.1 ∙ ap (λ x. map_some (◌++◌ ps) (names_in x)) (empty-datum ws j q.0 q.1.0 k) in
      formals-are d ∙ ap (λ o. after o bindable) (e ∙ ap some (append-nil ps)) ∙ rw g

  -- no list
  pub passing-not : (kind_at ws j ≡ 4 → ⊥) → (kind_at ws j ≡ 0 → ⊥) → (d : Datum) → DatumAt ws i d → formals d ≡ none
  passing-not f g d h = let q = p d h in no_names d q.0 q.1.1 (not-list ws j q.0 q.1.0 f g)

-- ---- the walk with its scope

pub record Taking (ws : List ℕ) (i : ℕ) (before : List Formal) (top v : ℕ) (scope : List Formal) (j n : ℕ) : Type 0 where
  pub held : Held ws j
  pub passed : List ℕ
  pub passing : Passing ws i j passed
  pub count : n ≡ length passed
  pub few : n ≤ formals_most
  pub good : are_formals passed ≡ true
  pub own : Own scope top v passed
  pub kept : Kept top before scope
  pub sized : length scope ≡ length before

pub taking-start : (ws : List ℕ) (i : ℕ) (scope : List Formal) (top v : ℕ) → Held ws i → Taking ws i scope top v scope i 0
unfolding are_formals all_of distinct
taking-start ws i scope top v h = record {
  held = h;
  passed = [];
  passing = passing-start ws i;
  count = refl;
  few = omega arith;
  good = refl;
  own = λ k l. absurd (omega arith);
  kept = λ k l. refl;
  sized = refl;
}

module _ (ws : List ℕ) (i : ℕ) (before : List Formal) (top v : ℕ) (scope : List Formal) (j n : ℕ) (t : Taking ws i before top v scope j n) where
  pub taking-in : 3 * j + 2 < length ws
  taking-in = datum-in ws j t.held.0 t.held.1

  module _ (k : kind_at ws j ≡ 4) where
    pub taking-pair : ListAt ws j t.held.0
    taking-pair = pair-datum ws j t.held.0 t.held.1 k

    module _ (at : ℕ) (a : at ≡ head_at ws j) where
      pub taking-head : DatumAt ws at taking-pair.pair.first
      taking-head = subst (λ x. DatumAt ws x taking-pair.pair.first) (sym a) taking-pair.pair.head

      pub taking-head-in : 3 * at + 2 < length ws
      taking-head-in = datum-in ws at taking-pair.pair.first taking-head

      module _ (m : kind_at ws at ≡ 3) (name : ℕ) (e : name ≡ head_at ws at) where
        pub taking-none : ((ns : List ℕ) → are_formals (t.passed ++ (name ∷ ns)) ≡ false) → (d : Datum) → DatumAt ws i d → formals d ≡ none
        taking-none f = passing-none ws i j t.passed t.passing k at a m (λ ns. ap (λ x. are_formals (t.passed ++ (x ∷ ns))) (sym e) ∙ f ns)

        -- it was bound by this lambda
        pub taking-twice : top < innermost name scope (top + n) → (d : Datum) → DatumAt ws i d → formals d ≡ none
        taking-twice l =
            let p = found-past name scope top (top + n) l in
            let s : top + (p.0 - top) ≡ p.0 = omega (arith, p.1.0) in
            let u : p.0 - top < length t.passed = omega (arith, p.1.0, p.1.1, t.count) in
            taking-none (formals-twice t.passed name (p.0 - top) u (sym (own_name scope top v t.passed t.own (p.0 - top) u) ∙ ap (name_in scope) s ∙ p.1.2))

        pub taking-next : 3 ≤ name → innermost name scope (top + n) ≤ top → (n ≡ 8 → ⊥) → top + 8 ≤ length before → (next : ℕ) → next ≡ tail_at ws j
            → (w : ℕ) → w ≡ v → Taking ws i before top v (set scope (top + n) (formal name (w + n))) next (n + 1)
        taking-next l b c r next x w y =
            let few : n < 8 = omega (arith, t.few, c) in
            let far : (y : ℕ) → y < length t.passed → get_or t.passed y 0 ≡ name → ⊥ = λ y h q. none-past name scope top (top + n) b (top + y) (omega arith) (omega (arith, t.count)) (own_name scope top v t.passed t.own y h ∙ q) in
            let q = taking-pair.pair in
            record {
              held = (list_d q.rest, subst (λ y. DatumAt ws y (list_d q.rest)) (sym x) (as-datum ws (tail_at ws j) q.rest q.tail));
              passed = t.passed ++ (name ∷ []);
              passing = subst (λ y. Passing ws i next (t.passed ++ (y ∷ []))) (sym e) (passing-next ws i j t.passed t.passing k at a m next x);
              count = omega (arith, t.count, length-append t.passed (name ∷ []));
              few = omega arith;
              good = formals-more t.passed t.good name l far (omega (arith, t.count));
              own = subst (λ u. Own (set scope (top + n) (formal name (u + n))) top v (t.passed ++ (name ∷ []))) (sym y) (own-more t.passed name top v n scope t.count (omega (arith, t.sized)) t.own);
              kept = kept_set top n (formal name (w + n)) before scope t.kept;
              sized = length-set scope (top + n) (formal name (w + n)) ∙ t.sized;
            }

  -- there are eight already
  pub taking-many : kind_at ws j ≡ 4 → n ≡ 8 → (d : Datum) → DatumAt ws i d → formals d ≡ none
  taking-many k e =
      either (eqb (kind_at ws (head_at ws j)) 3)
      (λ q. taking-none k (head_at ws j) refl (eqb-true _ 3 q) (head_at ws (head_at ws j)) refl (formals-many t.passed (head_at ws (head_at ws j)) (sym t.count ∙ e)))
      (λ q. passing-other ws i j t.passed t.passing (head_at ws j) k refl (eqb-false _ 3 q))

  pub taking-end : kind_at ws j ≡ 0 → (d : Datum) → DatumAt ws i d → FormalsAre d top v before scope (Some n)
  taking-end k d h = (
    t.passed,
    passing-end ws i j t.passed t.passing k t.good d h,
    t.count,
    ap (λ x. scope_of scope (top + x)) t.count ∙ own-scope t.passed top v scope t.own ∙ ap (bind t.passed v) (kept-scope top before scope t.kept),
  )

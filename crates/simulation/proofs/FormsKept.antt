-- What the forms read agrees in both runs: shapes, bound names, rules, and the rule that fits a use.
use Rattle.std.specs.Prelude.{◌≡◌, Bool, cond, ℕ, suc}
use Rattle.std.proofs.Math.Path.{refl, ap₂}
use Rattle.std.proofs.Common.{ap, subst, true≢false}
use Rattle.std.proofs.Math.Bool.{true, false, ◌&&◌}
use Rattle.std.proofs.lemmas.Bool.{false≢true}
use mathlib.Core.List.{List, [], ◌∷◌, ◌++◌, map, map-append}
use Rattle.std.proofs.Math.Dec.{leb}
use Rattle.words.specs.Limits.{formals_most}
use Rattle.words.specs.Lists.{within}
use Rattle.words.specs.Each.{also, each_left, each_right}
use Rattle.recipe.specs.Name.{Binding, macro, Name, distinct, is_ellipsis, is_wildcard, mark_name, produce_name}
use Rattle.recipe.specs.Tree.{Tree, names, strip, strip_tail, on_name, is_ordinary_name, element, mark, produce, bind, bind_all}
use Rattle.expansion.specs.Lookup.{is_syntax_rules, agree}
use Rattle.expansion.specs.Rules.{Rule, rules_of}
use Rattle.expansion.specs.Match.{fit, or_next, first_fit}
use Rattle.expansion.specs.Computation.{State, looked, quoted}
use Rattle.expansion.specs.Forms.{is_lambda, is_macro, is_macros, first_names, keywords, rules_forms, bindings, read_rules}
use Rattle.simulation.specs.Relations.{ListRel, ends, joins, OptionRel}
use Rattle.simulation.proofs.RelationsLaws.{length-rel, append-rel, map-rel, all-rel}
use Rattle.simulation.specs.Shapes.{TreeOf, empties, constants, names₂, pairs, RuleOf}
use Rattle.simulation.proofs.ShapesLaws.{names-rel, is_list-rel, elements-rel, is_list_of-rel, element-rel, on_names-rel, is_ordinary_name-rel}
use Rattle.simulation.proofs.RulesKept.{distinct-rel, rules_of-rel}
use Rattle.simulation.proofs.MatchKept.{fit-rel}
use Rattle.simulation.specs.Marks.{Kind, Marked, Produced}
use Rattle.simulation.specs.Likeness.{Likeness}
use Rattle.simulation.proofs.LikenessLaws.{TreeRel, AllFine, Looks, looks-left, looks-right}
use Rattle.simulation.specs.Terms.{DatumOf, constant_ds, name_ds, list_ds, DataOf, none_ds, more_ds}
use Rattle.simulation.specs.States.{RulesRel, no-rule, rule, StateRel}
use Rattle.simulation.proofs.StatesLaws.{RuleOption, no_one, this}
use Rattle.simulation.proofs.OutcomesLaws.{Agree, bind-agree, give-agree, show-agree, or_refuse-agree}

-- ---- shapes, over any relation that keeps `...` and `_`

module _ (R : Name → Name → Type 0) (dots-eq : (x y : Name) → R x y → is_ellipsis x ≡ is_ellipsis y) (wild-eq : (x y : Name) → R x y → is_wildcard x ≡ is_wildcard y) where
  pub is_lambda-rel : (t u : Tree) → TreeOf R t u → is_lambda t ≡ is_lambda u
  unfolding is_lambda
  is_lambda-rel t u r = let f = element-rel 1 r in
      ap₂ ◌&&◌ (is_list_of-rel 3 r) (ap₂ ◌&&◌ (is_list-rel f)
      (ap₂ ◌&&◌ (all-rel is_ordinary_name is_ordinary_name (is_ordinary_name-rel R dots-eq wild-eq) (elements-rel f)) (ap (λ k. leb k formals_most) (length-rel (elements-rel f)))))

  is_macro-rel : (t u : Tree) → TreeOf R t u → is_macro t ≡ is_macro u
  unfolding is_macro
  is_macro-rel t u r = ap₂ ◌&&◌ (is_list_of-rel 2 r) (is_ordinary_name-rel R dots-eq wild-eq _ _ (element-rel 0 r))

  pub is_macros-rel : (limit : ℕ) (t u : Tree) → TreeOf R t u → is_macros limit t ≡ is_macros limit u
  unfolding is_macros
  is_macros-rel limit t u r = let es = elements-rel (element-rel 1 r) in
      ap₂ ◌&&◌ (is_list_of-rel 3 r) (ap₂ ◌&&◌ (is_list-rel (element-rel 1 r)) (ap₂ ◌&&◌ (all-rel is_macro is_macro is_macro-rel es) (ap (within 1 limit) (length-rel es))))

module _ {R : Name → Name → Type 0} where
  first_names-rel : {ts us : List Tree} → ListRel (TreeOf R) ts us → ListRel R (first_names ts) (first_names us)
  unfolding first_names
  first_names-rel ends = ends
  first_names-rel (joins r rs) = append-rel (names-rel (element-rel 0 r)) (first_names-rel rs)

  pub keywords-rel : {t u : Tree} → TreeOf R t u → ListRel R (keywords t) (keywords u)
  unfolding keywords
  keywords-rel r = first_names-rel (elements-rel (element-rel 1 r))

  pub rules_forms-rel : {t u : Tree} → TreeOf R t u → ListRel (TreeOf R) (rules_forms t) (rules_forms u)
  unfolding rules_forms
  rules_forms-rel r = map-rel (element 1) (element 1) (λ t u q. element-rel 1 q) (elements-rel (element-rel 1 r))

module _ (L : Likeness) where
  -- ---- names of a tree, one at a time

  pub mark-tree : (Q : Kind) (m : ℕ) {t u : Tree} → TreeRel L Q t u → TreeRel L (Marked m Q) (mark m t) (mark m u)
  unfolding mark
  mark-tree Q m r = on_names-rel (mark_name m) (mark_name m) (L.mark-rel Q m) r

  pub produce-tree : (Q : Kind) {t u : Tree} → TreeRel L Q t u → TreeRel L (Produced Q) (produce t) (produce u)
  unfolding produce
  produce-tree Q r = on_names-rel produce_name produce_name (L.produce-rel Q) r

  pub bind_all-rel : (Q : Kind) → L.Coherent Q → L.Ready Q → (f : ℕ → Binding) (k : ℕ) {xs ys : List Name} → ListRel (L.Rel Q) xs ys → AllFine L (bindings f k xs)
      → {t u : Tree} → TreeRel L Q t u → TreeRel L Q (bind_all f k xs t) (bind_all f k ys u)
  unfolding bind_all bind bindings
  bind_all-rel Q co rd f k ends a r = r
  bind_all-rel Q co rd f k (joins q qs) (also p a) r = bind_all-rel Q co rd f (suc k) qs a (on_names-rel _ _ (L.bind-rel Q co rd (f k) _ _ q p) r)

  is_syntax_rules-rel : (Q : Kind) → L.Ready Q → {t u : Tree} → TreeRel L Q t u → AllFine L (on_name (λ x. looked x ∷ []) [] t) → on_name is_syntax_rules false t ≡ on_name is_syntax_rules false u
  unfolding on_name
  is_syntax_rules-rel Q rd empties f = refl
  is_syntax_rules-rel Q rd constants f = refl
  is_syntax_rules-rel Q rd (names₂ {x = x} {y = y} r) (also g f) = L.head-rel Q rd x y r g
  is_syntax_rules-rel Q rd (pairs p q) f = refl

  literals-agree : (P : Kind) → L.Ready P → (x x' y y' : Name) → L.Literal x x' → L.Rel P y y' → Looks L (x ∷ y ∷ []) → agree x y ≡ agree x' y'
  literals-agree P rp x x' y y' l r (also f (also g h)) = L.agree-rel P rp x x' y y' l r f g

  -- quoted data
  module _ (Q : Kind) (rd : L.Ready Q) where
    mutual
      unfolding names strip strip_tail

      pub strip-rel : {t u : Tree} → TreeRel L Q t u → AllFine L (map quoted (names t)) → DatumOf L.Number (strip t) (strip u)
      strip-rel empties a = list_ds none_ds
      strip-rel constants a = constant_ds
      strip-rel (names₂ {x = x} {y = y} r) (also f a) = name_ds (L.number-rel Q rd x y r f)
      strip-rel (pairs {h = a} {t = b} p r) f =
          let g : AllFine L (map quoted (names a) ++ map quoted (names b)) = subst (AllFine L) (map-append quoted (names a) (names b)) f in
          list_ds (more_ds (strip-rel p (each_left (map quoted (names a)) (map quoted (names b)) g)) (strip_tail-rel r (each_right (map quoted (names a)) (map quoted (names b)) g)))

      strip_tail-rel : {t u : Tree} → TreeRel L Q t u → AllFine L (map quoted (names t)) → DataOf L.Number (strip_tail t) (strip_tail u)
      strip_tail-rel empties a = none_ds
      strip_tail-rel constants a = none_ds
      strip_tail-rel (names₂ r) a = none_ds
      strip_tail-rel (pairs {h = a} {t = b} p r) f =
          let g : AllFine L (map quoted (names a) ++ map quoted (names b)) = subst (AllFine L) (map-append quoted (names a) (names b)) f in
          more_ds (strip-rel p (each_left (map quoted (names a)) (map quoted (names b)) g)) (strip_tail-rel r (each_right (map quoted (names a)) (map quoted (names b)) g))

  pub distinct-names : (Q : Kind) → L.Coherent Q → {xs ys : List Name} → ListRel (L.Rel Q) xs ys → distinct xs ≡ distinct ys
  distinct-names Q co r = distinct-rel (L.Rel Q) (L.same-rel Q co) r

  -- ---- rules

  -- rules forms related by A are read as rules related by B
  pub read_rules-by : (k : ℕ) (A : Tree → Tree → Type 0) (B : List Rule → List Rule → Type 0)
      → ((t u : Tree) → A t u → AllFine L (on_name (λ x. looked x ∷ []) [] (element 0 t)) → OptionRel B (rules_of t) (rules_of u))
      → {rs ss : List Tree} → ListRel A rs ss → (s t : State) → StateRel L k s t → Agree L k (ListRel B) (read_rules rs s) (read_rules ss t)
  unfolding read_rules
  read_rules-by k A B h ends s t q = give-agree L k [] [] s t ends q
  read_rules-by k A B h (joins r rs) s t q =
      show-agree L k _ _ _ _ s t λ fine.
      or_refuse-agree L k 15 (h _ _ r fine) _ _ s t q λ a b p.
      bind-agree L k {R = ListRel B} _ _ _ _ s t (read_rules-by k A B h rs s t q) λ c d u v e q'.
      give-agree L k _ _ u v (joins p e) q'

  pub read_rules-agree : (k : ℕ) (Q : Kind) → L.Coherent Q → L.Ready Q → {rs ss : List Tree} → ListRel (TreeRel L Q) rs ss → (s t : State) → StateRel L k s t
      → Agree L k (ListRel (ListRel (RuleOf (L.Rel Q) (L.Rel Q)))) (read_rules rs s) (read_rules ss t)
  read_rules-agree k Q co rd r s t q = read_rules-by k (TreeRel L Q) (ListRel (RuleOf (L.Rel Q) (L.Rel Q)))
      (λ t u r fine. rules_of-rel (L.Rel Q) (L.dots-rel Q) (L.wild-rel Q) (L.same-rel Q co) t u r (is_syntax_rules-rel Q rd (element-rel 0 r) fine)) r s t q

  -- the same rule fits in both runs
  pub first_fit-rel : (k : ℕ) (P : Kind) → L.Ready P → {rs ss : List Rule} → RulesRel L k rs ss → (t u : Tree) → TreeRel L P t u → Looks L (first_fit rs t).0 → RuleOption L k (first_fit rs t).1 (first_fit ss u).1
  unfolding first_fit or_next
  first_fit-rel k P rp no-rule t u r fine = no_one
  first_fit-rel k P rp (rule {r = a} {s = b} {rs = rs} {ss = ss} q qs) t u r fine =
      go (fit a.pattern t).1 (fit b.pattern u).1
      (fit-rel L.Literal (L.Rel P) (Looks L) (looks-left L) (looks-right L) (literals-agree P rp) q.pattern t u r) (first_fit-rel k P rp qs t u r) fine
    where
      go : (c d : Bool) → (Looks L (fit a.pattern t).0 → c ≡ d) → (Looks L (first_fit rs t).0 → RuleOption L k (first_fit rs t).1 (first_fit ss u).1)
          → Looks L (or_next a (fit a.pattern t).0 c (first_fit rs t)).0 → RuleOption L k (or_next a (fit a.pattern t).0 c (first_fit rs t)).1 (or_next b (fit b.pattern u).0 d (first_fit ss u)).1
      go true true e l f = this q
      go true false e l f = absurd (true≢false (e f))
      go false true e l f = absurd (false≢true (e (looks-left L (fit a.pattern t).0 (first_fit rs t).0 f)))
      go false false e l f = l (looks-right L (fit a.pattern t).0 (first_fit rs t).0 f)

  -- ---- the names of macros

  -- names bound in a rules form, where letrec-syntax binds them there
  pub scoped-rel : (Q : Kind) → L.Coherent Q → L.Ready Q → (inside : Bool) (k : ℕ) {xs ys : List Name} → ListRel (L.Rel Q) xs ys → AllFine L (bindings macro k xs) → (t u : Tree) → TreeRel L Q t u
      → TreeRel L Q (cond inside (bind_all macro k xs) (λ r. r) t) (cond inside (bind_all macro k ys) (λ r. r) u)
  scoped-rel Q co rd true k r a t u q = bind_all-rel Q co rd macro k r a q
  scoped-rel Q co rd false k r a t u q = q

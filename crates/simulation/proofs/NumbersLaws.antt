-- Two runs whose names have other numbers, one for one, with 0 to 7 fixed: they come to the same ground, counts, and term but for these
-- numbers (`numbers-agree`). What a name stems from, and whether it was produced, is free: expansion reads neither.
use Rattle.std.proofs.Math.Path.{◌≡◌, refl, ap, ap₂}
use Rattle.std.proofs.Common.{sym, ◌∙◌, subst, arith, eqb-true, eq-eqb, ltb-true}
use Rattle.std.specs.Prelude.{true, List, [], ℕ, suc, ◌<◌, ltb}
use Rattle.std.proofs.Math.Bool.{◌&&◌, ◌||◌}
use Rattle.std.proofs.Math.Dec.{eqb}
use Rattle.words.specs.Limits.{base_name_count}
use Rattle.words.specs.Lists.{equal}
use Rattle.words.specs.ListLaws.{either}
use Rattle.words.specs.TestLaws.{iff-eq}
use Rattle.words.specs.Each.{each_all}
use Rattle.recipe.specs.Name.{Binding, Name, binding_key, is_bound, same, is_ellipsis, is_wildcard, toggle, mark_name, produce_name, give_binding, bind_name}
use Rattle.recipe.specs.Tree.{Tree}
use Rattle.expansion.specs.Lookup.{form, form_of, place_from, unbound_meaning, or_unbound, lookup, is_syntax_rules, agree}
use Rattle.expansion.specs.Computation.{start}
use Rattle.expansion.specs.Forms.{expand_within}
use Rattle.simulation.specs.Relations.{ListRel, ends, joins}
use Rattle.simulation.proofs.RelationsLaws.{cond-rel}
use Rattle.simulation.specs.Shapes.{TreeOf}
use Rattle.simulation.specs.Marks.{Kind}
use Rattle.simulation.specs.Terms.{TermOf}
use Rattle.simulation.specs.Likeness.{Likeness}
use Rattle.simulation.specs.States.{StateRel, no-macro}
use Rattle.simulation.proofs.OutcomesLaws.{OutRel}
use Rattle.simulation.proofs.Agree.{expand-agree}
use Rattle.simulation.specs.Numbers.{Correspondence, Renumbered}

module _ (P : ℕ → ℕ → Type 0) (c : Correspondence P) where
  -- ---- what is asked of names

  base-eq : (n : ℕ) → n < base_name_count → (a b : ℕ) → P a b → eqb a n ≡ eqb b n
  base-eq n h a b p = c.one a b n n p (c.base n h)

  pub number-dots : (x y : Name) → Renumbered P x y → is_ellipsis x ≡ is_ellipsis y
  unfolding is_ellipsis
  number-dots x y r = base-eq 6 (omega arith) _ _ r.number

  pub number-wild : (x y : Name) → Renumbered P x y → is_wildcard x ≡ is_wildcard y
  unfolding is_wildcard
  number-wild x y r = base-eq 7 (omega arith) _ _ r.number

  pub number_same : (i j x y : Name) → Renumbered P i j → Renumbered P x y → same i x ≡ same j y
  unfolding same
  number_same i j x y p q =
      ap₂ ◌&&◌ (c.one _ _ _ _ p.number q.number)
      (ap₂ ◌&&◌ (ap₂ equal p.marks q.marks) (ap₂ (λ a b. eqb (binding_key a) (binding_key b)) p.binding q.binding))

  pub number-head : (x y : Name) → Renumbered P x y → is_syntax_rules x ≡ is_syntax_rules y
  unfolding is_syntax_rules
  number-head x y r = ap₂ ◌&&◌ (ap (λ b. eqb (binding_key b) 0) r.binding) (base-eq 5 (omega arith) _ _ r.number)

  pub number-agree : (x x' y y' : Name) → Renumbered P x x' → Renumbered P y y' → agree x y ≡ agree x' y'
  unfolding agree
  number-agree x x' y y' p q =
      ap₂ ◌&&◌ (ap₂ (λ a b. eqb (binding_key a) (binding_key b)) p.binding q.binding)
      (ap₂ ◌||◌ (ap is_bound p.binding) (c.one _ _ _ _ p.number q.number))

  -- ---- what is done to them

  pub number-mark : (m : ℕ) (x y : Name) → Renumbered P x y → Renumbered P (mark_name m x) (mark_name m y)
  unfolding mark_name
  number-mark m x y r = record { number = r.number; marks = ap (toggle m) r.marks; binding = r.binding }

  pub number-produce : (x y : Name) → Renumbered P x y → Renumbered P (produce_name x) (produce_name y)
  unfolding produce_name
  number-produce x y r = record { number = r.number; marks = r.marks; binding = r.binding }

  pub number-bind : (b : Binding) (i j : Name) → Renumbered P i j → (x y : Name) → Renumbered P x y → Renumbered P (bind_name i b x) (bind_name j b y)
  unfolding bind_name give_binding
  number-bind b i j p x y q =
      cond-rel (Renumbered P) (same i x) (same j y) _ _ _ _ (number_same i j x y p q) (record { number = q.number; marks = q.marks; binding = refl }) q

  -- ---- these names are alike, and nothing is asked of what is shown

  abbrev pub numbers : Likeness
  numbers = record {
    Rel = λ Q. Renumbered P;
    Literal = Renumbered P;
    Number = P;
    Formal = λ x y. P x.number y.number;
    Coherent = λ Q. Unit {0};
    Ready = λ Q. Unit {0};
    Fine = λ e. Unit {0};
    map-rel = λ Q R h x y r. r;
    dots-rel = λ Q. number-dots;
    wild-rel = λ Q. number-wild;
    same-rel = λ Q co. number_same;
    head-rel = λ Q rd x y r f. number-head x y r;
    agree-rel = λ R rp x x' y y' l r f g. number-agree x x' y y' l r;
    literal-rel = λ Q rd x y r. r;
    number-rel = λ Q rd x y r f. r.number;
    formal-rel = λ Q rd x y r. r.number;
    mark-rel = λ Q. number-mark;
    produce-rel = λ Q. number-produce;
    bind-rel = λ Q co rd b i j p f x y q. number-bind b i j p x y q;
    marked-ready = λ m Q rd. tt;
    result-ready = λ m Q R. tt;
    result-coherent = λ m Q R bq br cq cr. tt;
  }

  -- ---- lookups, where the operations correspond

  base_same : (a b : ℕ) → P a b → a < base_name_count → a ≡ b
  base_same a b p h = sym (eqb-true b a (sym (base-eq a h a b p) ∙ eq-eqb a a refl))

  base_back : (a b : ℕ) → P a b → b < base_name_count → a ≡ b
  base_back a b p h = eqb-true a b (base-eq b h a b p ∙ eq-eqb b b refl)

  base-tests : (a b : ℕ) → P a b → ltb a base_name_count ≡ ltb b base_name_count
  base-tests a b p = iff-eq (ltb a base_name_count) (ltb b base_name_count)
      (λ e. let h = ltb-true a base_name_count e in subst (λ z. ltb z base_name_count ≡ true) (base_same a b p h) e)
      (λ e. let h = ltb-true b base_name_count e in subst (λ z. ltb z base_name_count ≡ true) (sym (base_back a b p h)) e)

  place-eq : {xs ys : List ℕ} → ListRel P xs ys → (k a b : ℕ) → P a b → place_from k a xs ≡ place_from k b ys
  unfolding place_from
  place-eq ends k a b p = refl
  place-eq (joins {x = x} {y = y} q qs) k a b p = cond-rel ◌≡◌ (eqb x a) (eqb y b) _ _ _ _ (c.one x y a b q p) refl (place-eq qs (suc k) a b p)

  meaning-eq : {xs ys : List ℕ} → ListRel P xs ys → (a b : ℕ) → P a b → unbound_meaning xs a ≡ unbound_meaning ys b
  unfolding unbound_meaning
  meaning-eq {xs} {ys} l a b p =
      either (ltb a base_name_count)
      (λ e. rw (sym (base-tests a b p) ∙ e, e) (ap (λ n. form (form_of n)) (base_same a b p (ltb-true a base_name_count e))))
      (λ e. rw (sym (base-tests a b p) ∙ e, e) (place-eq l 0 a b p))

  lookup-eq : {xs ys : List ℕ} → ListRel P xs ys → (x y : Name) → Renumbered P x y → lookup xs x ≡ lookup ys y
  unfolding lookup
  lookup-eq l x y r = ap₂ or_unbound r.binding (meaning-eq l _ _ r.number)

  -- ---- the two expansions

  nothing : Kind
  nothing k i b ms = ⊥

  calm : StateRel numbers 0 start start
  unfolding start
  calm = record { enough = omega arith; steps = refl; sum = refl; variables = refl; macros = no-macro }

  pub numbers-agree : (operations operations' : List ℕ) → ListRel P operations operations' → (limit inner fuel gas : ℕ) (t u : Tree) → TreeOf (Renumbered P) t u
      → OutRel numbers 0 (TermOf P (λ x y. P x.number y.number)) (expand_within limit inner operations fuel gas t start) (expand_within limit inner operations' fuel gas u start)
  unfolding nothing
  numbers-agree operations operations' l limit inner fuel gas t u r =
      expand-agree numbers operations operations' (λ Q rd x y p f. lookup-eq l x y p) limit inner fuel gas 0 nothing tt tt (λ k i b ms e. absurd e) t u r start start calm
      (each_all _ (λ e. tt))

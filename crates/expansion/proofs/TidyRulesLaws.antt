-- Tidy rules: what is read from tidy trees is tidy, and so is what matching and transcribing make of tidy trees and rules.
use Rattle.std.specs.Prelude.{◌≡◌, Bool, not, cond}
use Rattle.std.proofs.Math.Path.{refl}
use Rattle.std.proofs.Common.{sym, ◌∙◌}
use Rattle.std.proofs.Math.Bool.{true, false}
use Rattle.std.proofs.lemmas.Bool.{false≢true}
use mathlib.Core.List.{List, [], ◌∷◌}
use Rattle.std.proofs.Math.Option.{Option, none, some}
use Prim.Native.Nat.{ℕ, zero, suc}
use Rattle.words.specs.Each.{none_of, also, each_weaken, Given, missing, given, given-any, given-weaken, given-cond, given-guard, given-map_both, given-traverse}
use Rattle.words.specs.ListLaws.{either}
use Rattle.datum.specs.Constant.{Constant}
use Rattle.recipe.specs.Name.{Name}
use Rattle.recipe.specs.Tree.{Tree, name, on_empty, on_name, on_pair, is_name, is_list, element, past}
use Rattle.recipe.specs.Tidy.{Tidy, tidy_empty, tidy_constant, tidy_name, tidy_pair, tidy-elements, tidy-element, tidy-tail}
use Rattle.expansion.specs.Rules.{Pattern, variable_p, literal_p, wildcard_p, constant_p, empty_p, pair_p, ellipsis_p, Template, pair_t, ellipsis_t, Rule, name_template, variable_from, list_template, Place, as_element, as_rest, as_taken, as_escaped, no_ellipsis, dots_next, depth_before, place_after, template_of, after_chosen, rule_list, template_place, rule_of, rules_of}
use Rattle.expansion.specs.Match.{fit, or_next, first_fit, holds, part}
use Rattle.expansion.specs.Transcribe.{copies, taken, copy_count, transcribe}
use Rattle.expansion.specs.TidyRules.{TidyRules, TidyTemplate, is_rest, template_constant, template_ellipsis, template_empty, template_insert, template_pair, template_variable}

-- ---- templates: N holds of every inserted name, C of every constant, and the rest of a list is one

pub template-weaken : {N M : Name → Type 0} {C : Constant → Type 0} {t : Template} → ((x : Name) → N x → M x) → TidyTemplate N C t → TidyTemplate M C t
template-weaken i template_variable = template_variable
template-weaken i (template_insert f) = template_insert (i _ f)
template-weaken i (template_constant c) = template_constant c
template-weaken i template_empty = template_empty
template-weaken i (template_pair a b l) = template_pair (template-weaken i a) (template-weaken i b) l
template-weaken i (template_ellipsis e r l) = template_ellipsis (template-weaken i e) (template-weaken i r) l

-- the rest of a list, whichever it begins with
unfoldable at_rest : Place → Bool
at_rest as_element = false
at_rest as_rest = true
at_rest as_taken = true
at_rest as_escaped = false

-- a template read from t, which is a rest where t is the rest of a list
record TidyRead (N : Name → Type 0) (C : Constant → Type 0) (place : Place) (t : Tree) (r : Template) : Type 0 where
  tidy : TidyTemplate N C r
  rest : at_rest place ≡ true → is_list t ≡ true → is_rest r ≡ true

after-rest : (dots : Name → Bool) (t : Tree) → at_rest (place_after dots t) ≡ true
unfolding place_after at_rest
after-rest dots t = either (dots_next dots t) (λ e. rw e refl) (λ e. rw e refl)

module _ {N : Name → Type 0} {C : Constant → Type 0} where
  name-read : (d : ℕ) (place : Place) (x : Name) (o : Option (ℕ × ℕ)) → N x → Given (TidyRead N C place (name x)) (name_template d x o)
  unfolding name_template is_list on_empty on_pair
  name-read d place x none f = given (record { tidy = template_insert f; rest = λ p e. absurd (false≢true e) })
  name-read d place x (some v) f = given-guard _ (given (record { tidy = template_variable; rest = λ p e. absurd (false≢true e) }))

  -- an element and the rest of its list
  list_read : {p q r : Place} {h t u : Tree} (dots : Bool) → at_rest q ≡ true → is_list t ≡ true → {first later : Option Template} → Given (TidyRead N C p h) first → Given (TidyRead N C q t) later
      → Given (TidyRead N C r u) (list_template dots first later)
  unfolding list_template is_rest
  list_read dots a l first later =
      given-cond dots
      (given-guard _ (given-map_both ellipsis_t (λ x y f g. record { tidy = template_ellipsis f.tidy g.tidy (g.rest a l); rest = λ b e. refl }) first later))
      (given-map_both pair_t (λ x y f g. record { tidy = template_pair f.tidy g.tidy (g.rest a l); rest = λ b e. refl }) first later)

  -- elsewhere than at the rest of a list
  elsewhere : {p q : Place} {t u : Tree} {o : Option Template} → at_rest q ≡ false → Given (TidyRead N C p t) o → Given (TidyRead N C q u) o
  elsewhere a g = given-weaken (λ r f. record { tidy = f.tidy; rest = λ b e. absurd (false≢true (sym a ∙ b)) }) g

  template-read : (dots : Name → Bool) (vs : List (Name × ℕ)) (d : ℕ) (place : Place) {tree : Tree} → Tidy N C tree → Given (TidyRead N C place tree) (template_of dots vs d place tree)
  unfolding template_of is_list on_empty on_pair is_rest at_rest
  template-read dots vs d place tidy_empty = given (record { tidy = template_empty; rest = λ p e. refl })
  template-read dots vs d place (tidy_constant c) = given (record { tidy = template_constant c; rest = λ p e. absurd (false≢true e) })
  template-read dots vs d place (tidy_name {x} f) = given-guard (not (dots x)) (name-read d place x (variable_from 0 vs x) f)
  template-read dots vs d as_element (tidy_pair {h = h} {t = ps} p q l) =
      given-cond (on_name dots false h)
      (given-guard _ (elsewhere refl (template-read no_ellipsis vs d as_escaped q)))
      (list_read (dots_next dots ps) (after-rest dots ps) l (template-read dots vs (depth_before dots ps d) as_element p) (template-read dots vs d (place_after dots ps) q))
  template-read dots vs d as_rest (tidy_pair {t = ps} p q l) =
      list_read (dots_next dots ps) (after-rest dots ps) l (template-read dots vs (depth_before dots ps d) as_element p) (template-read dots vs d (place_after dots ps) q)
  template-read dots vs d as_taken (tidy_pair p q l) = given-weaken (λ r f. record { tidy = f.tidy; rest = λ b e. f.rest refl l }) (template-read dots vs d as_rest q)
  template-read dots vs d as_escaped (tidy_pair p q l) = elsewhere refl (template-read dots vs d as_element p)

  tidy-either : (b : Bool) {x y : Tree} → Tidy N C x → Tidy N C y → Tidy N C (cond b x y)
  tidy-either true f g = f
  tidy-either false f g = g

  pub tidy-rules : {r : Tree} → Tidy N C r → Tidy N C (rule_list r)
  unfolding after_chosen
  tidy-rules {r} t = tidy-tail (tidy-either (is_name (element 1 r)) (tidy-tail (tidy-tail t)) (tidy-tail t))

  rule-read : (dots : Name → Bool) (literals : List Name) {r : Tree} → Tidy N C r → Given (λ (rule : Rule). TidyTemplate N C rule.template) (rule_of dots literals r)
  unfolding rule_of
  rule-read dots literals r = given-guard _ (given-map_both _ (λ p t _ f. f.tidy) (given-any _) (template-read dots _ 0 as_element (tidy-element template_place r)))

  pub rules_of-tidy : {r : Tree} → Tidy N C r → Given (TidyRules N C) (rules_of r)
  unfolding rules_of
  rules_of-tidy r = given-guard _ (given-traverse (each_weaken (λ t f. rule-read _ _ f) (tidy-elements (tidy-rules r))))

-- ---- matching and transcribing

module _ {N : Name → Type 0} {C : Constant → Type 0} where
  or_next-tidy : (r : Rule) (l : List Name) (b : Bool) (later : List Name × Option Rule) → TidyTemplate N C r.template → Given (λ (q : Rule). TidyTemplate N C q.template) later.1
      → Given (λ (q : Rule). TidyTemplate N C q.template) (or_next r l b later).1
  unfolding or_next
  or_next-tidy r l true later f g = given f
  or_next-tidy r l false later f g = g

  pub first_fit-tidy : {rules : List Rule} (used : Tree) → TidyRules N C rules → Given (λ (r : Rule). TidyTemplate N C r.template) (first_fit rules used).1
  unfolding first_fit
  first_fit-tidy used none_of = missing
  first_fit-tidy used (also {x = r} {xs = rs} f fs) = or_next-tidy r (fit r.pattern used).0 (fit r.pattern used).1 (first_fit rs used) f (first_fit-tidy used fs)

  tidy-past : (n : ℕ) {t : Tree} → Tidy N C t → Tidy N C (past n t)
  unfolding past
  tidy-past zero f = f
  tidy-past (suc n) f = tidy-past n (tidy-tail f)

  part-tidy : (p : Pattern) (k : ℕ) (is : List ℕ) {t : Tree} → Tidy N C t → Tidy N C (part p k is t)
  unfolding part
  part-tidy (variable_p j) k is f = f
  part-tidy (literal_p x) k is f = tidy_empty
  part-tidy wildcard_p k is f = tidy_empty
  part-tidy (constant_p a) k is f = tidy_empty
  part-tidy empty_p k is f = tidy_empty
  part-tidy (pair_p p q) k is f = tidy-either (holds k p) (part-tidy p k is (tidy-element 0 f)) (part-tidy q k is (tidy-tail f))
  part-tidy (ellipsis_p p n q) k [] f = tidy-either (holds k p) f (part-tidy q k [] (tidy-past _ f))
  part-tidy (ellipsis_p p n q) k (i ∷ is) f = tidy-either (holds k p) (part-tidy p k is (tidy-element i f)) (part-tidy q k (i ∷ is) (tidy-past _ f))

-- a tidy rest of a list
record TidyRest (N : Name → Type 0) (C : Constant → Type 0) (t : Tree) : Type 0 where
  tidy : Tidy N C t
  list : is_list t ≡ true

module _ {N : Name → Type 0} {C : Constant → Type 0} where
  copies-tidy : (f : ℕ → Tree) (k n : ℕ) {rest : Tree} → ((i : ℕ) → Tidy N C (f i)) → TidyRest N C rest → TidyRest N C (copies f k n rest)
  unfolding copies is_list on_empty on_pair
  copies-tidy f k zero each r = r
  copies-tidy f k (suc n) each r = let later = copies-tidy f (suc k) n each r in record { tidy = tidy_pair (each k) later.tidy later.list; list = refl }

  module _ (p : Pattern) {used : Tree} (u : Tidy N C used) where
    pub transcribe-tidy : (is : List ℕ) {t : Template} → TidyTemplate N C t → Tidy N C (transcribe p used is t) × (is_rest t ≡ true → is_list (transcribe p used is t) ≡ true)
    unfolding transcribe taken is_rest is_list on_empty on_pair
    transcribe-tidy is template_variable = (part-tidy p _ _ u, λ e. absurd (false≢true e))
    transcribe-tidy is (template_insert f) = (tidy_name f, λ e. absurd (false≢true e))
    transcribe-tidy is (template_constant c) = (tidy_constant c, λ e. absurd (false≢true e))
    transcribe-tidy is template_empty = (tidy_empty, λ e. refl)
    transcribe-tidy is (template_pair a b l) = let later = transcribe-tidy is b in (tidy_pair (transcribe-tidy is a).0 later.0 (later.1 l), λ e. refl)
    transcribe-tidy is (template_ellipsis {e} a b l) =
        let later = transcribe-tidy is b in
        let r = copies-tidy (λ i. transcribe p used (i ∷ is) e) 0 (copy_count p used is e) (λ i. (transcribe-tidy (i ∷ is) a).0) (record { tidy = later.0; list = later.1 l }) in
        (r.tidy, λ e. r.list)

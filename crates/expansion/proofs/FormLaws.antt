-- Laws of forms: a rule stands at its place; reading rules changes no state and gives rules for each form; every macro of a form has one name.
use Rattle.std.specs.Prelude.{◌≡◌, refl, true, List, [], ◌∷◌, ◌++◌, map, ℕ, suc, ◌+◌, length}
use Rattle.std.proofs.Common.{ap, sym, ◌∙◌, arith, length-append}
use Rattle.std.proofs.lemmas.List.{length-map}
use Rattle.words.specs.Lists.{all_of}
use Rattle.words.specs.TestLaws.{and_parts, all-parts}
use Rattle.words.specs.Each.{Each, none_of, also, each_append, Given, given-at}
use Rattle.words.specs.ListLaws.{either}
use Rattle.recipe.specs.Tree.{Tree, empty, constant, name, pair, names, on_name, is_name, is_list, is_list_of, is_ordinary_name, elements, element, tail}
use Rattle.recipe.specs.TreeLaws.{element-tail}
use Rattle.recipe.specs.Tidy.{ordinary-names}
use Rattle.expansion.specs.Rules.{Rule, chosen_count, after_chosen, rule_list, rule_place, rules_of}
use Rattle.expansion.specs.Computation.{State, looked, Events}
use Rattle.expansion.specs.Forms.{is_macro, is_macros, first_names, keywords, rules_forms, read_rules}
use Rattle.expansion.specs.Outcomes.{Holds}
use Rattle.expansion.proofs.OutcomesLaws.{give_holds, show-holds, then-holds, or_refuse-holds}
use Rattle.expansion.specs.FormLaws.{RulesAdded, RulesRead, Unbinding, looking}

-- rule j of a rules form, by its place in the form
pub rule-placed : (j : ℕ) (r : Tree) → element j (rule_list r) ≡ element (rule_place r j) r
unfolding after_chosen chosen_count
rule-placed j r =
    let after : element j (tail (tail r)) ≡ element (suc (suc j)) r = element-tail j (tail r) ∙ element-tail (suc j) r in
    either (is_name (element 1 r))
    (λ c. rw c (element-tail j (tail (tail r)) ∙ element-tail (suc j) (tail r) ∙ element-tail (suc (suc j)) r ∙ ap (λ (n : ℕ). element n r) (let e : suc (suc (suc j)) ≡ suc (suc (1 + j)) = omega arith in e)))
    (λ c. rw c (after ∙ ap (λ (n : ℕ). element n r) (let e : suc (suc j) ≡ suc (suc (0 + j)) = omega arith in e)))

head-looks : (t : Tree) → Each Unbinding (on_name (λ x. looked x ∷ []) [] t)
unfolding on_name
head-looks empty = none_of
head-looks (constant a) = none_of
head-looks (name x) = also looking none_of
head-looks (pair h t) = none_of

pub rules-added : {P : List Rule → Type 0} {s : State} {rules : List (List Rule)} {t : State} {l : Events} (f : Tree → Tree) (rs : List Tree) → RulesRead P (map f rs) s rules t l → RulesAdded (length rs) s rules t
rules-added {rules = rules} {t = t} f rs read = record {
  steps = ap (λ (z : State). z.steps) read.unchanged;
  sum = ap (λ (z : State). z.sum) read.unchanged;
  variables = ap (λ (z : State). z.variables) read.unchanged;
  macros = length-append t.macros rules ∙ omega (arith, ap (λ (z : State). length z.macros) read.unchanged, read.count, length-map rs f);
}

rules-read : {S : Type 0} (P : List Rule → Type 0) {R : ℕ → State → Events → Type 0} {rs : List Tree} → Each (λ r. Given P (rules_of r)) rs
    → (s : State) → ((l : Events) → Each Unbinding l → R 15 s l) → Holds S R (RulesRead P rs s) (read_rules rs s)
unfolding read_rules
rules-read P none_of s r = give_holds [] s (record { unchanged = refl; count = refl; each = none_of; shown = none_of })
rules-read {S} P {R} (also {x} g gs) s r =
    let h = head-looks (element 0 x) in
    show-holds _ _ s
    (or_refuse-holds _ _ _ s (r _ (each_append h none_of)) λ a e.
    then-holds _ _ _ s (rules-read P {R = λ g u l. R g u (on_name {A = Events} (λ y. looked y ∷ []) [] (element 0 x) ++ l)} gs s (λ l k. r _ (each_append h k))) λ b t l q.
    give_holds _ t (record { unchanged = q.unchanged; count = ap suc q.count; each = also (given-at g e) q.each; shown = each_append h (each_append q.shown none_of) }))

pub read_rules-holds : {S : Type 0} {R : ℕ → State → Events → Type 0} (P : List Rule → Type 0) {rs : List Tree} → Each (λ r. Given P (rules_of r)) rs
    → (s : State) → ((l : Events) → Each Unbinding l → R 15 s l) → Holds S R (RulesRead P rs s) (read_rules rs s)
read_rules-holds P g s r = rules-read P g s r

pub first_names-length : (cs : List Tree) → all_of is_macro cs ≡ true → length (first_names cs) ≡ length cs
unfolding first_names is_macro
first_names-length [] e = refl
first_names-length (c ∷ cs) e =
    let g = all-parts is_macro c cs e in
    let n = ordinary-names (element 0 c) (and_parts (is_list_of 2 c) (is_ordinary_name (element 0 c)) g.0).1 in
    length-append (names (element 0 c)) (first_names cs) ∙ omega (arith, n, first_names-length cs g.1)

-- a form's macros are as many as its rules forms
pub keywords-count : (limit : ℕ) (t : Tree) → is_macros limit t ≡ true → length (keywords t) ≡ length (rules_forms t)
unfolding is_macros keywords rules_forms
keywords-count limit t e =
    let a = and_parts (is_list_of 3 t) _ e in
    let b = and_parts (is_list (element 1 t)) _ a.1 in
    let d = and_parts (all_of is_macro (elements (element 1 t))) _ b.1 in
    first_names-length (elements (element 1 t)) d.0 ∙ sym (length-map (elements (element 1 t)) (element 1))

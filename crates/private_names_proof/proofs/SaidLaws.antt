-- Demand 3 as it is said, phrase by phrase, from the test that computes: each condition gives its part of the test, and no part asks for
-- more.
use Rattle.std.specs.Prelude.{◌≡◌, Bool, true, false, ◌&&◌, ◌||◌, ℕ, ◌≤◌, ◌<◌, ltb}
use Rattle.std.proofs.Math.Path.{refl, ap, subst}
use Rattle.std.proofs.Common.{sym, ◌∙◌}
use Rattle.std.proofs.Math.Bool.{not}
use mathlib.Core.List.{List, [], ◌∷◌, Memᴰ}
use Rattle.std.proofs.Math.Option.{Option, some}
use Rattle.std.proofs.Math.Dec.{eqb}
use borrow.Author.Tests.{eq-eqb, ne_eqb, eqb-true, lt-ltb, le-ltb}
use Rattle.words.specs.Lists.{all_of, any_of}
use Rattle.words.specs.TestLaws.{and_parts, and_both, or-none}
use Rattle.recipe.specs.Name.{Binding, Name, binding_key}
use Rattle.recipe.specs.Tree.{Tree, empty, constant, name, pair, names, on_name, element}
use Rattle.recipe.specs.Table.{Item, items, tree_of}
use Rattle.recipe.proofs.TableNamesLaws.{tree_of-uses}
use Rattle.expansion.specs.Rules.{has_variable}
use Rattle.expansion.specs.Forms.{rules_form_of}
use Rattle.expansion.specs.Computation.{Event, looked, quoted, reached, binds, Events}
use Rattle.expansion.specs.Run.{run}
use Rattle.expansion.proofs.RunLaws.{shows-begun}
use Rattle.private_names.specs.Statement as S
use Rattle.private_names.specs.Statement.{Choice, parts, has_head, form_at, rules_at, rule_at, template_at, is_variable_at, is_item_of, is_old_item, is_new, renumber, renamed, is_reached_at, is_copy, binds_copy, is_owned_by_copy, quotes_no_copy, finds_own, hypotheses, Answer, answer_of, answer_with, PrivateNames}
use Rattle.private_names.specs.Demand3.{variables_in, template_in, Copy, OwnCopy, Whenever, second, Alike, Demand3}
use Rattle.private_names_proof.proofs.Members.{all_from, any-from, any-member, false-from, if-from}
use Rattle.private_names_proof.proofs.PathsLaws.{part-first}
use Rattle.private_names_proof.proofs.Claim.{private-names}
use Rattle.private_names_proof.specs.Said.{Tested, tested}

-- ---- the first run's events

module _ (template : Tree) (old : ℕ) where
  abbrev copies : ℕ → Bool
  copies = is_item_of template old

  copy-from : (x : Name) → Copy template old x → is_copy copies x ≡ true
  unfolding is_copy
  copy-from x c =
      let y = c.source in
      and_both x.produced (copies x.item) c.produced
      (any-from (λ z. eqb z.number old && eqb z.item x.item) (names template) y c.inside
      (and_both (eqb y.number old) (eqb y.item x.item) (eq-eqb _ _ c.number) (eq-eqb _ _ c.item)))

  copy_is : (x : Name) → is_copy copies x ≡ true → Copy template old x
  unfolding is_copy
  copy_is x e =
      let p = and_parts x.produced (copies x.item) e in
      let m = any-member (λ z. eqb z.number old && eqb z.item x.item) (names template) p.1 in
      let q = and_parts (eqb m.0.number old) (eqb m.0.item x.item) m.2 in
      record { produced = p.0; source = m.0; inside = m.1; number = eqb-true _ _ q.0; item = eqb-true _ _ q.1 }

  module _ (shown : Events) where
    owned-from : (o : Option Binding) → OwnCopy template old shown o → is_owned_by_copy copies shown o ≡ true
    unfolding is_owned_by_copy binds_copy
    owned-from o h =
        let k = binding_key (some h.binding) in
        subst (λ z. is_owned_by_copy copies shown z ≡ true) (sym h.is)
        (any-from (binds_copy copies h.binding) shown (binds h.binding h.own) h.bound (and_both (eqb k k) (is_copy copies h.own) (eq-eqb k k refl) (copy-from h.own h.copy)))

    -- an event that is no quotation passes
    quotes-from : ((x : Name) → Memᴰ (quoted x) shown → Copy template old x → ⊥) → (e : Event) → Memᴰ e shown → quotes_no_copy copies e ≡ true
    unfolding quotes_no_copy
    quotes-from h (looked x) m = refl
    quotes-from h (quoted x) m = ap not (false-from (is_copy copies x) (λ e. h x m (copy_is x e)))
    quotes-from h (reached x) m = refl
    quotes-from h (binds b x) m = refl

    -- an event that is no lookup passes
    finds-from : ((x : Name) → Memᴰ (looked x) shown → Copy template old x → OwnCopy template old shown x.binding) → (e : Event) → Memᴰ e shown → finds_own copies shown e ≡ true
    unfolding finds_own
    finds-from h (looked x) m = if-from (is_copy copies x) _ (λ e. owned-from x.binding (h x m (copy_is x e)))
    finds-from h (quoted x) m = refl
    finds-from h (reached x) m = refl
    finds-from h (binds b x) m = refl

-- ---- the old name and the new

number-from : (t : Tree) (n : ℕ) → ((x : Name) → t ≡ name x → x.number ≡ n → ⊥) → on_name (λ x. eqb x.number n) false t ≡ false
unfolding on_name
number-from empty n h = refl
number-from (constant a) n h = refl
number-from (name x) n h = ne_eqb x.number n (h x refl)
number-from (pair h t) n k = refl

variable-from : (form : Tree) (macro rule n : ℕ) → ((v : Name × ℕ) → Memᴰ v (variables_in form macro rule) → v.0.number ≡ n → ⊥)
    → ((dots : Name) → element 1 (rules_form_of macro form) ≡ name dots → dots.number ≡ n → ⊥) → has_variable rule n (rules_form_of macro form) ≡ false
unfolding has_variable
variable-from form macro rule n vs dots =
    let f : Name × ℕ → Bool = λ v. eqb v.0.number n in
    or-none _ (any_of f (variables_in form macro rule)) (number-from (element 1 (rules_form_of macro form)) n dots)
    (false-from _ (λ e. let m = any-member f (variables_in form macro rule) e in vs m.0 m.1 (eqb-true m.0.0.number n m.2)))

private-from : (t : Tree) (c : Choice) (x : Name) → Memᴰ x (names (template_at t c)) → x.number ≡ c.old
    → (c.old ≡ 6 → ⊥) → (c.old ≡ 7 → ⊥) → is_variable_at t c c.old ≡ false → S.is_private t c ≡ true
unfolding S.is_private
private-from t c x m e six seven free =
    let old = c.old in
    and_both (any_of (λ y. eqb y.number old) (names (template_at t c))) (not (eqb old 6) && (not (eqb old 7) && not (is_variable_at t c old)))
    (any-from (λ y. eqb y.number old) (names (template_at t c)) x m (eq-eqb x.number old e))
    (and_both (not (eqb old 6)) (not (eqb old 7) && not (is_variable_at t c old)) (ap not (ne_eqb old 6 six)) (and_both (not (eqb old 7)) (not (is_variable_at t c old)) (ap not (ne_eqb old 7 seven)) (ap not free)))

new-from : (ws : List ℕ) (n : ℕ) → 8 ≤ n → n < 1024 → ((x : Item) → Memᴰ x (items 0 ws) → x.kind ≡ 3 → x.first ≡ n → ⊥) → is_new ws n ≡ true
unfolding is_new
new-from ws n low high unused =
    let f : Item → Bool = λ x. not (eqb x.kind 3 && eqb x.first n) in
    and_both (not (ltb n 8)) (ltb n 1024 && all_of f (items 0 ws)) (ap not (le-ltb n 8 low))
    (and_both (ltb n 1024) (all_of f (items 0 ws)) (lt-ltb n 1024 high)
    (all_from f (items 0 ws)
    (λ x m. ap not (false-from (eqb x.kind 3 && eqb x.first n)
    (λ e. let p = and_parts (eqb x.kind 3) (eqb x.first n) e in unused x m (eqb-true x.kind 3 p.0) (eqb-true x.first n p.1))))))

-- ---- the form

-- the form that the test takes by its head's item
form-from : (ws : List ℕ) (fuel work core : ℕ) (c : Choice) (form : Tree) (head : Name) → Memᴰ form (parts (tree_of ws)) → element 0 form ≡ name head → head.item ≡ c.form
    → any_of (is_reached_at c.form) (run ws fuel work core).events ≡ true → form_at (tree_of ws) c ≡ form
unfolding form_at has_head on_name
form-from ws fuel work core c form head m e i reaches =
    part-first c.form (tree_of ws) form m
    (ap (on_name (λ x. eqb x.item c.form) false) e ∙ eq-eqb head.item c.form i)
    (tree_of-uses c.form ws (shows-begun ws fuel work core (is_reached_at c.form) reaches).layout)

-- ---- the test

test-from : Whenever Tested
unfolding Whenever hypotheses all_of is_reached_at is_old_item is_variable_at template_at rule_at rules_at
test-from ws fuel work core form head macro rule fm fh at am ai free old om six seven vs dots new low high unused quotes finds =
    let l = (run ws fuel work core).events in
    let t = tree_of ws in
    let n = old.number in
    let c : Choice = record { form = head.item; macro = macro; rule = rule; old = n; new = new } in
    let reaches : any_of (is_reached_at head.item) l ≡ true =
    any-from (is_reached_at head.item) l (reached at) am (and_both _ (eqb at.item head.item) (ap not free) (eq-eqb _ _ ai)) in
    let is : form_at t c ≡ form = form-from ws fuel work core c form head fm fh refl reaches in
    let template : template_at t c ≡ template_in form macro rule = ap (λ f. template_in f macro rule) is in
    let C : ℕ → Bool = is_item_of (template_in form macro rule) n in
    let same : is_old_item t c ≡ C = ap (λ u. is_item_of u n) template in
    tested c
    (and_both _ _ reaches
    (and_both _ _ (private-from t c old (subst (λ u. Memᴰ old (names u)) (sym template) om) refl six seven (ap (λ f. has_variable rule n (rules_form_of macro f)) is ∙ variable-from form macro rule n vs dots))
    (and_both _ _ (new-from ws new low high unused)
    (and_both _ _ (subst (λ D. all_of (quotes_no_copy D) l ≡ true) (sym same) (all_from (quotes_no_copy C) l (quotes-from (template_in form macro rule) n l quotes)))
    (and_both _ true (subst (λ D. all_of (finds_own D l) l ≡ true) (sym same) (all_from (finds_own C l) l (finds-from (template_in form macro rule) n l finds))) refl)))))
    same

-- so whatever follows from the test follows from what the demand says
pub whenever : (P : (ws : List ℕ) (fuel work core : ℕ) (template : Tree) (old new : ℕ) → Type 0)
    → ((ws : List ℕ) (fuel work core : ℕ) (template : Tree) (old new : ℕ) → Tested ws fuel work core template old new → P ws fuel work core template old new)
    → Whenever P
unfolding Whenever
whenever P h ws fuel work core form head macro rule fm fh at am ai free old om six seven vs dots new low high unused quotes finds =
    h ws fuel work core (template_in form macro rule) old.number new
    (test-from ws fuel work core form head macro rule fm fh at am ai free old om six seven vs dots new low high unused quotes finds)

-- ---- the claim

alike : (ws : List ℕ) (fuel work core : ℕ) (template : Tree) (old new : ℕ) → Tested ws fuel work core template old new
    → Alike (is_item_of template old) old new (run ws fuel work core) (run (second ws template old new) fuel work core)
unfolding PrivateNames renamed answer_of answer_with
alike ws fuel work core template old new (tested c h same) =
    let C = is_item_of template c.old in
    let r = run ws fuel work core in
    let named = private-names ws fuel work core c h in
    let first : answer_of r ≡ answer_with C c.old r = subst (λ D. answer_of r ≡ answer_with D c.old r) same named.0 in
    let again : answer_of (run (renumber C c.new 0 ws) fuel work core) ≡ answer_with C c.new r =
    subst (λ D. answer_of (run (renumber D c.new 0 ws) fuel work core) ≡ answer_with D c.new r) same named.1 in
    record {
      outcome = ap (λ (a : Answer). a.outcome) again;
      steps = ap (λ (a : Answer). a.steps) again;
      sum = ap (λ (a : Answer). a.sum) again;
      core-first = ap (λ (a : Answer). a.core) first;
      core-second = ap (λ (a : Answer). a.core) again;
    }

pub demand-3 : Demand3
unfolding Demand3
demand-3 = whenever _ alike

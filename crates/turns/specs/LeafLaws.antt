-- Laws of expressions that are done at once, one for each way through the code.
use Rattle.std.specs.Prelude.{◌≡◌, List, [], ◌∷◌, ℕ, zero, suc, ◌+◌, ◌*◌, ◌^◌, ◌≤◌, ◌<◌, Bool, true, false, cond, eqb, ltb, length, get_or, Ok, Err, Option, Some, None}
use Rattle.std.proofs.Math.Path.{refl, ap, sym, subst}
use Rattle.std.proofs.Common.{◌∙◌, arith}
use Rattle.std.proofs.lemmas.Bool.{false≢true}
use Rattle.std.proofs.Math.Option.{none, some}
use Rattle.std.proofs.Math.Option as M
use Rattle.words.specs.Limits.{base_name_count, core_rate}
use Rattle.words.specs.ListLaws.{either}
use Rattle.datum.specs.Constant.{constant_words}
use Rattle.datum.specs.ConstantLaws.{made, words-few}
use Rattle.datum.specs.Datum.{constant_d}
use Rattle.recipe.specs.Name.{Binding, variable, macro, Name}
use Rattle.recipe.specs.Tree.{Tree, name, pair, size}
use Rattle.core_term.specs.Term.{Term, variable_c, operation_c, datum_c, on_formals}
use Rattle.core_term.specs.Node.{node_words}
use Rattle.core_term.specs.Words.{datum_words, encode}
use Rattle.expansion.specs.Run.{words_of}
use Rattle.expansion.specs.Lookup as U
use Rattle.expansion.specs.Lookup.{Found, bound, form, operation, nothing, form_of, place_from, unbound_meaning, or_unbound, lookup}
use Rattle.expansion.specs.Computation.{State, M, give, refuse}
use Rattle.expansion.specs.Forms.{expand_name, expand_list}
use Rattle.resolution.specs.Names.{means_of, found_of, operation_at, unbound_in, lookup_in}
use Rattle.resolution.specs.declared.names.Meaning.{Meaning}
use Rattle.resolution.specs.declared.names.Meaning.TheVariants.{Variable, Macro, Form, Operation}
use Rattle.forms.specs.Quotes.{Written}
use Rattle.turns.specs.declared.answers.Reached.{Reached}
use Rattle.turns.specs.declared.answers.Refused.{Refused}
use Rattle.turns.specs.Answers.{Ended, Refuses}
use Rattle.turns.specs.Ends.{End, refused_end, end_of}
use Rattle.turns.specs.EndLaws.{list-end}
use Rattle.turns.specs.Memory.{Tables, tables, state_at, CoreRoom, Moved, Ready}
use Rattle.turns.specs.MemoryLaws.{moved_by, kept-moved, state-moved}
use Rattle.turns.specs.Numbers.{moved}
use Rattle.turns.specs.Turns.{Lent, Left, turn_of, Ends}
use Rattle.turns.specs.Leaves.{Makes, Stops, Leaf, name_end, constant_end, ConstantLeft}

-- ---- lookups

pub lookup-in : (operations places : List ℕ) (x : Name) → Lent operations places → lookup_in places x ≡ lookup operations x
unfolding lookup_in lookup
lookup-in operations places x h = ap (or_unbound x.binding) (h.places-are x.number)

pub found_in : (operations places : List ℕ) (x : Name) → Lent operations places → (P : Found → Type 0) → P (lookup_in places x) → P (lookup operations x)
found_in operations places x h P = subst P (lookup-in operations places x h)

-- a base form is found whatever the operations
pub form-found : (places : List ℕ) (x : Name) (f : U.Form) → form f ≡ lookup_in places x → (operations : List ℕ) → form f ≡ lookup operations x
unfolding lookup_in lookup unbound_in unbound_meaning or_unbound operation_at
form-found places x f e operations = of-binding x.binding e
  where
    -- an operation or nothing is no form
    no-form : (p : ℕ) → form f ≡ operation_at p → ⊥
    no-form p = either (eqb p 0) (λ t. rw t (λ h. absurd (let z : ◌≡◌ {A = ℕ} 0 1 = cc in omega arith))) (λ t. rw t (λ h. absurd (let z : ◌≡◌ {A = ℕ} 0 1 = cc in omega arith)))

    of_number : (b : Bool) (n : ℕ) → form f ≡ cond b (form (form_of n)) (operation_at (get_or places n 0)) → form f ≡ cond b (form (form_of n)) (place_from 0 n operations)
    of_number true n h = h
    of_number false n h = absurd (no-form (get_or places n 0) h)

    of-binding : (b : M.Option Binding) → form f ≡ or_unbound b (cond (ltb x.number base_name_count) (form (form_of x.number)) (operation_at (get_or places x.number 0)))
        → form f ≡ or_unbound b (cond (ltb x.number base_name_count) (form (form_of x.number)) (place_from 0 x.number operations))
    of-binding none h = of_number (ltb x.number base_name_count) x.number h
    of-binding (some b) h = absurd (let z : ◌≡◌ {A = ℕ} 0 1 = cc in omega arith)

-- where the answer is taken apart
module _ (found : Found) (a : Option Meaning) (told : found_of a ≡ found) where
  pub found-by : (m : Meaning) → a ≡ Some m → means_of m ≡ found
  unfolding found_of
  found-by m e = ap found_of (sym e) ∙ told

  pub nothing-by : a ≡ None → nothing ≡ found
  unfolding found_of
  nothing-by e = ap found_of (sym e) ∙ told

-- ---- refusals

pub refused-leaf : (E : State → End (Term Name)) (most g : ℕ) (r : Reached) (core : List ℕ) (x : Refused) → ((s : State) → E s ≡ refused_end g s) → Refuses g r x → Leaf E most r core core (Err x)
refused-leaf E most g r core x is e = record { is = λ s. is s ∙ ap (λ (n : ℕ). refused_end n s) (sym e.ground-is); steps-are = e.steps-are; sum_is = e.sum_is }

-- ---- bare names

module _ (found : Found) (r : Reached) (core core' : List ℕ) where
  pub name-nothing : (x : Refused) → nothing ≡ found → Refuses 11 r x → Leaf (name_end found) 2 r core core (Err x)
  unfolding name_end
  name-nothing x e h = refused-leaf (name_end found) 2 11 r core x (λ s. ap (λ (f : Found). name_end f s) (sym e)) h

  pub name-macro : (n : ℕ) (x : Refused) → means_of (Macro n) ≡ found → Refuses 12 r x → Leaf (name_end found) 2 r core core (Err x)
  unfolding name_end means_of
  name-macro n x e h = refused-leaf (name_end found) 2 12 r core x (λ s. ap (λ (f : Found). name_end f s) (sym e)) h

  pub name-form : (k : ℕ) (x : Refused) → means_of (Form k) ≡ found → Refuses 12 r x → Leaf (name_end found) 2 r core core (Err x)
  unfolding name_end means_of
  name-form k x e h = refused-leaf (name_end found) 2 12 r core x (λ s. ap (λ (f : Found). name_end f s) (sym e)) h

  pub name-variable : (n : ℕ) (q : Reached) → means_of (Variable n) ≡ found → Moved (0 ∷ n ∷ []) r core core' q → Leaf (name_end found) 2 r core core' (Ok q)
  unfolding name_end means_of on_formals encode node_words
  name-variable n q e m = record { term = variable_c n; is = λ s. ap (λ (f : Found). name_end f s) (sym e); short = omega arith; moves = m }

  pub name-operation : (p : ℕ) (q : Reached) → means_of (Operation p) ≡ found → Moved (1 ∷ p ∷ []) r core core' q → Leaf (name_end found) 2 r core core' (Ok q)
  unfolding name_end means_of on_formals encode node_words
  name-operation p q e m = record { term = operation_c p; is = λ s. ap (λ (f : Found). name_end f s) (sym e); short = omega arith; moves = m }

pub expand_name-end : (limit : ℕ) (operations : List ℕ) (fuel : ℕ) (expand : Tree → M (Term Name)) (found : Found) (s : State) → end_of (expand_name limit operations fuel expand found s) ≡ name_end found s
unfolding expand_name name_end end_of give refuse
expand_name-end limit operations fuel expand (bound (variable n)) s = refl
expand_name-end limit operations fuel expand (bound (macro n)) s = refl
expand_name-end limit operations fuel expand (form f) s = refl
expand_name-end limit operations fuel expand (operation p) s = refl
expand_name-end limit operations fuel expand nothing s = refl

-- ---- constants

module _ (kind first second : ℕ) (r : Reached) (core : List ℕ) (room : CoreRoom core r.at core_rate) where
  pub constant-fits : r.at + length (constant_words (made kind first second)) ≤ length core
  constant-fits = omega (arith, room.fits, (words-few (made kind first second)).1)

  pub constant-below : (at : ℕ) → at ≡ r.at + length (constant_words (made kind first second)) → at < 2 ^ 32
  constant-below at e = omega (arith, room.small, (words-few (made kind first second)).1)

pub constant-made : (kind first second : ℕ) (r : Reached) (core core' : List ℕ) (at : ℕ) (q : Reached) → q ≡ moved at r → Written (constant_words (made kind first second)) core core' r.at at
    → ConstantLeft kind first second r core core' (Ok q)
unfolding constant_end on_formals encode datum_words node_words
constant-made kind first second r core core' at q e p =
    record {
      term = datum_c (constant_d (made kind first second));
      is = λ s. refl;
      short = (words-few (made kind first second)).1;
      moves = moved_by _ r q core core' at e p;
    }

-- ---- a leaf ends the expression

module _ (limit : ℕ) (operations : List ℕ) (fuel : ℕ) (tree : Tree) (r : Reached) (work core core' macros : List ℕ) (E : State → End (Term Name)) (is : (expand : Tree → M (Term Name)) (s : State) → turn_of limit operations fuel expand tree s ≡ E s) (ready : Ready fuel (size tree) r (tables work core macros)) where
  made_ends : (q : Reached) → Makes E (core_rate * size tree) r core core' q → Ends limit operations fuel tree r (tables work core macros) (tables work core' macros) (Ok q)
  made_ends q m =
      record {
        kept = kept-moved fuel (size tree) 0 r q work core core' macros (words_of m.term) ready m.moves (omega arith) (omega (arith, m.short));
        means = λ expand.
            subst (λ (e : End (Term Name)). Left words_of r core (tables work core' macros) e (Ok q))
            (sym (is expand (state_at (tables work core macros) r) ∙ m.is (state_at (tables work core macros) r)))
            (state-moved r q work core core' macros (words_of m.term) m.moves, m.moves.put);
      }

  stopped-ends : (x : Refused) → Stops E r x → Ends limit operations fuel tree r (tables work core macros) (tables work core' macros) (Err x)
  unfolding state_at
  stopped-ends x m =
      record {
        kept = tt;
        means = λ expand.
            subst (λ (e : End (Term Name)). Left words_of r core (tables work core' macros) e (Err x))
            (sym (is expand (state_at (tables work core macros) r) ∙ m.is (state_at (tables work core macros) r)))
            (refl, sym m.steps-are, sym m.sum_is);
      }

  pub leaf-ends : (a : Ended) → Leaf E (core_rate * size tree) r core core' a → Ends limit operations fuel tree r (tables work core macros) (tables work core' macros) a
  leaf-ends (Ok q) m = made_ends q m
  leaf-ends (Err x) m = stopped-ends x m

-- ---- a list whose head is a name, by what the name finds

pub headed : (limit : ℕ) (operations : List ℕ) (fuel : ℕ) (x : Name) (t : Tree) (found : Found) → lookup operations x ≡ found → (expand : Tree → M (Term Name)) (s : State)
    → turn_of limit operations fuel expand (pair (name x) t) s ≡ end_of (expand_list limit operations fuel expand found x (pair (name x) t) s)
headed limit operations fuel x t found e expand s =
    list-end limit operations fuel expand x t s
    ∙ ap (λ (f : Found). end_of (expand_list limit operations fuel expand f x (pair (name x) t) s)) e

-- ---- a refusal ends the expression

module _ (limit : ℕ) (operations : List ℕ) (fuel : ℕ) (tree : Tree) (r : Reached) (before after : Tables) (g : ℕ) (is : (expand : Tree → M (Term Name)) (s : State) → turn_of limit operations fuel expand tree s ≡ refused_end g s) where
  pub refused-ends : (x : Refused) → Refuses g r x → Ends limit operations fuel tree r before after (Err x)
  unfolding state_at
  refused-ends x e =
      record {
        kept = tt;
        means = λ expand. subst (λ (z : End (Term Name)). Left words_of r before.core after z (Err x)) (sym (is expand (state_at before r))) (sym e.ground-is, sym e.steps-are, sym e.sum_is);
      }

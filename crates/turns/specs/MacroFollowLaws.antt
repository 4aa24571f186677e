-- The law of the turn of let-syntax and letrec-syntax: what the code leaves is a turn of the definition.
use Rattle.std.specs.Prelude.{◌≡◌, Bool, true, false, cond, List, ◌++◌, ℕ, ◌+◌, ◌*◌, ◌≤◌, Err}
use Rattle.std.proofs.Math.Path.{refl, ap, subst}
use Rattle.std.proofs.Common.{sym, ◌∙◌, arith}
use Rattle.std.proofs.Math.Option.{some}
use Rattle.std.proofs.Math.ListN.{length}
use Rattle.words.specs.Each.{Each, each_append, each_map, each_weaken, given-at, given-traverse}
use Rattle.words.specs.Options.{traverse}
use Rattle.recipe.specs.Name.{macro, Name, distinct}
use Rattle.recipe.specs.Tree.{Tree, size, element, bind_all}
use Rattle.recipe.specs.TreeLaws.{bind_all-size}
use Rattle.recipe.specs.Tidy.{tidy-elements, tidy-element, tidy-bind_all}
use Rattle.recipe.specs.TableTidy.{IsConstant}
use Rattle.core_term.specs.Term.{Term}
use Rattle.expansion.specs.Run.{words_of}
use Rattle.expansion.specs.Rules.{Rule, rules_of}
use Rattle.expansion.specs.TidyRules.{TidyRules}
use Rattle.expansion.proofs.TidyRulesLaws.{rules_of-tidy}
use Rattle.expansion.specs.Computation.{State, M}
use Rattle.expansion.specs.Forms.{is_macros, keywords, rules_forms, expand_macros}
use Rattle.arena.specs.Arena.{tree_at}
use Rattle.environments.specs.Sound.{SoundRule}
use Rattle.environments.specs.SoundRules.{rules_of-sound}
use Rattle.turns.specs.declared.answers.Reached.{Reached}
use Rattle.turns.specs.declared.answers.Refused.{Refused}
use Rattle.turns.specs.Ends.{End, end_of, needs, given, with_macros}
use Rattle.turns.specs.EndLaws.{scope, macros-end}
use Rattle.turns.specs.Numbers.{grown}
use Rattle.turns.specs.Memory.{item_rate, Tables, tables, macros_at, state_at, work_need, core_need, variable_need, macro_need, Proper, Macros, Ready, Kept}
use Rattle.turns.specs.MemoryLaws.{macros_at-length}
use Rattle.turns.specs.Turns.{Left, turn_of, Ends, Follows}
use Rattle.turns.specs.UseTurnLaws.{left-same}
use Rattle.turns.specs.MacroTurns.{macro_words, forms_of, Known, MacrosKnown, MacrosRefused}
use Rattle.turns.specs.MacroTurnLaws.{macros-rate, macros-sizes}

-- ---- the rules are proper and sound

forms-proper : (inside : Bool) (t : Tree) (k : ℕ) → Proper t → Each Proper (forms_of inside t k)
unfolding forms_of rules_forms
forms-proper inside t k good =
    each_map (cond inside (bind_all macro k (keywords t)) (λ r. r)) (λ x p. one inside x p) (each_map (element 1) (λ x p. tidy-element 1 p) (tidy-elements (tidy-element 1 good)))
  where
    one : (b : Bool) (x : Tree) → Proper x → Proper (cond b (bind_all macro k (keywords t)) (λ r. r) x)
    one true x p = tidy-bind_all macro k (keywords t) (λ j h l y z. tt) p
    one false x p = p

rules-proper : (inside : Bool) (t : Tree) (k : ℕ) (rules : List (List Rule)) → Proper t → traverse rules_of (forms_of inside t k) ≡ some rules → Each (TidyRules (λ x. Unit {0}) IsConstant) rules
rules-proper inside t k rules good e = given-at (given-traverse (each_weaken (λ x p. rules_of-tidy p) (forms-proper inside t k good))) e

rules-sound : (inside : Bool) (t : Tree) (k : ℕ) (rules : List (List Rule)) → Proper t → traverse rules_of (forms_of inside t k) ≡ some rules → Each (Each SoundRule) rules
rules-sound inside t k rules good e = given-at (given-traverse (each_weaken (λ x p. rules_of-sound p) (forms-proper inside t k good))) e

-- ---- the turn

state-grown : (r q : Reached) (a b : Tables) (rules : List (List Rule)) → q.steps ≡ r.steps → q.sum ≡ r.sum → q.variables ≡ r.variables
    → macros_at b.work b.macros q.macros ≡ macros_at a.work a.macros r.macros ++ rules → state_at b q ≡ with_macros rules (state_at a r)
unfolding state_at with_macros
state-grown r q a b rules e1 e2 e3 e4 = rw (e1, e2, e3, e4)

module _ (limit : ℕ) (operations : List ℕ) (fuel : ℕ) (t : Tree) (inside : Bool) (head : Name) (r : Reached) (work work' core macros macros' : List ℕ)
    (turn : (expand : Tree → M (Term Name)) (s : State) → turn_of limit operations fuel expand t s ≡ end_of (expand_macros limit operations fuel expand inside head t s)) where
  abbrev state : State
  state = state_at (tables work core macros) r

  counted : length state.macros ≡ r.macros
  unfolding state_at
  counted = macros_at-length work macros r.macros

  macros-turn : (expand : Tree → M (Term Name)) (s : State) → length s.macros ≡ r.macros → turn_of limit operations fuel expand t s
      ≡ needs 13 (is_macros limit t) s (needs 14 (distinct (keywords t)) s
      (given 15 s (λ rules. end_of (expand (bind_all macro r.macros (keywords t) (element 2 t)) (with_macros rules s))) (traverse rules_of (forms_of inside t r.macros))))
  unfolding scope forms_of
  macros-turn expand s e = turn expand s ∙ macros-end limit operations fuel expand inside head t s ∙ rw e

  pub macros-refused : (y : Refused) → MacrosRefused limit t inside r y → Ends limit operations fuel t r (tables work core macros) (tables work' core macros') (Err y)
  unfolding state_at
  macros-refused y x =
      record {
        kept = tt;
        means = λ expand.
            subst (λ (z : End (Term Name)). Left words_of r core (tables work' core macros') z (Err y))
            (sym (macros-turn expand state counted ∙ x.is _ state)) (sym x.refuses.ground-is, sym x.refuses.steps-are, sym x.refuses.sum_is);
      }

  module _ (node w : ℕ) (q : Reached) (y : MacrosKnown limit t inside r work work' macros macros' node w q) (good : Proper t)
      (ready : Ready fuel (size t) r (tables work core macros)) (long : length work' ≡ length work) (macros-long : length macros' ≡ length macros) where
    x : Known t inside r work work' macros macros' node w q
    x = y.knows

    sizes : macro_words t + item_rate * size (element 2 t) + 5 ≤ item_rate * size t
    sizes = macros-sizes limit t y.shape

    body-size : size (tree_at work' node w) ≡ size (element 2 t)
    body-size = ap size x.body_is ∙ bind_all-size macro r.macros (keywords t) (element 2 t)

    known-macros : Macros q (tables work' core macros')
    known-macros =
        record {
          below = x.below;
          proper = rw x.means (each_append ready.macros-are.proper (rules-proper inside t r.macros x.rules good x.is));
          sound = rw x.means (each_append ready.macros-are.sound (rules-sound inside t r.macros x.rules good x.is));
        }

    known_kept : Kept fuel (size t) (size (tree_at work' node w)) r q (tables work core macros) (tables work' core macros')
    unfolding work_need core_need variable_need macro_need grown
    known_kept =
        let at-is : q.at ≡ r.at = ap (λ (z : Reached). z.at) x.numbers in
        let steps-are : q.steps ≡ r.steps = ap (λ (z : Reached). z.steps) x.numbers in
        let sum_is : q.sum ≡ r.sum = ap (λ (z : Reached). z.sum) x.numbers in
        let variables-are : q.variables ≡ r.variables = ap (λ (z : Reached). z.variables) x.numbers in
        let macros-are : q.macros ≡ r.macros + length (keywords t) = ap (λ (z : Reached). z.macros) x.numbers in
        record {
          work-long = long;
          core-long = refl;
          macros-long = macros-long;
          arena = x.kept;
          known = x.known;
          top-grows = x.up;
          macros-grow = omega arith;
          sum-grows = omega arith;
          spent = omega (arith, ready.spent);
          stepped = omega (arith, ready.stepped);
          work-spent = rw (sum_is, body-size) (omega (arith, sizes, x.words));
          core-spent = rw (at-is, sum_is, body-size) (omega (arith, sizes));
          variables-spent = rw (variables-are, sum_is, body-size) (omega (arith, sizes));
          macros-spent = rw (macros-are, sum_is, body-size) (omega (arith, macros-rate limit t y.shape));
          macros-are = known-macros;
        }

    known-state : state_at (tables work' core macros') q ≡ with_macros x.rules state
    unfolding grown
    known-state =
        let steps-are : q.steps ≡ r.steps = ap (λ (z : Reached). z.steps) x.numbers in
        let sum_is : q.sum ≡ r.sum = ap (λ (z : Reached). z.sum) x.numbers in
        let variables-are : q.variables ≡ r.variables = ap (λ (z : Reached). z.variables) x.numbers in
        state-grown r q (tables work core macros) (tables work' core macros') x.rules steps-are sum_is variables-are x.means

    known-turn : (expand : Tree → M (Term Name)) → turn_of limit operations fuel expand t state ≡ end_of (expand (bind_all macro r.macros (keywords t) (element 2 t)) (with_macros x.rules state))
    unfolding needs given
    known-turn expand = macros-turn expand state counted ∙ rw (y.shape, y.apart, x.is)

    pub macros-follows : Follows limit operations fuel t r (tables work core macros) (tables work' core macros') node w q
    unfolding grown
    macros-follows =
        let k = known_kept in
        let at-is : q.at ≡ r.at = ap (λ (z : Reached). z.at) x.numbers in
        record {
          kept = k;
          placed = record {
            node-below = omega (arith, x.body_below, x.up);
            wrap-below = x.wrap-below;
            proper = rw x.body_is (tidy-bind_all macro r.macros (keywords t) (λ j h l z p. tt) (tidy-element 2 good));
          };
          falls = omega (arith, body-size, sizes, k.sum-grows);
          means = λ expand a last l.
              subst (λ (e : End (Term Name)). Left words_of r core last e a) (sym (known-turn expand))
              (left-same r q core last (end_of (expand (bind_all macro r.macros (keywords t) (element 2 t)) (with_macros x.rules state))) a at-is
              (subst (λ (z : State). Left words_of q core last (end_of (expand (bind_all macro r.macros (keywords t) (element 2 t)) z)) a) known-state
              (subst (λ (z : Tree). Left words_of q core last (end_of (expand z (state_at (tables work' core macros') q))) a) x.body_is l)));
        }

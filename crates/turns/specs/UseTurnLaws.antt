-- The turn of a macro use: the result of the definition's step stands for the use, or the step is refused.
use Rattle.std.specs.Prelude.{◌≡◌, Bool, true, false, cond, leb, length, get_or, Ok, Err}
use Rattle.std.proofs.Math.Path.{refl, ap, subst}
use Rattle.std.proofs.Common.{sym, ◌∙◌, arith, le-leb, leb-true, leb-false}
use mathlib.Core.List.{List, []}
use Rattle.std.proofs.Math.Option.{Option, none, some}
use Prim.Native.Nat.{ℕ, suc, ◌+◌, ◌-◌, ◌≤◌, ◌<◌}
use Rattle.std.proofs.lemmas.Bool.{lt-leb}
use Rattle.words.specs.Each.{none_of, each-get_d, Given, missing, given}
use Rattle.recipe.specs.Name.{Name}
use Rattle.recipe.specs.Tree.{Tree, size, tail, mark, produce}
use Rattle.recipe.specs.TreeLaws.{size-positive, mark-size, produce-size}
use Rattle.recipe.specs.Tidy.{tidy-tail, tidy-mark, tidy-produce}
use Rattle.recipe.specs.TableTidy.{IsConstant}
use Rattle.core_term.specs.Term.{Term}
use Rattle.expansion.specs.Run.{words_of}
use Rattle.expansion.specs.Rules.{Rule}
use Rattle.expansion.specs.Match.{first_fit}
use Rattle.expansion.specs.Transcribe.{equal_lengths, transcribe}
use Rattle.expansion.specs.TidyRules.{TidyTemplate}
use Rattle.expansion.proofs.TidyRulesLaws.{first_fit-tidy, transcribe-tidy}
use Rattle.expansion.specs.Computation.{State, M}
use Rattle.expansion.specs.Forms.{expand_use}
use Rattle.arena.specs.Arena.{tree_at}
use Rattle.words.specs.ListLaws.{either}
use Rattle.steps.specs.Apply.{Outcome, refused, result, applied, step_of}
use Rattle.forms.specs.Quotes.{Written}
use Rattle.turns.specs.declared.answers.Reached.{Reached}
use Rattle.turns.specs.declared.answers.Refused.{Refused}
use Rattle.turns.specs.Answers.{Ended}
use Rattle.turns.specs.Ends.{End, finished, refused_end, halted, end_of, needs, with_step}
use Rattle.turns.specs.Ends as E
use Rattle.turns.specs.EndLaws as L
use Rattle.turns.specs.Numbers.{stepped}
use Rattle.turns.specs.Memory.{Tables, tables, macros_at, state_at, work_need, core_need, variable_need, macro_need, Proper, Ready, Kept}
use Rattle.turns.specs.MemoryLaws.{macros_at-settled, macros-kept}
use Rattle.turns.specs.Turns.{Left, turn_of, Ends, Follows}
use Rattle.turns.specs.Uses.{used_of, outcome_of, Used, Unused}

-- ---- the definition's step, by its outcome

unfoldable pub outcome_end : (Tree → M (Term Name)) → State → Outcome → End (Term Name)
outcome_end expand s (refused g) = refused_end g s
outcome_end expand s (result t) = end_of (expand (produce (mark (suc s.steps) t)) (with_step (size t) s))

leb-left : (n s f : ℕ) → s ≤ f → leb (s + n) f ≡ leb n (f - s)
leb-left n s f h =
    either (leb n (f - s))
    (λ t. let l : n ≤ f - s = leb-true n (f - s) t in le-leb (s + n) f (omega arith) ∙ sym t)
    (λ t. let l : f - s < n = leb-false n (f - s) t in lt-leb (s + n) f (omega arith) ∙ sym t)

tests-end : (expand : Tree → M (Term Name)) (s : State) (t : Tree) (b c : Bool)
    → needs 17 b s (needs 18 c s (end_of (expand (produce (mark (suc s.steps) t)) (with_step (size t) s)))) ≡ outcome_end expand s (cond b (cond c (result t) (refused 18)) (refused 17))
unfolding needs outcome_end
tests-end expand s t true true = refl
tests-end expand s t true false = refl
tests-end expand s t false c = refl

module _ (limit : ℕ) (operations : List ℕ) (fuel : ℕ) (expand : Tree → M (Term Name)) (t : Tree) (s : State) (spent : s.sum ≤ fuel) where
  rule-outcome : (o : Option Rule)
      → E.given 16 s (λ r. needs 17 (equal_lengths r.pattern (L.marked limit operations fuel expand t s) [] r.template) s
      (needs 18 (leb (s.sum + size (L.result limit operations fuel expand t s r)) fuel) s
      (end_of (expand (produce (mark (suc s.steps) (L.result limit operations fuel expand t s r))) (with_step (size (L.result limit operations fuel expand t s r)) s))))) o
      ≡ outcome_end expand s (step_of (fuel - s.sum) (tail (mark (suc s.steps) t)) o)
  unfolding E.given step_of applied L.marked L.result outcome_end
  rule-outcome none = refl
  rule-outcome (some r) =
      let used = tail (mark (suc s.steps) t) in
      let made = transcribe r.pattern used [] r.template in
      tests-end expand s made (equal_lengths r.pattern used [] r.template) (leb (s.sum + size made) fuel)
      ∙ ap (λ (c : Bool). outcome_end expand s (cond (equal_lengths r.pattern used [] r.template) (cond c (result made) (refused 18)) (refused 17))) (leb-left (size made) s.sum fuel spent)

  pub use-outcome : (n : ℕ) → end_of (expand_use limit operations fuel expand n t s)
      ≡ outcome_end expand s (step_of (fuel - s.sum) (tail (mark (suc s.steps) t)) (first_fit (get_or s.macros n []) (tail (mark (suc s.steps) t))).1)
  unfolding L.marked
  use-outcome n = L.use-end limit operations fuel expand n t s ∙ rule-outcome (first_fit (get_or s.macros n []) (tail (mark (suc s.steps) t))).1

-- ---- a result is proper

abbrev ProperOutcome : Outcome → Type 0
ProperOutcome (refused g) = Unit {0}
ProperOutcome (result t) = Proper t

proper-tests : (t : Tree) (b c : Bool) → Proper t → ProperOutcome (cond b (cond c (result t) (refused 18)) (refused 17))
proper-tests t true true p = p
proper-tests t true false p = tt
proper-tests t false c p = tt

proper-rule : (limit : ℕ) (used : Tree) {o : Option Rule} → Proper used → Given (λ (x : Rule). TidyTemplate (λ y. Unit {0}) IsConstant x.template) o → ProperOutcome (step_of limit used o)
unfolding step_of applied
proper-rule limit used p missing = tt
proper-rule limit used p (given {a = x} f) =
    let made = transcribe x.pattern used [] x.template in
    proper-tests made (equal_lengths x.pattern used [] x.template) (leb (size made) limit) (transcribe-tidy x.pattern p [] f).0

-- ---- the words follow from the same place

pub left-same : (r q : Reached) (core : List ℕ) (last : Tables) (e : End (Term Name)) (a : Ended) → q.at ≡ r.at → Left words_of q core last e a → Left words_of r core last e a
left-same r q core last (finished v s) (Ok p) h l = (l.0, subst (λ (n : ℕ). Written (words_of v) core last.core n p.at) h l.1)
left-same r q core last (finished v s) (Err x) h l = l
left-same r q core last (refused_end k s) (Ok p) h l = l
left-same r q core last (refused_end k s) (Err x) h l = l
left-same r q core last halted a h l = l

-- ---- the turn

module _ (limit : ℕ) (operations : List ℕ) (fuel n : ℕ) (t : Tree) (r : Reached) (work work' core macros : List ℕ)
    (turn : (expand : Tree → M (Term Name)) (s : State) → turn_of limit operations fuel expand t s ≡ end_of (expand_use limit operations fuel expand n t s))
    (ready : Ready fuel (size t) r (tables work core macros)) where
  abbrev outcome : Outcome
  outcome = outcome_of (macros_at work macros r.macros) n fuel t r

  abbrev state : State
  state = state_at (tables work core macros) r

  turn-outcome : (expand : Tree → M (Term Name)) → turn_of limit operations fuel expand t state ≡ outcome_end expand state outcome
  unfolding state_at outcome_of used_of
  turn-outcome expand = turn expand state ∙ use-outcome limit operations fuel expand t state ready.spent n

  pub use-refused : (y : Refused) → Unused outcome r y → Ends limit operations fuel t r (tables work core macros) (tables work' core macros) (Err y)
  unfolding state_at outcome_end
  use-refused y x =
      record {
        kept = tt;
        means = λ expand.
            subst (λ (z : End (Term Name)). Left words_of r core (tables work' core macros) z (Err y))
            (sym (turn-outcome expand ∙ ap (outcome_end expand state) x.is)) (sym x.refuses.ground-is, sym x.refuses.steps-are, sym x.refuses.sum_is);
      }

  outcome-proper : Proper t → ProperOutcome outcome
  unfolding outcome_of used_of
  outcome-proper p =
      let used : Proper (tail (mark (suc r.steps) t)) = tidy-tail (tidy-mark (suc r.steps) (λ x y. tt) p) in
      proper-rule (fuel - r.sum) (tail (mark (suc r.steps) t)) used (first_fit-tidy (tail (mark (suc r.steps) t)) (each-get_d n [] ready.macros-are.proper none_of))

  module _ (node w : ℕ) (q : Reached) (x : Used outcome fuel r work work' node w q) (good : Proper t) (long : length work' ≡ length work) where
    made-size : size (tree_at work' node w) ≡ size x.tree
    made-size = ap size x.means ∙ produce-size (mark (suc r.steps) x.tree) ∙ mark-size (suc r.steps) x.tree

    use_kept : Kept fuel (size t) (size (tree_at work' node w)) r q (tables work core macros) (tables work' core macros)
    unfolding work_need core_need variable_need macro_need stepped
    use_kept =
        let top-is : q.top ≡ w = ap (λ (z : Reached). z.top) x.numbers in
        let at-is : q.at ≡ r.at = ap (λ (z : Reached). z.at) x.numbers in
        let steps-are : q.steps ≡ suc r.steps = ap (λ (z : Reached). z.steps) x.numbers in
        let sum_is : q.sum ≡ r.sum + size x.tree = ap (λ (z : Reached). z.sum) x.numbers in
        let variables-are : q.variables ≡ r.variables = ap (λ (z : Reached). z.variables) x.numbers in
        let macros-are : q.macros ≡ r.macros = ap (λ (z : Reached). z.macros) x.numbers in
        let some : 1 ≤ size t = size-positive t in
        let cost : 1 ≤ size x.tree = size-positive x.tree in
        let paid : size x.tree ≤ fuel - r.sum = x.paid in
        record {
          work-long = long;
          core-long = refl;
          macros-long = refl;
          arena = x.kept;
          known = refl;
          top-grows = omega (arith, x.up);
          macros-grow = omega arith;
          sum-grows = omega arith;
          spent = omega (arith, ready.spent);
          stepped = omega (arith, ready.stepped);
          work-spent = rw (top-is, sum_is, made-size) (omega (arith, x.most));
          core-spent = rw (at-is, sum_is, made-size) (omega arith);
          variables-spent = rw (variables-are, sum_is, made-size) (omega arith);
          macros-spent = rw (macros-are, sum_is, made-size) (omega arith);
          macros-are = macros-kept r q (tables work core macros) (tables work' core macros) ready.macros-are (omega (arith, x.up)) macros-are x.kept refl;
        }

    use-state : state_at (tables work' core macros) q ≡ with_step (size x.tree) state
    unfolding state_at with_step stepped
    use-state =
        ap (state_at (tables work' core macros)) x.numbers
        ∙ rw (macros_at-settled work work' macros macros r.top x.kept r.macros refl ready.macros-are.below)

    pub use-follows : Follows limit operations fuel t r (tables work core macros) (tables work' core macros) node w q
    unfolding state_at outcome_end stepped
    use-follows =
        let top-is : q.top ≡ w = ap (λ (z : Reached). z.top) x.numbers in
        let at-is : q.at ≡ r.at = ap (λ (z : Reached). z.at) x.numbers in
        let sum_is : q.sum ≡ r.sum + size x.tree = ap (λ (z : Reached). z.sum) x.numbers in
        let some : 1 ≤ size t = size-positive t in
        record {
          kept = use_kept;
          placed = record {
            node-below = omega (arith, x.node-below);
            wrap-below = omega arith;
            proper = rw x.means (tidy-produce (λ y z. tt) (tidy-mark (suc r.steps) (λ y z. tt) (subst ProperOutcome x.is (outcome-proper good))));
          };
          falls = omega (arith, made-size);
          means = λ expand a last l.
              subst (λ (e : End (Term Name)). Left words_of r core last e a) (sym (turn-outcome expand ∙ ap (outcome_end expand state) x.is))
              (left-same r q core last (end_of (expand (produce (mark (suc r.steps) x.tree)) (with_step (size x.tree) state))) a at-is
              (subst (λ (z : State). Left words_of q core last (end_of (expand (produce (mark (suc r.steps) x.tree)) z)) a) use-state
              (subst (λ (z : Tree). Left words_of q core last (end_of (expand z (state_at (tables work' core macros) q))) a) x.means l)));
        }

-- Demand 3 where core terms are run, proved: both recipes run one code.
use Rattle.std.specs.Prelude.{◌≡◌, refl, Bool, true, List, ℕ}
use Rattle.std.proofs.Math.Path.{sym, ap}
use Rattle.std.proofs.Common.{subst, ◌∙◌}
use Rattle.std.proofs.Math.Option.{Option, none, some}
use Rattle.words.specs.Lists.{all_of}
use Rattle.words.specs.Limits.{operations_most}
use Rattle.recipe.specs.Name.{Name}
use Rattle.recipe.specs.Table.{tree_of}
use Rattle.core_term.specs.Term.{Term, Plain, on_formals}
use Rattle.core_term.specs.Words.{encode}
use Rattle.core_term.specs.EveryLaws.{well_formed-unnamed}
use Rattle.core_term.specs.Decode.{decode}
use Rattle.core_term.proofs.DecodeLaws.{decode-encode}
use Rattle.core_term.specs.Check.{small, term_of}
use Rattle.core_term.proofs.OfCode.CheckLaws.{accepted}
use Rattle.expansion.specs.Run as X
use Rattle.expansion.specs.Run.{Run, told, words_of, term_words, core_of}
use Rattle.expansion.proofs.Bounds.Gas.{kept-accepted}
use Rattle.expansion.specs.CoreTerm.{CoreTerm}
use Rattle.private_names.specs.Statement.{Choice, is_old_item, renamed, hypotheses, Answer, answer_of, formal_number, core_with, answer_with, PrivateNames}
use Rattle.private_names_proof.proofs.Claim.{private-names}
use Rattle.evaluation.specs.Code.{code_at}
use Rattle.evaluation.proofs.NameLaws.{code-unnamed}
use Rattle.recipe_runs.specs.RecipeRun.{after_expansion, recipe_run, term_run}
use Rattle.recipe_runs.specs.Statement.{RunsAsTerm}
use Rattle.recipe_runs.specs.Claim.{run-most, runs-as-term}
use Rattle.private_runs.specs.Statement.{PrivateRuns}

-- a term runs by its code alone
code-run : (t u : Plain) (budget table : ℕ) → code_at 0 t ≡ code_at 0 u → term_run t budget table ≡ term_run u budget table
unfolding term_run
code-run t u budget table e = rw e

-- two terms whose words pass ground 19, the second's those of the first with something else said of its variables
module _ (f : Name → ℕ) (t u : Term Name) (p : term_of operations_most small (words_of t) ≡ some (told t)) (q : term_of operations_most small (words_of u) ≡ some (told u))
    (w : words_of u ≡ encode (on_formals f t)) where
  same-term : told u ≡ on_formals f t
  same-term =
      let d : decode (words_of u) ≡ some (told u) = decode-encode (told u) (accepted operations_most small (words_of u) (told u) q).formed in
      let e : decode (encode (on_formals f t)) ≡ some (on_formals f t) =
      decode-encode (on_formals f t) (well_formed-unnamed f _ t ∙ (accepted operations_most small (words_of t) (told t) p).formed) in
      let i : some (told u) ≡ some (on_formals f t) = sym d ∙ ap decode w ∙ e in
      cc

  same_code : code_at 0 (told u) ≡ code_at 0 (told t)
  same_code = ap (code_at 0) same-term ∙ code-unnamed f _ 0 t

-- the words that a run keeps are its term's
core-passes : (r : Run) (c : CoreTerm operations_most small r) → term_of operations_most small (words_of c.term) ≡ some (told c.term)
core-passes r c = subst (λ (o : Option (Term Name)). term_of operations_most small (term_words o) ≡ some (told c.term)) c.given c.passes

module _ (ws : List ℕ) (fuel work core : ℕ) (c : Choice) (budget table : ℕ) (h : all_of (λ h. h) (hypotheses ws c (X.run ws fuel work core).events) ≡ true) where
  abbrev C : ℕ → Bool
  C = is_old_item (tree_of ws) c

  abbrev first : Run
  first = X.run ws fuel work core

  abbrev second : Run
  second = X.run (renamed ws c) fuel work core

  second-outcome : second.outcome ≡ first.outcome
  unfolding PrivateNames answer_of answer_with
  second-outcome = ap (λ (a : Answer). a.outcome) (private-names ws fuel work core c h).1

  second-core : core_of second ≡ core_with C c.new first.term
  unfolding PrivateNames answer_of answer_with
  second-core = ap (λ (a : Answer). a.core) (private-names ws fuel work core c h).1

  Same : Type 0
  Same = recipe_run (renamed ws c) fuel work core budget table ≡ recipe_run ws fuel work core budget table

  -- no term is kept
  none-same : first.term ≡ none → Same
  unfolding Same recipe_run core_with
  none-same e =
      let w : core_of second ≡ core_of first = second-core ∙ ap (core_with C c.new) e ∙ sym (ap term_words e) in
      rw (second-outcome, w)

  -- a term is kept, and so the second run keeps one too
  some_same : (t : Term Name) → first.term ≡ some t → Same
  unfolding Same RunsAsTerm core_with
  some_same t e =
      let o = kept-accepted ws fuel work core t e in
      let a = run-most ws fuel work core o in
      let b = run-most (renamed ws c) fuel work core (second-outcome ∙ o) in
      let w : words_of b.term ≡ encode (on_formals (formal_number C c.new) a.term) = sym (ap term_words b.given) ∙ second-core ∙ ap (core_with C c.new) a.given in
      runs-as-term (renamed ws c) fuel work core b.term b.given budget table
      ∙ code-run (told b.term) (told a.term) budget table (same_code _ a.term b.term (core-passes first a) (core-passes second b) w)
      ∙ sym (runs-as-term ws fuel work core a.term a.given budget table)

  either : (o : Option (Term Name)) → first.term ≡ o → Same
  either none e = none-same e
  either (some t) e = some_same t e

pub private-runs : PrivateRuns
unfolding PrivateRuns Same
private-runs ws fuel work core c budget table h = either ws fuel work core c budget table h _ refl

-- The turn of an expression, by what it is and what its head finds: one equation for each way of the dispatch.
use Rattle.std.specs.Prelude.{true, false, ◌≡◌, List, ℕ}
use Rattle.std.proofs.Math.Path.{refl}
use Rattle.std.proofs.Common.{◌∙◌}
use Rattle.datum.specs.Constant.{Constant}
use Rattle.datum.specs.Datum.{constant_d}
use Rattle.recipe.specs.Name.{variable, macro, Name}
use Rattle.recipe.specs.Tree.{Tree, empty, constant, name, pair, on_pair, tail}
use Rattle.core_term.specs.Term.{Term, variable_c, operation_c, datum_c}
use Rattle.expansion.specs.Lookup.{bound, form, quote, lambda, let-syntax, letrec-syntax, auxiliary, operation, nothing, lookup}
use Rattle.expansion.specs.Computation.{State, M, give, refuse}
use Rattle.expansion.specs.Forms.{expand_tree, expand_list, expand_operands, expand_use, expand_lambda, expand_macros}
use Rattle.turns.specs.Ends.{finished, refused_end, end_of}
use Rattle.turns.specs.EndLaws.{quote-end, name-end}
use Rattle.turns.specs.Turns.{turn_of}
use Rattle.turns.specs.Leaves.{name_end}
use Rattle.turns.specs.LeafLaws.{expand_name-end, headed}
use Rattle.turns.specs.Scopes.{quote_end}

module _ (limit : ℕ) (operations : List ℕ) (fuel : ℕ) (expand : Tree → M (Term Name)) (s : State) where
  pub empty-turn : turn_of limit operations fuel expand empty s ≡ refused_end 13 s
  unfolding expand_tree refuse end_of
  empty-turn = refl

  pub constant-turn : (a : Constant) → turn_of limit operations fuel expand (constant a) s ≡ finished (datum_c (constant_d a)) s
  unfolding expand_tree give end_of
  constant-turn a = refl

  pub name-turn : (x : Name) → turn_of limit operations fuel expand (name x) s ≡ name_end (lookup operations x) s
  name-turn x = name-end limit operations fuel expand x s ∙ expand_name-end limit operations fuel expand (lookup operations x) s

  module _ (x : Name) (t : Tree) where
    pub variable-turn : (n : ℕ) → lookup operations x ≡ bound (variable n) → turn_of limit operations fuel expand (pair (name x) t) s ≡ end_of (expand_operands limit operations fuel expand (variable_c n) t s)
    unfolding expand_list tail on_pair
    variable-turn n e = headed limit operations fuel x t (bound (variable n)) e expand s

    pub operation-turn : (p : ℕ) → lookup operations x ≡ operation p → turn_of limit operations fuel expand (pair (name x) t) s ≡ end_of (expand_operands limit operations fuel expand (operation_c p) t s)
    unfolding expand_list tail on_pair
    operation-turn p e = headed limit operations fuel x t (operation p) e expand s

    pub macro-turn : (n : ℕ) → lookup operations x ≡ bound (macro n) → turn_of limit operations fuel expand (pair (name x) t) s ≡ end_of (expand_use limit operations fuel expand n (pair (name x) t) s)
    unfolding expand_list
    macro-turn n e = headed limit operations fuel x t (bound (macro n)) e expand s

    pub quote-turn : lookup operations x ≡ form quote → turn_of limit operations fuel expand (pair (name x) t) s ≡ quote_end (pair (name x) t) s
    unfolding expand_list quote_end
    quote-turn e = headed limit operations fuel x t (form quote) e expand s ∙ quote-end limit operations fuel expand (pair (name x) t) s

    pub lambda-turn : lookup operations x ≡ form lambda → turn_of limit operations fuel expand (pair (name x) t) s ≡ end_of (expand_lambda limit operations fuel expand (pair (name x) t) s)
    unfolding expand_list
    lambda-turn e = headed limit operations fuel x t (form lambda) e expand s

    pub let-syntax-turn : lookup operations x ≡ form let-syntax → turn_of limit operations fuel expand (pair (name x) t) s ≡ end_of (expand_macros limit operations fuel expand false x (pair (name x) t) s)
    unfolding expand_list
    let-syntax-turn e = headed limit operations fuel x t (form let-syntax) e expand s

    pub letrec-syntax-turn : lookup operations x ≡ form letrec-syntax → turn_of limit operations fuel expand (pair (name x) t) s ≡ end_of (expand_macros limit operations fuel expand true x (pair (name x) t) s)
    unfolding expand_list
    letrec-syntax-turn e = headed limit operations fuel x t (form letrec-syntax) e expand s

    pub auxiliary-turn : lookup operations x ≡ form auxiliary → turn_of limit operations fuel expand (pair (name x) t) s ≡ refused_end 12 s
    unfolding expand_list refuse end_of
    auxiliary-turn e = headed limit operations fuel x t (form auxiliary) e expand s

    pub nothing-turn : lookup operations x ≡ nothing → turn_of limit operations fuel expand (pair (name x) t) s ≡ refused_end 11 s
    unfolding expand_list refuse end_of
    nothing-turn e = headed limit operations fuel x t nothing e expand s

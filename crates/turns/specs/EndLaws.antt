-- The ends of forms, one equation a form: what the definition of expansion says when nothing is shown.
use Rattle.std.specs.Prelude.{◌≡◌, Bool, true, false, cond, ℕ, suc, ◌+◌, leb, length, get_or}
use Rattle.std.proofs.Math.Path.{refl, ap}
use Rattle.std.proofs.Common.{◌∙◌}
use mathlib.Core.List.{List, [], ◌∷◌, map}
use Rattle.std.proofs.Math.Option.{Option, none, some}
use Rattle.words.specs.Options.{map_some, map_both, traverse}
use Rattle.recipe.specs.Name.{variable, macro, Name, distinct}
use Rattle.recipe.specs.Tree.{Tree, name, pair, size, strip, is_list_of, element, tail, mark, produce, bind_all}
use Rattle.core_term.specs.Term.{Term, datum_c, if_c, lambda_c, application_c, more_c}
use Rattle.expansion.specs.Lookup.{lookup}
use Rattle.expansion.specs.Rules.{Rule, rules_of}
use Rattle.expansion.specs.Match.{first_fit}
use Rattle.expansion.specs.Transcribe.{equal_lengths, transcribe}
use Rattle.expansion.specs.Computation.{State, Events, Out, done, refused, starved, M, after, go_on, ◌>>=◌, ◌>>◌, give, show, test, or_refuse, get, add_variables, add_macros, add_step}
use Rattle.expansion.specs.Forms.{is_lambda, formals, is_macros, keywords, rules_forms, read_rules, expand_all, expand_quote, expand_if, expand_lambda, expand_macros, expand_use, expand_operands, expand_list, expand_name, expand_application, expand_pair, expand_tree}
use Rattle.turns.specs.Ends.{End, finished, end_of, then, needs, given, with_variables, with_macros, with_step}

-- ---- computations

pub end_of-after : {A : Type 0} (l : Events) (o : Out A) → end_of (after l o) ≡ end_of o
unfolding end_of after
end_of-after l (done a s k) = refl
end_of-after l (refused g s k) = refl
end_of-after l (starved k) = refl

end_of-go_on : {A B : Type 0} (f : A → M B) (o : Out A) → end_of (go_on f o) ≡ then (λ a t. end_of (f a t)) (end_of o)
unfolding end_of go_on then
end_of-go_on f (done a s l) = end_of-after l (f a s)
end_of-go_on f (refused g s l) = refl
end_of-go_on f (starved l) = refl

pub end_of-then : {A B : Type 0} (m : M A) (f : A → M B) (s : State) → end_of ((◌>>=◌ m f) s) ≡ then (λ a t. end_of (f a t)) (end_of (m s))
unfolding ◌>>=◌
end_of-then m f s = end_of-go_on f (m s)

end_of-next : {A B : Type 0} (m : M A) (n : M B) (s : State) → end_of ((◌>>◌ m n) s) ≡ then (λ a t. end_of (n t)) (end_of (m s))
unfolding ◌>>◌
end_of-next m n s = end_of-go_on (λ a. n) (m s)

end_of-test : {A : Type 0} (g : ℕ) (b : Bool) (n : M A) (s : State) → end_of ((◌>>◌ (test g b) n) s) ≡ needs g b s (end_of (n s))
unfolding test needs end_of then
end_of-test g true n s = end_of-next (test g true) n s
end_of-test g false n s = end_of-next (test g false) n s

end_of-show : {A : Type 0} (l : Events) (n : M A) (s : State) → end_of ((◌>>◌ (show l) n) s) ≡ end_of (n s)
unfolding show end_of then
end_of-show l n s = end_of-next (show l) n s

end_of-get : {A : Type 0} (f : State → M A) (s : State) → end_of ((◌>>=◌ get f) s) ≡ end_of (f s s)
unfolding get end_of then
end_of-get f s = end_of-then get f s

end_of-given : {A B : Type 0} (g : ℕ) (o : Option A) (f : A → M B) (s : State) → end_of ((◌>>=◌ (or_refuse g o) f) s) ≡ given g s (λ a. end_of (f a s)) o
unfolding or_refuse given end_of then
end_of-given g none f s = end_of-then (or_refuse g none) f s
end_of-given g (some a) f s = end_of-then (or_refuse g (some a)) f s

-- ---- rules

module _ (s : State) where
  abbrev pub Read : End (List (List Rule)) → Option (List (List Rule)) → Type 0
  Read e o = e ≡ given 15 s (λ rules. finished rules s) o

  read-later : (first : List Rule) (m : M (List (List Rule))) (o : Option (List (List Rule))) → Read (end_of (m s)) o → Read (end_of ((◌>>=◌ m (λ later. give (first ∷ later))) s)) (map_some (λ later. first ∷ later) o)
  unfolding give end_of given then map_some
  read-later first m o e = end_of-then m _ s ∙ ap (then (λ later t. end_of (give (first ∷ later) t))) e ∙ go o
    where
      go : (o : Option (List (List Rule))) → then (λ later t. end_of (give (first ∷ later) t)) (given 15 s (λ rules. finished rules s) o) ≡ given 15 s (λ rules. finished rules s) (map_some (λ later. first ∷ later) o)
      go none = refl
      go (some later) = refl

  read_first : (first : Option (List Rule)) (m : M (List (List Rule))) (o : Option (List (List Rule))) → Read (end_of (m s)) o
      → Read (given 15 s (λ a. end_of ((◌>>=◌ m (λ later. give (a ∷ later))) s)) first) (map_both ◌∷◌ first o)
  unfolding given map_both
  read_first none m o e = refl
  read_first (some a) m o e = read-later a m o e

  -- all rules of a form, or ground 15
  pub read_rules-end : (rs : List Tree) → Read (end_of (read_rules rs s)) (traverse rules_of rs)
  unfolding read_rules traverse give end_of given
  read_rules-end [] = refl
  read_rules-end (r ∷ rs) = end_of-show _ _ s ∙ end_of-given 15 (rules_of r) _ s ∙ read_first (rules_of r) (read_rules rs) (traverse rules_of rs) (read_rules-end rs)

-- ---- forms

module _ (limit : ℕ) (operations : List ℕ) (fuel : ℕ) (expand : Tree → M (Term Name)) where
  -- the end of an expression
  abbrev pub on : Tree → State → End (Term Name)
  on t s = end_of (expand t s)

  -- the elements of a list, from the left
  pub expand_all-pair : (h t : Tree) (s : State) → end_of (expand_all limit operations fuel expand (pair h t) s)
      ≡ then (λ a u. then (λ b v. finished (more_c a b) v) (end_of (expand_all limit operations fuel expand t u))) (on h s)
  unfolding expand_all give end_of
  expand_all-pair h t s = end_of-then (expand h) _ s ∙ ap (λ f. then f (on h s)) (λ i. λ a u. end_of-then (expand_all limit operations fuel expand t) (λ b. give (more_c a b)) u i)

  pub quote-end : (t : Tree) (s : State) → end_of (expand_quote limit operations fuel expand t s) ≡ needs 13 (is_list_of 2 t) s (finished (datum_c (strip (element 1 t))) s)
  unfolding expand_quote give end_of
  quote-end t s = end_of-test 13 (is_list_of 2 t) _ s ∙ ap (needs 13 (is_list_of 2 t) s) (end_of-show _ _ s)

  if-later : (t : Tree) (a : Term Name) (u : State)
      → end_of ((◌>>=◌ (expand (element 2 t)) (λ b. ◌>>=◌ (expand (element 3 t)) (λ c. give (if_c a b c)))) u)
      ≡ then (λ b v. then (λ c w. finished (if_c a b c) w) (on (element 3 t) v)) (on (element 2 t) u)
  unfolding give end_of
  if-later t a u =
      end_of-then (expand (element 2 t)) (λ b. ◌>>=◌ (expand (element 3 t)) (λ c. give (if_c a b c))) u
      ∙ ap (λ f. then f (on (element 2 t) u)) (λ i. λ b v. end_of-then (expand (element 3 t)) (λ c. give (if_c a b c)) v i)

  pub if-end : (t : Tree) (s : State) → end_of (expand_if limit operations fuel expand t s)
      ≡ needs 13 (is_list_of 4 t) s (then (λ a u. then (λ b v. then (λ c w. finished (if_c a b c) w) (on (element 3 t) v)) (on (element 2 t) u)) (on (element 1 t) s))
  unfolding expand_if
  if-end t s =
      end_of-test 13 (is_list_of 4 t) _ s
      ∙ ap (needs 13 (is_list_of 4 t) s) (end_of-then (expand (element 1 t)) _ s ∙ ap (λ f. then f (on (element 1 t) s)) (λ i. λ a u. if-later t a u i))

  pub lambda-end : (t : Tree) (s : State) → end_of (expand_lambda limit operations fuel expand t s)
      ≡ needs 13 (is_lambda t) s (needs 14 (distinct (formals t)) s (then (λ body u. finished (lambda_c s.variables (formals t) body) u)
      (on (bind_all variable s.variables (formals t) (element 2 t)) (with_variables (length (formals t)) s))))
  unfolding expand_lambda give end_of add_variables with_variables then
  lambda-end t s =
      end_of-test 13 (is_lambda t) _ s
      ∙ ap (needs 13 (is_lambda t) s) (end_of-test 14 (distinct (formals t)) _ s
      ∙ ap (needs 14 (distinct (formals t)) s) (end_of-get _ s ∙ end_of-show _ _ s ∙ end_of-next (add_variables (length (formals t))) _ s
      ∙ end_of-then (expand (bind_all variable s.variables (formals t) (element 2 t))) _ (with_variables (length (formals t)) s)))

  -- the names of a form's macros, bound
  unfoldable pub scope : Tree → State → Tree → Tree
  scope t s = bind_all macro (length s.macros) (keywords t)

  pub macros-end : (inside : Bool) (x : Name) (t : Tree) (s : State) → end_of (expand_macros limit operations fuel expand inside x t s)
      ≡ needs 13 (is_macros limit t) s (needs 14 (distinct (keywords t)) s
      (given 15 s (λ rules. on (scope t s (element 2 t)) (with_macros rules s)) (traverse rules_of (map (cond inside (scope t s) (λ r. r)) (rules_forms t)))))
  unfolding expand_macros end_of add_macros with_macros then given scope
  macros-end inside x t s =
      let forms = map (cond inside (bind_all macro (length s.macros) (keywords t)) (λ r. r)) (rules_forms t) in
      end_of-show _ _ s ∙ end_of-test 13 (is_macros limit t) _ s
      ∙ ap (needs 13 (is_macros limit t) s) (end_of-test 14 (distinct (keywords t)) _ s
      ∙ ap (needs 14 (distinct (keywords t)) s) (end_of-get _ s ∙ end_of-show _ _ s ∙ end_of-then (read_rules forms) _ s
      ∙ ap (then (λ rules u. end_of ((◌>>◌ (add_macros rules) (expand (bind_all macro (length s.macros) (keywords t) (element 2 t)))) u))) (read_rules-end s forms)
      ∙ go (traverse rules_of forms)))
    where
      go : (o : Option (List (List Rule))) → then (λ rules u. end_of ((◌>>◌ (add_macros rules) (expand (bind_all macro (length s.macros) (keywords t) (element 2 t)))) u)) (given 15 s (λ rules. finished rules s) o)
          ≡ given 15 s (λ rules. end_of (expand (bind_all macro (length s.macros) (keywords t) (element 2 t)) (with_macros rules s))) o
      go none = refl
      go (some rules) = end_of-next (add_macros rules) _ s

  -- a use, marked, without its first place
  unfoldable pub marked : Tree → State → Tree
  marked t s = tail (mark (suc s.steps) t)

  -- the result of the rule that matches, before it is marked
  unfoldable pub result : Tree → State → Rule → Tree
  result t s r = transcribe r.pattern (marked t s) [] r.template

  rule_end : (t : Tree) (s : State) (r : Rule)
      → end_of ((◌>>◌ (test 17 (equal_lengths r.pattern (marked t s) [] r.template))
      (◌>>◌ (test 18 (leb (s.sum + size (result t s r)) fuel)) (◌>>◌ (add_step (size (result t s r))) (expand (produce (mark (suc s.steps) (result t s r))))))) s)
      ≡ needs 17 (equal_lengths r.pattern (marked t s) [] r.template) s (needs 18 (leb (s.sum + size (result t s r)) fuel) s
      (on (produce (mark (suc s.steps) (result t s r))) (with_step (size (result t s r)) s)))
  unfolding end_of add_step with_step then
  rule_end t s r =
      let next = expand (produce (mark (suc s.steps) (result t s r))) in
      end_of-test 17 (equal_lengths r.pattern (marked t s) [] r.template) _ s
      ∙ ap (needs 17 (equal_lengths r.pattern (marked t s) [] r.template) s) (end_of-test 18 (leb (s.sum + size (result t s r)) fuel) (◌>>◌ (add_step (size (result t s r))) next) s
      ∙ ap (needs 18 (leb (s.sum + size (result t s r)) fuel) s) (end_of-next (add_step (size (result t s r))) next s))

  pub use-end : (n : ℕ) (t : Tree) (s : State) → end_of (expand_use limit operations fuel expand n t s)
      ≡ given 16 s (λ r. needs 17 (equal_lengths r.pattern (marked t s) [] r.template) s (needs 18 (leb (s.sum + size (result t s r)) fuel) s
      (on (produce (mark (suc s.steps) (result t s r))) (with_step (size (result t s r)) s)))) (first_fit (get_or s.macros n []) (marked t s)).1
  unfolding expand_use marked result
  use-end n t s =
      let found = (first_fit (get_or s.macros n []) (marked t s)).1 in
      end_of-get _ s ∙ end_of-show _ _ s ∙ end_of-given 16 found _ s
      ∙ ap (λ f. given 16 s f found) (λ i. λ r. rule_end t s r i)

  -- ---- lists and names

  pub operands_end : (head : Term Name) (t : Tree) (s : State) → end_of (expand_operands limit operations fuel expand head t s)
      ≡ then (λ b u. finished (application_c head b) u) (end_of (expand_all limit operations fuel expand t s))
  unfolding expand_operands give end_of
  operands_end head t s = end_of-then (expand_all limit operations fuel expand t) _ s

  pub application-end : (h t : Tree) (s : State) → end_of (expand_application limit operations fuel expand h t s)
      ≡ then (λ a u. then (λ b v. finished (application_c a b) v) (end_of (expand_all limit operations fuel expand t u))) (on h s)
  unfolding expand_application
  application-end h t s = end_of-then (expand h) _ s ∙ ap (λ f. then f (on h s)) (λ i. λ a u. operands_end a t u i)

  pub name-end : (x : Name) (s : State) → end_of (expand_tree limit operations fuel expand (name x) s) ≡ end_of (expand_name limit operations fuel expand (lookup operations x) s)
  unfolding expand_tree
  name-end x s = end_of-show _ _ s

  pub list-end : (x : Name) (t : Tree) (s : State) → end_of (expand_tree limit operations fuel expand (pair (name x) t) s) ≡ end_of (expand_list limit operations fuel expand (lookup operations x) x (pair (name x) t) s)
  unfolding expand_tree expand_pair
  list-end x t s = end_of-show _ _ s

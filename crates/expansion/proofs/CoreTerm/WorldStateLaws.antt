-- A world that is closed in a state: each of its macros has rules of the world. It stays closed as macros are added,
-- and forms widen it: a lambda by variables, let-syntax and letrec-syntax by macros.
use Rattle.std.specs.Prelude.{◌≡◌, ◌⊎◌, Bool, true, ◌&&◌, ◌||◌, false, cond, List, [], ◌++◌, map, ℕ, ◌+◌, ◌-◌, ◌≤◌, ◌<◌, ltb, leb, length, get_or}
use Rattle.std.proofs.Common.{ap, sym, ◌∙◌, subst, inl, inr, append-nil, append_assoc, arith, length-append, get_or-append-add, leb-true, ltb-true, le-leb, lt-ltb}
use Rattle.std.proofs.Math.ListN.{get_or-append}
use Rattle.words.specs.TestLaws.{and_parts, and_both, or_left, or_right, or_cases}
use Rattle.words.specs.Each.{Each, none_of, each_weaken, each-get_d, each_map}
use Rattle.recipe.specs.Name.{variable, macro, Name}
use Rattle.recipe.specs.Tree.{Tree, bind_all}
use Rattle.recipe.specs.Tidy.{tidy-weaken, tidy-bind_all}
use Rattle.core_term.specs.Term.{variables}
use Rattle.core_term.specs.Check.{inside}
use Rattle.expansion.specs.Rules.{Rule}
use Rattle.expansion.specs.Computation.{State}
use Rattle.expansion.specs.CoreTerm.Worlds.{FineRules, World, Within, reaches_variable, reaches_macro, FineTree}
use Rattle.expansion.proofs.CoreTerm.WorldsLaws.{fine-within, fine-give}
use Rattle.expansion.proofs.TidyRulesLaws.{template-weaken}
use Rattle.expansion.specs.CoreTerm.WorldState.{Closed, Grown, widen, with_macros, with_variables}

-- ---- states

pub grown-same : {s u : State} → u.macros ≡ s.macros → Grown s u
grown-same {s} e = record { more = []; macros = e ∙ sym (append-nil s.macros) }

pub grown-then : {s t u : State} → Grown s t → Grown t u → Grown s u
grown-then {s} {t} {u} p q =
    record { more = p.more ++ q.more; macros = q.macros ∙ ap (λ (l : List (List Rule)). l ++ q.more) p.macros ∙ append_assoc s.macros p.more q.more }

pub closed-grown : {W : World} {s u : State} → Closed W s → Grown s u → Closed W u
closed-grown {W} {s} {u} c g = record {
  begun = λ n h. subst (λ (l : List (List Rule)). n < length l) (sym g.macros) (simp length-append (omega (arith, c.begun n h)));
  rules = λ n h. subst (λ (l : List (List Rule)). FineRules W (get_or l n [])) (sym g.macros) (subst (FineRules W) (sym (get_or-append s.macros g.more [] n (c.begun n h))) (c.rules n h));
}

-- ---- worlds inside forms

pub widen-new : (k n : ℕ) (f : ℕ → Bool) (j : ℕ) → k ≤ j → j < k + n → widen k n f j ≡ true
unfolding widen
widen-new k n f j h l = or_left (leb k j && ltb j (k + n)) (f j) (and_both (leb k j) (ltb j (k + n)) (le-leb k j h) (lt-ltb j (k + n) l))

widen-old : (k n : ℕ) (f : ℕ → Bool) (j : ℕ) → f j ≡ true → widen k n f j ≡ true
unfolding widen
widen-old k n f j e = or_right (leb k j && ltb j (k + n)) (f j) e

widen-cases : (k n : ℕ) (f : ℕ → Bool) (j : ℕ) → widen k n f j ≡ true → ((k ≤ j) × (j < k + n)) ⊎ (f j ≡ true)
unfolding widen
widen-cases k n f j e = go (or_cases (leb k j && ltb j (k + n)) (f j) e)
  where
    go : ((leb k j && ltb j (k + n)) ≡ true) ⊎ (f j ≡ true) → ((k ≤ j) × (j < k + n)) ⊎ (f j ≡ true)
    go (inl p) = let q = and_parts (leb k j) (ltb j (k + n)) p in inl (leb-true k j q.0, ltb-true j (k + n) q.1)
    go (inr p) = inr p

pub variables-within : (k n : ℕ) (W : World) → Within W (with_variables k n W)
unfolding with_variables
variables-within k n W = record { name = λ j e. e; variable = widen-old k n W.variables; macro = λ j e. e }

pub macros-within : (k n : ℕ) (W : World) → Within W (with_macros k n W)
unfolding with_macros
macros-within k n W = record { name = λ j e. e; variable = λ j e. e; macro = widen-old k n W.macros }

-- a tree in the scope of new variables, and of new macros
pub variables-fine : (k : ℕ) (xs : List Name) {W : World} {t : Tree} → FineTree W t → FineTree (with_variables k (length xs) W) (bind_all variable k xs t)
unfolding with_variables
variables-fine k xs {W} f =
    tidy-bind_all variable k xs (λ j h l. fine-give (variable j) (reaches_variable (widen-new k (length xs) W.variables j h l)))
    (tidy-weaken (fine-within (variables-within k (length xs) W)) f)

pub macros-fine : (k : ℕ) (xs : List Name) {W : World} {t : Tree} → FineTree W t → FineTree (with_macros k (length xs) W) (bind_all macro k xs t)
unfolding with_macros
macros-fine k xs {W} f =
    tidy-bind_all macro k xs (λ j h l. fine-give (macro j) (reaches_macro (widen-new k (length xs) W.macros j h l)))
    (tidy-weaken (fine-within (macros-within k (length xs) W)) f)

-- rules forms, in the scope of their macros or not
pub forms-fine : (inside : Bool) (k : ℕ) (xs : List Name) {W : World} {rs : List Tree} → Each (FineTree W) rs → Each (FineTree (with_macros k (length xs) W)) (map (cond inside (bind_all macro k xs) (λ r. r)) rs)
forms-fine true k xs fs = each_map _ (λ r. macros-fine k xs) fs
forms-fine false k xs {W} fs = each_map _ (λ r. tidy-weaken (fine-within (macros-within k (length xs) W))) fs

rules-within : {W W' : World} {rules : List Rule} → Within W W' → FineRules W rules → FineRules W' rules
rules-within i f = each_weaken (λ r g. template-weaken (fine-within i) g) f

pub closed-variables : (k n : ℕ) {W : World} {s : State} → Closed W s → Closed (with_variables k n W) s
unfolding with_variables
closed-variables k n {W} c = record { begun = c.begun; rules = λ j h. rules-within (variables-within k n W) (c.rules j h) }

-- after new macros with these rules
pub closed-macros : {W : World} {s u : State} (n : ℕ) (new : List (List Rule)) → Closed W s → n ≤ length new → Each (FineRules (with_macros (length s.macros) n W)) new
    → u.macros ≡ s.macros ++ new → Closed (with_macros (length s.macros) n W) u
unfolding with_macros
closed-macros {W} {s} {u} n new c h f e = record {
  begun = λ j w. subst (λ (l : List (List Rule)). j < length l) (sym e) (simp length-append (begun j (widen-cases k n W.macros j w)));
  rules = λ j w. subst (λ (l : List (List Rule)). FineRules W' (get_or l j [])) (sym e) (rules j (widen-cases k n W.macros j w));
}
  where
    k : ℕ
    k = length s.macros

    W' : World
    W' = with_macros k n W

    begun : (j : ℕ) → ((k ≤ j) × (j < k + n)) ⊎ (W.macros j ≡ true) → j < length s.macros + length new
    begun j (inl p) = omega arith
    begun j (inr p) = omega (arith, c.begun j p)

    rules : (j : ℕ) → ((k ≤ j) × (j < k + n)) ⊎ (W.macros j ≡ true) → FineRules W' (get_or (s.macros ++ new) j [])
    rules j (inl p) =
        let at : j ≡ k + (j - k) = omega arith in
        subst (λ i. FineRules W' (get_or (s.macros ++ new) i [])) (sym at) (subst (FineRules W') (sym (get_or-append-add s.macros new (j - k) [])) (each-get_d (j - k) [] f none_of))
    rules j (inr p) = subst (FineRules W') (sym (get_or-append s.macros new [] j (c.begun j p))) (rules-within (macros-within k n W) (c.rules j p))

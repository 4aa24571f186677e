-- Laws of matching on cells, one for each way through the code.
use Rattle.std.specs.Prelude.{◌≡◌, Some, None, Bool, true, ◌&&◌, List, ◌⊎◌, ℕ, suc, ◌≤◌, leb, length}
use Rattle.std.proofs.Math.Path.{refl, sym, ap}
use Rattle.std.proofs.Common.{ap₂, ◌∙◌, inl, inr}
use Rattle.std.proofs.Math.Bool.{false}
use Rattle.std.proofs.Math.Option.{Option, some}
use native.Mathlib.Omega.{arith}
use Rattle.std.proofs.Math.Dec.{eqb}
use borrow.Author.Tests.{eq-eqb, ne_eqb}
use Rattle.datum.specs.Constant.{matches}
use Rattle.datum.specs.ConstantLaws.{made}
use Rattle.recipe.specs.Name.{Name}
use Rattle.recipe.specs.Tree.{Tree, on_empty, on_constant, on_name, on_pair, elements, tail}
use Rattle.expansion.specs.Rules.{Pattern, Rule, literal_p, constant_p, empty_p, pair_p}
use Rattle.expansion.specs.Match.{Fit, fitting, misfit, and_then, both_fit, share, enough, each_fits, fit, or_next, first_fit}
use Rattle.arena.specs.Arena.{word_at, reference_at, name_at, constant_at, tree_at}
use Rattle.arena.specs.ArenaLaws.{binding_key-of, reference_at-most}
use Rattle.arena.specs.NodeLaws.{tree_at-empty, tree_at-name, tree_at-pair, tree_at-constant}
use Rattle.resolution.specs.Names.{Agrees}
use Rattle.arena.specs.ListLaws.{tree-cases, no-pair, rest_some}
use Rattle.rule_cells.specs.Cells.{constant_before, literal_at, pattern_at, rule_at, rules_at}
use Rattle.rule_cells.specs.CellLaws.{pattern_at-variable, pattern_at-literal, pattern_at-wildcard, pattern_at-constant, pattern_at-pair, pattern_at-ellipsis, pattern_at-empty, rules_at-none, rules_at-more}
use Rattle.environments.specs.Parts.{LooksAhead}
use Rattle.environments.specs.ShareLaws.{AheadBy, takes_none, takes_one, node-pair, ahead_more}
use Rattle.steps.specs.Fits.{Fits, LiteralFits, ConstantFits, rule_or, FirstFit}

-- ---- both fit

and_then-fits : (l : List Name) (b : Bool) (g : Fit) → (and_then l b g).1 ≡ (b && g.1)
unfolding and_then
and_then-fits l true g = refl
and_then-fits l false g = refl

both_fit-fits : (f g : Fit) → (both_fit f g).1 ≡ (f.1 && g.1)
unfolding both_fit
both_fit-fits f g = and_then-fits f.0 f.1 g

-- ---- what a node is matched with

module _ (work : List ℕ) (u w kind : ℕ) (kind-is : kind ≡ word_at work u 3) where
  pub literal-no-name : (p : ℕ) → (kind ≡ 3 → ⊥) → LiteralFits work p u w false
  unfolding fit on_name misfit
  literal-no-name p other =
      tree-cases work u w (λ t. false ≡ (fit (literal_p (literal_at work p)) t).1) (λ z. refl) (λ z. absurd (other (kind-is ∙ z))) (λ z. refl) (λ a b c. refl)

  pub literal-name : (p number binding : ℕ) (r : Bool) → kind ≡ 3 → number ≡ word_at work p 3 → binding ≡ word_at work p 2 → Agrees number binding (name_at work u w) r → LiteralFits work p u w r
  unfolding fit on_name literal_at
  literal-name p number binding r e h l a = rw (tree_at-name work u w (sym kind-is ∙ e)) (a (literal_at work p) (sym h) (binding_key-of _ ∙ sym l))

  pub pair-no-pair : (p : ℕ) (q s : Pattern) → (kind ≡ 4 → ⊥) → false ≡ (fit (pair_p q s) (tree_at work u w)).1
  unfolding fit on_pair misfit
  pair-no-pair p q s other = no-pair work u kind kind-is (λ t. false ≡ (fit (pair_p q s) t).1) refl (λ x. refl) (λ a. refl) other w

  pub pair-pair : (q s : Pattern) → kind ≡ 4 → (fit (pair_p q s) (tree_at work u w)).1 ≡ ((fit q (tree_at work (reference_at work u 2) w)).1 && (fit s (tree_at work (reference_at work u 1) w)).1)
  unfolding fit on_pair
  pair-pair q s e = rw (tree_at-pair work u w (sym kind-is ∙ e)) (both_fit-fits _ _)

  each-pair : (q s : Pattern) (c : ℕ) → kind ≡ 4 → (each_fits (fit q) (fit s) (suc c) (tree_at work u w)).1 ≡ ((fit q (tree_at work (reference_at work u 2) w)).1 && (each_fits (fit q) (fit s) c (tree_at work (reference_at work u 1) w)).1)
  unfolding each_fits on_pair
  each-pair q s c e = rw (tree_at-pair work u w (sym kind-is ∙ e)) (both_fit-fits _ _)

  pub empty-fits : eqb kind 0 ≡ (fit empty_p (tree_at work u w)).1
  unfolding fit on_empty fitting misfit
  empty-fits =
      tree-cases work u w (λ t. eqb kind 0 ≡ (fit empty_p t).1)
      (λ z. eq-eqb kind 0 (kind-is ∙ z)) (λ z. ne_eqb kind 0 (λ y. omega arith)) (λ z. ne_eqb kind 0 (λ y. omega arith)) (λ a b c. ne_eqb kind 0 (λ y. a (sym kind-is ∙ y)))

  -- ---- constants

  module _ (p : ℕ) where
    abbrev Against : Tree → Type 0
    Against t = false ≡ (fit (constant_p (constant_before work p)) t).1

    pub constant-empty : kind ≡ 0 → Against (tree_at work u w)
    unfolding fit on_constant misfit
    constant-empty e = rw (tree_at-empty work u w (sym kind-is ∙ e)) refl

    pub constant-name : kind ≡ 3 → Against (tree_at work u w)
    unfolding fit on_constant misfit
    constant-name e = rw (tree_at-name work u w (sym kind-is ∙ e)) refl

    pub constant-pair : kind ≡ 4 → Against (tree_at work u w)
    unfolding fit on_constant misfit
    constant-pair e = rw (tree_at-pair work u w (sym kind-is ∙ e)) refl

    pub constant-constant : (kind ≡ 0 → ⊥) → (kind ≡ 3 → ⊥) → (kind ≡ 4 → ⊥) → (fit (constant_p (constant_before work p)) (tree_at work u w)).1 ≡ matches (constant_before work p) (constant_at work u)
    unfolding fit on_constant
    constant-constant a b c = rw (tree_at-constant work u w (λ z. a (kind-is ∙ z)) (λ z. b (kind-is ∙ z)) (λ z. c (kind-is ∙ z)))

module _ (work : List ℕ) (p u kind : ℕ) (kind-is : kind ≡ word_at work u 3) where
  pub constant-no : (kind ≡ 0) ⊎ ((kind ≡ 3) ⊎ (kind ≡ 4)) → ConstantFits work p u false
  constant-no (inl e) w = constant-empty work u w kind kind-is p e
  constant-no (inr (inl e)) w = constant-name work u w kind kind-is p e
  constant-no (inr (inr e)) w = constant-pair work u w kind kind-is p e

  -- by the words of both
  pub constant-matches : (kind ≡ 0 → ⊥) → (kind ≡ 3 → ⊥) → (kind ≡ 4 → ⊥) → (k x y v z : ℕ) → k ≡ word_at work p 4 → x ≡ word_at work p 3 → y ≡ word_at work p 2
      → v ≡ word_at work u 2 → z ≡ word_at work u 1 → (r : Bool) → r ≡ matches (made k x y) (made kind v z) → ConstantFits work p u r
  unfolding constant_before constant_at
  constant-matches a b c k x y v z k-is x-is y-is v-is z-is r e w =
      e ∙ rw (k-is, x-is, y-is, v-is, z-is, kind-is) (sym (constant-constant work u w kind kind-is p a b c))

-- ---- patterns

-- one pattern fits one node where another fits another
abbrev pub Same : (work : List ℕ) (w p u s v : ℕ) → Type 0
Same work w p u s v = (fit (pattern_at work p) (tree_at work u w)).1 ≡ (fit (pattern_at work s) (tree_at work v w)).1

module _ (work : List ℕ) (p tag : ℕ) (tag_is : tag ≡ word_at work p 1) (u w : ℕ) where
  pub fits-variable : tag ≡ 1 → Fits work p u w true
  unfolding fit fitting
  fits-variable e = rw (pattern_at-variable work p (sym tag_is ∙ e)) refl

  pub fits-wildcard : tag ≡ 3 → Fits work p u w true
  unfolding fit fitting
  fits-wildcard e = rw (pattern_at-wildcard work p (sym tag_is ∙ e)) refl

  pub fits-literal : (r : Bool) → tag ≡ 2 → LiteralFits work p u w r → Fits work p u w r
  fits-literal r e c = rw (pattern_at-literal work p (sym tag_is ∙ e)) c

  pub fits-constant : (r : Bool) → tag ≡ 4 → ConstantFits work p u r → Fits work p u w r
  fits-constant r e c = rw (pattern_at-constant work p (sym tag_is ∙ e)) (c w)

  module _ (kind : ℕ) (kind-is : kind ≡ word_at work u 3) where
    pub fits-no-pair : tag ≡ 6 → (kind ≡ 4 → ⊥) → Fits work p u w false
    fits-no-pair t other = rw (pattern_at-pair work p (sym tag_is ∙ t)) (pair-no-pair work u w kind kind-is p _ _ other)

    module _ (q h : ℕ) (b : Bool) (t : tag ≡ 6) (k : kind ≡ 4) (q-is : q ≡ reference_at work p 3) (h-is : h ≡ reference_at work u 2) (head : Fits work q h w b) where
      head_first : (fit (pattern_at work p) (tree_at work u w)).1 ≡ (b && (fit (pattern_at work (reference_at work p 2)) (tree_at work (reference_at work u 1) w)).1)
      head_first =
          ap (λ (x : Pattern). (fit x (tree_at work u w)).1) (pattern_at-pair work p (sym tag_is ∙ t)) ∙ pair-pair work u w kind kind-is _ _ k ∙ rw (← q-is, ← h-is, ← head) refl

      pub fits-head-no : b ≡ false → Fits work p u w false
      fits-head-no e = sym (head_first ∙ rw e refl)

      pub fits-tail : (s v : ℕ) → b ≡ true → s ≡ reference_at work p 2 → v ≡ reference_at work u 1 → Same work w p u s v
      fits-tail s v e s-is v-is = head_first ∙ rw (e, ← s-is, ← v-is) refl

    pub fits-empty : (tag ≡ 1 → ⊥) → (tag ≡ 2 → ⊥) → (tag ≡ 3 → ⊥) → (tag ≡ 4 → ⊥) → (word_at work p 1 ≡ 6 → ⊥) → (tag ≡ 7 → ⊥) → Fits work p u w (eqb kind 0)
    fits-empty n1 n2 n3 n4 n6 n7 =
        rw (pattern_at-empty work p (λ z. n1 (tag_is ∙ z)) (λ z. n2 (tag_is ∙ z)) (λ z. n3 (tag_is ∙ z)) (λ z. n4 (tag_is ∙ z)) n6 (λ z. n7 (tag_is ∙ z)))
        (empty-fits work u w kind kind-is)

-- ---- along the pattern's list

-- the pattern fits the use where the rest of its list fits the node
pub record Along (work : List ℕ) (p u w at node : ℕ) : Type 0 where
  pub is : Same work w p u at node
  pub low : at ≤ p

module _ (work : List ℕ) (p u w : ℕ) where
  pub along-begins : Along work p u w p u
  along-begins = record { is = refl; low = omega arith }

  module _ (at node : ℕ) (inv : Along work p u w at node) where
    pub along-ends : (r : Bool) → Fits work at node w r → Fits work p u w r
    along-ends r c = c ∙ sym inv.is

    pub along-more : (s v : ℕ) → s ≡ reference_at work at 2 → Same work w at node s v → Along work p u w s v
    along-more s v s-is e = record { is = inv.is ∙ e; low = omega (arith, inv.low, reference_at-most work at 2) }

-- ---- the elements that an ellipsis takes, and then the rest

module _ (work : List ℕ) (p : ℕ) where
  abbrev taken : Pattern
  taken = pattern_at work (reference_at work p 3)

  abbrev following : Pattern
  following = pattern_at work (reference_at work p 2)

  -- whether the elements that the ellipsis takes of a list fit, and then the rest
  abbrev from : Tree → Bool
  from t = (each_fits (fit taken) (fit following) (share (word_at work p 4) t) t).1

-- the ellipsis fits the list where the node's elements fit; the second node is ahead by as many elements as follow
pub record Matched (work : List ℕ) (p list w node ahead : ℕ) : Type 0 where
  pub is : (fit (pattern_at work p) (tree_at work list w)).1 ≡ from work p (tree_at work node w)
  pub is-ahead : AheadBy work (word_at work p 4) node ahead

module _ (work : List ℕ) (p list w : ℕ) where
  module _ (ellipsis : word_at work p 1 ≡ 7) where
    counted-first : (fit (pattern_at work p) (tree_at work list w)).1 ≡ (leb (word_at work p 4) (length (elements (tree_at work list w))) && from work p (tree_at work list w))
    unfolding fit enough
    counted-first = rw (pattern_at-ellipsis work p ellipsis) (both_fit-fits _ _)

    pub each-short : LooksAhead work p list None → Fits work p list w false
    each-short short = sym (counted-first ∙ rw (short w) refl)

    pub each-begins : (ahead : ℕ) → LooksAhead work p list (Some ahead) → Matched work p list w list ahead
    each-begins ahead enough = record { is = counted-first ∙ rw (enough.0 w) refl; is-ahead = enough.1.is }

  module _ (node ahead kind : ℕ) (kind-is : kind ≡ word_at work ahead 3) (inv : Matched work p list w node ahead) where
    pub each-ends : (rest : ℕ) (r : Bool) → (kind ≡ 4 → ⊥) → rest ≡ reference_at work p 2 → Fits work rest node w r → Fits work p list w r
    unfolding each_fits
    each-ends rest r other f c =
        c
        ∙ sym (inv.is
        ∙ ap (λ (n : ℕ). (each_fits (fit (taken work p)) (fit (following work p)) n (tree_at work node w)).1) (takes_none work (word_at work p 4) node ahead kind kind-is inv.is-ahead other w)
        ∙ ap (λ (q : ℕ). (fit (pattern_at work q) (tree_at work node w)).1) (sym f))

    module _ (element h : ℕ) (b : Bool) (one : kind ≡ 4) (element-is : element ≡ reference_at work p 3) (h-is : h ≡ reference_at work node 2) (head : Fits work element h w b) (next : ℕ) (next-is : next ≡ reference_at work node 1) where
      a-node : word_at work node 3 ≡ 4
      a-node = node-pair work (word_at work p 4) node ahead kind kind-is inv.is-ahead one

      head-is : (fit (taken work p) (tree_at work (reference_at work node 2) w)).1 ≡ b
      head-is = rw (← element-is, ← h-is) (sym head)

      tail-is : (each_fits (fit (taken work p)) (fit (following work p)) (share (word_at work p 4) (tail (tree_at work node w))) (tree_at work (reference_at work node 1) w)).1 ≡ from work p (tree_at work next w)
      tail-is = rw (← next-is, ← (rest_some work node (word_at work node 3) refl a-node next next-is).is w) refl

      then_is : (fit (pattern_at work p) (tree_at work list w)).1 ≡ (b && from work p (tree_at work next w))
      then_is =
          inv.is
          ∙ ap (λ (c : ℕ). (each_fits (fit (taken work p)) (fit (following work p)) c (tree_at work node w)).1) (takes_one work (word_at work p 4) node ahead kind kind-is inv.is-ahead one w)
          ∙ each-pair work node w (word_at work node 3) refl (taken work p) (following work p) _ a-node
          ∙ ap₂ ◌&&◌ head-is tail-is

      pub each-no : b ≡ false → Fits work p list w false
      each-no f = sym (then_is ∙ rw f refl)

      pub each_more : (further : ℕ) → b ≡ true → further ≡ reference_at work ahead 1 → Matched work p list w next further
      each_more further f further-is =
          record {
            is = then_is ∙ rw f refl;
            is-ahead = ahead_more work (word_at work p 4) node ahead kind kind-is inv.is-ahead one next further next-is further-is;
          }

-- ---- rules

-- the first of the rules that fits is the first from this rule on
pub record Tried (work : List ℕ) (rules u w rule : ℕ) : Type 0 where
  pub is : (first_fit (rules_at work rules) (tree_at work u w)).1 ≡ (first_fit (rules_at work rule) (tree_at work u w)).1
  pub low : rule ≤ rules

or_next-yes : (r : Rule) (l : List Name) (b : Bool) (later : List Name × Option Rule) → b ≡ true → (or_next r l b later).1 ≡ some r
unfolding or_next
or_next-yes r l true later e = refl
or_next-yes r l false later e = let z : ◌≡◌ {A = ℕ} 0 1 = cc in absurd (omega arith)

or_next-no : (r : Rule) (l : List Name) (b : Bool) (later : List Name × Option Rule) → b ≡ false → (or_next r l b later).1 ≡ later.1
unfolding or_next
or_next-no r l false later e = refl
or_next-no r l true later e = let z : ◌≡◌ {A = ℕ} 0 1 = cc in absurd (omega arith)

module _ (work : List ℕ) (rules u w : ℕ) where
  pub tried-begins : Tried work rules u w rules
  tried-begins = record { is = refl; low = omega arith }

  module _ (rule : ℕ) (inv : Tried work rules u w rule) where
    pub tried-ends : rule ≡ 0 → FirstFit work rules u w None
    unfolding rule_or first_fit
    tried-ends e = record { is = sym (inv.is ∙ rw (rules_at-none work rule e) refl); low = tt }

    module _ (p : ℕ) (b : Bool) (more : rule ≡ 0 → ⊥) (p-is : p ≡ reference_at work rule 3) (fitted : Fits work p u w b) where
      pub tried-fits : b ≡ true → FirstFit work rules u w (Some rule)
      unfolding rule_or first_fit rule_at
      tried-fits e =
          record {
            is = sym (inv.is ∙ rw (rules_at-more work rule (omega arith)) (or_next-yes _ _ _ _ (ap (λ (q : ℕ). (fit (pattern_at work q) (tree_at work u w)).1) (sym p-is) ∙ sym fitted ∙ e)));
            low = inv.low;
          }

      pub tried-more : (next : ℕ) → b ≡ false → next ≡ reference_at work rule 1 → Tried work rules u w next
      unfolding first_fit rule_at
      tried-more next e n =
          record {
            is = inv.is ∙ rw (rules_at-more work rule (omega arith), n) (or_next-no _ _ _ _ (ap (λ (q : ℕ). (fit (pattern_at work q) (tree_at work u w)).1) (sym p-is) ∙ sym fitted ∙ e));
            low = omega (arith, inv.low, reference_at-most work rule 1);
          }

-- Macros and states of two runs that agree: equal counts, and rules whose names are related.
use Rattle.std.specs.Prelude.{◌≡◌, refl, List, [], ◌∷◌, ◌++◌, ℕ, zero, suc, ◌≤◌, length, get_or}
use Rattle.std.proofs.Common.{ap}
use Rattle.std.proofs.Math.Option.{Option, none, some}
use Rattle.expansion.specs.Rules.{Rule}
use Rattle.simulation.specs.Relations.{ListRel, ends, joins}
use Rattle.simulation.specs.Shapes.{RuleOf}
use Rattle.simulation.proofs.ShapesLaws.{pattern-map}
use Rattle.simulation.specs.Marks.{Kind, Below}
use Rattle.simulation.proofs.MarksLaws.{older-le}
use Rattle.simulation.specs.Likeness.{Likeness}
use Rattle.simulation.specs.States.{MacrosRel, RuleRel, RulesRel, no-macro, no-rule, rule, with}

module _ (L : Likeness) where
  -- a rule chosen in both runs, or in neither
  pub data RuleOption (k : ℕ) : Option Rule → Option Rule → Type 1 where
    no_one : RuleOption k none none
    this : {r s : Rule} → (RuleRel L) k r s → RuleOption k (some r) (some s)

  -- ---- macros

  rules-up : (k l : ℕ) → k ≤ l → {r s : List Rule} → (RulesRel L) k r s → (RulesRel L) l r s
  rules-up k l h no-rule = no-rule
  rules-up k l h (rule q rs) = rule (record { kind = q.kind; coherent = q.coherent; below = λ j i b ms x. older-le k l ms h (q.below j i b ms x); pattern = q.pattern; template = q.template }) (rules-up k l h rs)

  pub macros-up : (k l : ℕ) → k ≤ l → {r s : List (List Rule)} → (MacrosRel L) k r s → (MacrosRel L) l r s
  macros-up k l h no-macro = no-macro
  macros-up k l h (with r rs) = with (rules-up k l h r) (macros-up k l h rs)

  pub macros-length : {k : ℕ} {r s : List (List Rule)} → (MacrosRel L) k r s → length r ≡ length s
  macros-length no-macro = refl
  macros-length (with r rs) = ap suc (macros-length rs)

  pub macros-append : {k : ℕ} {r s t u : List (List Rule)} → (MacrosRel L) k r s → (MacrosRel L) k t u → (MacrosRel L) k (r ++ t) (s ++ u)
  macros-append no-macro q = q
  macros-append (with r rs) q = with r (macros-append rs q)

  pub macro-at : {k : ℕ} {r s : List (List Rule)} → (MacrosRel L) k r s → (j : ℕ) → (RulesRel L) k (get_or r j []) (get_or s j [])
  macro-at no-macro j = no-rule
  macro-at (with r rs) zero = r
  macro-at (with r rs) (suc j) = macro-at rs j

  -- the rules that a form reads
  module _ (k : ℕ) (Q : Kind) (co : L.Coherent Q) (rd : L.Ready Q) (b : Below k Q) where
    new-rules : {r s : List Rule} → ListRel (RuleOf (L.Rel Q) (L.Rel Q)) r s → (RulesRel L) k r s
    new-rules ends = no-rule
    new-rules (joins r rs) = rule (record { kind = Q; coherent = co; below = b; pattern = pattern-map (L.literal-rel Q rd) r.pattern; template = r.template }) (new-rules rs)

    pub new-macros : {r s : List (List Rule)} → ListRel (ListRel (RuleOf (L.Rel Q) (L.Rel Q))) r s → (MacrosRel L) k r s
    new-macros ends = no-macro
    new-macros (joins r rs) = with (new-rules r) (new-macros rs)

-- Laws of parsing rules, one for each way through the code.
use Rattle.std.specs.Prelude.{◌≡◌, Bool, true, false, List, [], ◌∷◌, ℕ, ◌+◌, ◌*◌, ◌^◌, ◌≤◌, ◌<◌, length, take, Some, None}
use Rattle.std.proofs.Math.Path.{refl, ap, subst}
use Rattle.std.proofs.Common.{sym, ap₂, ◌∙◌, append-nil, arith}
use Rattle.std.proofs.Math.Option.{Option, none, some}
use Rattle.words.specs.Lists.{all_of}
use Rattle.words.specs.Options.{only_if, map_some, map_both}
use Rattle.recipe.specs.Name.{Name, distinct}
use Rattle.recipe.specs.Tree.{Tree, size, names}
use Rattle.expansion.specs.Rules.{Pattern, Template, Rule, as_element, are_variables, variables, pattern_of, template_of}
use Rattle.arena.specs.Arena.{tree_at}
use Rattle.words.specs.ListLaws.{either}
use Rattle.arena.specs.ArenaLaws.{take_less}
use Rattle.arena.specs.Cells.{Room}
use Rattle.arena.specs.CellLaws.{tree-kept}
use Rattle.rule_cells.specs.Cells.{pattern_at, template_at, rules_at}
use Rattle.rule_cells.specs.Made.{Made}
use Rattle.rule_cells.specs.MadeLaws.{pattern-kept, rules-kept}
use Rattle.rule_cells.specs.Dots.{dots_at, DotsBelow, dots-higher, dots-kept}
use Rattle.rule_cells.specs.Variables.{variables_from, Held, Under, Stored, Gathered}
use Rattle.rule_cells.specs.declared.rules_form.Form.{Form}
use Rattle.rule_cells.specs.declared.rules.Parsed.{Parsed}
use Rattle.std.specs.declared.option.Option as code
use Rattle.rule_cells.specs.Parse.{Asks, PatternMade, PatternLeft, TemplateMade, TemplateLeft}
use Rattle.rule_cells.specs.TemplateLaws.{variables-kept}
use Rattle.rule_cells.specs.RuleParse.{parts_of, PartsAsk, RuleLeft}
use Rattle.rule_cells.specs.declared.patterns.ParsedPattern.{ParsedPattern}

-- ---- a rule's parts

module _ (dots : Name → Bool) (literals : List Name) (p q : Tree) where
  abbrev vs : List (Name × ℕ)
  vs = variables dots literals 0 p

  parts-variables : are_variables vs ≡ false → parts_of dots literals p q ≡ none
  unfolding parts_of only_if
  parts-variables e = rw e refl

  parts-pattern : pattern_of dots literals 0 false p ≡ none → parts_of dots literals p q ≡ none
  unfolding parts_of only_if map_both
  parts-pattern e = rw e (either (are_variables vs) (λ t. rw t refl) (λ t. rw t refl))

  parts-template : (x : Pattern) → pattern_of dots literals 0 false p ≡ some x → template_of dots vs 0 as_element q ≡ none → parts_of dots literals p q ≡ none
  unfolding parts_of only_if map_both map_some
  parts-template x e f = rw (e, f) (either (are_variables vs) (λ t. rw t refl) (λ t. rw t refl))

  parts-both : (x : Pattern) (y : Template) → are_variables vs ≡ true → pattern_of dots literals 0 false p ≡ some x → template_of dots vs 0 as_element q ≡ some y → parts_of dots literals p q ≡ some (record { pattern = x; template = y })
  unfolding parts_of only_if map_both map_some
  parts-both x y v e f = rw (v, e, f) refl

-- the table holds nothing at first
pub held_none : (work : List ℕ) (w : ℕ) (vars : List ℕ) → Held work w vars 0
unfolding variables_from are_variables distinct all_of
held_none work w vars = record { most = omega arith; good = refl }

module _ {old : List ℕ} {form : Form} {p q next top : ℕ} (ask : PartsAsk old form p q next top) where
  abbrev ds : Name → Bool
  ds = dots_at old form.dots form.wrap

  abbrev listed : List Name
  listed = names (tree_at old form.literals form.wrap)

  abbrev pt : Tree
  pt = tree_at old p form.wrap

  abbrev qt : Tree
  qt = tree_at old q form.wrap

  abbrev s : ℕ
  s = size pt + size qt + 1

  abbrev o : Option Rule
  o = parts_of ds listed pt qt

  pub small-p : 0 + p < 2 ^ 32
  small-p = omega (arith, ask.p-below, ask.room.small)

  pub asks-p : Asks old p form.wrap top
  asks-p =
      record {
        node-below = ask.p-below;
        wrap-below = ask.wrap-below;
        room = record { fits = omega (arith, ask.room.fits); small = omega (arith, ask.room.small) };
      }

  pub small_size : 0 + size pt < 2 ^ 32
  small_size = omega (arith, ask.room.small)

  pub left-variables : (vars new : List ℕ) (r : code.Option ℕ) → r ≡ None → Gathered (variables ds listed 0 pt) old form.wrap p 0 vars new r → RuleLeft o s old old next top None
  unfolding variables_from
  left-variables vars new r b g =
      let h : Gathered (variables ds listed 0 pt) old form.wrap p 0 vars new None = subst (λ (z : code.Option ℕ). Gathered (variables ds listed 0 pt) old form.wrap p 0 vars new z) b g in
      (parts-variables ds listed pt qt (ap are_variables (sym (append-nil (variables ds listed 0 pt))) ∙ h []), refl)

  pub left-pattern : (mid : List ℕ) (r : code.Option ParsedPattern) → r ≡ None → PatternLeft ds listed 0 false pt old mid top r → RuleLeft o s old mid next top None
  left-pattern mid r b g =
      let h : PatternLeft ds listed 0 false pt old mid top None = subst (λ (z : code.Option ParsedPattern). PatternLeft ds listed 0 false pt old mid top z) b g in
      (parts-pattern ds listed pt qt h.0, h.1)

  pub made-pattern : (mid : List ℕ) (r : code.Option ParsedPattern) (x : ParsedPattern) → r ≡ Some x → PatternLeft ds listed 0 false pt old mid top r → PatternMade ds listed 0 false pt old mid top x.at x.top x.next
  made-pattern mid r x b g = subst (λ (z : code.Option ParsedPattern). PatternLeft ds listed 0 false pt old mid top z) b g

  -- after the variables and the pattern
  module _ {none_yet vars : List ℕ} {n : ℕ} (stored : Stored (variables ds listed 0 pt) old form.wrap p 0 none_yet vars n) {mid : List ℕ} {a t m : ℕ} (same_length : length mid ≡ length old) (made : PatternMade ds listed 0 false pt old mid top a t m) where
    pub dots-still : DotsBelow form.dots t
    dots-still = dots-higher form.dots top t made.grows.up ask.dots-below

    pub under_top : Under vars n t
    under_top = stored.under t (omega (arith, ask.p-below, made.grows.up)) (λ i l. absurd (omega arith))

    under-old : Under vars n top
    under-old = stored.under top ask.p-below (λ i l. absurd (omega arith))

    variables-are : variables_from mid form.wrap vars 0 n ≡ variables ds listed 0 pt
    unfolding variables_from
    variables-are = variables-kept old mid form.wrap top ask.wrap-below made.grows.kept vars n under-old ∙ stored.list

    q-is : tree_at mid q form.wrap ≡ qt
    q-is = tree-kept old mid top q form.wrap ask.q-below ask.wrap-below made.grows.kept

    limits : are_variables (variables ds listed 0 pt) ≡ true
    unfolding variables_from
    limits = ap are_variables (sym stored.list) ∙ stored.held.good

    pub asks-q : Asks mid q form.wrap t
    asks-q =
        record {
          node-below = omega (arith, ask.q-below, made.grows.up);
          wrap-below = omega (arith, ask.wrap-below, made.grows.up);
          room = record {
            fits = rw q-is (omega (arith, ask.room.fits, made.grows.words));
            small = rw q-is (omega (arith, ask.room.small, made.grows.words));
          };
        }

    pub small-q : 0 + q < 2 ^ 32
    small-q = omega (arith, ask.q-below, ask.room.small)

    template-is : template_of (dots_at mid form.dots form.wrap) (variables_from mid form.wrap vars 0 n) 0 as_element (tree_at mid q form.wrap) ≡ template_of ds (variables ds listed 0 pt) 0 as_element qt
    template-is = rw (dots-kept old mid top made.grows.kept form.dots form.wrap ask.dots-below ask.wrap-below, variables-are, q-is) refl

    pub left-template : (new : List ℕ) (r : code.Option Parsed) → r ≡ None → TemplateLeft (dots_at mid form.dots form.wrap) (variables_from mid form.wrap vars 0 n) 0 as_element (tree_at mid q form.wrap) mid new t r → RuleLeft o s old new next top None
    left-template new r b g =
        let h : TemplateLeft (dots_at mid form.dots form.wrap) (variables_from mid form.wrap vars 0 n) 0 as_element (tree_at mid q form.wrap) mid new t None = subst (λ (z : code.Option Parsed). TemplateLeft (dots_at mid form.dots form.wrap) (variables_from mid form.wrap vars 0 n) 0 as_element (tree_at mid q form.wrap) mid new t z) b g in
        (parts-template ds listed pt qt (pattern_at mid a) made.means (sym template-is ∙ h.0), take_less new mid top t made.grows.up h.1 ∙ made.grows.kept)

    pub made-template : (last : List ℕ) (r : code.Option Parsed) (y : Parsed) → r ≡ Some y → TemplateLeft (dots_at mid form.dots form.wrap) (variables_from mid form.wrap vars 0 n) 0 as_element (tree_at mid q form.wrap) mid last t r → TemplateMade (dots_at mid form.dots form.wrap) (variables_from mid form.wrap vars 0 n) 0 as_element (tree_at mid q form.wrap) mid last t y.at y.top
    made-template last r y e g = subst (λ (z : code.Option Parsed). TemplateLeft (dots_at mid form.dots form.wrap) (variables_from mid form.wrap vars 0 n) 0 as_element (tree_at mid q form.wrap) mid last t z) e g

    module _ {last : List ℕ} {b u : ℕ} (same-last : length last ≡ length mid) (second : TemplateMade (dots_at mid form.dots form.wrap) (variables_from mid form.wrap vars 0 n) 0 as_element (tree_at mid q form.wrap) mid last t b u) where
      words-two : u ≤ t + 5 * size qt
      words-two = rw q-is at second.grows.words

      pub rule-asks : (Room last u 5) × (a ≤ u) × (b ≤ u) × (next ≤ u)
      rule-asks =
          (record { fits = omega (arith, ask.room.fits, made.grows.words, words-two); small = omega (arith, ask.room.small, made.grows.words, words-two) }, omega (arith, made.grows.at_most, second.grows.up), second.grows.at_most, omega (arith, ask.next-below, made.grows.up, second.grows.up))

      kept-two : take top last ≡ take top old
      kept-two = take_less last mid top t made.grows.up second.grows.kept ∙ made.grows.kept

      pub left-rule : (new : List ℕ) (r : ℕ) → Made rules_at (record { pattern = pattern_at last a; template = template_at last b } ∷ rules_at last next) last new u r → RuleLeft o s old new next top (Some (record { at = r; top = r }))
      left-rule new r c =
          record {
            rule = record { pattern = pattern_at mid a; template = template_at last b };
            is = parts-both ds listed pt qt (pattern_at mid a) (template_at last b) limits made.means (sym template-is ∙ second.means);
            means =
                c.means
                ∙ ap₂ (λ (x : Pattern) (l : List Rule). record { pattern = x; template = template_at last b } ∷ l) (pattern-kept mid last t second.grows.kept a made.grows.at_most) (rules-kept old last top kept-two next ask.next-below);
            at_most = omega arith;
            up = omega (arith, c.end, made.grows.up, second.grows.up);
            words = omega (arith, c.end, made.grows.words, words-two);
            kept = take_less new last top u (omega (arith, made.grows.up, second.grows.up)) c.kept ∙ kept-two;
          }

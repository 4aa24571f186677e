-- Laws of reading the rules of a form's macros, from the left.
use Rattle.std.specs.Prelude.{◌≡◌, refl, ℕ, suc, ◌+◌, ◌^◌, ◌≤◌, ◌<◌, ltb, set, Option, Some, None}
use Rattle.std.proofs.Math.Path.{ap, ap₂, sym, subst}
use Rattle.std.proofs.Common.{◌∙◌, add-one}
use mathlib.Core.List.{List, [], ◌∷◌, ◌++◌, append_assoc, append-nil, map}
use Rattle.std.proofs.Math.Option.{none}
use Rattle.std.proofs.Math.Option as M
use native.Mathlib.Omega.{arith}
use Rattle.std.proofs.Math.ListN.{length, get_or, take}
use Rattle.std.proofs.Math.Seq.{get_or-set_same, get_or-set_other, take-set-le}
use borrow.Author.Tests.{ltb-true, ltb-false}
use Rattle.words.specs.Options.{map_some, map_both, traverse}
use Rattle.recipe.specs.Tree.{Tree, size, elements, element}
use Rattle.recipe.specs.TreeLaws.{element-size}
use Rattle.expansion.specs.Rules.{Rule, rules_of}
use Rattle.arena.specs.Arena.{word_at, reference_at, tree_at}
use Rattle.words.specs.ListLaws.{either}
use Rattle.arena.specs.ArenaLaws.{take_less}
use Rattle.arena.specs.CellLaws.{tree-kept}
use Rattle.rule_cells.specs.Cells.{rules_at}
use Rattle.rule_cells.specs.ParseLaws.{tree_is, size_is, head-below, rest_below}
use Rattle.arena.specs.ListLaws.{no-elements}
use Rattle.rule_cells.specs.RuleParse.{RulesMade, RulesLeft}
use Rattle.rule_cells.specs.declared.rules.Parsed.{Parsed}
use Rattle.arena.specs.Lists.{Means}
use Rattle.turns.specs.Memory.{macros_at}
use Rattle.turns.specs.MemoryLaws.{macros_at-settled}
use Rattle.turns.specs.MacroRules.{OneAsk, OneRead, OneLeft, forms_in, AllAsk, AllRead, AllLeft, Reading}

-- ---- one macro

module _ (work macros : List ℕ) (form w count top : ℕ) (ask : OneAsk work macros form w count top) where
  abbrev tree : Tree
  tree = tree_at work form w

  module _ (work' : List ℕ) (b : Option Parsed) (left : RulesLeft (rules_of tree) (size tree) work work' top b) where
    pub one-bad : (macros' : List ℕ) → b ≡ None → OneLeft tree work work' macros macros' count top None
    one-bad macros' e =
        let l : RulesLeft (rules_of tree) (size tree) work work' top None = subst (λ (z : Option Parsed). RulesLeft (rules_of tree) (size tree) work work' top z) e left in
        l.0

    pub one-good : (p : Parsed) → b ≡ Some p → OneLeft tree work work' macros (set macros count p.at) count top (Some p.top)
    unfolding macros_at
    one-good p e =
        let at = p.at in
        let upper = p.top in
        let m : RulesMade (rules_of tree) (size tree) work work' top at upper = subst (λ (z : Option Parsed). RulesLeft (rules_of tree) (size tree) work work' top z) e left in
        let known : take count (set macros count at) ≡ take count macros = take-set-le count macros count at (omega arith) in
        record {
          rules = rules_at work' at;
          is = m.means;
          means =
              ap (macros_at work' (set macros count at)) (add-one count)
              ∙ ap₂ (λ (l : List (List Rule)) (k : ℕ). l ++ (rules_at work' k ∷ []))
              (macros_at-settled work work' macros (set macros count at) top m.kept count known ask.below)
              (get_or-set_same macros count at 0 ask.slot);
          below = λ k h.
              either (ltb k count)
              (λ t.
              let l : k < count = ltb-true k count t in
              let g : get_or (set macros count at) k 0 ≡ get_or macros k 0 = get_or-set_other macros count k at 0 (λ z. omega arith) in
              omega (arith, ask.below k l, m.up))
              (λ t.
              let l : count ≤ k = ltb-false k count t in
              let s : k ≡ count = omega arith in
              let g : get_or (set macros count at) count 0 ≡ at = get_or-set_same macros count at 0 ask.slot in
              rw s (omega (arith, m.at_most)));
          up = m.up;
          words = m.words;
          kept = m.kept;
          known = known;
        }

-- ---- a list of (name rules)

module _ (work macros : List ℕ) (list w count top : ℕ) (ask : AllAsk work macros list w count top) where
  abbrev whole : Tree
  whole = tree_at work list w

  all_end : (word_at work list 3 ≡ 4 → ⊥) → AllLeft whole work work macros macros count top (Some top)
  unfolding forms_in traverse
  all_end n =
      let none-are : forms_in whole ≡ [] = ap (map (element 1)) (no-elements work list w n) in
      let long : count + length (forms_in whole) ≡ count = omega (arith, ap length none-are) in
      record {
        rules = [];
        is = ap (traverse rules_of) none-are;
        means = ap (macros_at work macros) long ∙ sym (append-nil (macros_at work macros count));
        below = λ k h. ask.below k (omega arith);
        up = omega arith;
        words = omega arith;
        kept = refl;
        known = refl;
      }

  module _ (entry rest form : ℕ) (e : word_at work list 3 ≡ 4) (f : entry ≡ reference_at work list 2) (g : rest ≡ reference_at work list 1) (form-is : Means work entry form (element 1)) where
    abbrev first : Tree
    first = tree_at work form w

    abbrev later : Tree
    later = tree_at work rest w

    entry-low : entry < list
    entry-low = head-below work list w top ask.asks entry rest e f g

    rest-low : rest < list
    rest-low = rest_below work list w top ask.asks entry rest e f g

    forms-are : forms_in whole ≡ first ∷ forms_in later
    unfolding forms_in elements
    forms-are = ap forms_in (tree_is work list w top ask.asks entry rest e f g) ∙ ap (λ (t : Tree). t ∷ forms_in later) (sym (form-is.is w))

    count-is : length (forms_in whole) ≡ suc (length (forms_in later))
    count-is = ap length forms-are

    sizes : suc (size first + size later) ≤ size whole
    sizes =
        let s : size first ≤ size (tree_at work entry w) = rw (form-is.is w) (element-size 1 (tree_at work entry w)) in
        omega (arith, size_is work list w top ask.asks entry rest e f g)

    form-below : form ≤ top
    form-below = omega (arith, form-is.low, entry-low, ask.asks.node-below)

    pub one-ask : OneAsk work macros form w count top
    one-ask =
        record {
          asks = record {
            node-below = form-below;
            wrap-below = ask.asks.wrap-below;
            room = record { fits = omega (arith, ask.asks.room.fits, sizes); small = omega (arith, ask.asks.room.small, sizes) };
          };
          slot = omega (arith, ask.slots, count-is);
          below = ask.below;
        }

    pub count_small : count + 1 < 2 ^ 32
    count_small = omega (arith, ask.few, count-is)

    all-bad : (mid macros' : List ℕ) (r : Option ℕ) → r ≡ None → OneLeft first work mid macros macros' count top r → AllLeft whole work mid macros macros' count top None
    unfolding traverse map_both map_some
    all-bad mid macros' r b p =
        let q : rules_of first ≡ none = subst (λ (z : Option ℕ). OneLeft first work mid macros macros' count top z) b p in
        ap (traverse rules_of) forms-are ∙ ap (λ (o : M.Option (List Rule)). map_both ◌∷◌ o (traverse rules_of (forms_in later))) q

    -- after the first
    module _ (mid macros' : List ℕ) (r : Option ℕ) (upper : ℕ) (b : r ≡ Some upper) (left : OneLeft first work mid macros macros' count top r)
        (long : length mid ≡ length work) (macros-long : length macros' ≡ length macros) where
      one : OneRead first work mid macros macros' count top upper
      one = subst (λ (z : Option ℕ). OneLeft first work mid macros macros' count top z) b left

      later-is : tree_at mid rest w ≡ later
      later-is = tree-kept work mid top rest w (omega (arith, rest-low, ask.asks.node-below)) ask.asks.wrap-below one.kept

      ask-later : AllAsk mid macros' rest w (count + 1) upper
      ask-later =
          record {
            asks = record {
              node-below = omega (arith, rest-low, ask.asks.node-below, one.up);
              wrap-below = omega (arith, ask.asks.wrap-below, one.up);
              room = record {
                fits = rw later-is (omega (arith, ask.asks.room.fits, sizes, one.words));
                small = rw later-is (omega (arith, ask.asks.room.small, sizes, one.words));
              };
            };
            slots = rw later-is (omega (arith, ask.slots, count-is));
            few = rw later-is (omega (arith, ask.few, count-is));
            below = one.below;
          }

      all_both : (new macros'' : List ℕ) (a : Option ℕ) → AllLeft (tree_at mid rest w) mid new macros' macros'' (count + 1) upper a → AllLeft whole work new macros macros'' count top a
      unfolding traverse map_both map_some
      all_both new macros'' (Some higher) m =
          let n : AllRead later mid new macros' macros'' (count + 1) upper higher = subst (λ (t : Tree). AllRead t mid new macros' macros'' (count + 1) upper higher) later-is m in
          let far : count + length (forms_in whole) ≡ count + 1 + length (forms_in later) = omega (arith, count-is) in
          record {
            rules = one.rules ∷ n.rules;
            is = ap (traverse rules_of) forms-are ∙ ap₂ (map_both ◌∷◌) one.is n.is;
            means =
                ap (macros_at new macros'') far
                ∙ n.means
                ∙ ap (λ (l : List (List Rule)). l ++ n.rules) one.means
                ∙ append_assoc (macros_at work macros count) (one.rules ∷ []) n.rules;
            below = λ k h. n.below k (omega (arith, far));
            up = omega (arith, one.up, n.up);
            words = omega (arith, one.words, n.words, sizes);
            kept = take_less new mid top upper one.up n.kept ∙ one.kept;
            known = take_less macros'' macros' count (count + 1) (omega arith) n.known ∙ one.known;
          }
      all_both new macros'' None m =
          let n : traverse rules_of (forms_in later) ≡ none = subst (λ (t : Tree). traverse rules_of (forms_in t) ≡ none) later-is m in
          ap (traverse rules_of) forms-are ∙ ap₂ (map_both ◌∷◌) one.is n

-- ---- macro after macro

module _ (old known : List ℕ) (list w count top : ℕ) where
  pub reading_begins : AllAsk old known list w count top → Reading old known list w count top old known list count top
  reading_begins ask = record { ask = ask; whole = λ new macros' r l. l }

  module _ (work macros : List ℕ) (node n end : ℕ) (inv : Reading old known list w count top work macros node n end) where
    pub reading-ends : (word_at work node 3 ≡ 4 → ⊥) → AllLeft (tree_at old list w) old work known macros count top (Some end)
    reading-ends other = inv.whole work macros (Some end) (all_end work macros node w n end inv.ask other)

    module _ (entry rest form : ℕ) (e : word_at work node 3 ≡ 4) (f : entry ≡ reference_at work node 2) (g : rest ≡ reference_at work node 1) (form-is : Means work entry form (element 1))
        (mid macros' : List ℕ) (r : Option ℕ) (left : OneLeft (tree_at work form w) work mid macros macros' n end r) where
      pub reading-bad : r ≡ None → AllLeft (tree_at old list w) old mid known macros' count top None
      reading-bad b = inv.whole mid macros' None (all-bad work macros node w n end inv.ask entry rest form e f g form-is mid macros' r b left)

      pub reading-more : (upper : ℕ) → r ≡ Some upper → length mid ≡ length work → length macros' ≡ length macros
          → Reading old known list w count top mid macros' rest (n + 1) upper
      reading-more upper b l m =
          record {
            ask = ask-later work macros node w n end inv.ask entry rest form e f g form-is mid macros' r upper b left l m;
            whole = λ new macros'' z h. inv.whole new macros'' z (all_both work macros node w n end inv.ask entry rest form e f g form-is mid macros' r upper b left l m new macros'' z h);
          }

-- What is ready for an expression gives each turn the room it asks for.
use Rattle.std.specs.Prelude.{◌≡◌, List, ℕ, ◌*◌, ◌≤◌}
use Rattle.std.proofs.Math.Path.{ap}
use Rattle.std.proofs.Common.{◌∙◌, arith}
use Rattle.words.specs.Limits.{core_rate}
use Rattle.recipe.specs.Tree.{size}
use Rattle.recipe.specs.TreeLaws.{size-positive, on_names-size}
use Rattle.arena.specs.Arena.{tree_at, wrap_at}
use Rattle.arena.specs.NodeLaws.{tree_at-wrap}
use Rattle.forms.specs.QuoteLaws.{quotable-any}
use Rattle.turns.specs.declared.answers.Reached.{Reached}
use Rattle.turns.specs.Memory.{tables, CoreRoom, work_need, core_need, variable_need, macro_need, Ready, Placed}
use Rattle.turns.specs.Scopes.{Roomy, QuoteRoom}
use Rattle.turns.specs.Uses.{UseRoom}
use Rattle.turns.specs.MacroTurns.{MacroRoom}
use Rattle.turns.specs.MacroTurnLaws.{macros-rate, macros-sizes}

module _ (work core macros : List ℕ) (fuel node w : ℕ) (r : Reached)
    (ready : Ready fuel (size (tree_at work node w)) r (tables work core macros)) (placed : Placed work r.top node w) where
  pub ready-core : (k : ℕ) → k ≤ core_rate * size (tree_at work node w) → CoreRoom core r.at k
  unfolding core_need
  ready-core k h = record { fits = omega (arith, ready.core-room); small = omega (arith, ready.core-small) }

  pub ready-quote : QuoteRoom work core node r
  unfolding core_need
  ready-quote =
      let same : size (tree_at work node w) ≡ size (tree_at work node 0) = ap size (tree_at-wrap work node w) ∙ on_names-size (wrap_at work w) (tree_at work node 0) in
      record {
        proper = quotable-any work node w placed.proper;
        fits = omega (arith, ready.core-room);
        small = omega (arith, ready.core-small);
      }

  pub ready-roomy : Roomy work core node w r
  unfolding work_need core_need variable_need
  ready-roomy =
      record {
        placed = placed;
        fits = omega (arith, ready.room);
        small = omega (arith, ready.small);
        core-fits = omega (arith, ready.core-room);
        core-small = omega (arith, ready.core-small);
        few = omega (arith, ready.few);
      }

  pub ready-use : UseRoom work macros fuel node w r
  unfolding work_need macro_need
  ready-use =
      let some : 1 ≤ size (tree_at work node w) = size-positive (tree_at work node w) in
      record {
        placed = placed;
        fuelled = ready.fuelled;
        spent = ready.spent;
        stepped = ready.stepped;
        fits = omega (arith, ready.room);
        small = omega (arith, ready.small);
        counted = omega (arith, ready.macro-room);
        macros-are = record { below = ready.macros-are.below; proper = ready.macros-are.proper; sound = ready.macros-are.sound };
      }

  pub ready-macros : MacroRoom work macros node w r
  unfolding work_need macro_need
  ready-macros =
      let tree = tree_at work node w in
      record {
        placed = placed;
        below = ready.macros-are.below;
        space = λ limit shape.
            record {
              fits = omega (arith, ready.room, macros-sizes limit tree shape);
              small = omega (arith, ready.small, macros-sizes limit tree shape);
              slots = omega (arith, ready.macro-room, macros-rate limit tree shape);
              few = omega (arith, ready.macros-few, macros-rate limit tree shape);
            };
      }

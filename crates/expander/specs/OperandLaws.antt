-- Laws of an operand that is done at once, one for each way through the code: a name, an empty list, a constant.
use Rattle.std.specs.Prelude.{◌≡◌, refl, List, ℕ, ◌≤◌, Ok, Err}
use Rattle.words.specs.Limits.{macros_most, core_rate}
use Rattle.datum.specs.Constant.{decimal_kind}
use Rattle.recipe.specs.Tree.{Tree, size}
use Rattle.expansion.specs.Lookup.{lookup}
use Rattle.arena.specs.Arena.{name_at, tree_at}
use Rattle.arena.specs.Nodes.{Opens, OpensName, OpensConstant}
use Rattle.arena.specs.declared.nodes.Node.TheVariants.{Empty}
use Rattle.turns.specs.declared.answers.Reached.{Reached}
use Rattle.turns.specs.declared.answers.Refused.{Refused}
use Rattle.turns.specs.Answers.{Ended, Refuses}
use Rattle.turns.specs.Memory.{tables, CoreRoom, Ready, Placed}
use Rattle.turns.specs.Turns.{Ends, Expands}
use Rattle.turns.specs.Leaves.{Leaf, name_end, ConstantLeft}
use Rattle.turns.specs.DispatchLaws.{empty-over, name-over, constant-over, constant-kind, leaf_room, constant-room}
use Rattle.expander.specs.CycleLaws.{going_start, going-over}

module _ (work core macros : List ℕ) (fuel node w : ℕ) (r : Reached) (placed : Placed work r.top node w)
    (ready : Ready fuel (size (tree_at work node w)) r (tables work core macros)) where
  abbrev here : Tree
  here = tree_at work node w

  -- a first turn that is over is the whole expression's
  over-expands : (operations core' : List ℕ) (e : Ended) → Ends macros_most operations fuel here r (tables work core macros) (tables work core' macros) e → Expands operations fuel here r (tables work core macros) (tables work core' macros) e
  over-expands operations core' e x =
      let a = tables work core macros in
      going-over operations fuel here r a node w r a (going_start operations fuel node w r a ready placed) (tables work core' macros) e x

  pub operand-room : CoreRoom core r.at 2
  operand-room = leaf_room work core macros fuel node w r ready placed

  pub name-expands : (item own : ℕ) → OpensName work node item own → (operations core' : List ℕ) (e : Ended) → Leaf (name_end (lookup operations (name_at work node w))) 2 r core core' e
      → Expands operations fuel here r (tables work core macros) (tables work core' macros) e
  name-expands item own o operations core' e l = over-expands operations core' e (name-over macros_most operations work core macros fuel node w r ready core' item own o e l)

  pub empty-expands : Opens work node Empty → (operations : List ℕ) (y : Refused) → Refuses 13 r y → Expands operations fuel here r (tables work core macros) (tables work core macros) (Err y)
  empty-expands o operations y l = over-expands operations core (Err y) (empty-over macros_most operations work core macros fuel node w r ready o y l)

  module _ (kind first second : ℕ) (o : OpensConstant work node kind first second) where
    pub constant-asks : CoreRoom core r.at core_rate × (kind ≤ decimal_kind)
    constant-asks = (constant-room work core macros fuel node w r ready placed, constant-kind work r.top node w kind first second o placed)

    pub constant-expands : (operations core' : List ℕ) (e : Ended) → ConstantLeft kind first second r core core' e → Expands operations fuel here r (tables work core macros) (tables work core' macros) e
    constant-expands operations core' e l = over-expands operations core' e (constant-over macros_most operations work core macros fuel node w r ready core' kind first second o e l)

-- `names::number_of` reads the number in the node's origin.
use borrow.Author.Rules.{rules}
use Rattle.resolution.proofs.names.number_of.Statement.{statement}
use Rattle.resolution.proofs.names.number_of.Tie as tie
use Rattle.arena.specs.Arena.{origin_name, node_name, number_of}
use mathlib.Core.Path.{ap, ◌∙◌}
use Prim.Native.Nat.{ℕ}

returns : tie.Need-returns
unfolding number_of node_name
returns c =
    c.number.ensures ∙ ap (λ (o : ℕ). (origin_name o).number) c.word.ensures

pub number_of_spec : {M : Type 1} → statement M
number_of_spec =
    tie.close
    (tie.spec
    (λ c κs. search rules)  -- word-requires
    (λ c κs. search rules)  -- number-requires
    returns)

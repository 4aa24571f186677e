-- The proof of the cycle {copy_part, copy_tree}. The measure is twice the node's reference, one more for a part.
use Prim.Native.Nat.{◌+◌, ◌*◌}
use Rattle.steps.proofs.copy.+copy_part_copy_tree.Given as goal

abbrev pub decreases-copy_part : goal.decreases-copy_part
decreases-copy_part l =
    2 * l.node + 1

abbrev pub decreases-copy_tree : goal.decreases-copy_tree
decreases-copy_tree l =
    2 * l.node

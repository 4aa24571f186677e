-- Six words are stored one behind the other.
use Prim.Native.Nat.{◌+◌, ◌*◌}
use Rattle.runner.specs.Stores.{stored-six}
use Rattle.runner.proofs.rows.put_cell.Goals as goal

pub returns : goal.returns
returns c = rw c.words_of-words.ensures (stored-six c.args.table.now (16 * c.args.row + 10) _ _ _ _ _ _)

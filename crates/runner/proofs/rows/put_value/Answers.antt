-- Four words are stored one behind the other.
use Prim.Native.Nat.{◌*◌}
use Rattle.runner.specs.Stores.{stored-four}
use Rattle.runner.proofs.rows.put_value.Goals as goal

pub returns : goal.returns
returns c = rw c.words_of-words.ensures (stored-four c.args.table.now (16 * c.args.row) _ _ _ _)

-- Six words are stored one behind the other, two of them a place.
use Prim.Native.Nat.{◌+◌, ◌*◌}
use Rattle.runner.specs.Stores.{stored-six}
use Rattle.runner.proofs.rows.put_frame.Goals as goal

pub returns : goal.returns
returns c = rw c.frame_words-words.ensures (stored-six c.args.table.now (16 * c.args.row + 4) _ _ _ _ _ _)

use Rattle.std.proofs.Common.{sym, subst, arith, length, ◌≤◌}
use Rattle.words.specs.Limits.{name_length_most}
use Rattle.reader.proofs.OfCode.IndexLaws.{bucket-below}
use Rattle.reader.proofs.OfCode.StoredLaws.{base_short, base_more}
use Rattle.reader.proofs.names.enter_fixed.Goals as goal

pub enter-requires-clause-slot_size_in_bounds : goal.enter-requires-clause-slot_size_in_bounds
enter-requires-clause-slot_size_in_bounds c =
    let pre = c.requires in
    (omega (arith, pre.0.room, pre.1), subst (λ x. length x ≤ name_length_most) (sym pre.2) (base_short c.args.number pre.1))

pub enter-requires-clause-index_len : goal.enter-requires-clause-index_len
enter-requires-clause-index_len c =
    let pre = c.requires in
    (pre.0.indexed.size, omega (arith, pre.1), omega (arith, bucket-below c.args.word.now, c.bucket_of.ensures))

pub returns : goal.returns
returns c =
    let args = c.args in
    let pre = c.requires in
    base_more args.number args.word.now args.names.now c.enter.new.names args.index.now c.enter.new.index
    c.bucket_of.result pre.1 pre.2 c.bucket_of.ensures c.enter.ensures pre.0

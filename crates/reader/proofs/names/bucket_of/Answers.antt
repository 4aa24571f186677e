use Rattle.std.proofs.Common.{arith, refl, sym, ◌∙◌}
use Rattle.reader.specs.Code.Index.{bucket_of}
use Rattle.reader.proofs.OfCode.IndexLaws.{bucket-step, bucket-end}
use Rattle.reader.proofs.names.bucket_of.Goals as goal

pub loop-b-init : goal.loop-b-init
unfolding bucket_of
loop-b-init c = (omega arith, refl)

pub loop-b-preserved : goal.loop-b-preserved
loop-b-preserved c =
    let e = bucket-step c.args.word.now c.loop-b.b-index c.loop-b.bucket c.loop-b-test.true in
    (omega arith, rw c.from.ensures (sym e ∙ c.loop-b.invariant.1))

pub returns : goal.returns
returns c =
    sym (bucket-end c.args.word.now c.loop-b.b-index c.loop-b.bucket (omega (arith, c.loop-b-test.false, c.loop-b.auto.b-index-end))) ∙ c.loop-b.invariant.1

use Rattle.reader.proofs.OfCode.ServedLaws.{zeroed-names}
use Rattle.reader.proofs.begin.Goals as goal

pub enter_base-requires : goal.enter_base-requires
enter_base-requires c =
    zeroed-names c.args.names.now c.clear.new.names c.args.index.now c.requires.0 c.clear.auto.names c.clear.ensures.1 c.requires.1

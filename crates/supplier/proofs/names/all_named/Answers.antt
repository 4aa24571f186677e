-- One number after another.
use Rattle.std.proofs.Common.{rules, tests, ◌∙◌}
use Rattle.std.proofs.lemmas.Iterator.{YieldsList-from_slice}
use Rattle.std.proofs.lemmas.Iterator.Search.{all_from_yields_List}
use Rattle.datum.specs.NameTable.{has_name}
use Rattle.core_term.specs.Code.WindowLaws.{list_all-all_of}
use Rattle.supplier.proofs.names.all_named.Goals as goal

pub returns : goal.returns
returns c =
    let named = has_name c.args.names.now in
    all_from_yields_List named _ _ c.all.result c.all.ensures.ran (YieldsList-from_slice c.args.numbers.now cc) (λ x b q k. search (rules, tests))
    ∙ list_all-all_of named c.args.numbers.now

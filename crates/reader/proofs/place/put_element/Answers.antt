use Rattle.std.proofs.Common.{ap, arith, ◌∙◌, ◌+◌, ◌*◌}
use Rattle.reader.specs.Code.Placed.{put3}
use Rattle.reader.proofs.place.put_element.Goals as goal

pub put_item-requires-2 : goal.put_item-requires-2
put_item-requires-2 c = omega (arith, c.requires.0, c.put_item.auto.items)

pub returns : goal.returns
returns c =
    let args = c.args in
    c.put_item-2.ensures ∙ ap (λ t. put3 t (3 * (args.item + 1)) args.kind args.first args.second) c.put_item.ensures

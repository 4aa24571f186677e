use Rattle.std.proofs.Common.{sym, ◌∙◌}
use Rattle.std.proofs.lemmas.Result.{err_from_is_err_and}
use Rattle.reader.specs.Code.StepLaws.{open-refused, open-went}
use Rattle.reader.proofs.place.open_list.Goals as goal

pub returns-in_err-begins : goal.returns-in_err-begins
returns-in_err-begins c =
    λ r bytes h.
    let p = err_from_is_err_and c.from_residual.result c.from_residual.ensures.1 in
    rw (p.1, p.2)
    (open-refused r c.args.place c.args.items.now bytes h _ _ (sym c.begins.ensures ∙ c.in_err-begins.was))

pub returns : goal.returns
returns c =
    λ r bytes h.
    open-went r c.args.place c.args.items.now bytes h _ c.lacking.result _ (sym c.begins.ensures ∙ c.in_ok-begins.was)
    c.put_item.ensures c.lacking.ensures

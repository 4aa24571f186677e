use Rattle.std.proofs.Common.{sym, ◌∙◌}
use Rattle.std.proofs.lemmas.Result.{err_from_is_err_and}
use Rattle.reader.specs.Code.StepLaws.{token-refused, token-went}
use Rattle.reader.proofs.place.put_token.Goals as goal

pub returns-in_err-begins : goal.returns-in_err-begins
returns-in_err-begins c =
    λ r d names bytes table h t k s f b.
    let args = c.args in
    let p = err_from_is_err_and c.from_residual.result c.from_residual.ensures.1 in
    rw (p.1, p.2)
    (token-refused r args.place args.items.now bytes h d args.kind args.first args.second t names args.known k _ table _
    (sym c.begins.ensures ∙ c.in_err-begins.was))

pub returns : goal.returns
returns c =
    λ r d names bytes table h t k s f b.
    let args = c.args in
    token-went r args.place args.items.now bytes h d args.kind args.first args.second t names args.known k _ table
    c.lacking.result _ (sym c.begins.ensures ∙ c.in_ok-begins.was) s f b c.put_element.ensures c.lacking.ensures

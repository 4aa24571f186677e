use Rattle.std.proofs.Common.{◌≡◌, of_z, w32, rules}
use Rattle.std.proofs.lemmas.Result.{err_from_is_err_and}
use Rattle.reader.specs.Code.MovedLaws.{begins-taken, ends-taken, constant-taken, boolean-is, refused-taken}
use Rattle.reader.proofs.element.take.Goals as goal

pub returns-in_err-lexeme : goal.returns-in_err-lexeme
returns-in_err-lexeme c =
    let p = err_from_is_err_and c.from_residual.result c.from_residual.ensures.1 in
    rw (p.1, p.2, c.in_err-lexeme.was)
    (refused-taken _ c.args.place c.args.items.now c.args.names.now c.args.index.now)

pub returns-in-Open : goal.returns-in-Open
returns-in-Open c =
    rw (c.in_ok-lexeme.was, c.in-Open.is)
    (begins-taken c.args.place c.args.items.now c.open_list.new.items c.args.names.now c.args.index.now _ c.open_list.ensures)

pub returns-in-Close : goal.returns-in-Close
returns-in-Close c =
    rw (c.in_ok-lexeme.was, c.in-Close.is)
    (ends-taken c.args.place c.args.items.now c.close_list.new.items c.args.names.now c.args.index.now _ c.close_list.ensures)

pub returns-in-Boolean : goal.returns-in-Boolean
returns-in-Boolean c =
    rw (c.in_ok-lexeme.was, c.in-Boolean.is)
    (constant-taken c.args.place c.args.items.now c.put_token.new.items c.args.names.now c.args.index.now _ 2 c.from.result 0 _
    (rw c.from.ensures (boolean-is c.in-Boolean.b)) c.put_token.ensures)

pub returns-in-Number : goal.returns-in-Number
returns-in-Number c =
    let same : c.to_word.result ≡ of_z w32 c.in-Number.n.value = search rules in
    rw (c.in_ok-lexeme.was, c.in-Number.is)
    (constant-taken c.args.place c.args.items.now c.put_token-in-Number.new.items c.args.names.now c.args.index.now _ c.number_kind-kind.result c.to_word.result
    c.in-Number.n.places _
    (rw same (c.number_kind-kind.ensures _)) c.put_token-in-Number.ensures)

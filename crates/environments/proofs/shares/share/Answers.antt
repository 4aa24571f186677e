-- `shares::share`: all but as many as follow, none where there are no more.
use Rattle.std.proofs.Common.{rules}
use Rattle.environments.specs.ShareLaws.{share-none, share-some}
use Rattle.environments.proofs.shares.share.Goals as goal

pub word-n-requires : goal.word-n-requires
word-n-requires c =
    search rules

pub count-c-requires : goal.count-c-requires
count-c-requires c =
    search rules

pub returns-then-c-n : goal.returns-then-c-n
returns-then-c-n c =
    let a = c.args in
    share-none a.work.now a.p a.list _ _ c.word-n.ensures c.count-c.ensures c.if-c-n.true

pub overflow_sub-result : goal.overflow_sub-result
overflow_sub-result c =
    search rules

pub returns : goal.returns
returns c =
    let a = c.args in
    share-some a.work.now a.p a.list _ _ c.word-n.ensures c.count-c.ensures

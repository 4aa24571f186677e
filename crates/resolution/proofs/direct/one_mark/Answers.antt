-- `direct::one_mark`: the mark around, or that of the cell.
use Rattle.std.proofs.Common.{◌≡◌, rules}
use Rattle.std.proofs.lemmas.Option.{IfSome_then}
use Rattle.resolution.specs.DirectLaws.{first-mark}
use Rattle.resolution.proofs.direct.one_mark.Goals as goal

pub returns : goal.returns
returns c =
    let a = c.args in
    let first : a.mark ≡ 0 = search rules in
    IfSome_then _ c.mark_at.ensures (λ r p. first-mark a.work.now a.number a.at a.mark r first p)

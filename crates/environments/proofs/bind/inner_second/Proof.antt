-- `bind::inner_second`: the cell's own, where it is an ellipsis and none is known.
use Rattle.environments.proofs.bind.inner_second.Statement.{statement}
use Rattle.environments.proofs.bind.inner_second.Tie as tie
use Rattle.environments.specs.BindLaws.{inner-plain, inner-known, inner-own}

returns : tie.Need-returns-then-tag-ne-ELLIPSIS
returns c =
    let a = c.args in inner-plain a.tag a.p a.second c.if-tag-ne-ELLIPSIS.true

returns-2 : tie.Need-returns-then-second-ne0
returns-2 c =
    let a = c.args in inner-known a.tag a.p a.second c.if-tag-ne-ELLIPSIS.false c.if-second-ne0.true

returns-3 : tie.Need-returns
returns-3 c =
    let a = c.args in inner-own a.tag a.p a.second c.if-tag-ne-ELLIPSIS.false c.if-second-ne0.false

pub inner_second_spec : {M : Type 1} → statement M
inner_second_spec = tie.close (tie.spec returns returns-2 returns-3)

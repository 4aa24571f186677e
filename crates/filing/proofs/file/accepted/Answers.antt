-- Each way is a law of an accepted term; the calls after the term cannot be out of room.
use Rattle.filing.proofs.file.accepted.Goals as goal
use Rattle.filing.specs.FileLaws.{header-full, no_byte, term-full, header-never-full, accepted-wrote}

pub returns-in_default : goal.returns-in_default
returns-in_default c = λ x e. header-full _ _ x _ _ _ c.accepted_line.ensures c.in_default.is

pub returns-then-from-out : goal.returns-then-from-out
returns-then-from-out c = λ x e. no_byte _ _ x _ _ _ c.accepted_line.ensures _ c.in-Some.is c.if-from-out.true

pub returns-in_default-term_at : goal.returns-in_default-term_at
returns-in_default-term_at c = λ x e. term-full _ _ x _ _ _ c.accepted_line.ensures _ c.in-Some.is _ _ (c.term_at.ensures.laid x e) c.in_default-term_at.is

pub returns-in_default-accepted_line : goal.returns-in_default-accepted_line
returns-in_default-accepted_line c =
    λ x e. header-never-full _ _ x _ _ _ c.accepted_line.ensures _ c.in-Some.is _ _ (c.term_at.ensures.laid x e) _ c.in-Some-term_at.is _ _ c.byte.ensures _ c.in-Some-byte.is _ _
    c.accepted_line-2.ensures c.in_default-accepted_line.is

pub returns : goal.returns
returns c =
    λ x e. accepted-wrote _ _ x _ _ _ c.accepted_line.ensures _ c.in-Some.is _ _ (c.term_at.ensures.laid x e) _ c.in-Some-term_at.is _ _ c.byte.ensures _ c.in-Some-byte.is _ _
    c.accepted_line-2.ensures _ c.in-Some-accepted_line.is

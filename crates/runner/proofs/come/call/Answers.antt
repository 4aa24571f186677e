-- The operands are bound, and the closure's body begins.
use mathlib.Core.Path.{sym, ◌∙◌}
use native.Mathlib.Omega.{arith}
use Rattle.runner.specs.ComeLaws.{formals, call-stops, call-extends, call-begins}
use Rattle.runner.proofs.come.call.Goals as goal

pub overflow_add-first : goal.overflow_add-first
overflow_add-first c = let a = c.args in let p = c.requires in let h = formals a.s a.base a.n p.1.2 a.at a.environment p.0 in
    record { fits = omega (arith, h.inside, c.well_formed.0) }

pub offset_bounds-words-at : goal.offset_bounds-words-at
offset_bounds-words-at c = let a = c.args in let p = c.requires in let h = formals a.s a.base a.n p.1.2 a.at a.environment p.0 in
    record { fits = omega (arith, h.inside, c.well_formed.0) }

pub bounds-words-at : goal.bounds-words-at
bounds-words-at c = let a = c.args in let p = c.requires in let h = formals a.s a.base a.n p.1.2 a.at a.environment p.0 in
    omega (arith, h.inside)

pub overflow_add-count : goal.overflow_add-count
overflow_add-count c = let a = c.args in let p = c.requires in let h = formals a.s a.base a.n p.1.2 a.at a.environment p.0 in
    record { fits = omega (arith, h.inside, c.well_formed.0) }

pub offset_bounds-words-at-2 : goal.offset_bounds-words-at-2
offset_bounds-words-at-2 c = let a = c.args in let p = c.requires in let h = formals a.s a.base a.n p.1.2 a.at a.environment p.0 in
    record { fits = omega (arith, h.inside, c.well_formed.0) }

pub bounds-words-at-2 : goal.bounds-words-at-2
bounds-words-at-2 c = let a = c.args in let p = c.requires in let h = formals a.s a.base a.n p.1.2 a.at a.environment p.0 in
    omega (arith, h.inside)

pub returns-then-n-count : goal.returns-then-n-count
returns-then-n-count c = λ budget whole x. let a = c.args in let p = c.requires in let h = formals a.s a.base a.n x a.at a.environment p.0 in
    call-stops a.s a.base a.n x a.at a.environment p.0 (λ e. c.if-n-count.true (e ∙ sym h.many))

pub bind-bound-requires : goal.bind-bound-requires
bind-bound-requires c = let a = c.args in let p = c.requires in call-extends a.s a.base a.n p.1.2 a.at a.environment p.0

pub overflow_add-result : goal.overflow_add-result
overflow_add-result c = let a = c.args in let p = c.requires in let h = formals a.s a.base a.n p.1.2 a.at a.environment p.0 in
    record { fits = omega (arith, h.inside, h.many, c.well_formed.0) }

pub overflow_add-result-2 : goal.overflow_add-result-2
overflow_add-result-2 c = let a = c.args in let p = c.requires in let h = formals a.s a.base a.n p.1.2 a.at a.environment p.0 in
    record { fits = omega (arith, h.inside, h.many, c.well_formed.0) }

pub returns : goal.returns
returns c = λ budget whole x. let a = c.args in let p = c.requires in let h = formals a.s a.base a.n x a.at a.environment p.0 in
    call-begins a.s a.base a.n x a.at a.environment p.0 _ _ (c.if-n-count.false ∙ h.many) c.bind-bound.auto.table
    (rw h.start at c.bind-bound.ensures) _ (omega (arith, h.many))

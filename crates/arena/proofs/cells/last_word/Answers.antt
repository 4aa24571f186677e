-- Three words end at `at`, all of them in the table; a difference that wraps is past every table.
use Rattle.std.proofs.Common.{◌≡◌, ℕ, ◌+◌, ◌-◌, ◌≤◌, length, get_or, sym, ap, ◌∙◌, arith}
use Rattle.words.specs.Lists.{within}
use Rattle.words.specs.TestLaws.{within-parts}
use Rattle.words.specs.ListLaws.{either}
use Rattle.arena.specs.ArenaLaws.{word_at-in, word_at-past}
use Rattle.arena.proofs.cells.last_word.Goals as goal

pub overflow_sub-result : goal.overflow_sub-result
overflow_sub-result c = (within-parts 1 3 _ c.requires).1

pub bounds-work-i : goal.bounds-work-i
bounds-work-i c =
    let p = within-parts 1 3 _ c.requires in
    omega (arith, c.places.ensures, c.if-i-places.true, p.0)

pub returns-then-i-places : goal.returns-then-i-places
returns-then-i-places c =
    let a = c.args in
    let p = within-parts 1 3 _ c.requires in
    let few = c.places.ensures in
    let h : 3 ≤ a.at = omega (arith, c.wrapping_sub_usize-i.ensures, few, c.if-i-places.true) in
    let l : a.at ≤ length a.work.now = omega (arith, c.wrapping_sub_usize-i.ensures, few, c.if-i-places.true) in
    let e : c.wrapping_sub_usize-i.result + (3 - a.k) ≡ a.at - a.k = omega (arith, c.wrapping_sub_usize-i.ensures, few, c.if-i-places.true, p.0, p.1) in
    ap (λ (j : ℕ). get_or a.work.now j 0) e ∙ sym (word_at-in a.work.now a.at a.k h (omega (arith, p.1)) l)

pub returns : goal.returns
returns c =
    let a = c.args in
    sym (word_at-past a.work.now a.at a.k c.requires
    (either (within 3 (length a.work.now) a.at)
    (λ t. let p = within-parts 3 _ _ t in absurd (omega (arith, c.wrapping_sub_usize-i.ensures, c.places.ensures, c.if-i-places.false, p.0, p.1)))
    (λ f. f)))

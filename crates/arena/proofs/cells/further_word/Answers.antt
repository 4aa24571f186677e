-- `further_word` reads the word that the arena means. A difference that wraps is past every table.
use Rattle.std.proofs.Common.{◌≡◌, ◌-◌, ◌≤◌, ltb, length, sym, arith, ltb-false, le-ltb}
use lib.ListN.{get_or-eq_default}
use Rattle.arena.specs.Arena.{word_at}
use Rattle.words.specs.ListLaws.{either}
use Rattle.arena.proofs.cells.further_word.Goals as goal

pub returns-then-i-work : goal.returns-then-i-work
unfolding word_at
returns-then-i-work c =
    let a = c.args in
    let h : a.k ≤ a.at = omega (arith, c.wrapping_sub_usize-i.ensures, c.if-i-work.true) in
    let e : c.wrapping_sub_usize-i.result ≡ a.at - a.k = omega (arith, c.wrapping_sub_usize-i.ensures, c.if-i-work.true) in
    rw (c.requires, le-ltb a.at a.k h, e)

pub returns : goal.returns
unfolding word_at
returns c =
    let a = c.args in
    sym (either (ltb a.at a.k)
    (λ t. rw (c.requires, t))
    (λ t.
    let h : a.k ≤ a.at = ltb-false a.at a.k t in
    let l : length a.work.now ≤ a.at - a.k = omega (arith, c.wrapping_sub_usize-i.ensures, h, c.if-i-work.false) in
    rw (c.requires, t) (get_or-eq_default a.work.now 0 l)))

-- Each way through the code is a range of bytes, or two, over which the definition has one value.
use Rattle.lexer.proofs.bytes.is_running.Statement.{statement}
use Rattle.lexer.proofs.bytes.is_running.Tie as tie
use Rattle.lexer.proofs.bytes.is_running.Lts as lts
use native.Mathlib.Omega.{arith}
use mathlib.Core.Path.{refl}
use mathlib.Core.Bool.{true, false}
use mathlib.Core.List.{[], ◌∷◌}
use mathlib.Core.Logic.{⊎_elim}
use borrow.Author.Tests.{leb-true}
use Rattle.words.specs.Lists.{within, any_of}
use Rattle.words.specs.ListLaws.{valued, valued-at, any-neither}
use Rattle.words.specs.Text.{bytes}
use Rattle.reading.specs.Token.{is_digit, is_running}

returns : tie.Need-returns-then-b-le122
unfolding is_running is_digit within any_of bytes valued
returns c =
    let b = c.args.b in
    valued-at is_running true [] 97 26 refl b c.if-b-ge97.true (omega (arith, leb-true b 122 c.if-b-le122.true-raw)) refl

returns-2 : tie.Need-returns-in-48-to-57
unfolding is_running is_digit within any_of bytes valued
returns-2 c =
    let args = c.args in
    valued-at is_running true [] 48 10 refl args.b (omega arith) (omega arith) refl

returns-3 : tie.Need-returns-in_default
unfolding is_running is_digit within any_of bytes valued
returns-3 c =
    let args = c.args in
    valued-at is_running false (33 ∷ 95 ∷ []) 0 42 refl args.b (omega arith) (omega arith)
    (any-neither _ 33 95 c.in_default.in_default-own.rest.1)

returns-4 : tie.Need-returns-in_default-2
unfolding is_running is_digit within any_of bytes valued
returns-4 c =
    let args = c.args in
    valued-at is_running false (33 ∷ 95 ∷ []) 44 1 refl args.b (omega arith) (omega arith)
    (any-neither _ 33 95 c.in_default.in_default-own.rest.1)

returns-5 : tie.Need-returns-in_default-3
unfolding is_running is_digit within any_of bytes valued
returns-5 c =
    let args = c.args in
    valued-at is_running false (33 ∷ 95 ∷ []) 58 2 refl args.b (omega arith) (omega arith)
    (any-neither _ 33 95 c.in_default.in_default-own.rest.1)

returns-6 : tie.Need-returns-in_default-4
unfolding is_running is_digit within any_of bytes valued
returns-6 c =
    let b = c.args.b in
    let save = any-neither b 33 95 c.in_default.in_default-own.rest.1 in
    elim c.else-b-ge97.branch [
      | lts.else-b-ge97-via-then-b-ge97+else-b-le122 w ↦ valued-at is_running false (33 ∷ 95 ∷ []) 123 133 refl b (omega (arith, w.if-b-le122.false)) (omega arith) save
      | lts.else-b-ge97-via-else-b-ge97 w ↦ valued-at is_running false (33 ∷ 95 ∷ []) 64 33 refl b (omega arith) (omega (arith, w.if-b-ge97.false)) save
    ]

returns-7 : tie.Need-returns-in-33
unfolding is_running is_digit within any_of bytes
returns-7 c =
    ⊎_elim (λ e. rw e) (λ e. rw e) c.in-33.is

returns-8 : tie.Need-returns-in-33-2
unfolding is_running is_digit within any_of bytes valued
returns-8 c =
    let args = c.args in
    valued-at is_running true [] 42 2 refl args.b (omega arith) (omega arith) refl

returns-9 : tie.Need-returns-in-33-3
unfolding is_running is_digit within any_of bytes valued
returns-9 c =
    let args = c.args in
    valued-at is_running true [] 45 3 refl args.b (omega arith) (omega arith) refl

returns-10 : tie.Need-returns-in-33-4
unfolding is_running is_digit within any_of bytes valued
returns-10 c =
    let args = c.args in
    valued-at is_running true [] 60 4 refl args.b (omega arith) (omega arith) refl

pub is_running_spec : {M : Type 1} → statement M
is_running_spec =
    tie.close
    (tie.spec
    returns
    returns-2
    returns-3
    returns-4
    returns-5
    returns-6
    returns-7
    returns-8
    returns-9
    returns-10)

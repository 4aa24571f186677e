-- The words are a term's, with so many variables, whose names are noted in a table that holds them all or found in the words.
use Rattle.std.proofs.Common.{sym, refl, ◌∙◌, rules}
use Rattle.core_term.specs.Code.Counted.{counted_none}
use Rattle.writer.specs.Called.{called_by}
use Rattle.writer.specs.WroteLaws.{no-term, counted-term, counted-names, is-told}
use Rattle.writer.proofs.write.Goals as goal

pub returns-in_default : goal.returns-in_default
returns-in_default c = no-term c.args.words.now _ _ _ (counted_none _ (sym c.count_variables.ensures ∙ c.in_default.is))

pub write_noting-requires : goal.write_noting-requires
write_noting-requires c =
    let a = c.args in
    let k = sym c.count_variables.ensures ∙ c.in-Some.is in
    (counted-term a.words.now a.operations a.names.now _ k, counted-names a.words.now a.operations a.names.now _ k, search rules)

pub write_noting-requires-then-count-le-VARIABLES : goal.write_noting-requires-then-count-le-VARIABLES
write_noting-requires-then-count-le-VARIABLES c =
    let a = c.args in
    let k = sym c.count_variables.ensures ∙ c.in-Some.is in
    (counted-term a.words.now a.operations a.names.now _ k, counted-names a.words.now a.operations a.names.now _ k, search rules)

pub write_called-requires : goal.write_called-requires
unfolding called_by
write_called-requires c =
    let a = c.args in
    let k = sym c.count_variables.ensures ∙ c.in-Some.is in
    let t = counted-term a.words.now a.operations a.names.now _ k in
    (t, is-told a.words.now a.operations a.names.now t, refl)

use Rattle.std.proofs.Common.{arith, refl, ◌∙◌}
use Rattle.lexer.specs.AnsweredLaws.{answered-told, answered-range, answered-short}
use Rattle.reader.specs.Code.StepLaws.{holds-sound}
use Rattle.reader.proofs.OfCode.NameStepLaws.{holds-names}
use Rattle.reader.proofs.OfCode.ServedLaws.{reached-first, reached-on, reached-refused, reached-end}
use Rattle.reader.proofs.read_text.Goals as goal

pub loop-lexeme-init : goal.loop-lexeme-init
loop-lexeme-init c =
    let args = c.args in
    let pre = c.requires in
    (refl, refl, refl, reached-first args.wanted args.text.now args.items.now args.names.now args.index.now pre.item_words_least_in_bounds.0 pre.item_words_least_in_bounds.1 pre.name_table)

pub take-requires : goal.take-requires
take-requires c =
    let r = c.loop-lexeme.invariant.3 in
    let l = c.in-Some.lexeme in
    let told = answered-told c.args.text.now c.loop-lexeme.at _ c.token_from.ensures r.high _ c.in-Some.is in
    let long = answered-range c.args.text.now c.loop-lexeme.at _ c.token_from.ensures l c.in-Some.is in
    record {
      in_text = (omega (arith, long), told.1.high);
      short = λ n. answered-short c.args.text.now c.loop-lexeme.at _ c.token_from.ensures l c.in-Some.is n;
      sound = holds-sound r.reading c.loop-lexeme.place c.loop-lexeme.items c.loop-lexeme.names r.holds;
      names_sound = holds-names r.reading c.loop-lexeme.place c.loop-lexeme.items c.loop-lexeme.names r.holds c.loop-lexeme.index r.indexed;
    }

pub returns-in-Err : goal.returns-in-Err
returns-in-Err c =
    let r = c.loop-lexeme.invariant.3 in
    let l = c.in-Some.lexeme in
    let told = answered-told c.args.text.now c.loop-lexeme.at _ c.token_from.ensures r.high _ c.in-Some.is in
    reached-refused c.args.wanted c.args.text.now c.loop-lexeme.items c.loop-lexeme.names c.loop-lexeme.index c.loop-lexeme.place c.loop-lexeme.at r
    _ l.next told.1 c.take.new.items c.take.new.names c.take.new.index c.take.result c.take.ensures _ c.in-Err.is

pub loop-lexeme-smaller : goal.loop-lexeme-smaller
loop-lexeme-smaller c =
    let r = c.loop-lexeme.invariant.3 in
    let told = answered-told c.args.text.now c.loop-lexeme.at _ c.token_from.ensures r.high _ c.in-Some.is in
    omega (arith, told.1.low, told.1.high)

pub loop-lexeme-preserved : goal.loop-lexeme-preserved
loop-lexeme-preserved c =
    let r = c.loop-lexeme.invariant.3 in
    let l = c.in-Some.lexeme in
    let told = answered-told c.args.text.now c.loop-lexeme.at _ c.token_from.ensures r.high _ c.in-Some.is in (
      c.take.auto.items ∙ c.loop-lexeme.invariant.0,
      c.take.auto.names ∙ c.loop-lexeme.invariant.1,
      c.take.auto.index ∙ c.loop-lexeme.invariant.2,
      reached-on c.args.wanted c.args.text.now c.loop-lexeme.items c.loop-lexeme.names c.loop-lexeme.index c.loop-lexeme.place c.loop-lexeme.at r
          _ l.next told.1 c.take.new.items c.take.new.names c.take.new.index c.take.result c.take.ensures _ c.in-Ok.is,
    )

pub returns : goal.returns
returns c =
    let r = c.loop-lexeme.invariant.3 in
    let none = answered-told c.args.text.now c.loop-lexeme.at _ c.token_from.ensures r.high _ c.in_default.is in
    rw c.counts.ensures
    (reached-end c.args.wanted c.args.text.now c.loop-lexeme.items c.loop-lexeme.names c.loop-lexeme.index c.loop-lexeme.place c.loop-lexeme.at r none)

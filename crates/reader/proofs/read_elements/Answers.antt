-- Each way through the call is a law of Served: grounds 1 and 2, a text that is read, a text that is refused.
use Rattle.std.proofs.Common.{arith, ap, subst, ◌∙◌, replicate}
use Rattle.reader.specs.Code.Reached.{Ended}
use Rattle.reader.proofs.OfCode.ServedLaws.{served-few-items, served-few-names, served-long, served-read, served-refused}
use Rattle.reader.proofs.read_elements.Goals as goal

pub returns-then-items-lt-ITEM_WORDS : goal.returns-then-items-lt-ITEM_WORDS
returns-then-items-lt-ITEM_WORDS c =
    let args = c.args in
    served-few-items args.wanted args.text.now args.items.now args.names.now c.if-items-lt-ITEM_WORDS.true

pub returns-then-names-lt-NAME_BYTES : goal.returns-then-names-lt-NAME_BYTES
returns-then-names-lt-NAME_BYTES c =
    let args = c.args in
    served-few-names args.wanted args.text.now args.items.now args.names.now c.if-items-lt-ITEM_WORDS.false c.if-names-lt-NAME_BYTES.true

pub returns-then-text-gt-TEXT_BYTES : goal.returns-then-text-gt-TEXT_BYTES
returns-then-text-gt-TEXT_BYTES c =
    let args = c.args in
    served-long args.wanted args.text.now args.items.now args.names.now c.if-items-lt-ITEM_WORDS.false c.if-names-lt-NAME_BYTES.false c.if-text-gt-TEXT_BYTES.true

pub read_text-requires : goal.read_text-requires
read_text-requires c =
    record {
      item_words_least_in_bounds = (omega (arith, c.begin.auto.items, c.if-items-lt-ITEM_WORDS.false), c.begin.ensures.0);
      name_table = c.begin.ensures.1;
    }

pub returns-in-Ok : goal.returns-in-Ok
returns-in-Ok c =
    let args = c.args in
    served-read args.wanted args.text.now args.items.now args.names.now c.if-items-lt-ITEM_WORDS.false c.if-names-lt-NAME_BYTES.false c.if-text-gt-TEXT_BYTES.false
    c.read_text.new.items c.read_text.new.names c.in-Ok.counts
    (subst (Ended args.wanted args.text.now c.read_text.new.items c.read_text.new.names) c.in-Ok.is c.read_text.ensures)
    (c.read_text.auto.items ∙ c.begin.auto.items) (c.read_text.auto.names ∙ c.begin.auto.names)

pub returns-in-Err : goal.returns-in-Err
returns-in-Err c =
    let args = c.args in
    served-refused args.wanted args.text.now args.items.now args.names.now c.if-items-lt-ITEM_WORDS.false c.if-names-lt-NAME_BYTES.false c.if-text-gt-TEXT_BYTES.false c.clear.new.items
    c.clear.new.names c.in-Err.ground
    (subst (Ended args.wanted args.text.now c.read_text.new.items c.read_text.new.names) c.in-Err.is c.read_text.ensures)
    (c.clear.ensures.0 ∙ ap (λ n. replicate n 0) (c.read_text.auto.items ∙ c.begin.auto.items))
    (c.clear.ensures.1 ∙ ap (λ n. replicate n 0) (c.read_text.auto.names ∙ c.begin.auto.names))

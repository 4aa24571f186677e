use Rattle.std.proofs.Common.{arith, sym, ◌∙◌, ◌<◌}
use Rattle.words.specs.Limits.{names_most}
use Rattle.std.proofs.lemmas.Result.{err_from_is_err_and}
use Rattle.reader.specs.Code.StepLaws.{begun-names}
use Rattle.reader.proofs.OfCode.IndexLaws.{bucket-below}
use Rattle.reader.proofs.OfCode.NameStepLaws.{found-most, name-known, name-refused, name_new}
use Rattle.reader.proofs.element.put_name.Goals as goal

pub returns-then-number-place : goal.returns-then-number-place
returns-then-number-place c =
    λ r h.
    let args = c.args in
    let pre = c.requires in
    name-known r args.place args.items.now args.names.now h args.word.now c.find-number.result c.find-number.ensures
    args.index.now pre.names_sound.indexed _ c.put_token.result c.if-number-place.true c.put_token.ensures

pub overflow_add-number : goal.overflow_add-number
overflow_add-number c =
    omega (arith, found-most c.args.word.now c.args.names.now c.args.place.known c.find-number.result c.find-number.ensures, c.requires.sound.names)

pub returns-in_err-begins : goal.returns-in_err-begins
returns-in_err-begins c =
    λ r h.
    let args = c.args in
    let pre = c.requires in
    let p = err_from_is_err_and c.from_residual.result c.from_residual.ensures.1 in
    rw (p.1, p.2)
    (name-refused r args.place args.items.now args.names.now h args.word.now c.find-number.result c.find-number.ensures
    args.index.now pre.names_sound.indexed c.if-number-place.false pre.word_len_bound _ _ _ (sym c.begins.ensures ∙ c.in_err-begins.was))

pub enter-requires-clause-slot_size_in_bounds : goal.enter-requires-clause-slot_size_in_bounds
enter-requires-clause-slot_size_in_bounds c =
    let pre = c.requires in
    let few = begun-names _ _ _ _ (sym c.begins.ensures ∙ c.in_ok-begins.was) in
    (omega (arith, few, pre.names_sound.room), pre.word_len_bound)

pub enter-requires-clause-index_len : goal.enter-requires-clause-index_len
enter-requires-clause-index_len c =
    let few = begun-names _ _ _ _ (sym c.begins.ensures ∙ c.in_ok-begins.was) in
    (c.requires.names_sound.indexed.size, omega (arith, few), omega (arith, bucket-below c.args.word.now, c.bucket_of-bucket.ensures))

pub overflow_cast-number-2 : goal.overflow_cast-number-2
overflow_cast-number-2 c =
    omega (arith, found-most c.args.word.now c.args.names.now c.args.place.known c.find-number.result c.find-number.ensures, c.requires.sound.names)

pub overflow_add-number-2 : goal.overflow_add-number-2
overflow_add-number-2 c =
    omega (arith, found-most c.args.word.now c.args.names.now c.args.place.known c.find-number.result c.find-number.ensures, c.requires.sound.names)

pub returns : goal.returns
returns c =
    λ r h.
    let args = c.args in
    let pre = c.requires in
    let few : c.find-number.result < names_most = omega (arith, begun-names _ _ _ _ (sym c.begins.ensures ∙ c.in_ok-begins.was)) in
    rw (c.enter.ensures.0, c.enter.ensures.1, c.bucket_of-bucket.ensures)
    (name_new r args.place args.items.now args.names.now h args.word.now c.find-number.result c.find-number.ensures
    args.index.now pre.names_sound.indexed c.if-number-place.false pre.word_len_bound _ c.put_token-2.result few c.put_token-2.ensures)

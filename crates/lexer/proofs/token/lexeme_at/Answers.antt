use Rattle.std.proofs.Common.{refl}
use Rattle.reading.specs.Meaning.{begins, ends}
use Rattle.lexer.specs.ToldLaws.{byte-stands, opening-taken, closing-taken}
use Rattle.lexer.proofs.token.lexeme_at.Goals as goal

pub returns-in-40 : goal.returns-in-40
returns-in-40 c =
    let h = c.requires.in_text in
    (refl, byte-stands c.args.text.now c.args.at h begins (opening-taken c.args.text.now c.args.at h c.in-40.is))

pub returns-in-41 : goal.returns-in-41
returns-in-41 c =
    let h = c.requires.in_text in
    (refl, byte-stands c.args.text.now c.args.at h ends (closing-taken c.args.text.now c.args.at h c.in-41.is))

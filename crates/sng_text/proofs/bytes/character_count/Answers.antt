use Rattle.std.proofs.Common.{rules}
use Rattle.std.proofs.lemmas.Str.{chars_from_encodes, is_utf8-from_IsUtf8}
use Rattle.sng_text.proofs.Utf8Lemmas.{is_utf8-false}
use Rattle.sng_text.proofs.bytes.character_count.Goals as goal

pub returns-in-Ok : goal.returns-in-Ok
returns-in-Ok c =
    rw (is_utf8-from_IsUtf8 c.args.text.now c.in-Ok.ensures.cases.1) (search (rules, chars_from_encodes))

pub returns-in-Err : goal.returns-in-Err
returns-in-Err c = rw (is_utf8-false c.args.text.now c.in-Err.ensures.cases.0)

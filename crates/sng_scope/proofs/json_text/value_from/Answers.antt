use Rattle.std.proofs.Common.{refl, inr}
use Rattle.std.proofs.lemmas.Bool.{iff_false}
use Rattle.std.proofs.lemmas.Str.{is_utf8-from_IsUtf8}
use Rattle.sng_scope.proofs.JsonLemmas.{value_of-not_json}
use Rattle.sng_scope.proofs.json_text.value_from.Goals as goal

pub returns-in-Ok-clause-ok : goal.returns-in-Ok-clause-ok
returns-in-Ok-clause-ok c =
    let read = c.in-Ok.ensures.ok in rw (is_utf8-from_IsUtf8 c.args.text.now read.0, read.1) refl

pub returns-else-is_memory-clause-err : goal.returns-else-is_memory-clause-err
returns-else-is_memory-clause-err c =
    inr (value_of-not_json c.args.text.now
    (c.in-Err.ensures.err (iff_false c.is_memory.ensures c.if-is_memory.false)))

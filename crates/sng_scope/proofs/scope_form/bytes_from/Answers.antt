use Rattle.std.proofs.Common.{inr}
use Rattle.sng_scope.proofs.EncodedLemmas.{bytes_of-decoded, bytes_of-refused}
use Rattle.sng_scope.proofs.scope_form.bytes_from.Goals as goal

pub returns-in-Ok-clause-ok : goal.returns-in-Ok-clause-ok
returns-in-Ok-clause-ok c =
    bytes_of-decoded c.args.text.now c.in-Ok.bytes.items (rw c.as_bytes.ensures.value at c.in-Ok.ensures.ok)

pub returns-in-Err-DecodeError-clause-err : goal.returns-in-Err-DecodeError-clause-err
returns-in-Err-DecodeError-clause-err c =
    inr (bytes_of-refused c.args.text.now c.in-Err-DecodeError.field-0-0
    (rw (c.as_bytes.ensures.value, c.in-Err-DecodeError.field-0-is) at c.in-Err-DecodeError.ensures.err))

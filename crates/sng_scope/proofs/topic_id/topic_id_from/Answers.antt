use Rattle.std.proofs.Common.{◌≡◌, true}
use Rattle.sng_scope.specs.Numerals.{is_numeral}
use Rattle.sng_scope.proofs.NumeralLemmas.{ok_id, past_id, no_number}
use Rattle.sng_scope.proofs.topic_id.topic_id_from.Goals as goal

pub returns-then-id-le-LAST_ID : goal.returns-then-id-le-LAST_ID
returns-then-id-le-LAST_ID c =
    let numeral : is_numeral c.args.text.now ≡ true = cc in
    ok_id c.args.text.now c.parse.result c.in-Ok.id numeral c.parse.ensures.value.0 c.in-Ok.is
    c.if-id-le-LAST_ID.true

pub returns-else-id-le-LAST_ID : goal.returns-else-id-le-LAST_ID
returns-else-id-le-LAST_ID c =
    let numeral : is_numeral c.args.text.now ≡ true = cc in
    past_id c.args.text.now c.parse.result c.in-Ok.id numeral c.parse.ensures.value.0 c.in-Ok.is
    c.if-id-le-LAST_ID.false

pub returns-in-Err : goal.returns-in-Err
returns-in-Err c =
    let numeral : is_numeral c.args.text.now ≡ true = cc in
    no_number c.args.text.now c.parse.result _ numeral c.parse.ensures.value.0 c.in-Err.is

use Rattle.mqtt_frames.specs.Reading.{request_at, items_of}
use Rattle.mqtt_frames.proofs.Items.{goes_on}
use Rattle.mqtt_frames.proofs.FieldLemmas.{Consumes-request_at}
use Rattle.mqtt_frames.proofs.subscribe.requests_of.Goals as goal

pub loop-rest-smaller : goal.loop-rest-smaller
loop-rest-smaller c =
    Consumes-request_at c.loop-rest.rest.now c.in_ok-request.request c.in_ok-request.behind.now
    c.in_ok-request.ensures

pub loop-rest-preserved : goal.loop-rest-preserved
loop-rest-preserved c =
    rw c.in_ok-push.ensures.items
    (goes_on request_at Consumes-request_at c.loop-rest.requests.items c.loop-rest.rest.now
    c.in_ok-request.request c.in_ok-request.behind.now
    (items_of request_at c.args.bytes.now) c.in_ok-request.ensures c.loop-rest.invariant)

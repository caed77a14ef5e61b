use Rattle.mqtt_frames.specs.Reading.{text_at, items_of}
use Rattle.mqtt_frames.proofs.Items.{goes_on}
use Rattle.mqtt_frames.proofs.FieldLemmas.{Consumes-text_at}
use Rattle.mqtt_frames.proofs.unsubscribe.filters_of.Goals as goal

pub loop-rest-smaller : goal.loop-rest-smaller
loop-rest-smaller c =
    Consumes-text_at c.loop-rest.rest.now c.in_ok-filter.filter c.in_ok-filter.behind.now
    c.in_ok-filter.ensures

pub loop-rest-preserved : goal.loop-rest-preserved
loop-rest-preserved c =
    rw c.in_ok-push.ensures.items
    (goes_on text_at Consumes-text_at c.loop-rest.filters.items c.loop-rest.rest.now c.in_ok-filter.filter
    c.in_ok-filter.behind.now (items_of text_at c.args.bytes.now) c.in_ok-filter.ensures
    c.loop-rest.invariant)

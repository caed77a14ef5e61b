use Rattle.std.proofs.Common.{◌<◌, length, get_or, arith}
use Rattle.std.proofs.lemmas.List.{get_or_default}
use Rattle.std.proofs.lemmas.List.Edits.{map_over_more}
use Rattle.sng_broker.specs.declared.parts.Peer.{Peer}
use Rattle.sng_broker.specs.Steps.{counted}
use Rattle.sng_broker.proofs.publishing.count_copies.Goals as goal

pub loop-peer-preserved : goal.loop-peer-preserved
loop-peer-preserved c =
    let items = c.loop-peer.peer-items in
    let within : c.loop-peer.peer-index < length c.deref_mut-peer-items.result.now = omega arith in
    let inside : c.loop-peer.peer-index < length items = omega arith in
    let none : Peer = record { conn = 0; last_id = 0 } in
    let peer : Peer = get_or items c.loop-peer.peer-index none in
    let all =
    map_over_more (counted c.args.standing.now c.args.message.now) c.deref_mut-peer-items.result.now items
    c.loop-peer.peer-index peer within c.loop-peer.invariant
    (get_or_default items c.loop-peer.peer-index none peer inside) in
    rw c.count_copy.ensures all

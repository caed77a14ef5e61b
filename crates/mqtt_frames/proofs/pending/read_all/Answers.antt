use Rattle.std.proofs.Common.{◌≡◌, ℕ, List, ◌∷◌, [], ◌++◌, drop, sym, ap, ◌∙◌}
use Rattle.mqtt_frames.specs.declared.packet.Packet.{Packet}
use Rattle.mqtt_frames.specs.declared.packet.Packet.TheVariants.{PublishAck}
use Rattle.mqtt_frames.specs.declared.wire.decode.Front.TheVariants as fronts
use Rattle.mqtt_frames.specs.Fronts.{decode}
use Rattle.mqtt_frames.specs.Streams.{Read, read_all, with_packets}
use Rattle.mqtt_frames.proofs.StreamLemmas.{read_all-whole, with_packets-both}
use Rattle.mqtt_frames.proofs.pending.read_all.Goals as goal

-- a packet that is read moves from the bytes to the packets, and all of them together stay the same
next : (packets : List Packet) (rest : List ℕ) (packet : Packet) (size : ℕ) (all : Read)
    → decode rest ≡ fronts.Whole packet size → with_packets packets (read_all rest) ≡ all
    → with_packets (packets ++ packet ∷ []) (read_all (drop size rest)) ≡ all
next packets rest packet size all is same =
    sym (with_packets-both packets (packet ∷ []) (read_all (drop size rest)))
    ∙ ap (with_packets packets) (sym (read_all-whole rest packet size is)) ∙ same

pub loop-packet_id-preserved-in-Some : goal.loop-packet_id-preserved-in-Some
loop-packet_id-preserved-in-Some c =
    let packets = c.loop-packet_id.packets.items in
    let rest = c.loop-packet_id.rest.now in
    let all = with_packets c.args.packets.items (read_all c.args.bytes.now) in
    rw (c.in_ok-push.ensures.items, c.split_at.ensures.back)
    (next packets rest (PublishAck c.in-Some.packet_id) 4 all c.in-Some.ensures.whole c.loop-packet_id.invariant)

pub loop-packet_id-preserved : goal.loop-packet_id-preserved
loop-packet_id-preserved c =
    let packets = c.loop-packet_id.packets.items in
    let rest = c.loop-packet_id.rest.now in
    let all = with_packets c.args.packets.items (read_all c.args.bytes.now) in
    let is = sym (c.in_ok-decode.ensures.value) ∙ c.in-Whole.is in
    rw (c.in_ok-push-in-Whole.ensures.items, c.split_at-in-Whole.ensures.back)
    (next packets rest c.in-Whole.packet c.in-Whole.size all is c.loop-packet_id.invariant)

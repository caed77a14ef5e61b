use Rattle.std.proofs.Common.{rules, ◌∷◌, ◌++◌, [], arith, map, sym, ap, ◌∙◌}
use Rattle.std.proofs.lemmas.List.{append_assoc, map-append, length-append}
use Rattle.std.specs.Vec.Iter.{into_iter_items}
use Rattle.mqtt_frames.specs.declared.packet.Packet.{Packet}
use Rattle.sng_book.specs.declared.event.Event.TheVariants.{Broker}
use Rattle.sng_desk.proofs.Acting.{acted_none, acted_on}
use Rattle.sng_crew.proofs.answering.act_each.Goals as goal

pub loop-packet-init : goal.loop-packet-init
loop-packet-init g c = record {
  can = tt;
  finite = tt;
  acted = ([], search rules, acted_none c.args.hand.now.log.trail c.args.hand.now.share, omega arith);
}

pub loop-packet-preserved : goal.loop-packet-preserved
loop-packet-preserved g c =
    let inv = c.loop-packet.invariant.acted in
    let done = inv.0 in
    let p = c.in-Some.packet in
    let old = c.args.hand.now in
    let mid = c.loop-packet.hand in
    let new = c.act-taken.new.self in
    let rest = into_iter_items c.next.new.self in
    record {
      can = tt;
      finite = tt;
      acted = (
        done ++ p ∷ [],
        append_assoc done (p ∷ []) rest ∙ ap (λ x. done ++ x) (sym c.in-Some.ensures.steps.0) ∙ inv.1,
        rw (map-append (λ (q : Packet). Broker q) done (p ∷ []))
            (acted_on (map (λ (q : Packet). Broker q) done) (Broker p
            ∷ []) old.log.trail old.share mid.log.trail mid.share new.log.trail new.share
            c.loop-packet.fine c.act-taken.result inv.2 c.act-taken.ensures.acted),
        omega (arith, inv.3, c.act-taken.ensures.spare, length-append done (p ∷ [])),
      );
    }

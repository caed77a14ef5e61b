use Rattle.std.proofs.Common.{not, ◌&&◌, refl, rules}
use Rattle.sng_crew.proofs.Feeding.{empty_list}
use Rattle.sng_crew.proofs.Turns.{greeted_on, greeted_none}
use Rattle.sng_crew.proofs.answering.greet.Goals as goal

pub returns-clause-answered : goal.returns-clause-answered
returns-clause-answered g c n =
    let old = c.args.hand.now in
    let mid = c.act-up.new.self in
    let end = c.act_on-fine.new.hand in
    greeted_on n c.args.packets.items c.in-Some.first.now c.remove-first.new.self.items c.args.broken
    old.log.trail old.share mid.log.trail mid.share end.log.trail end.share c.act-up.result
    c.act_on-fine.result (not c.args.broken && (c.act-up.result && c.act_on-fine.result)) (search rules)
    (search rules) c.act-up.ensures.acted
    c.act_on-fine.ensures.acted refl

pub returns-in_default-clause-answered : goal.returns-in_default-clause-answered
returns-in_default-clause-answered g c n =
    greeted_none n c.args.packets.items c.args.broken c.args.hand.now.log.trail c.args.hand.now.share
    (empty_list c.args.packets.items (search rules))

use Rattle.std.proofs.Common.{subst, sym}
use Rattle.sng_core.specs.Forms.{client_at}
use Rattle.sng_core.specs.Subscribing.{IsAllowed}
use Rattle.sng_core.proofs.SubscribeRows.{allowed_room}
use Rattle.sng_core.proofs.parts.Parts.subscribe.Goals as goal

pub stand-requires : goal.stand-requires
stand-requires c =
    let s = c.args.self.now in
    let x = client_at s.clients c.args.place in
    subst (IsAllowed s x c.args.request) (sym c.in_ok-judged.ensures) (allowed_room s x c.args.request)

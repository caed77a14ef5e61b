use Rattle.std.proofs.Common.{sym, subst, arith}
use Rattle.sng_fan.specs.Subscriptions.{IsOneClients}
use Rattle.sng_sessions.specs.Kept.{SaysHeld}
use Rattle.sng_sessions.proofs.HoldingsMade.{all_made, made_none, made_on}
use Rattle.sng_sessions.proofs.sessions.Sessions.holdings.Goals as goal

pub loop-place-init : goal.loop-place-init
loop-place-init c = record {
  made = made_none c.new-standing.result c.args.self.now c.new-standing.ensures;
  end = c.len-place-end.ensures.len;
}

pub add_held-requires : goal.add_held-requires
add_held-requires c = record {
  once = subst IsOneClients (sym c.filters.ensures.value) c.filters.ensures.once;
  empty = (c.loop-place.invariant.made c.loop-place.place).1 (omega arith);
}

pub loop-place-preserved : goal.loop-place-preserved
loop-place-preserved c = record {
  made =
      made_on c.loop-place.standing c.add_held.new.standing c.args.self.now c.loop-place.place
      c.loop-place.invariant.made
      (subst (SaysHeld c.add_held.new.standing c.loop-place.place) c.filters.ensures.value
      c.in_ok-add_held.ensures.held) c.in_ok-add_held.ensures.others;
  end = c.loop-place.invariant.end;
}

pub returns : goal.returns
returns c =
    all_made c.loop-place.standing c.args.self.now c.loop-place.place (omega arith)
    c.loop-place.invariant.made

use Rattle.std.proofs.Common.{◌≡◌, length}
use Rattle.sng_sessions.proofs.HoldingsMade.{MadeTo}
use Rattle.sng_sessions.proofs.sessions.Sessions.holdings.Given as goal

abbrev pub invariant-loop-place : goal.invariant-loop-place
invariant-loop-place l = record {
  made : MadeTo l.standing l.self l.place;
  end : l.place-end ≡ length l.self;
}

-- Two moves of one client are one.
use Rattle.std.proofs.Common.{ap, ◌∙◌}
use Rattle.sng_history.specs.Clients.{without}
use Rattle.sng_history.specs.Entering.{heard_at}
use Rattle.sng_sessions.specs.Moving.{moved_at}
use Rattle.sng_sessions.proofs.MovedLists.{moved_at-twice}
use Rattle.sng_sessions.proofs.sessions.Sessions.unsubscribe.Goals as goal

pub returns : goal.returns
returns c =
    c.end.ensures ∙ ap (moved_at c.args.place (without c.args.filter.now)) c.hear.ensures
    ∙ moved_at-twice (heard_at c.args.clock) (without c.args.filter.now) c.args.place c.args.self.now

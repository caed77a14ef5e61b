-- The tree of filters says what the session holds as it begins anew.
use Rattle.std.proofs.Common.{sym, ap, subst, ◌∙◌}
use Rattle.sng_sessions.specs.Kept.{SaysHeld}
use Rattle.sng_sessions.proofs.places.begin.Goals as goal
use Rattle.sng_sessions.proofs.places.begin.Goals.{then-connect, else-connect}

pub returns-clause-held : goal.returns-clause-held
returns-clause-held c =
    elim c.if-connect.branch [
      | then-connect w ↦
          subst (λ root. SaysHeld root c.args.place c.if-connect.session.filters) (sym w.standing-is)
          (subst (SaysHeld w.end_all.new.standing c.args.place)
          (sym (ap (λ s. s.filters) w.session-is ∙ w.end_all.ensures.filters)) w.end_all.ensures.held)
      | else-connect w ↦
          subst (λ root. SaysHeld root c.args.place c.if-connect.session.filters) (sym w.standing-is)
          (subst (SaysHeld c.args.standing.now c.args.place) (sym (ap (λ s. s.filters) w.session-is))
          c.requires)
    ]

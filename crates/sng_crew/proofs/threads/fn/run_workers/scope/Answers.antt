use denote.Param.Send.{sendable}
use Rattle.std.proofs.Common.{rules, ◌≡◌, ◌<◌, length, ap, sym, ◌∙◌}
use Rattle.std.proofs.Crossing.{crosses}
use Rattle.std.specs.Prelude.{vec_len}
use Rattle.sng_desk.proofs.Crossing.{desk_send}
use Rattle.sng_crew.proofs.Places.{same_at, same_length}
use Rattle.sng_crew.proofs.threads.fn.run_workers.scope.Goals as goal

pub returns-in-Ok : goal.returns-in-Ok
returns-in-Ok g c =
    let hs = c.in_ok-handles.handles.items in
    let ps = c.captures.udp.items in
    let made = c.in_ok-handles.ensures in
    let many : length hs ≡ length ps = same_length (λ h. h.promise.source.value) (λ p. p.source) hs ps
    made.sources in
    let joined : vec_len c.in-Ok.udp ≡ vec_len c.in_ok-handles.handles = c.in-Ok.ensures.len in
    record {
      len = search rules;
      udp = λ k p e below.
          let within : k < vec_len c.in_ok-handles.handles = search rules in
          let keeps = (c.in-Ok.ensures.each k e within).1 in
          let source = ap (λ h. h.promise.source.value) keeps.handle_is
          ∙ same_at (λ h. h.promise.source.value) (λ p. p.source) hs ps k keeps.handle p made.sources
          below in
          let share = ap (λ h. h.promise.share.value) keeps.handle_is
          ∙ same_at (λ h. h.promise.share.value) (λ p. p.share) hs ps k keeps.handle p made.shares below
          in
          let filing = ap (λ h. h.promise.filing.value) keeps.handle_is
          ∙ same_at (λ h. h.promise.filing.value) (λ p. p.filing) hs ps k keeps.handle p made.filings below
          in
          let stop = ap (λ h. h.promise.may_stop) keeps.handle_is
          ∙ same_at (λ h. h.promise.may_stop) (λ p. c.captures.may_stop) hs ps k keeps.handle p made.stops
          below in
          rw (sym source, sym share, sym filing, sym stop) keeps.kept;
      upstream = search rules;
      ticker =
          let same = c.in_ok-tick.ensures in
          rw (sym same.0, sym same.1) c.join-ticker.ensures;
      policies = search rules;
    }

pub start_all-requires-sync-M : goal.start_all-requires-sync-M
start_all-requires-sync-M g c κs within = search (desk_send, crosses, sendable) depth 20

pub start_upstream-requires-sync-M : goal.start_upstream-requires-sync-M
start_upstream-requires-sync-M g c κs within = search (desk_send, crosses, sendable) depth 20

pub start_ticker-requires-sync-M : goal.start_ticker-requires-sync-M
start_ticker-requires-sync-M g c κs within = search (desk_send, crosses, sendable) depth 20

pub start_loader-requires-sync-M : goal.start_loader-requires-sync-M
start_loader-requires-sync-M g c κs within = search (desk_send, crosses, sendable) depth 20

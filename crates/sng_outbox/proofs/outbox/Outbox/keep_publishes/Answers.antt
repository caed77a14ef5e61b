use Rattle.std.proofs.Common.{◌≡◌, ◌≤◌, length, refl, ◌∙◌, sym, rules, arith}
use Rattle.std.specs.List.{count_by}
use Rattle.std.proofs.lemmas.Fn.{filter_same}
use Rattle.std.proofs.lemmas.List.Sums.{length-filter, count_by-le-length}
use Rattle.sng_outbox.specs.Sending.{is_publish, asks_for_ack, publishes}
use Rattle.sng_outbox.proofs.LoadLemmas.{counted-publishes}
use Rattle.sng_outbox.proofs.outbox.Outbox.keep_publishes.Goals as goal

pub invariant_of-self : goal.invariant_of-self
invariant_of-self c =
    let waiting = c.self.inside.waiting.items in
    let kept : c.retain.new.self.items ≡ publishes waiting =
    filter_same _ is_publish _ (λ x b f' k. search rules) _ _ c.retain.ensures.filtered in
    let fewer : length (publishes waiting) ≤ c.self.inside.places =
    omega (
      arith,
      length-filter is_publish waiting,
      count_by-le-length is_publish waiting,
      c.self.invariant.0,
    ) in
    let counted : c.self.inside.acks_waiting ≡ count_by asks_for_ack (publishes waiting) =
    c.self.invariant.2 ∙ sym (counted-publishes waiting) in
    (rw kept fewer, omega arith, rw kept counted, c.self.invariant.3, c.self.invariant.4)

pub returns : goal.returns
returns c =
    let kept : c.retain.new.self.items ≡ publishes c.self.inside.waiting.items =
    filter_same _ is_publish _ (λ x b f' k. search rules) _ _ c.retain.ensures.filtered in
    rw (← c.self.view_is, ← kept) refl

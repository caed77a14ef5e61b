use Rattle.std.proofs.Common.{◌≡◌, not, length, rules, arith}
use Rattle.std.proofs.lemmas.Fn.{filter_same}
use Rattle.sng_fan.specs.Subscriptions.{has_text, without_filter}
use Rattle.sng_fan.proofs.HeldLemmas.{once_kept, fewer_where_stood}
use Rattle.sng_fan.proofs.subscriptions.Subscriptions.end.Goals as goal

pub invariant_of-self : goal.invariant_of-self
invariant_of-self c =
    let kept : c.retain.new.self.items ≡ without_filter c.self.inside.held.items c.args.filter.now =
    filter_same _ (λ h. not (has_text c.args.filter.now h)) _
    (λ x b f' k. search rules) _ _ c.retain.ensures.filtered in (
      rw kept (once_kept (λ h. not (has_text c.args.filter.now h)) c.self.inside.held.items
          c.self.invariant.0),
      omega arith,
    )

pub returns-clause-stood : goal.returns-clause-stood
returns-clause-stood c =
    let kept : c.retain.new.self.items ≡ without_filter c.self.inside.held.items c.args.filter.now =
    filter_same _ (λ h. not (has_text c.args.filter.now h)) _
    (λ x b f' k. search rules) _ _ c.retain.ensures.filtered in
    let left : c.len.result ≡ length c.retain.new.self.items = omega arith in
    let all : c.len-before.result ≡ length c.self.inside.held.items = omega arith in
    rw (← c.self.view_is) (fewer_where_stood c.len.result c.len-before.result c.self.inside.held.items
    c.args.filter.now (rw kept at left) all)

pub returns-clause-rest : goal.returns-clause-rest
returns-clause-rest c =
    rw (← c.self.view_is) (filter_same _ (λ h. not (has_text c.args.filter.now h)) _
    (λ x b f' k. search rules) _ _ c.retain.ensures.filtered)

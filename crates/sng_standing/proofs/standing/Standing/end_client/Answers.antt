use Rattle.std.proofs.Common.{◌≡◌, ◌+◌, ◌∷◌, drop, sym, ap, ◌∙◌}
use Rattle.std.proofs.lemmas.List.{drop_more, drop_all}
use Rattle.sng_standing.specs.Tree.{qos_at}
use Rattle.sng_standing.proofs.Ended.{ended, ended_first, ended_none}
use Rattle.sng_standing.proofs.standing.Standing.end_client.Goals as goal

pub loop-one-preserved : goal.loop-one-preserved
loop-one-preserved c = λ n filter.
    let client = c.args.client in
    let held = c.args.held.now in
    let i = c.loop-one.one-index in
    let one = c.one-item.result in
    let qos = qos_at c.loop-one.self n filter in
    let step : drop i held ≡ one ∷ drop (i + 1) held =
    drop_more held i one c.loop-one-test.true ∙ ap (λ x. x ∷ drop (i + 1) held) (sym c.one-item.is) in
    ap (ended client (drop (i + 1) held) n filter) (c.end.ensures.rest n filter)
    ∙ ended_first client one (drop (i + 1) held) n filter qos
    ∙ ap (λ hs. ended client hs n filter qos) (sym step) ∙ c.loop-one.invariant n filter

pub returns : goal.returns
returns c = λ n filter.
    let qos = qos_at c.loop-one.self n filter in
    sym (ended_none c.args.client n filter qos)
    ∙ ap (λ hs. ended c.args.client hs n filter qos)
    (sym (drop_all c.loop-one.one-index c.args.held.now c.loop-one-test.false))
    ∙ c.loop-one.invariant n filter

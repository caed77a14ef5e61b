use Rattle.std.proofs.Common.{List, ℕ, ◌++◌, ap, ◌∙◌}
use Rattle.mqtt_frames.specs.Headers.{header_at}
use Rattle.mqtt_frames.proofs.PieceLemmas.{header_at-few}
use Rattle.mqtt_frames.proofs.pending.header_of.Goals as goal

pub returns-clause-ok : goal.returns-clause-ok
returns-clause-ok c =
    let held = c.args.held.now.items in
    let bytes =
    c.as_slice-2.ensures.value ∙ c.in_ok-extend_from_slice.ensures.items
    ∙ ap (λ (b : List ℕ). held ++ b) c.first_bytes.ensures in
    c.header_at-header.ensures.value ∙ ap header_at bytes ∙ header_at-few held c.args.piece.now

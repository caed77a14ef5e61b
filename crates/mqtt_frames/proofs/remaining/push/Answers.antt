use Rattle.std.proofs.Common.{◌≡◌, ◌+◌, ◌/◌, ◌%◌, ◌++◌, ◌∷◌, [], ◌∙◌, ap, sym}
use Rattle.mqtt_frames.specs.RemainingLength.{remaining_length}
use Rattle.mqtt_frames.proofs.Groups.{append-remaining_length-next, remaining_length-last}
use Rattle.mqtt_frames.proofs.remaining.push.Goals as goal

pub loop-rest-preserved : goal.loop-rest-preserved
loop-rest-preserved c =
    let rest = c.loop-rest.rest in
    let pushed : c.push.new.self.items ≡ c.loop-rest.bytes.items ++ (rest % 128 + 128) ∷ [] =
    rw c.in_ok-push.was at c.push.ensures.items in
    ap (λ bytes. bytes ++ remaining_length (rest / 128)) pushed
    ∙ append-remaining_length-next c.loop-rest.bytes.items rest c.loop-rest-test.true ∙ c.loop-rest.invariant

pub returns : goal.returns
returns c =
    let rest = c.loop-rest.rest in
    let pushed : c.push-2.new.self.items ≡ c.loop-rest.bytes.items ++ rest ∷ [] =
    rw c.in_ok-push-2.was at c.push-2.ensures.items in
    pushed ∙ ap (λ bytes. c.loop-rest.bytes.items ++ bytes)
    (sym (remaining_length-last rest c.loop-rest-test.false)) ∙ c.loop-rest.invariant

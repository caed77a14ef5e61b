-- What is retained, as it goes to who subscribes.
use Rattle.std.proofs.Common.{◌≡◌, ℕ, Bool, true, false, ◌&&◌, ◌↔◌, List, [], ◌∷◌, ◌++◌, filter}
use Rattle.std.proofs.Common.{if◌then◌else◌, is_some, refl, sym, ◌∙◌, ap, append_assoc, append-nil}
use Rattle.std.proofs.lemmas.Bool.{and_parts, and_from}
use Rattle.sng_text.specs.Matching.{matches}
use Rattle.sng_text.specs.declared.qos.Qos.TheVariants.{AtLeastOnce}
use Rattle.mqtt_frames.specs.declared.packet.Packet.{Packet}
use Rattle.sng_broker.specs.declared.parts.Message.{Message}
use Rattle.sng_broker.specs.declared.parts.Subscription.{Subscription}
use Rattle.sng_broker.specs.Brokers.{is_at_least_once}
use Rattle.sng_broker.specs.Steps.{Outgoing, id_for, last_after, packet_of, replay}
use Rattle.sng_broker.specs.Laws.{AreCopies, RetainedAreReplayed}
use Rattle.sng_broker.proofs.Copies.{sure_is, id_is}

-- all packets of these copies, behind what was there
abbrev Replayed : Subscription → List (ℕ × Packet) → List (ℕ × Packet) → List Message → Type 0
Replayed s after before messages =
    (copies : List (ℕ × Packet)) × (after ≡ before ++ copies) × AreCopies s messages copies

abbrev surely : Subscription → Message → Bool
surely s m = is_at_least_once s.qos && is_at_least_once m.qos

both_sure : (s : Subscription) (m : Message) (last : ℕ)
    → (is_some (id_for (surely s m) last) ≡ true) ↔ ((m.qos ≡ AtLeastOnce) × (s.qos ≡ AtLeastOnce))
both_sure s m last = (
  λ some.
      let both =
      and_parts (is_at_least_once s.qos) (is_at_least_once m.qos)
      (sym (id_is (surely s m) last) ∙ some) in
      (sure_is m.qos both.1, sure_is s.qos both.0),
  λ (one, other).
      id_is (surely s m) last ∙ and_from (is_at_least_once s.qos) (is_at_least_once m.qos)
      (ap is_at_least_once other) (ap is_at_least_once one),
)

pub retained_are_replayed : RetainedAreReplayed
retained_are_replayed s sending [] = ([], sym (append-nil sending.outs), tt)
retained_are_replayed s sending (m ∷ kept) =
    elim (matches s.filter m.name) as (λ b. Replayed s
    (replay s (if b then record {
      last_id = last_after (surely s m) sending.last_id;
      outs = sending.outs ++ (s.conn, packet_of true (id_for (surely s m) sending.last_id) m) ∷ [];
    } else sending) kept).outs
    sending.outs (if b then m ∷ filter (λ k. matches s.filter k.name) kept
    else filter (λ k. matches s.filter k.name) kept)) [
      | true ↦
          let out : ℕ × Packet = (s.conn, packet_of true (id_for (surely s m) sending.last_id) m) in
          let next : Outgoing =
          record { last_id = last_after (surely s m) sending.last_id; outs = sending.outs ++ out ∷ [] } in
          let rest = retained_are_replayed s next kept in (
            out ∷ rest.0,
            rest.1 ∙ append_assoc sending.outs (out ∷ []) rest.0,
            ((id_for (surely s m) sending.last_id, refl, both_sure s m sending.last_id), rest.2),
          )
      | false ↦ retained_are_replayed s sending kept
    ]

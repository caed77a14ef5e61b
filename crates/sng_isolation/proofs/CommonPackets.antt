-- What a packet of the broker does to a client in two states that it cannot tell apart.
use Rattle.std.proofs.Common.{◌≡◌, ℕ, false, List, [], refl, sym, ◌∙◌}
use Rattle.std.specs.List.{flat_map}
use Rattle.mqtt_frames.specs.declared.packet.Packet.{Packet}
use Rattle.sng_book.specs.declared.address.Address.{Address}
use Rattle.sng_history.specs.Causes.{ByPacket}
use Rattle.sng_history.specs.Packets.{answer_of, answer_outs, acknowledgements}
use Rattle.sng_history.specs.State.{State, around}
use Rattle.sng_history.specs.Whole.{part}
use Rattle.sng_history.specs.Lawful.{fixed_for}
use Rattle.sng_isolation.specs.Isolation.{is_refusal}
use Rattle.sng_isolation.proofs.Alike.{Alike, Sound, GoesOn}
use Rattle.sng_isolation.proofs.Waits.{mine_behind, mine_acknowledgements}
use Rattle.sng_isolation.proofs.Noted.{packet_same}
use Rattle.sng_isolation.proofs.Common.{SameNotes, says_alike, rows_common, kept_common}
use Rattle.sng_isolation.proofs.SilentUpstream.{silent_packet, behind_same}

pub common_packet : (id : List ℕ) (own : List Address) (s t : State) (p : Packet) → Sound id own s
    → Sound id own t → Alike id s t → is_refusal (answer_of p) ≡ false
    → GoesOn id own s t (ByPacket p) (ByPacket p)
common_packet id own s t p sound also alike none =
    let c = ByPacket p in
    let a = answer_of p in
    let notes : SameNotes id s t c =
    λ x is it. packet_same s t a x none (says_alike id s t x alike is) in
    record {
      traces =
          behind_same id own (flat_map (λ x. part (around s c) [] (fixed_for s c x) x) s.clients)
          (answer_outs s.policy.limits s.up s.link a)
          (flat_map (λ x. part (around t c) [] (fixed_for t c x) x) t.clients)
          (answer_outs t.policy.limits t.up t.link a)
          (rows_common id own s t c [] [] (λ x. refl) sound also alike notes)
          (silent_packet s.policy.limits id own s.up s.link a) (silent_packet t.policy.limits id own t.up t.link a);
      alike = record {
        kept = kept_common id s t c refl alike notes;
        policy = alike.policy;
        clock = alike.clock;
        up = alike.up;
        waits =
            mine_behind id s.link.waiting (acknowledgements s.policy.limits s.up s.link a)
            (mine_acknowledgements s.policy.limits id s.up s.link a)
            ∙ (alike.waits
            ∙ sym (mine_behind id t.link.waiting (acknowledgements t.policy.limits t.up t.link a)
            (mine_acknowledgements t.policy.limits id t.up t.link a)));
      };
    }

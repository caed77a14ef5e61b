-- Deeds that are done one behind the other.
use Rattle.std.proofs.Common.{◌≡◌, ℕ, List, [], ◌∷◌, ◌++◌, refl, sym, ap, subst, ◌∙◌, append_assoc}
use Rattle.std.proofs.Common.{append-nil}
use Rattle.std.proofs.lemmas.List.{map-append}
use Rattle.mqtt_frames.specs.declared.packet.Packet.{Packet}
use Rattle.sng_book.specs.declared.event.Event.{Event}
use Rattle.sng_book.specs.declared.event.Event.TheVariants as events
use Rattle.sng_gateway.specs.Deeds.{Arrival, Deed, Step, Tell, arrival, fault_deeds, packet_deeds}
use Rattle.sng_gateway.specs.Playing.{Standing, IsStep, Does, Comes, Adds}
use Rattle.sng_script.specs.declared.script.Line.TheVariants.{Broker}

Does-then : (deeds more : List Deed) (text others : List ℕ) (before between after : Standing)
    → Does before deeds text between → Does between more others after
    → Does before (deeds ++ more) (text ++ others) after
Does-then [] more text others before between after does next =
    let here = subst (λ s. Does s more others after) does.1 next in
    subst (λ t. Does before more (t ++ others) after) (sym does.0) here
Does-then (Step event ∷ deeds) more text others before between after does next =
    let later = Does-then deeds more does.2 others does.0 between after does.5 next in (
      does.0,
      does.1,
      does.2 ++ others,
      does.3,
      ap (λ t. t ++ others) does.4
          ∙ append_assoc does.1 does.2 others,
      later,
    )
Does-then (Tell told ∷ deeds) more text others before between after does next =
    let later = Does-then deeds more does.0 others before between after does.2 next in
    (does.0 ++ others, ap (λ t. t ++ others) does.1 ∙ append_assoc told does.0 others, later)

-- nothing is done
pub Adds-none : (standing : Standing) (held : List ℕ) → Adds standing [] held held standing
Adds-none standing held = record { text = []; does = (refl, refl); grown = sym (append-nil held) }

-- and then more
pub Adds-then : (deeds more : List Deed) (held between holds : List ℕ) (before middle after : Standing)
    → Adds before deeds held between middle → Adds middle more between holds after
    → Adds before (deeds ++ more) held holds after
Adds-then deeds more held between holds before middle after first next = record {
  text = first.text ++ next.text;
  does = Does-then deeds more first.text next.text before middle after first.does next.does;
  grown = next.grown ∙ ap (λ t. t ++ next.text) first.grown ∙ append_assoc held first.text next.text;
}

-- one packet more
pub Adds-packet : (packets : List Packet) (packet : Packet) (held between holds : List ℕ)
    (before middle after : Standing)
    → Adds before (packet_deeds packets) held between middle
    → Adds middle (Step (events.Broker packet) ∷ []) between holds after
    → Adds before (packet_deeds (packets ++ packet ∷ [])) held holds after
Adds-packet packets packet held between holds before middle after first next =
    subst (λ deeds. Adds before deeds held holds after)
    (sym (map-append (λ p. Step (events.Broker p)) packets (packet ∷ [])))
    (Adds-then (packet_deeds packets) (Step (events.Broker packet) ∷ []) held between holds before middle
    after first next)

-- a text is told, and then deeds are done
pub Adds-told : (told : List ℕ) (deeds : List Deed) (held between holds : List ℕ) (before after : Standing)
    → between ≡ held ++ told → Adds before deeds between holds after
    → Adds before (Tell told ∷ deeds) held holds after
Adds-told told deeds held between holds before after is next = record {
  text = told ++ next.text;
  does = (next.text, refl, next.does);
  grown = next.grown ∙ ap (λ t. t ++ next.text) is ∙ append_assoc held told next.text;
}

-- one step
pub Adds-step : (event : Event) (held row holds : List ℕ) (before after : Standing)
    → IsStep before event row after
    → holds ≡ held ++ row → Adds before (Step event ∷ []) held holds after
Adds-step event held row holds before after step grown = record {
  text = row;
  does = (after, row, [], step, sym (append-nil row), (refl, refl));
  grown = grown;
}

-- what is added to nothing
pub Adds-whole : (deeds : List Deed) (held holds : List ℕ) (before after : Standing) → held ≡ []
    → Adds before deeds held holds after → Does before deeds holds after
Adds-whole deeds held holds before after none adds =
    subst (λ t. Does before deeds t after) (sym (adds.grown ∙ ap (λ h. h ++ adds.text) none)) adds.does

-- of a piece of the broker's bytes that brings so much, its packets are steps, and then comes its fault
pub Comes-piece : (piece held between holds : List ℕ) (came : Arrival) (before middle after : Standing)
    → held ≡ []
    → arrival before.stream piece ≡ came
    → Adds (record before { stream = came.stream }) (packet_deeds came.packets) held between middle
    → Adds middle (fault_deeds came.fault) between holds after → Comes before (Broker piece) holds after
Comes-piece piece held between holds came before middle after none is first next =
    let deeds = packet_deeds came.packets ++ fault_deeds came.fault in
    let taken : Standing = record before { stream = came.stream } in
    let all = Adds-then (packet_deeds came.packets) (fault_deeds came.fault) held between holds taken middle
    after first next in
    let does : Does taken deeds holds after = Adds-whole deeds held holds taken after none all in
    subst (λ (a : Arrival). Does (record before { stream = a.stream })
    (packet_deeds a.packets ++ fault_deeds a.fault) holds after) (sym is) does

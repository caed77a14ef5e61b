-- After a message of the broker a client that was at rest is busy: one that is awake has something open.
use Rattle.std.proofs.Common.{◌≡◌, Bool, true, false, [], ◌++◌, refl, ap, sym}
use Rattle.std.proofs.Common.{◌∙◌, subst}
use Rattle.std.specs.Prelude.{if◌then◌else◌, ◌&&◌, is_none, slice_get, Option}
use Rattle.std.proofs.lemmas.List.{append-nil}
use Rattle.sng_grants.specs.declared.policy.Policy.{Policy}
use Rattle.sng_states.specs.declared.state.ClientState.{ClientState}
use Rattle.sng_states.specs.declared.state.ClientState.TheVariants.{Dialogue, Active, Asleep, Awake}
use Rattle.sng_states.specs.declared.state.ClientState.TheVariants.{Disconnected, Lost}
use Rattle.sng_states.specs.States.{takes_messages, is_awake}
use Rattle.sng_queue.specs.Messages.{Message}
use Rattle.sng_history.specs.Arriving.{turned_away}
use Rattle.sng_history.specs.Clients.{Around, Client, notes_by, is_drained}
use Rattle.sng_history.specs.Outgoing.{turns, is_free, handed_over, delivered_notes}
use Rattle.sng_history.specs.Good.{AtRest}
use Rattle.sng_history.proofs.Hands.{Calm, every_delivered, messages_calm, notes_calm}
use Rattle.sng_history.proofs.Booleans.{and_no}
use Rattle.sng_history.proofs.PacketRests.{joins_open, turned_stays}
use Rattle.sng_core.proofs.Plain.{Busy, sleepless}
use Rattle.sng_core.proofs.DeliveringClient.{joined, nothing_waits}

takes_awake : (phase : ClientState) → is_awake phase ≡ true → takes_messages phase ≡ true
takes_awake Awake is = refl
takes_awake Active is = absurd cc
takes_awake Asleep is = absurd cc
takes_awake Dialogue is = absurd cc
takes_awake Disconnected is = absurd cc
takes_awake Lost is = absurd cc

-- something is open with the client
abbrev Opened : Client → Type 0
Opened x = is_none x.buffer.exchange ≡ false

opened_busy : (x : Client) → Opened x → Busy x
opened_busy x is =
    ap (λ b. is_awake x.phase && (is_none (slice_get x.buffer.waiting 0) && b)) is
    ∙ (ap (λ b. is_awake x.phase && b) (and_no (is_none (slice_get x.buffer.waiting 0)))
    ∙ and_no (is_awake x.phase))

opened_none : (policy : Policy) (x : Client) → Opened x → handed_over policy x ≡ []
opened_none policy x is =
    ap (λ free. if free then turns policy x.id x.ids x.buffer.waiting else [])
    (ap (λ b. takes_messages x.phase && b) is ∙ and_no (takes_messages x.phase))

opened_stays : (a : Around) (due : Option Message) (x : Client) → Opened x
    → notes_by a (delivered_notes a.policy due x) (joined due x) ≡ joined due x
opened_stays a due x is =
    let y = joined due x in
    let still : Opened y = ap is_none (joins_open due x.buffer) ∙ is in
    ap (λ notes. notes_by a (turned_away x.id due x.buffer ++ notes) y) (opened_none a.policy y still)
    ∙ (ap (λ notes. notes_by a notes y) (append-nil (turned_away x.id due x.buffer))
    ∙ turned_stays a x.id due x.buffer y)

-- something is open with one that is awake
awake_open : (x : Client) (closed : Bool) → is_none x.buffer.exchange ≡ closed → is_awake x.phase ≡ true
    → AtRest x → closed ≡ false
awake_open x true is up rest =
    let free : is_free x ≡ true = ap (λ b. b && is_none x.buffer.exchange) (takes_awake x.phase up) ∙ is in
    let none : x.buffer.waiting ≡ [] = nothing_waits x rest free in
    let left : is_drained x ≡ true = rw (up, none, is) refl in
    absurd (let bad : true ≡ false = sym left ∙ rest.busy in cc)
awake_open x false is up rest = refl

busy_by : (a : Around) (due : Option Message) (x : Client) (up : Bool) → is_awake x.phase ≡ up → AtRest x
    → Busy (notes_by a (delivered_notes a.policy due x) (joined due x))
busy_by a due x true is rest =
    let now : Opened x = awake_open x (is_none x.buffer.exchange) refl is rest in
    subst Busy (sym (opened_stays a due x now))
    (opened_busy (joined due x) (ap is_none (joins_open due x.buffer) ∙ now))
busy_by a due x false is rest =
    let y = joined due x in
    let notes = delivered_notes a.policy due x in
    let steady = notes_calm a notes y (every_delivered (Calm a) a.policy due x (messages_calm a x.id)) in
    sleepless (notes_by a notes y) (ap is_awake steady.phase ∙ is)

pub busy_due : (a : Around) (due : Option Message) (x : Client) → AtRest x
    → Busy (notes_by a (delivered_notes a.policy due x) (joined due x))
busy_due a due x rest = busy_by a due x (is_awake x.phase) refl rest

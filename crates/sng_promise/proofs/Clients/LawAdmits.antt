-- No note but that of a CONNECT accepts anybody.
use Rattle.std.proofs.Common.{◌≡◌, ℕ, Bool, true, false, List, [], ◌∷◌, ◌++◌, refl, ap, ◌∙◌, if◌then◌else◌}
use Rattle.std.proofs.Common.{Ok, Err}
use Rattle.std.specs.Prelude.{◌||◌, Option, Some, None, not}
use Rattle.std.specs.List.{flat_map}
use Rattle.std.specs.Str.{bytes_eq}
use Rattle.std.specs.declared.result.Result.{Result}
use Rattle.sng_grants.specs.declared.policy.Policy.{Policy}
use Rattle.mqtt_frames.specs.declared.packet.Packet.{Packet}
use Rattle.sng_fan.specs.declared.held.Held.{Held}
use Rattle.sng_policy.specs.Grants.{lists_source}
use Rattle.sng_queue.specs.Messages.{message}
use Rattle.sng_states.specs.States.{is_due_messages}
use Rattle.sng_frames.specs.declared.messages.publish.Publish.{Publish}
use Rattle.sng_frames.specs.declared.frame.SnFrame.{SnFrame}
use Rattle.sng_frames.specs.declared.frame.SnFrame.TheVariants as frame
use Rattle.sng_book.specs.declared.address.Address.{Address}
use Rattle.sng_book.specs.declared.decision.Decision.{Decision}
use Rattle.sng_book.specs.declared.decision.Decision.TheVariants as note
use Rattle.sng_book.specs.declared.decision.Who.{Who}
use Rattle.sng_book.specs.declared.decision.Who.TheVariants as who
use Rattle.sng_book.specs.declared.outcome.Denial.{Denial}
use Rattle.sng_book.specs.declared.outcome.Denial.TheVariants.{Form, Grant, Peer}
use Rattle.sng_book.specs.declared.outcome.FormDenial.TheVariants.{NotSupported}
use Rattle.sng_book.specs.declared.outcome.GrantDenial.TheVariants.{UnknownSource}
use Rattle.sng_book.specs.declared.outcome.PeerDenial.TheVariants.{BrokerRefused}
use Rattle.sng_book.specs.declared.outcome.Outcome.{Outcome}
use Rattle.sng_book.specs.declared.outcome.Outcome.TheVariants.{Allowed, Denied}
use Rattle.sng_book.specs.declared.out.Out.{Out}
use Rattle.sng_book.specs.declared.out.Out.TheVariants.{Send, Wire, Note}
use Rattle.sng_history.specs.Causes.{Request, ToPing, ToLeave, ToRegister, ToPublish, ToSubscribe}
use Rattle.sng_history.specs.Causes.{ToUnsubscribe, ToConfirm, ToAcknowledge}
use Rattle.sng_history.specs.Causes.{Untaken, Cause, ToState, ToSleep}
use Rattle.sng_history.specs.Causes.{ByMessage, BySource, ByBroken, ByPacket}
use Rattle.sng_history.specs.Causes.{ToPublishOnce, ToRelease}
use Rattle.sng_history.specs.Outgoing.{out_of_turn, all_gone, handed_over, delivered_notes}
use Rattle.sng_history.specs.Clients.{Client, Around, is_here, is_confirming, is_acknowledging, closed}
use Rattle.sng_history.specs.Clients.{message_due, note_by}
use Rattle.sng_history.specs.Notes.{notes_of}
use Rattle.sng_history.specs.State.{State, around}
use Rattle.sng_history.specs.Verdicts.{ping_verdict, named_ask, name_in, register_ask, publish_ask, coverage}
use Rattle.sng_history.specs.Verdicts.{subscribe_ask, publish_once_ask, is_repeat, is_active}
use Rattle.sng_history.specs.Verdicts.{unsubscribe_ask}
use Rattle.sng_history.specs.Answers.{denied_note}
use Rattle.sng_history.specs.Whole.{frames_of, spell, part, any_from, stranger_to, drops, client_rows}
use Rattle.sng_history.specs.Whole.{frame_row}
use Rattle.sng_history.specs.Standing.{Release, holds}
use Rattle.sng_history.specs.Lawful.{confirmations, denial_of, fixed_to, end_of, ends_under, refused_end}
use Rattle.sng_history.specs.Lawful.{fixed_for, woken_notes}
use Rattle.sng_history.specs.Steps.{notes_for, outs_by}
use Rattle.sng_laws.specs.ViewsClients.{admits, is_admitted}
use Rattle.sng_history.specs.Packets.{answer_of, dropped, refused_filter}
use Rattle.sng_history.proofs.Own.{same_means}
use Rattle.sng_history.proofs.Asks.{of_register, of_publish, of_subscribe, of_unsubscribe, of_publish_once}
use Rattle.sng_history.proofs.Hands.{Every, OfMessages, every_append, every_if, every_handed, every_gone}
use Rattle.sng_history.proofs.Hands.{every_confirmation}
use Rattle.sng_history.proofs.Hands.{every_delivered, every_woken}
use Rattle.sng_history.proofs.Sent.{AllSent, frames_sent}
use Rattle.sng_history.proofs.Spelled.{part_own, part_other}
use Rattle.sng_history.proofs.Told.{tells}
use Rattle.sng_promise.proofs.Clients.SeenNotes.{admitted_notes, admitted_by_notes}
use Rattle.sng_history.specs.WillAsks.{statement_notes}
use Rattle.sng_history.proofs.Statements.{every_statement}
use Rattle.sng_history.proofs.Booleans.{or_neither}

pub admitted_append : (id : List ℕ) (xs ys : List Out) → is_admitted id xs ≡ false → is_admitted id ys ≡ false
    → is_admitted id (xs ++ ys) ≡ false
admitted_append id [] ys one two = two
admitted_append id (Note said ∷ xs) ys one two =
    let both = or_neither (admits id said) (is_admitted id xs) one in
    ap (λ b. b || is_admitted id (xs ++ ys)) both.0 ∙ admitted_append id xs ys both.1 two
admitted_append id (Send to datagram ∷ xs) ys one two = admitted_append id xs ys one two
admitted_append id (Wire sent ∷ xs) ys one two = admitted_append id xs ys one two

pub admitted_flat : (id : List ℕ) (f : Client → List Out) (xs : List Client)
    → ((x : Client) → is_admitted id (f x) ≡ false)
    → is_admitted id (flat_map f xs) ≡ false
admitted_flat id f [] none = refl
admitted_flat id f (x ∷ xs) none =
    admitted_append id (f x) (flat_map f xs) (none x) (admitted_flat id f xs none)

-- notes of which none accepts anybody
abbrev pub Modest : List ℕ → Decision → Type 0
Modest id said = admits id said ≡ false

pub modest_notes : (id : List ℕ) (notes : List Decision) → Every (Modest id) notes
    → admitted_notes id notes ≡ false
modest_notes id [] every = refl
modest_notes id (said ∷ notes) every = rw every.0 (modest_notes id notes every.1)

pub modest_messages : (id client : List ℕ) → OfMessages (Modest id) client
modest_messages id client = record { announces = λ name. refl; hands = λ name outcome. refl }

-- what is sent to a client accepts nobody
sent_admits : (id : List ℕ) (xs ys : List Out) → AllSent xs → is_admitted id (xs ++ ys) ≡ is_admitted id ys
sent_admits id [] ys sent = refl
sent_admits id (Send to datagram ∷ xs) ys sent = sent_admits id xs ys sent
sent_admits id (Note said ∷ xs) ys sent = rw sent.0 (sent_admits id xs ys sent.1)
sent_admits id (Wire packet ∷ xs) ys sent = absurd sent

pub spell_admits : (id : List ℕ) (a : Around) (dropped : List Release) (x : Client) (notes : List Decision)
    → Every (Modest id) notes
    → is_admitted id (spell a dropped x notes) ≡ false
spell_admits id a dropped x [] every = refl
spell_admits id a dropped x (said ∷ notes) every =
    let y = note_by a said x in
    rw every.0
    (sent_admits id (frames_of a dropped x said) (spell a dropped y notes) (frames_sent a dropped x said)
    ∙ spell_admits id a dropped y notes every.1)

-- what is let out for a client whose notes accept nobody
pub admitted_part : (s : State) (c : Cause) (dropped : List Release) (x : Client) (id : List ℕ) (b : Bool)
    → bytes_eq id x.id ≡ b
    → admitted_notes id (fixed_for s c x) ≡ false
    → is_admitted id (part (around s c) dropped (fixed_for s c x) x) ≡ false
admitted_part s c dropped x id true is none =
    let same : id ≡ x.id = same_means id x.id is in
    let outs = part (around s c) dropped (fixed_for s c x) x in
    let own : notes_of id outs ≡ fixed_for s c x =
    ap (λ i. notes_of i outs) same ∙ part_own (around s c) dropped (fixed_for s c x) x (tells s c x) in
    admitted_by_notes id outs ∙ (ap (admitted_notes id) own ∙ none)
admitted_part s c dropped x id false is none =
    let outs = part (around s c) dropped (fixed_for s c x) x in
    admitted_by_notes id outs ∙ ap (admitted_notes id)
    (part_other (around s c) dropped (fixed_for s c x) x id is (tells s c x))

-- nor does a row accept anybody where no client's notes do
pub admitted_rows : (s : State) (c : Cause) (dropped : List Release) (id : List ℕ)
    → ((x : Client) → admitted_notes id (fixed_for s c x) ≡ false)
    → is_admitted id (client_rows s c dropped (notes_for s c)) ≡ false
admitted_rows s c dropped id none =
    admitted_flat id (λ x. part (around s c) dropped (fixed_for s c x) x) s.clients
    (λ x. admitted_part s c dropped x id (bytes_eq id x.id) refl (none x))

admitted_either : (id : List ℕ) (outs stranger : List Out) (b : Bool) → is_admitted id outs ≡ false
    → is_admitted id stranger ≡ false
    → is_admitted id (if b then outs else stranger) ≡ false
admitted_either id outs stranger true one two = one
admitted_either id outs stranger false one two = two

admitted_frame : (s : State) (c : Cause) (stranger : List Out) (id : List ℕ)
    → ((x : Client) → admitted_notes id (fixed_for s c x) ≡ false)
    → is_admitted id stranger ≡ false
    → is_admitted id (frame_row s c stranger (notes_for s c)) ≡ false
admitted_frame s c stranger id none never =
    let dropped = drops s c (notes_for s c) in
    admitted_either id (client_rows s c dropped (notes_for s c)) stranger (any_from c s.clients)
    (admitted_rows s c dropped id none) never

denied_admits : (id : List ℕ) (message : SnFrame) (whom : Who) (rule : Denial)
    → admits id (denied_note message whom rule) ≡ false
denied_admits id (frame.Connect connect) whom rule = refl
denied_admits id message whom rule = refl

ping_modest : (id own : List ℕ) (o : Outcome) → Every (Modest id) (denial_of own o)
ping_modest id own Allowed = tt
ping_modest id own (Denied rule) = (refl, tt)

sleep_note : (id own : List ℕ) (b : Bool) → admitted_notes id (if b then [] else out_of_turn own) ≡ false
sleep_note id own true = refl
sleep_note id own false = refl

one_note : (id : List ℕ) (said : Decision) → admits id said ≡ false → admitted_notes id (said ∷ []) ≡ false
one_note id said none = rw none refl

-- a REGACK or PUBACK, which has its turn or not
answered_note : (id client : List ℕ) (notes : List Decision) (b : Bool) → Every (Modest id) notes
    → admitted_notes id (if b then notes else out_of_turn client) ≡ false
answered_note id client notes true every = modest_notes id notes every
answered_note id client notes false every = refl

pub note_if : (id : List ℕ) (notes : List Decision) (b : Bool) → admitted_notes id notes ≡ false
    → admitted_notes id (if b then notes else []) ≡ false
note_if id notes true none = none
note_if id notes false none = refl

-- no message but a CONNECT accepts anybody
pub request_note : (s : State) (request : Request) (x : Client) (id : List ℕ)
    → admitted_notes id (fixed_to s request x) ≡ false
request_note s (ToPing client) x id =
    let woken = woken_notes s.policy client x in
    modest_notes id (denial_of x.id (ping_verdict client x) ++ woken)
    (every_append (Modest id) (denial_of x.id (ping_verdict client x)) woken
    (ping_modest id x.id (ping_verdict client x))
    (every_woken (Modest id) s.policy client x (modest_messages id x.id)))
request_note s (ToSleep duration) x id = sleep_note id x.id (is_due_messages x.phase)
request_note s ToLeave x id =
    modest_notes id (all_gone x.id x.buffer.waiting)
    (every_gone (Modest id) x.id x.buffer.waiting (modest_messages id x.id))
request_note s (ToRegister r) x id =
    one_note id (register_ask s.policy x r.name)
    (of_register (λ said. admits id said ≡ false) s.policy x r.name (λ name o. refl))
request_note s (ToPublish p) x id =
    one_note id (publish_ask s x p) (of_publish (λ said. admits id said ≡ false) s x p (λ name o. refl))
request_note s (ToPublishOnce p) x id =
    note_if id (publish_once_ask s x p ∷ []) (not (is_repeat p x))
    (one_note id (publish_once_ask s x p)
    (of_publish_once (λ said. admits id said ≡ false) s x p (λ name o. refl)))
request_note s (ToRelease n) x id = sleep_note id x.id (is_active x.phase)
request_note s (ToSubscribe r) x id =
    one_note id (subscribe_ask s x r) (of_subscribe (λ said. admits id said ≡ false) s x r (λ text o. refl))
request_note s (ToUnsubscribe r) x id =
    one_note id (unsubscribe_ask s.policy x r)
    (of_unsubscribe (λ said. admits id said ≡ false) s.policy x r (λ text o. refl))
request_note s (ToConfirm r) x id =
    answered_note id x.id (confirmations s.policy r x) (is_confirming r x)
    (every_confirmation (Modest id) s.policy r x (modest_messages id x.id))
request_note s (ToAcknowledge r) x id =
    answered_note id x.id (handed_over s.policy (closed x)) (is_acknowledging r x)
    (every_handed (Modest id) s.policy (closed x) (modest_messages id x.id))
request_note s (ToState statement) x id = modest_notes id (statement_notes s.policy statement x)
    (every_statement (Modest id) s.policy statement x
    (record { states = λ name outcome. refl; leaves = refl; messages = modest_messages id x.id }))
request_note s (Untaken message) x id =
    one_note id (denied_note message (who.Client x.id) (Form NotSupported))
    (denied_admits id message (who.Client x.id) (Form NotSupported))

stranger_admits : (from : Address) (request : Request) (id : List ℕ)
    → is_admitted id (stranger_to from request) ≡ false
stranger_admits from (ToPing client) id = refl
stranger_admits from ToLeave id = refl
stranger_admits from (ToRegister r) id = refl
stranger_admits from (ToPublish p) id = refl
stranger_admits from (ToPublishOnce p) id = refl
stranger_admits from (ToRelease n) id = refl
stranger_admits from (ToSubscribe r) id = refl
stranger_admits from (ToUnsubscribe r) id = refl
stranger_admits from (ToConfirm r) id = refl
stranger_admits from (ToAcknowledge r) id = refl
stranger_admits from (ToState statement) id = refl
stranger_admits from (ToSleep duration) id = refl
stranger_admits from (Untaken message) id =
    ap (λ b. b || false) (denied_admits id message (who.Address from) (Form NotSupported))

pub admitted_message : (s : State) (from : Address) (request : Request) (id : List ℕ)
    → is_admitted id (outs_by s (ByMessage from request)) ≡ false
admitted_message s from request id =
    admitted_frame s (ByMessage from request) (stranger_to from request) id
    (λ x. note_if id (fixed_to s request x) (is_here x from) (request_note s request x id))
    (stranger_admits from request id)

pub admitted_broken : (s : State) (from : Address) (rule : Denial) (id : List ℕ)
    → is_admitted id (outs_by s (ByBroken from rule)) ≡ false
admitted_broken s from rule id =
    admitted_frame s (ByBroken from rule) (Note (note.Frame (who.Address from) (Denied rule)) ∷ []) id
    (λ x. note_if id (note.Frame (who.Client x.id) (Denied rule) ∷ []) (is_here x from) refl) refl

-- subscriptions end
end_note : (id own text : List ℕ) (o : Outcome) (notes : List Decision)
    → admitted_notes id (end_of own text o ++ notes) ≡ admitted_notes id notes
end_note id own text Allowed notes = refl
end_note id own text (Denied rule) notes = refl

pub ends_note : (policy : Policy) (id own : List ℕ) (held : List Held)
    → admitted_notes id (ends_under policy own held) ≡ false
ends_note policy id own [] = refl
ends_note policy id own (h ∷ held) =
    end_note id own h.filter (coverage policy own h.filter) (ends_under policy own held)
    ∙ ends_note policy id own held

refused_modest : (x : Client) (id : List ℕ) (text : Option (List ℕ)) → Every (Modest id) (refused_end x text)
refused_modest x id None = tt
refused_modest x id (Some text) =
    every_if (Modest id) (holds text x) (note.End x.id text (Denied (Peer BrokerRefused)) ∷ []) (refl, tt)

-- a message comes to the client
pub packet_note : (s : State) (packet : Packet) (x : Client) (id : List ℕ)
    → admitted_notes id (fixed_for s (ByPacket packet) x) ≡ false
packet_note s packet x id =
    let due = message_due (answer_of packet) x in
    let one = refused_end x (refused_filter s.link (answer_of packet)) in
    let two = delivered_notes s.policy due x in
    modest_notes id (one ++ two)
    (every_append (Modest id) one two (refused_modest x id (refused_filter s.link (answer_of packet)))
    (every_delivered (Modest id) s.policy due x (modest_messages id x.id)))

named_admits : (s : State) (source id : List ℕ) (read : Result (List ℕ) Denial)
    → admits id (named_ask s source read) ≡ false
named_admits s source id (Ok name) = refl
named_admits s source id (Err rule) = refl

source_admits : (s : State) (source id : List ℕ) (p : Publish) (b : Bool)
    → admits id
    (if b then named_ask s source (name_in s.policy None p.flags.id_type p.topic_id)
    else note.Publish (who.Source source) None
    (Denied (Grant UnknownSource))) ≡ false
source_admits s source id p true = named_admits s source id (name_in s.policy None p.flags.id_type p.topic_id)
source_admits s source id p false = refl

pub admitted_source : (s : State) (from : Address) (p : Publish) (id : List ℕ)
    → is_admitted id (outs_by s (BySource from p)) ≡ false
admitted_source s from p id =
    ap (λ b. b || false) (source_admits s from.ip id p (lists_source s.policy from.ip))

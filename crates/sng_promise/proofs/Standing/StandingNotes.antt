-- The filters that stand for a client move by its own notes as what the rows show of them.
use Rattle.std.proofs.Common.{◌≡◌, ℕ, Bool, true, false, List, [], ◌∷◌, ◌++◌, refl, ap, sym, ◌∙◌}
use Rattle.std.proofs.Common.{if◌then◌else◌, Ok, Err}
use Rattle.std.specs.Prelude.{◌&&◌, Option, Some, None}
use Rattle.std.specs.declared.result.Result.{Result}
use Rattle.sng_fan.specs.declared.held.Held.{Held}
use Rattle.sng_fan.specs.Subscriptions.{with_filter}
use Rattle.sng_frames.specs.Reading.{frame_of}
use Rattle.sng_frames.specs.declared.fault.FrameFault.{FrameFault}
use Rattle.sng_frames.specs.declared.qos.FrameQos.{FrameQos}
use Rattle.sng_frames.specs.declared.qos.FrameQos.TheVariants as qos
use Rattle.sng_frames.specs.declared.messages.publish.Publish.{Publish}
use Rattle.sng_frames.specs.declared.messages.subscribe.TopicRequest.{TopicRequest}
use Rattle.sng_frames.specs.declared.frame.SnFrame.{SnFrame}
use Rattle.sng_frames.specs.declared.frame.SnFrame.TheVariants as frame
use Rattle.sng_book.specs.Denials.{is_allowed}
use Rattle.sng_book.specs.declared.address.Address.{Address}
use Rattle.sng_book.specs.declared.decision.Decision.{Decision}
use Rattle.sng_book.specs.declared.decision.Decision.TheVariants as note
use Rattle.sng_book.specs.declared.decision.Who.{Who}
use Rattle.sng_book.specs.declared.decision.Who.TheVariants as who
use Rattle.sng_book.specs.declared.outcome.Outcome.{Outcome}
use Rattle.sng_book.specs.declared.outcome.Outcome.TheVariants.{Allowed, Denied}
use Rattle.sng_book.specs.declared.event.Event.{Event}
use Rattle.sng_book.specs.declared.event.Event.TheVariants.{Datagram, Broker, Up, Down, Take, Replace, Tick}
use Rattle.sng_book.specs.declared.out.Out.{Out}
use Rattle.sng_book.specs.declared.out.Out.TheVariants.{Send, Wire, Note}
use Rattle.sng_history.specs.Causes.{Cause, datagram_cause, publish_cause, cause_of, Statement}
use Rattle.sng_history.specs.Requests.{granted}
use Rattle.sng_history.specs.Clients.{Client, Around, cleaned, entered_by, subscribed, unsubscribed}
use Rattle.sng_history.specs.Clients.{subscribe_of, note_by, notes_by, id_opened_of}
use Rattle.sng_history.specs.Clients.{start_by, opened, stated_by, statement_of, repeated}
use Rattle.sng_history.specs.Notes.{notes_of, is_of, is_client}
use Rattle.sng_history.specs.State.{State, around}
use Rattle.sng_history.specs.Lawful.{fixed_for}
use Rattle.sng_history.specs.Steps.{client_next}
use Rattle.sng_laws.specs.ViewsMessages.{Message, message_in, message_at, subscribe_in}
use Rattle.sng_laws.specs.ViewsClients.{speaks_of}
use Rattle.sng_laws.specs.ViewsStanding.{is_clean, qos_downstream, joined_by, left_by, standing_by}
use Rattle.sng_laws.specs.ViewsStanding.{standing_after}
use Rattle.sng_history.proofs.Own.{same_self}
use Rattle.sng_history.proofs.Spelled.{AllAbout}
use Rattle.sng_history.proofs.Told.{tells}
use Rattle.sng_history.proofs.Steady.{start_filters, handed_steady, client_filters, received_steady}

-- ---- what the rows show is read from the client's own notes

abbrev pub standing_notes : Option Message → List ℕ → List Decision → List Held → List Held
standing_notes m id [] before = before
standing_notes m id (said ∷ notes) before = standing_notes m id notes (standing_by m id said before)

client_same : (id : List ℕ) (whom : Who) → is_client id whom ≡ speaks_of id whom
client_same id (who.Client client) = refl
client_same id (who.Source source) = refl
client_same id (who.Address address) = refl
client_same id who.Broker = refl

standing_other : (m : Option Message) (id : List ℕ) (said : Decision) (before : List Held)
    → is_of id said ≡ false
    → standing_by m id said before ≡ before
standing_other m id (note.Connect client outcome) before other = rw other refl
standing_other m id (note.Subscribe whom filter outcome) before other =
    rw (sym (client_same id whom) ∙ other) refl
standing_other m id (note.Unsubscribe whom filter outcome) before other =
    rw (sym (client_same id whom) ∙ other) refl
standing_other m id (note.End client filter outcome) before other = rw other refl
standing_other m id _ before other = refl

standing_note : (m : Option Message) (id : List ℕ) (said : Decision) (notes : List Decision)
    (before : List Held) (b : Bool)
    → is_of id said ≡ b
    → standing_notes m id notes (standing_by m id said before)
    ≡ standing_notes m id ((if b then said ∷ [] else []) ++ notes) before
standing_note m id said notes before true own = refl
standing_note m id said notes before false other =
    ap (standing_notes m id notes) (standing_other m id said before other)

pub standing_by_notes : (m : Option Message) (id : List ℕ) (outs : List Out) (before : List Held)
    → standing_after m id outs before ≡ standing_notes m id (notes_of id outs) before
standing_by_notes m id [] before = refl
standing_by_notes m id (Note said ∷ outs) before =
    standing_by_notes m id outs (standing_by m id said before)
    ∙ standing_note m id said (notes_of id outs) before (is_of id said) refl
standing_by_notes m id (Send to datagram ∷ outs) before = standing_by_notes m id outs before
standing_by_notes m id (Wire packet ∷ outs) before = standing_by_notes m id outs before

-- ---- the event and its cause

qos_same : (q : FrameQos) → granted q ≡ qos_downstream q
qos_same qos.AtMostOnce = refl
qos_same qos.AtLeastOnce = refl
qos_same qos.ExactlyOnce = refl
qos_same qos.WithoutSession = refl

-- of subscriptions the cause asks and ends what the message does
pub record Alike (c : Cause) (m : Option Message) : Type 0 where
  pub asks : subscribe_of c ≡ subscribe_in m
  pub cleans : (clock : ℕ) (x : Client)
      → (entered_by clock c x).filters ≡ (if is_clean m then [] else x.filters)

cleaned_filters : (clean : Bool) (x : Client) → (cleaned clean x).filters ≡ (if clean then [] else x.filters)
cleaned_filters true x = refl
cleaned_filters false x = refl

opened_filters : (will : Bool) (x : Client) → (opened will x).filters ≡ x.filters
opened_filters true x = refl
opened_filters false x = refl

alike_publish : (from : Address) (p : Publish) (q : FrameQos)
    → Alike (publish_cause from p q) (message_in (Ok (frame.Publish p)))
alike_publish from p qos.WithoutSession = record { asks = refl; cleans = λ clock x. refl }
alike_publish from p qos.AtMostOnce = record { asks = refl; cleans = λ clock x. refl }
alike_publish from p qos.AtLeastOnce = record { asks = refl; cleans = λ clock x. refl }
alike_publish from p qos.ExactlyOnce = record { asks = refl; cleans = λ clock x. refl }

alike_disconnect : (from : Address) (duration : Option ℕ)
    → Alike (datagram_cause from (Ok (frame.Disconnect duration)))
    (message_in (Ok (frame.Disconnect duration)))
alike_disconnect from None = record { asks = refl; cleans = λ clock x. refl }
alike_disconnect from (Some duration) = record { asks = refl; cleans = λ clock x. refl }

pub alike_datagram : (from : Address) (read : Result SnFrame FrameFault)
    → Alike (datagram_cause from read) (message_in read)
alike_datagram from (Ok (frame.Connect connect)) = record {
  asks = refl;
  cleans = λ clock x.
      let y : Client = record x { address = from; ids = []; duration = connect.duration; heard = clock } in
      opened_filters connect.flags.will (cleaned connect.flags.clean y)
      ∙ cleaned_filters connect.flags.clean y;
}
alike_datagram from (Ok (frame.Publish p)) = alike_publish from p p.flags.qos
alike_datagram from (Ok (frame.Disconnect duration)) = alike_disconnect from duration
alike_datagram from (Ok message) = record { asks = refl; cleans = λ clock x. refl }
alike_datagram from (Err broke) = record { asks = refl; cleans = λ clock x. refl }

pub alike : (e : Event) → Alike (cause_of e) (message_at e)
alike (Datagram from datagram) = alike_datagram from (frame_of datagram)
alike (Broker packet) = record { asks = refl; cleans = λ clock x. refl }
alike Up = record { asks = refl; cleans = λ clock x. refl }
alike Down = record { asks = refl; cleans = λ clock x. refl }
alike Take = record { asks = refl; cleans = λ clock x. refl }
alike (Replace policy) = record { asks = refl; cleans = λ clock x. refl }
alike (Tick clock) = record { asks = refl; cleans = λ clock x. refl }

-- ---- one client

subscribed_filters : (r : Option TopicRequest) (text : Option (List ℕ)) (o : Outcome) (x : Client)
    → (subscribed r text o x).filters ≡ (if is_allowed o then joined_by r text x.filters else x.filters)
subscribed_filters None text Allowed x = refl
subscribed_filters None text (Denied rule) x = refl
subscribed_filters (Some r) None Allowed x = refl
subscribed_filters (Some r) None (Denied rule) x = refl
subscribed_filters (Some r) (Some text) Allowed x = ap (with_filter x.filters text) (qos_same r.flags.qos)
subscribed_filters (Some r) (Some text) (Denied rule) x = refl

unsubscribed_filters : (text : Option (List ℕ)) (o : Outcome) (x : Client)
    → (unsubscribed text o x).filters ≡ (if is_allowed o then left_by text x.filters else x.filters)
unsubscribed_filters None Allowed x = refl
unsubscribed_filters None (Denied rule) x = refl
unsubscribed_filters (Some text) Allowed x = refl
unsubscribed_filters (Some text) (Denied rule) x = refl

stated_filters : (statement : Option Statement) (o : Outcome) (x : Client)
    → (stated_by statement o x).filters ≡ x.filters
stated_filters None o x = refl
stated_filters (Some statement) Allowed x = refl
stated_filters (Some statement) (Denied rule) x = refl

repeated_filters : (clock : ℕ) (o : Outcome) (x : Client) → (repeated clock o x).filters ≡ x.filters
repeated_filters clock Allowed x = refl
repeated_filters clock (Denied rule) x = refl

connected_filters : (a : Around) (m : Option Message) (o : Outcome) (x : Client) → Alike a.cause m
    → (let y : Client = if is_allowed o then entered_by a.clock a.cause x else x in y).filters
    ≡ (if is_allowed o && is_clean m then [] else x.filters)
connected_filters a m Allowed x same = same.cleans a.clock x
connected_filters a m (Denied rule) x same = refl

note_filters : (a : Around) (m : Option Message) (id : List ℕ) (said : Decision) (x : Client)
    → Alike a.cause m → is_of id said ≡ true
    → (note_by a said x).filters ≡ standing_by m id said x.filters
note_filters a m id (note.Connect client outcome) x same own = rw own (connected_filters a m outcome x same)
note_filters a m id (note.Subscribe whom text outcome) x same own =
    rw (sym (client_same id whom) ∙ own)
    (subscribed_filters (subscribe_of a.cause) text outcome x
    ∙ ap (λ r. if is_allowed outcome then joined_by r text x.filters else x.filters) same.asks)
note_filters a m id (note.Unsubscribe whom text outcome) x same own =
    rw (sym (client_same id whom) ∙ own) (unsubscribed_filters text outcome x)
note_filters a m id (note.End client text outcome) x same own = rw own refl
note_filters a m id (note.Register whom name outcome) x same own = refl
note_filters a m id (note.Publish whom name outcome) x same own =
    (received_steady (id_opened_of a.cause) outcome x).filters
note_filters a m id (note.Left client) x same own = refl
note_filters a m id (note.Hand client name outcome) x same own = (handed_steady a name outcome x).filters
note_filters a m id (note.Will whom name outcome) x same own = stated_filters (statement_of a.cause) outcome x
note_filters a m id (note.Retry client name outcome) x same own = repeated_filters a.clock outcome x
note_filters a m id _ x same own = refl

notes_filters : (a : Around) (m : Option Message) (id : List ℕ) (notes : List Decision) (x : Client)
    → Alike a.cause m → AllAbout id notes
    → (notes_by a notes x).filters ≡ standing_notes m id notes x.filters
notes_filters a m id [] x same about = refl
notes_filters a m id (said ∷ notes) x same about =
    notes_filters a m id notes (note_by a said x) same about.1
    ∙ ap (standing_notes m id notes) (note_filters a m id said x same (about.0.of id ∙ same_self id))

-- the client after a row
pub standing_next : (s : State) (e : Event) (x : Client)
    → (client_next s (cause_of e) x).filters
    ≡ standing_notes (message_at e) x.id (fixed_for s (cause_of e) x) x.filters
standing_next s e x =
    let c = cause_of e in
    let a = around s c in
    client_filters a (fixed_for s c x) x
    ∙ (notes_filters a (message_at e) x.id (fixed_for s c x) (start_by a x) (alike e) (tells s c x)
    ∙ ap (standing_notes (message_at e) x.id (fixed_for s c x)) (start_filters a x))

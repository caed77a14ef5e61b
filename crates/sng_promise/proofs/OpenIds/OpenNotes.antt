-- The MsgIds of a client that are open move by its own notes as what the rows show of them.
use Rattle.std.proofs.Common.{◌≡◌, ℕ, Bool, true, false, List, [], ◌∷◌, ◌++◌, refl, ap, sym, subst, ◌∙◌}
use Rattle.std.proofs.Common.{if◌then◌else◌, Ok, Err, length}
use Rattle.std.specs.Prelude.{◌&&◌, nat_le, Option, Some, None}
use Rattle.std.specs.declared.result.Result.{Result}
use Rattle.sng_frames.specs.Reading.{frame_of}
use Rattle.sng_frames.specs.declared.fault.FrameFault.{FrameFault}
use Rattle.sng_frames.specs.declared.qos.FrameQos.{FrameQos}
use Rattle.sng_frames.specs.declared.qos.FrameQos.TheVariants as qos
use Rattle.sng_frames.specs.declared.messages.publish.Publish.{Publish}
use Rattle.sng_frames.specs.declared.messages.subscribe.TopicRequest.{TopicRequest}
use Rattle.sng_frames.specs.declared.frame.SnFrame.{SnFrame}
use Rattle.sng_frames.specs.declared.frame.SnFrame.TheVariants as frame
use Rattle.sng_queue.specs.Buffers.{settle}
use Rattle.sng_states.specs.OpenIds.{admitted, with_id}
use Rattle.sng_states.specs.declared.limits.TheConstants.{MAX_OPEN_IDS}
use Rattle.sng_book.specs.Denials.{is_allowed}
use Rattle.sng_book.specs.declared.address.Address.{Address}
use Rattle.sng_book.specs.declared.decision.Decision.{Decision}
use Rattle.sng_book.specs.declared.decision.Decision.TheVariants as note
use Rattle.sng_book.specs.declared.decision.Who.{Who}
use Rattle.sng_book.specs.declared.decision.Who.TheVariants as who
use Rattle.sng_book.specs.declared.outcome.Outcome.{Outcome}
use Rattle.sng_book.specs.declared.outcome.Outcome.TheVariants.{Allowed, Denied}
use Rattle.sng_book.specs.declared.event.Event.{Event}
use Rattle.sng_book.specs.declared.event.Event.TheVariants.{Datagram, Broker, Up, Down, Take, Replace, Tick}
use Rattle.sng_book.specs.declared.out.Out.{Out}
use Rattle.sng_book.specs.declared.out.Out.TheVariants.{Send, Wire, Note}
use Rattle.sng_history.specs.Causes.{Cause, datagram_cause, publish_cause, cause_of, Statement}
use Rattle.sng_history.specs.Clients.{Client, Around, cleaned, entered_by, subscribed, unsubscribed}
use Rattle.sng_history.specs.Clients.{subscribe_of, note_by, notes_by, id_opened_of, is_turned_away}
use Rattle.sng_history.specs.Clients.{opened, stated_by, statement_of, repeated, handed}
use Rattle.sng_history.specs.Notes.{notes_of, is_of, is_client}
use Rattle.sng_laws.specs.ViewsMessages.{Message, message_in, message_at, number_opening}
use Rattle.sng_laws.specs.ViewsClients.{speaks_of}
use Rattle.sng_laws.specs.ViewsStanding.{is_clean}
use Rattle.sng_laws.specs.ViewsOpenIds.{is_open, opened_by, open_by, open_after}
use Rattle.sng_history.proofs.Own.{same_self}
use Rattle.sng_history.proofs.Spelled.{AllAbout}
use Rattle.sng_promise.proofs.OpenIds.OpenLists.{SameOpen, none_same, same_opened}

-- ---- what the rows show is read from the client's own notes

abbrev pub open_notes : Option Message → List ℕ → List Decision → List ℕ → List ℕ
open_notes m id [] before = before
open_notes m id (said ∷ notes) before = open_notes m id notes (open_by m id said before)

client_same : (id : List ℕ) (whom : Who) → is_client id whom ≡ speaks_of id whom
client_same id (who.Client client) = refl
client_same id (who.Source source) = refl
client_same id (who.Address address) = refl
client_same id who.Broker = refl

open_other : (m : Option Message) (id : List ℕ) (said : Decision) (before : List ℕ)
    → is_of id said ≡ false
    → open_by m id said before ≡ before
open_other m id (note.Connect client outcome) before other = rw other refl
open_other m id (note.Publish whom name outcome) before other = rw (sym (client_same id whom) ∙ other) refl
open_other m id _ before other = refl

open_note : (m : Option Message) (id : List ℕ) (said : Decision) (notes : List Decision)
    (before : List ℕ) (b : Bool)
    → is_of id said ≡ b
    → open_notes m id notes (open_by m id said before)
    ≡ open_notes m id ((if b then said ∷ [] else []) ++ notes) before
open_note m id said notes before true own = refl
open_note m id said notes before false other = ap (open_notes m id notes) (open_other m id said before other)

pub open_by_notes : (m : Option Message) (id : List ℕ) (outs : List Out) (before : List ℕ)
    → open_after m id outs before ≡ open_notes m id (notes_of id outs) before
open_by_notes m id [] before = refl
open_by_notes m id (Note said ∷ outs) before =
    open_by_notes m id outs (open_by m id said before)
    ∙ open_note m id said (notes_of id outs) before (is_of id said) refl
open_by_notes m id (Send to datagram ∷ outs) before = open_by_notes m id outs before
open_by_notes m id (Wire packet ∷ outs) before = open_by_notes m id outs before

-- ---- the event and its cause

-- of open MsgIds the cause opens and closes what the message does
pub record Alike (c : Cause) (m : Option Message) : Type 0 where
  pub opens : id_opened_of c ≡ number_opening m
  pub cleans : (clock : ℕ) (x : Client)
      → (entered_by clock c x).unreleased ≡ (if is_clean m then [] else x.unreleased)

cleaned_ids : (clean : Bool) (x : Client) → (cleaned clean x).unreleased ≡ (if clean then [] else x.unreleased)
cleaned_ids true x = refl
cleaned_ids false x = refl

opened_ids : (will : Bool) (x : Client) → (opened will x).unreleased ≡ x.unreleased
opened_ids true x = refl
opened_ids false x = refl

pub alike_publish : (from : Address) (p : Publish) (q : FrameQos) → p.flags.qos ≡ q
    → Alike (publish_cause from p q) (message_in (Ok (frame.Publish p)))
alike_publish from p qos.WithoutSession is = record { opens = rw is refl; cleans = λ clock x. refl }
alike_publish from p qos.AtMostOnce is = record { opens = rw is refl; cleans = λ clock x. refl }
alike_publish from p qos.AtLeastOnce is = record { opens = rw is refl; cleans = λ clock x. refl }
alike_publish from p qos.ExactlyOnce is = record { opens = rw is refl; cleans = λ clock x. refl }

alike_disconnect : (from : Address) (duration : Option ℕ)
    → Alike (datagram_cause from (Ok (frame.Disconnect duration)))
    (message_in (Ok (frame.Disconnect duration)))
alike_disconnect from None = record { opens = refl; cleans = λ clock x. refl }
alike_disconnect from (Some duration) = record { opens = refl; cleans = λ clock x. refl }

pub alike_datagram : (from : Address) (read : Result SnFrame FrameFault)
    → Alike (datagram_cause from read) (message_in read)
alike_datagram from (Ok (frame.Connect connect)) = record {
  opens = refl;
  cleans = λ clock x.
      let y : Client = record x { address = from; ids = []; duration = connect.duration; heard = clock } in
      opened_ids connect.flags.will (cleaned connect.flags.clean y)
      ∙ cleaned_ids connect.flags.clean y;
}
alike_datagram from (Ok (frame.Publish p)) = alike_publish from p p.flags.qos refl
alike_datagram from (Ok (frame.Disconnect duration)) = alike_disconnect from duration
alike_datagram from (Ok message) = record { opens = refl; cleans = λ clock x. refl }
alike_datagram from (Err broke) = record { opens = refl; cleans = λ clock x. refl }

pub alike : (e : Event) → Alike (cause_of e) (message_at e)
alike (Datagram from datagram) = alike_datagram from (frame_of datagram)
alike (Broker packet) = record { opens = refl; cleans = λ clock x. refl }
alike Up = record { opens = refl; cleans = λ clock x. refl }
alike Down = record { opens = refl; cleans = λ clock x. refl }
alike Take = record { opens = refl; cleans = λ clock x. refl }
alike (Replace policy) = record { opens = refl; cleans = λ clock x. refl }
alike (Tick clock) = record { opens = refl; cleans = λ clock x. refl }

-- ---- a note, where the message opens no MsgId

if_kept : (b : Bool) (x y : Client) → y.unreleased ≡ x.unreleased
    → (let z : Client = if b then x else y in z).unreleased ≡ x.unreleased
if_kept true x y same = refl
if_kept false x y same = same

subscribed_kept : (r : Option TopicRequest) (text : Option (List ℕ)) (o : Outcome) (x : Client)
    → (subscribed r text o x).unreleased ≡ x.unreleased
subscribed_kept None text o x = refl
subscribed_kept (Some r) None o x = refl
subscribed_kept (Some r) (Some text) Allowed x = refl
subscribed_kept (Some r) (Some text) (Denied rule) x = refl

unsubscribed_kept : (text : Option (List ℕ)) (o : Outcome) (x : Client)
    → (unsubscribed text o x).unreleased ≡ x.unreleased
unsubscribed_kept None o x = refl
unsubscribed_kept (Some text) Allowed x = refl
unsubscribed_kept (Some text) (Denied rule) x = refl

stated_kept : (statement : Option Statement) (o : Outcome) (x : Client)
    → (stated_by statement o x).unreleased ≡ x.unreleased
stated_kept None o x = refl
stated_kept (Some statement) Allowed x = refl
stated_kept (Some statement) (Denied rule) x = refl

handed_kept : (a : Around) (name : List ℕ) (o : Outcome) (x : Client)
    → (handed a name o x).unreleased ≡ x.unreleased
handed_kept a name Allowed x = refl
handed_kept a name (Denied rule) x =
    if_kept (is_turned_away rule) x (record x { buffer = settle x.buffer }) refl

repeated_kept : (clock : ℕ) (o : Outcome) (x : Client) → (repeated clock o x).unreleased ≡ x.unreleased
repeated_kept clock Allowed x = refl
repeated_kept clock (Denied rule) x = refl

connected_same : (a : Around) (m : Option Message) (o : Outcome) (x : Client) (numbers : List ℕ)
    → Alike a.cause m → SameOpen x.unreleased numbers
    → SameOpen (let y : Client = if is_allowed o then entered_by a.clock a.cause x else x in y).unreleased
    (if is_allowed o && is_clean m then [] else numbers)
connected_same a m (Denied rule) x numbers same is = is
connected_same a m Allowed x numbers same is =
    subst (λ ids. SameOpen ids (if is_clean m then [] else numbers)) (sym (same.cleans a.clock x))
    (by_clean (is_clean m))
  where
    by_clean : (clean : Bool) → SameOpen (if clean then [] else x.unreleased) (if clean then [] else numbers)
    by_clean true = none_same
    by_clean false = is

quiet_published : (b : Bool) (n : Option ℕ) (numbers : List ℕ) → n ≡ None
    → (if b then opened_by n numbers else numbers) ≡ numbers
quiet_published true n numbers none = rw none refl
quiet_published false n numbers none = refl

quiet_note : (a : Around) (m : Option Message) (id : List ℕ) (said : Decision) (x : Client) (numbers : List ℕ)
    → Alike a.cause m → number_opening m ≡ None → is_of id said ≡ true
    → SameOpen x.unreleased numbers
    → SameOpen (note_by a said x).unreleased (open_by m id said numbers)
quiet_note a m id (note.Connect client outcome) x numbers same none own is =
    rw own (connected_same a m outcome x numbers same is)
quiet_note a m id (note.Publish whom name outcome) x numbers same none own is =
    rw (same.opens ∙ none)
    (subst (SameOpen x.unreleased)
    (sym (quiet_published (speaks_of id whom && is_allowed outcome) (number_opening m) numbers none)) is)
quiet_note a m id (note.Subscribe whom text outcome) x numbers same none own is =
    rw (subscribed_kept (subscribe_of a.cause) text outcome x) is
quiet_note a m id (note.Unsubscribe whom text outcome) x numbers same none own is =
    rw (unsubscribed_kept text outcome x) is
quiet_note a m id (note.Will whom name outcome) x numbers same none own is =
    rw (stated_kept (statement_of a.cause) outcome x) is
quiet_note a m id (note.Hand client name outcome) x numbers same none own is =
    rw (handed_kept a name outcome x) is
quiet_note a m id (note.Retry client name outcome) x numbers same none own is =
    rw (repeated_kept a.clock outcome x) is
quiet_note a m id (note.Register whom name outcome) x numbers same none own is = is
quiet_note a m id (note.Announce client name) x numbers same none own is = is
quiet_note a m id (note.Forward whom name outcome) x numbers same none own is = is
quiet_note a m id (note.Again whom name outcome) x numbers same none own is = is
quiet_note a m id (note.End client text outcome) x numbers same none own is = is
quiet_note a m id (note.Lost client) x numbers same none own is = is
quiet_note a m id (note.Left client) x numbers same none own is = is
quiet_note a m id note.Outbox x numbers same none own is = is
quiet_note a m id (note.Frame whom outcome) x numbers same none own is = is

pub quiet_notes : (a : Around) (m : Option Message) (id : List ℕ) (notes : List Decision) (x : Client)
    (numbers : List ℕ)
    → Alike a.cause m → number_opening m ≡ None → AllAbout id notes
    → SameOpen x.unreleased numbers
    → SameOpen (notes_by a notes x).unreleased (open_notes m id notes numbers)
quiet_notes a m id [] x numbers same none about is = is
quiet_notes a m id (said ∷ notes) x numbers same none about is =
    quiet_notes a m id notes (note_by a said x) (open_by m id said numbers) same none about.1
    (quiet_note a m id said x numbers same none (about.0.of id ∙ same_self id) is)

-- ---- the note of a PUBLISH at QoS 2 that is no repeat

-- where there is room for a MsgId that is not open, it is admitted
pub fresh_admitted : (number : ℕ) (ids : List ℕ) → is_open number ids ≡ false
    → nat_le MAX_OPEN_IDS (length ids) ≡ false
    → admitted number ids ≡ with_id number ids
fresh_admitted number ids absent room = rw (absent, room) refl

pub taken_same : (number : ℕ) (ids numbers : List ℕ) → is_open number ids ≡ false
    → nat_le MAX_OPEN_IDS (length ids) ≡ false → SameOpen ids numbers
    → SameOpen (admitted number ids) (number ∷ numbers)
taken_same number ids numbers absent room is =
    subst (λ all. SameOpen all (number ∷ numbers)) (sym (fresh_admitted number ids absent room))
    (same_opened number ids numbers absent is)

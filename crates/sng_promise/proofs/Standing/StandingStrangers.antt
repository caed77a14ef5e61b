-- Nothing stands for a client that was never accepted.
use Rattle.std.proofs.Common.{◌≡◌, ℕ, Bool, true, false, List, [], ◌∷◌, refl, ap, ◌∙◌, if◌then◌else◌, Ok, Err}
use Rattle.std.specs.Prelude.{◌&&◌, Option, Some, None}
use Rattle.std.specs.Str.{bytes_eq}
use Rattle.std.specs.declared.result.Result.{Result}
use Rattle.sng_fan.specs.declared.held.Held.{Held}
use Rattle.sng_frames.specs.Reading.{frame_of}
use Rattle.sng_frames.specs.declared.fault.FrameFault.{FrameFault}
use Rattle.sng_frames.specs.declared.messages.subscribe.TopicRequest.{TopicRequest}
use Rattle.sng_frames.specs.declared.frame.SnFrame.{SnFrame}
use Rattle.sng_frames.specs.declared.frame.SnFrame.TheVariants as frame
use Rattle.sng_book.specs.Denials.{is_allowed}
use Rattle.sng_book.specs.declared.address.Address.{Address}
use Rattle.sng_book.specs.declared.decision.Decision.{Decision}
use Rattle.sng_book.specs.declared.decision.Decision.TheVariants as note
use Rattle.sng_book.specs.declared.event.Event.{Event}
use Rattle.sng_book.specs.declared.event.Event.TheVariants.{Datagram, Broker, Up, Down, Take, Replace, Tick}
use Rattle.sng_history.specs.Causes.{Cause, ByMessage, ToSubscribe, datagram_cause}
use Rattle.sng_history.specs.Clients.{Client}
use Rattle.sng_history.specs.Notes.{notes_of}
use Rattle.sng_history.specs.State.{State, around, is_known}
use Rattle.sng_history.specs.Whole.{any_from}
use Rattle.sng_history.specs.Lawful.{fixed_for}
use Rattle.sng_history.specs.Steps.{outs_by, outs_of}
use Rattle.sng_laws.specs.ViewsMessages.{Message, message_in, message_at, subscribe_in, Other, Sleeps}
use Rattle.sng_laws.specs.ViewsClients.{speaks_of}
use Rattle.sng_laws.specs.ViewsStanding.{is_clean, left_by, standing_by}
use Rattle.sng_history.proofs.Own.{OnlyAbout, each_all, absent}
use Rattle.sng_history.proofs.Kept.{unknown_away}
use Rattle.sng_history.proofs.Spelled.{part_other}
use Rattle.sng_history.proofs.Told.{tells}
use Rattle.sng_history.proofs.SaysParts.{part_for, drops_for}
use Rattle.sng_promise.proofs.Standing.StandingNotes.{standing_notes}

if_none : (b : Bool) → (if b then (let none : List Held = [] in none) else []) ≡ []
if_none true = refl
if_none false = refl

none_left : (text : Option (List ℕ)) → left_by text [] ≡ []
none_left None = refl
none_left (Some text) = refl

-- where no SUBSCRIBE is asked nothing begins to stand
none_by : (m : Option Message) (id : List ℕ) (said : Decision) → subscribe_in m ≡ None
    → standing_by m id said [] ≡ []
none_by m id (note.Connect client outcome) quiet =
    if_none (bytes_eq id client && (is_allowed outcome && is_clean m))
none_by m id (note.Subscribe whom text outcome) quiet =
    rw quiet (if_none (speaks_of id whom && is_allowed outcome))
none_by m id (note.Unsubscribe whom text outcome) quiet =
    rw (none_left text) (if_none (speaks_of id whom && is_allowed outcome))
none_by m id (note.End client text outcome) quiet = if_none (bytes_eq id client)
none_by m id _ quiet = refl

none_notes : (m : Option Message) (id : List ℕ) (notes : List Decision) → subscribe_in m ≡ None
    → standing_notes m id notes [] ≡ []
none_notes m id [] quiet = refl
none_notes m id (said ∷ notes) quiet =
    ap (standing_notes m id notes) (none_by m id said quiet) ∙ none_notes m id notes quiet

-- a SUBSCRIBE makes no note of a client that is not known
only_about : (s : State) (c : Cause) (x : Client) → OnlyAbout (part_for s c (drops_for s c)) x
only_about s c x id other = part_other (around s c) (drops_for s c) (fixed_for s c x) x id other (tells s c x)

unknown_notes : (s : State) (from : Address) (r : TopicRequest) (id : List ℕ) (b : Bool)
    → any_from (ByMessage from (ToSubscribe r)) s.clients ≡ b → is_known id s.clients ≡ false
    → notes_of id (outs_by s (ByMessage from (ToSubscribe r))) ≡ []
unknown_notes s from r id true is unknown =
    let c = ByMessage from (ToSubscribe r) in
    rw is
    (absent (part_for s c (drops_for s c)) id s.clients
    (each_all (OnlyAbout (part_for s c (drops_for s c))) s.clients (only_about s c))
    (unknown_away id s.clients unknown))
unknown_notes s from r id false is unknown = rw is refl

unknown_datagram : (s : State) (from : Address) (read : Result SnFrame FrameFault) (id : List ℕ)
    → is_known id s.clients ≡ false
    → standing_notes (message_in read) id (notes_of id (outs_by s (datagram_cause from read))) [] ≡ []
unknown_datagram s from (Ok (frame.Subscribe r)) id unknown =
    rw (unknown_notes s from r id (any_from (ByMessage from (ToSubscribe r)) s.clients) refl unknown) refl
unknown_datagram s from (Ok (frame.Disconnect None)) id unknown =
    let c = datagram_cause from (Ok (frame.Disconnect None)) in
    none_notes (Some Other) id (notes_of id (outs_by s c)) refl
unknown_datagram s from (Ok (frame.Disconnect (Some duration))) id unknown =
    let c =
    datagram_cause from (Ok (frame.Disconnect (Some duration))) in
    none_notes (Some (Sleeps duration)) id (notes_of id (outs_by s c)) refl
unknown_datagram s from (Ok message) id unknown =
    none_notes (message_in (Ok message)) id (notes_of id (outs_by s (datagram_cause from (Ok message)))) refl
unknown_datagram s from (Err broke) id unknown =
    none_notes None id (notes_of id (outs_by s (datagram_cause from (Err broke)))) refl

pub unknown_row : (s : State) (e : Event) (id : List ℕ) → is_known id s.clients ≡ false
    → standing_notes (message_at e) id (notes_of id (outs_of s e)) [] ≡ []
unknown_row s (Datagram from datagram) id unknown = unknown_datagram s from (frame_of datagram) id unknown
unknown_row s (Broker packet) id unknown = none_notes None id (notes_of id (outs_of s (Broker packet))) refl
unknown_row s Up id unknown = none_notes None id (notes_of id (outs_of s Up)) refl
unknown_row s Down id unknown = none_notes None id (notes_of id (outs_of s Down)) refl
unknown_row s Take id unknown = none_notes None id (notes_of id (outs_of s Take)) refl
unknown_row s (Replace policy) id unknown = none_notes None id (notes_of id (outs_of s (Replace policy))) refl
unknown_row s (Tick clock) id unknown = none_notes None id (notes_of id (outs_of s (Tick clock))) refl

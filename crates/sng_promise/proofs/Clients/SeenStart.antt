-- The state of a client as its own message left it, before any note, is what the rows show of it.
use Rattle.std.proofs.Common.{◌≡◌, ℕ, Bool, true, false, List, refl, ap, sym, ◌∙◌, if◌then◌else◌, Ok, Err}
use Rattle.std.specs.Prelude.{Some, None}
use Rattle.std.specs.declared.result.Result.{Result}
use Rattle.sng_frames.specs.Reading.{frame_of}
use Rattle.sng_frames.specs.declared.fault.FrameFault.{FrameFault}
use Rattle.sng_frames.specs.declared.qos.FrameQos.{FrameQos}
use Rattle.sng_frames.specs.declared.qos.FrameQos.TheVariants as qos
use Rattle.sng_frames.specs.declared.messages.publish.Publish.{Publish}
use Rattle.sng_frames.specs.declared.frame.SnFrame.{SnFrame}
use Rattle.sng_frames.specs.declared.frame.SnFrame.TheVariants as frame
use Rattle.sng_states.specs.States.{is_due_messages}
use Rattle.sng_book.specs.declared.address.Address.{Address}
use Rattle.sng_book.specs.declared.event.Event.{Event}
use Rattle.sng_book.specs.declared.event.Event.TheVariants.{Datagram, Broker, Up, Down, Take, Replace, Tick}
use Rattle.sng_book.specs.declared.row.Row.{Row}
use Rattle.sng_history.specs.Causes.{cause_of, datagram_cause, publish_cause}
use Rattle.sng_history.specs.Clients.{Client, is_here, is_confirming, is_acknowledging, is_waking, closed}
use Rattle.sng_history.specs.Clients.{confirmed_with, asleep, awake, start_by, publish_released}
use Rattle.sng_history.specs.Verdicts.{is_active}
use Rattle.sng_history.specs.State.{State, around}
use Rattle.sng_laws.specs.ViewsClients.{phase_of, address_of, own_message, phase_spoken}
use Rattle.sng_history.proofs.Steady.{closed_steady, confirmed_steady}
use Rattle.sng_promise.proofs.Clients.SeenDatagrams.{spoken_by, spoken_same}

heard_phase : (clock : ℕ) (x : Client) (b : Bool)
    → x.phase ≡ (let y : Client = if b then record x { heard = clock } else x in y).phase
heard_phase clock x true = refl
heard_phase clock x false = refl

moved_phase : (clock : ℕ) (f : Client → Client) (x : Client) (here turn : Bool)
    → ((y : Client) → (f y).phase ≡ y.phase)
    → x.phase ≡ (let y : Client = if here
    then (if turn then f (record x { heard = clock }) else record x { heard = clock }) else x in y).phase
moved_phase clock f x true true still = sym (still (record x { heard = clock }))
moved_phase clock f x true false still = refl
moved_phase clock f x false turn still = refl

woken_phase : (clock : ℕ) (x : Client) (here turn : Bool)
    → (let y : Client = if here then (if turn then awake x else x) else x in y).phase
    ≡ (let y : Client = if here then
    (if turn then awake (record x { heard = clock }) else record x { heard = clock }) else x in y).phase
woken_phase clock x true true = refl
woken_phase clock x true false = refl
woken_phase clock x false turn = refl

asleep_phase : (clock duration : ℕ) (x : Client) (here turn : Bool)
    → (let y : Client = if here then (if turn then asleep duration x else x) else x in y).phase
    ≡ (let y : Client = if here then
    (if turn then asleep duration (record x { heard = clock }) else record x { heard = clock }) else x in
    y).phase
asleep_phase clock duration x true true = refl
asleep_phase clock duration x true false = refl
asleep_phase clock duration x false turn = refl

publish_phase : (s : State) (from : Address) (p : Publish) (q : FrameQos) (x : Client)
    → x.phase ≡ (start_by (around s (publish_cause from p q)) x).phase
publish_phase s from p qos.WithoutSession x = refl
publish_phase s from p qos.AtMostOnce x = heard_phase s.clock x (is_here x from)
publish_phase s from p qos.AtLeastOnce x = heard_phase s.clock x (is_here x from)
publish_phase s from p qos.ExactlyOnce x = heard_phase s.clock x (is_here x from)

start_phase : (s : State) (from : Address) (read : Result SnFrame FrameFault) (x : Client)
    → (spoken_by from read x).phase ≡ (start_by (around s (datagram_cause from read)) x).phase
start_phase s from (Ok (frame.PingRequest client)) x =
    woken_phase s.clock x (is_here x from) (is_waking client x)
start_phase s from (Ok (frame.Disconnect (Some duration))) x =
    asleep_phase s.clock duration x (is_here x from) (is_due_messages x.phase)
start_phase s from (Ok (frame.Disconnect None)) x = heard_phase s.clock x (is_here x from)
start_phase s from (Ok (frame.RegisterAck r)) x =
    moved_phase s.clock (confirmed_with r) x (is_here x from) (is_confirming r x)
    (λ y. (confirmed_steady r y).phase)
start_phase s from (Ok (frame.PublishAck r)) x =
    moved_phase s.clock closed x (is_here x from) (is_acknowledging r x) (λ y. (closed_steady y).phase)
start_phase s from (Ok (frame.PublishRelease n)) x =
    moved_phase s.clock (publish_released n) x (is_here x from) (is_active x.phase) (λ y. refl)
start_phase s from (Ok (frame.Connect connect)) x = heard_phase s.clock x (is_here x from)
start_phase s from (Ok (frame.Publish p)) x = publish_phase s from p p.flags.qos x
start_phase s from (Ok message) x = heard_phase s.clock x (is_here x from)
start_phase s from (Err broke) x = refl

-- so the rows show it
pub phase_start : (h : List Row) (s : State) (e : Event) (x : Client) → phase_of x.id h ≡ Some x.phase
    → address_of x.id h ≡ Some x.address
    → phase_spoken x.id (own_message (phase_of x.id h) (address_of x.id h) e) (phase_of x.id h)
    ≡ Some (start_by (around s (cause_of e)) x).phase
phase_start h s (Datagram from datagram) x phase address =
    let read = frame_of datagram in
    rw (phase, address) ((spoken_same from read x).phase ∙ ap Some (start_phase s from read x))
phase_start h s (Broker packet) x phase address = phase
phase_start h s Up x phase address = phase
phase_start h s Down x phase address = phase
phase_start h s Take x phase address = phase
phase_start h s (Replace policy) x phase address = phase
phase_start h s (Tick clock) x phase address = phase

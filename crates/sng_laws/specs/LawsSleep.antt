-- What a client is sent while it sleeps, and how it is told that nothing is left, in the views' words
-- (MQTT-SN 1.2, 6.14).
use Rattle.std.specs.Prelude.{ℕ, ◌≡◌, Bool, true, false, ◌&&◌, List, [], ◌∷◌, ◌++◌, if◌then◌else◌, Option}
use Rattle.std.specs.Prelude.{Some, None}
use Rattle.std.specs.Str.{bytes_eq}
use Rattle.sng_queue.specs.Messages.{Message}
use Rattle.sng_frames.specs.declared.messages.connect.Connect.{Connect}
use Rattle.sng_states.specs.declared.state.ClientState.{ClientState}
use Rattle.sng_states.specs.declared.state.ClientState.TheVariants.{Asleep}
use Rattle.sng_book.specs.declared.address.Address.{Address}
use Rattle.sng_book.specs.declared.event.Event.{Event}
use Rattle.sng_book.specs.declared.out.Out.{Out}
use Rattle.sng_book.specs.declared.out.Out.TheVariants.{Send, Wire, Note}
use Rattle.sng_book.specs.declared.row.Row.{Row}
use Rattle.sng_history.specs.Clients.{same_address}
use Rattle.sng_laws.specs.ViewsMessages.{message_at, connect_in}
use Rattle.sng_laws.specs.ViewsClients.{phase_of, address_of, came_from, phase_after, phase_spoken}
use Rattle.sng_laws.specs.ViewsClients.{own_message, is_ponged}
use Rattle.sng_laws.specs.ViewsHanding.{waits_for, progress_of, is_idle}
use Rattle.sng_laws.specs.LawsHanding.{is_awake}

-- ---- while it sleeps

-- the datagrams that a row sends to the place
abbrev pub sent_to : Address → List Out → List (List ℕ)
sent_to place [] = []
sent_to place (Send to datagram ∷ outs) =
    (if same_address place to then datagram ∷ [] else []) ++ sent_to place outs
sent_to place (Wire packet ∷ outs) = sent_to place outs
sent_to place (Note said ∷ outs) = sent_to place outs

abbrev pub came_from_place : Option Address → Address → Bool
came_from_place None place = false
came_from_place (Some from) place = same_address from place

abbrev pub names : List ℕ → Option Connect → Bool
names id None = false
names id (Some connect) = bytes_eq id connect.client_id

-- the event is a datagram from the place, or a CONNECT of the client from elsewhere
abbrev pub concerns : List ℕ → Address → Event → Bool
concerns id place event =
    if came_from_place (came_from event) place then true else names id (connect_in (message_at event))

-- nothing else lets anything out to where it sleeps
pub record LeftAlone (h : List Row) (row : Row) (id : List ℕ) (place : Address) : Type 0 where
  pub quiet : phase_of id h ≡ Some Asleep → address_of id h ≡ Some place → concerns id place row.event ≡ false
      → sent_to place row.outs ≡ []

-- ---- as it is awake

-- its state behind the notes of the row
abbrev pub phase_noted : List ℕ → Row → List Row → Option ClientState
phase_noted id row earlier =
    phase_after (message_at row.event) id row.outs
    (phase_spoken id (own_message (phase_of id earlier) (address_of id earlier) row.event)
    (phase_of id earlier))

abbrev pub is_none_left : List Message → Bool
is_none_left [] = true
is_none_left (m ∷ more) = false

-- behind the row nothing waits for the client, and nothing is open with it
abbrev pub is_served : List ℕ → List Row → Bool
is_served id h = is_none_left (waits_for id h) && is_idle (progress_of id h).unanswered

-- an awake client is sent PINGRESP exactly where nothing is left for it
abbrev pub PongedExactly : List ℕ → List Row → Type 0
PongedExactly id [] = Unit {0}
PongedExactly id (row ∷ earlier) =
    PongedExactly id earlier
    × (is_awake (phase_noted id row earlier) ≡ true
    → is_ponged (address_of id earlier) row.outs ≡ is_served id (row ∷ earlier))

-- so one that is still awake behind a row has something open
abbrev pub AwakeIsBusy : List ℕ → List Row → Type 0
AwakeIsBusy id h = is_awake (phase_of id h) ≡ true → is_idle (progress_of id h).unanswered ≡ false

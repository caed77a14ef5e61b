-- What is let out for each client while one sleeps goes to other places than where that is, but with a
-- datagram from there or its own CONNECT.
use Rattle.std.proofs.Common.{◌≡◌, ℕ, Bool, true, false, List, [], refl, ap, sym, ◌∙◌}
use Rattle.std.specs.Prelude.{◌&&◌, Option, Some, None}
use Rattle.std.specs.List.{flat_map}
use Rattle.sng_states.specs.States.{has_session, takes_messages}
use Rattle.sng_states.specs.declared.state.ClientState.{ClientState}
use Rattle.sng_states.specs.declared.state.ClientState.TheVariants.{Dialogue, Active, Asleep, Awake}
use Rattle.sng_states.specs.declared.state.ClientState.TheVariants.{Disconnected, Lost}
use Rattle.sng_book.specs.declared.address.Address.{Address}
use Rattle.sng_history.specs.Causes.{Cause, ByConnect, ByMessage, BySource, ByBroken, ByPacket, ByUp, ByDown}
use Rattle.sng_history.specs.Causes.{ByTake, ByReplace, ByTick}
use Rattle.sng_history.specs.Packets.{dropped}
use Rattle.sng_history.specs.Clients.{Client, same_address, is_here, is_from}
use Rattle.sng_history.specs.Standing.{Release}
use Rattle.sng_history.specs.State.{State, around}
use Rattle.sng_history.specs.Lawful.{fixed_for}
use Rattle.sng_history.specs.Whole.{part}
use Rattle.sng_history.specs.Good.{Each}
use Rattle.sng_laws.specs.LawsSleep.{sent_to, came_from_place}
use Rattle.sng_history.proofs.Own.{each_map}
use Rattle.sng_history.proofs.Places.{here_is}
use Rattle.sng_history.proofs.SentTo.{part_to}
use Rattle.sng_history.proofs.Stayed.{enters_by, fixed_put}
use Rattle.sng_promise.proofs.Sleepers.QuietParts.{quiet_part}
use Rattle.sng_promise.proofs.Sleepers.SentAway.{away_flat, none_away, to_away, flip_address}
use Rattle.sng_promise.proofs.Sleepers.SleepersHere.{Sleeper}
use Rattle.sng_history.proofs.Booleans.{and_no}

-- where the cause came from
abbrev pub from_of : Cause → Option Address
from_of (ByConnect from connect) = Some from
from_of (ByMessage from request) = Some from
from_of (BySource from p) = Some from
from_of (ByBroken from rule) = Some from
from_of (ByPacket p) = None
from_of ByUp = None
from_of ByDown = None
from_of ByTake = None
from_of (ByReplace policy) = None
from_of (ByTick clock) = None

here_away : (from place : Address) (x : Client) → same_address from place ≡ false → x.address ≡ place
    → is_here x from ≡ false
here_away from place x off at =
    ap (λ b. has_session x.phase && b) (ap (λ a. same_address a from) at ∙ flip_address from place off)
    ∙ and_no (has_session x.phase)

from_away : (c : Cause) (place : Address) (x : Client) → came_from_place (from_of c) place ≡ false
    → x.address ≡ place → is_from c x ≡ false
from_away (ByConnect from connect) place x off at = here_away from place x off at
from_away (ByMessage from request) place x off at = here_away from place x off at
from_away (BySource from p) place x off at = refl
from_away (ByBroken from rule) place x off at = here_away from place x off at
from_away (ByPacket p) place x off at = refl
from_away ByUp place x off at = refl
from_away ByDown place x off at = refl
from_away ByTake place x off at = refl
from_away (ByReplace policy) place x off at = refl
from_away (ByTick clock) place x off at = refl

here_none : (from : Address) (x : Client) → has_session x.phase ≡ false → is_here x from ≡ false
here_none from x is = ap (λ b. b && same_address x.address from) is

from_none : (c : Cause) (x : Client) → has_session x.phase ≡ false → is_from c x ≡ false
from_none (ByConnect from connect) x is = here_none from x is
from_none (ByMessage from request) x is = here_none from x is
from_none (BySource from p) x is = refl
from_none (ByBroken from rule) x is = here_none from x is
from_none (ByPacket p) x is = refl
from_none ByUp x is = refl
from_none ByDown x is = refl
from_none ByTake x is = refl
from_none (ByReplace policy) x is = refl
from_none (ByTick clock) x is = refl

takes_none : (phase : ClientState) → has_session phase ≡ false → takes_messages phase ≡ false
takes_none Disconnected is = refl
takes_none Lost is = refl
takes_none Active is = absurd cc
takes_none Asleep is = absurd cc
takes_none Awake is = absurd cc
takes_none Dialogue is = absurd cc

-- a client with a session that is not there is elsewhere
pub elsewhere : (place : Address) (x : Client) → has_session x.phase ≡ true → is_here x place ≡ false
    → same_address place x.address ≡ false
elsewhere place x here off =
    flip_address x.address place (sym (ap (λ b. b && same_address x.address place) here) ∙ off)

pub part_away : (id : List ℕ) (s : State) (c : Cause) (dropped : List Release) (place : Address) (x : Client)
    → enters_by c x ≡ false
    → came_from_place (from_of c) place ≡ false → Sleeper id place x
    → sent_to place (part (around s c) dropped (fixed_for s c x) x) ≡ []
part_away id s c dropped place x other off sleeps = by_here (is_here x place) (has_session x.phase) refl refl
  where
    by_here : (here session : Bool) → is_here x place ≡ here → has_session x.phase ≡ session
        → sent_to place (part (around s c) dropped (fixed_for s c x) x) ≡ []
    by_here true session is in_session =
        none_away place (part (around s c) dropped (fixed_for s c x) x)
        (quiet_part s c dropped x other (from_away c place x off (here_is x place is))
        (ap takes_messages (sleeps is).0))
    by_here false true is in_session =
        to_away place x.address (part (around s c) dropped (fixed_for s c x) x)
        (elsewhere place x in_session is)
        (part_to (around s c) dropped (fixed_for s c x) x (fixed_put s c x other))
    by_here false false is in_session =
        none_away place (part (around s c) dropped (fixed_for s c x) x)
        (quiet_part s c dropped x other (from_none c x in_session) (takes_none x.phase in_session))

abbrev pub is_connect : Cause → Bool
is_connect (ByConnect from connect) = true
is_connect (ByMessage from request) = false
is_connect (BySource from p) = false
is_connect (ByBroken from rule) = false
is_connect (ByPacket p) = false
is_connect ByUp = false
is_connect ByDown = false
is_connect ByTake = false
is_connect (ByReplace policy) = false
is_connect (ByTick clock) = false

no_entry : (c : Cause) (x : Client) → is_connect c ≡ false → enters_by c x ≡ false
no_entry (ByConnect from connect) x other = absurd cc
no_entry (ByMessage from request) x other = refl
no_entry (BySource from p) x other = refl
no_entry (ByBroken from rule) x other = refl
no_entry (ByPacket p) x other = refl
no_entry ByUp x other = refl
no_entry ByDown x other = refl
no_entry ByTake x other = refl
no_entry (ByReplace policy) x other = refl
no_entry (ByTick clock) x other = refl

pub rows_away : (id : List ℕ) (s : State) (c : Cause) (dropped : List Release) (place : Address)
    → is_connect c ≡ false
    → came_from_place (from_of c) place ≡ false → Each (Sleeper id place) s.clients
    → sent_to place (flat_map (λ x. part (around s c) dropped (fixed_for s c x) x) s.clients) ≡ []
rows_away id s c dropped place other off sleep =
    away_flat place (λ x. part (around s c) dropped (fixed_for s c x) x) s.clients
    (each_map (Sleeper id place) (λ x. sent_to place (part (around s c) dropped (fixed_for s c x) x) ≡ [])
    s.clients
    (λ x sleeps. part_away id s c dropped place x (no_entry c x other) off sleeps) sleep)

-- The worked rows of what a client asks for are lawful, or not, by computation.
use Rattle.std.proofs.Common.{◌≡◌, true, List, [], ◌∷◌, refl, ap, sym, subst, rules}
use Rattle.std.specs.Prelude.{None}
use Rattle.std.specs.Str.{is_utf8, IsAscii}
use Rattle.std.proofs.lemmas.Str.{is_utf8-from_IsUtf8, IsUtf8-from_ascii}
use Rattle.mqtt_frames.specs.RemainingLength.{remaining_length}
use Rattle.mqtt_frames.specs.declared.packet.Packet.TheVariants.{PublishAck}
use Rattle.sng_book.specs.declared.event.Event.{Event}
use Rattle.sng_book.specs.declared.event.Event.TheVariants.{Datagram, Broker, Up, Down, Take, Replace}
use Rattle.sng_book.specs.declared.out.Out.{Out}
use Rattle.sng_book.specs.declared.row.Row.{Row}
use Rattle.sng_book.specs.declared.decision.Decision.TheVariants.{Publish}
use Rattle.sng_book.specs.declared.decision.Who.TheVariants as who
use Rattle.sng_book.specs.declared.outcome.IdKind.TheVariants.{Normal}
use Rattle.sng_book.specs.declared.outcome.Denial.TheVariants.{Form, Grant}
use Rattle.sng_book.specs.declared.outcome.FormDenial.TheVariants.{UnknownId}
use Rattle.sng_book.specs.declared.outcome.GrantDenial.TheVariants.{MissingPub}
use Rattle.sng_book.specs.declared.out.Out.TheVariants.{Note}
use Rattle.sng_book.specs.declared.outcome.Outcome.TheVariants.{Allowed, Denied}
use Rattle.sng_history.specs.Causes.{ByConnect, cause_of}
use Rattle.sng_history.specs.State.{State, opening, after, state_of}
use Rattle.sng_history.specs.Lawful.{LawfulRow, Lawful}
use Rattle.sng_promise.specs.Examples.{row}
use Rattle.sng_promise.specs.ExamplesClients.{one_listed, both_listed, s1, home, lets_in, welcome, s1_home}
use Rattle.sng_promise.specs.ExamplesClients.{t1, t2, register_t1, register_t2, registered_t1}
use Rattle.sng_promise.specs.ExamplesClients.{unregistered_t2, publish_t1, accepted_t1, refused_t1, publish_9}
use Rattle.sng_promise.specs.ExamplesClients.{refused_9, registers, asks_t1, forward_t1, again_t1, packet_t1}
use Rattle.sng_promise.specs.ExamplesClients.{told_t1, untold, asked_t1, flies_t1, acknowledged_t1, knows_t1}
use Rattle.sng_promise.specs.ExamplesClients.{flies_and_waits, flies_ungranted}
use Rattle.sng_promise.proofs.Examples.WorkedClients.{hello, cause_s1, home_one}

t1_ascii : IsAscii (116 ∷ 47 ∷ 49 ∷ [])
t1_ascii = search rules

pub t1_utf8 : is_utf8 (116 ∷ 47 ∷ 49 ∷ []) ≡ true
t1_utf8 = is_utf8-from_IsUtf8 (116 ∷ 47 ∷ 49 ∷ []) (IsUtf8-from_ascii (116 ∷ 47 ∷ 49 ∷ []) t1_ascii)

t2_ascii : IsAscii (116 ∷ 47 ∷ 50 ∷ [])
t2_ascii = search rules

pub t2_utf8 : is_utf8 (116 ∷ 47 ∷ 50 ∷ []) ≡ true
t2_utf8 = is_utf8-from_IsUtf8 (116 ∷ 47 ∷ 50 ∷ []) (IsUtf8-from_ascii (116 ∷ 47 ∷ 50 ∷ []) t2_ascii)

-- ---- the states, one after the other

abbrev pub up_one : State
up_one = record opening { policy = one_listed; up = true }

abbrev pub inside : State
inside = after up_one (ByConnect home (hello s1)) (lets_in s1 ∷ welcome home ∷ [])

pub inside_is : state_of opening (s1_home one_listed) ≡ inside
inside_is = ap (λ c. after up_one c (lets_in s1 ∷ welcome home ∷ [])) (cause_s1 home)

-- the state after one more row
abbrev pub then : State → Event → List Out → State
then s e outs = after s (cause_of e) outs

abbrev pub knowing : State
knowing = then inside (Datagram home register_t1) (registers t1 Allowed ∷ registered_t1 ∷ [])

pub knowing_is : knows_t1 ≡ knowing
knowing_is =
    ap (λ s. then s (Datagram home register_t1) (registers t1 Allowed ∷ registered_t1 ∷ [])) inside_is

abbrev refusing : State → State
refusing s =
    then s (Datagram home register_t2) (registers t2 (Denied (Grant (MissingPub t2))) ∷ unregistered_t2 ∷ [])

abbrev asking : State → State
asking s = then s (Datagram home publish_t1) (asks_t1 Allowed ∷ accepted_t1 ∷ [])

abbrev flying : State → State
flying s = then s Take (forward_t1 Allowed ∷ packet_t1 1 ∷ [])

abbrev parted : State → State
parted s = then s Down []

abbrev resumed : State → State
resumed s = then s Up (again_t1 Allowed ∷ packet_t1 1 ∷ [])

abbrev answered : State → State
answered s = then s (Broker (PublishAck 1)) []

-- a row may come at a state that is known
pub came : (h : List Row) (t : State) (e : Event) (outs : List Out) → state_of opening h ≡ t
    → LawfulRow t e outs → LawfulRow (state_of opening h) e outs
came h t e outs is l = subst (λ t. LawfulRow t e outs) (sym is) l

pub told : Lawful opening told_t1
told = (
  home_one,
  came (s1_home one_listed) inside (Datagram home register_t1)
      (registers t1 Allowed ∷ registered_t1 ∷ []) inside_is
      (record { whole = refl; exits = refl; clients = (record { fixed = rw t1_utf8 refl }, tt) }),
)

-- a name that is not granted, and an id that was not told
refused_t2 : Lawful opening (row (Datagram home register_t2)
    (registers t2 (Denied (Grant (MissingPub t2))) ∷ unregistered_t2 ∷ []) ∷ told_t1)
refused_t2 = (
  told,
  came told_t1 knowing (Datagram home register_t2)
      (registers t2 (Denied (Grant (MissingPub t2))) ∷ unregistered_t2 ∷ []) knowing_is
      (record { whole = refl; exits = refl; clients = (record { fixed = rw t2_utf8 refl }, tt) }),
)

pub refused : Lawful opening untold
refused = (
  refused_t2,
  came (row (Datagram home register_t2) (registers t2 (Denied (Grant (MissingPub t2))) ∷ unregistered_t2 ∷ [])
      ∷ told_t1) (refusing knowing) (Datagram home publish_9)
      (Note (Publish (who.Client s1) None (Denied (Form (UnknownId Normal 9)))) ∷ refused_9 ∷ [])
      (ap refusing knowing_is)
      (record { whole = refl; exits = refl; clients = (record { fixed = refl }, tt) }),
)

-- a publish at QoS 1, from the ask to its acknowledgement
asked : Lawful opening asked_t1
asked = (
  told,
  came told_t1 knowing (Datagram home publish_t1) (asks_t1 Allowed ∷ accepted_t1 ∷ []) knowing_is
      (record { whole = refl; exits = refl; clients = (record { fixed = refl }, tt) }),
)

flies : Lawful opening flies_t1
unfolding remaining_length
flies = (
  asked,
  came asked_t1 (asking knowing) Take (forward_t1 Allowed ∷ packet_t1 1 ∷ []) (ap asking knowing_is)
      (record { whole = refl; exits = refl; clients = (record { fixed = refl }, tt) }),
)

flying_is : state_of opening flies_t1 ≡ flying (asking knowing)
flying_is = ap (λ s. flying (asking s)) knowing_is

-- over a new connection

abbrev flown : State
flown = flying (asking knowing)

abbrev down_t1 : List Row
down_t1 = row Down [] ∷ flies_t1

down : Lawful opening down_t1
down = (
  flies,
  came flies_t1 flown Down [] flying_is (record {
    whole = refl;
    exits = refl;
    clients = (record { fixed = refl }, tt);
  }),
)

abbrev again_run : List Row
again_run = row Up (again_t1 Allowed ∷ packet_t1 1 ∷ []) ∷ down_t1

again : Lawful opening again_run
unfolding remaining_length
again = (
  down,
  came down_t1 (parted flown) Up (again_t1 Allowed ∷ packet_t1 1 ∷ []) (ap parted flying_is)
      (record { whole = refl; exits = refl; clients = (record { fixed = refl }, tt) }),
)

abbrev answered_run : List Row
answered_run = row (Broker (PublishAck 1)) [] ∷ again_run

over : Lawful opening answered_run
over = (
  again,
  came again_run (resumed (parted flown)) (Broker (PublishAck 1)) [] (ap (λ s. resumed (parted s)) flying_is)
      (record { whole = refl; exits = refl; clients = (record { fixed = refl }, tt) }),
)

pub acknowledged : Lawful opening acknowledged_t1
acknowledged = (
  over,
  came answered_run (answered (resumed (parted flown))) Up []
      (ap (λ s. answered (resumed (parted s))) flying_is)
      (record { whole = refl; exits = refl; clients = (record { fixed = refl }, tt) }),
)

-- ---- rows that may not come

-- a publish leaves under the packet id of one that is in flight
pub not_reused : LawfulRow flies_and_waits Take (forward_t1 Allowed ∷ packet_t1 1 ∷ []) → ⊥
unfolding remaining_length
not_reused l =
    let at : LawfulRow (asking (flying (asking knowing))) Take (forward_t1 Allowed ∷ packet_t1 1 ∷ []) =
    subst (λ s. LawfulRow s Take (forward_t1 Allowed ∷ packet_t1 1 ∷ [])) (ap asking flying_is) l in
    let e = at.whole in cc

-- one that is in flight is sent again, though it is not granted any more
pub not_unjudged : LawfulRow flies_ungranted Up (again_t1 Allowed ∷ packet_t1 1 ∷ []) → ⊥
not_unjudged l =
    let at : LawfulRow (then (flying (asking knowing)) (Replace both_listed) []) Up
    (again_t1 Allowed ∷ packet_t1 1 ∷ []) =
    subst (λ s. LawfulRow s Up (again_t1 Allowed ∷ packet_t1 1 ∷ []))
    (ap (λ s. then s (Replace both_listed) []) flying_is) l in
    let e = at.exits in cc

-- a publish is refused that is granted
pub not_refused : LawfulRow knows_t1 (Datagram home publish_t1)
    (asks_t1 (Denied (Grant (MissingPub t1))) ∷ refused_t1 ∷ []) → ⊥
not_refused l =
    let at : LawfulRow knowing (Datagram home publish_t1)
    (asks_t1 (Denied (Grant (MissingPub t1))) ∷ refused_t1 ∷ []) =
    subst (λ s. LawfulRow s (Datagram home publish_t1)
    (asks_t1 (Denied (Grant (MissingPub t1))) ∷ refused_t1 ∷ [])) knowing_is l in
    let e = at.clients.0.fixed in cc

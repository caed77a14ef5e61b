-- The row and the next state of a DISCONNECT with Duration and of a PINGREQ, as code makes them.
use Rattle.std.proofs.Common.{◌≡◌, ℕ, Bool, true, false, List, [], ◌++◌, refl, ap, sym, ◌∙◌, subst}
use Rattle.std.specs.Prelude.{if◌then◌else◌, is_none, Option, Some, None}
use Rattle.std.specs.Str.{bytes_eq}
use Rattle.sng_states.specs.States.{is_due_messages, is_asleep, takes_messages}
use Rattle.sng_states.specs.declared.state.ClientState.{ClientState}
use Rattle.sng_states.specs.declared.state.ClientState.TheVariants.{Dialogue, Active, Asleep, Awake}
use Rattle.sng_states.specs.declared.state.ClientState.TheVariants.{Disconnected, Lost}
use Rattle.sng_queue.specs.declared.exchange.Exchange.{Exchange}
use Rattle.sng_book.specs.declared.address.Address.{Address}
use Rattle.sng_book.specs.declared.out.Out.{Out}
use Rattle.sng_history.specs.Causes.{ToPing, ToSleep, ByMessage}
use Rattle.sng_history.specs.Clients.{Client, is_here, awake, drained}
use Rattle.sng_history.specs.Outgoing.{is_free, handed_over}
use Rattle.sng_history.specs.State.{State, around}
use Rattle.sng_history.specs.Whole.{spell, drained_outs, stranger_to}
use Rattle.sng_history.specs.Entering.{served}
use Rattle.sng_history.specs.Steps.{client_next}
use Rattle.sng_history.specs.Good.{AtRest, Good}
use Rattle.sng_history.proofs.SaysParts.{part_for}
use Rattle.sng_sessions.specs.Handed.{handed_by}
use Rattle.sng_sessions.specs.Sleeping.{slept}
use Rattle.sng_core.specs.Forms.{place_at, at_place, moved_if, found_outs, heard_at}
use Rattle.sng_turns.specs.Serving.{over_plan}
use Rattle.sng_core.specs.Sleeping.{slept_outs, pinged, woken_outs, woken_next, own_ping_outs, own_ping_next}
use Rattle.sng_core.specs.Sleeping.{other_ping_outs, ping_outs, ping_next}
use Rattle.sng_core.proofs.HandingRows.{free_row, free_moves}
use Rattle.sng_core.proofs.ServingRows.{left_row}
use Rattle.sng_core.proofs.Plain.{Busy, plain_next, plain_part, plain_moves, plain_row}
use Rattle.sng_core.proofs.Rows.{Makes, message_row, drain_row, still_message}

-- ---- a DISCONNECT with Duration

slept_part_by : (s : State) (from : Address) (duration : ℕ) (x : Client) (due : Bool)
    → is_due_messages x.phase ≡ due → is_here x from ≡ true
    → slept_outs x ≡ plain_part s (ByMessage from (ToSleep duration)) [] x
slept_part_by s from duration x true is here = rw (here, is) refl
slept_part_by s from duration x false is here = rw (here, is) refl

slept_moves_by : (s : State) (from : Address) (duration : ℕ) (x : Client) (due : Bool)
    → is_due_messages x.phase ≡ due → is_here x from ≡ true
    → slept s.clock duration x ≡ plain_next s (ByMessage from (ToSleep duration)) x
slept_moves_by s from duration x true is here = rw (here, is) refl
slept_moves_by s from duration x false is here = rw (here, is) refl

slept_busy_by : (clock duration : ℕ) (x : Client) (due : Bool) → is_due_messages x.phase ≡ due → AtRest x
    → Busy (slept clock duration x)
slept_busy_by clock duration x true is rest = rw is refl
slept_busy_by clock duration x false is rest = rw is rest.busy

pub sleep_row : (s : State) (from : Address) (duration : ℕ) → Good s
    → Makes s (ByMessage from (ToSleep duration))
    (found_outs (stranger_to from (ToSleep duration)) slept_outs
    (at_place s.clients (place_at from s.clients)))
    (record s { clients = moved_if (place_at from s.clients) (slept s.clock duration) s.clients })
sleep_row s from duration good =
    message_row s (ByMessage from (ToSleep duration)) from (stranger_to from (ToSleep duration)) slept_outs
    (slept s.clock duration)
    (place_at from s.clients) good (still_message s from (ToSleep duration) good refl refl) refl
    (λ x here. slept_part_by s from duration x (is_due_messages x.phase) refl here)
    (λ x here. slept_moves_by s from duration x (is_due_messages x.phase) refl here)
    (λ x here rest. slept_busy_by s.clock duration x (is_due_messages x.phase) refl rest)

-- ---- a PINGREQ that wakes nobody

-- one that names no client
none_part : (s : State) (from : Address) (x : Client) (phase : ClientState) → x.phase ≡ phase
    → is_here x from ≡ true
    → pinged false x ≡ plain_part s (ByMessage from (ToPing None)) [] x
none_part s from x Dialogue is here = rw (here, is) refl
none_part s from x Active is here = rw (here, is) refl
none_part s from x Asleep is here = rw (here, is) refl
none_part s from x Awake is here = rw (here, is) refl
none_part s from x Disconnected is here = rw (here, is) refl
none_part s from x Lost is here = rw (here, is) refl

none_moves : (s : State) (from : Address) (x : Client) (phase : ClientState) → x.phase ≡ phase
    → is_here x from ≡ true
    → heard_at s.clock x ≡ plain_next s (ByMessage from (ToPing None)) x
none_moves s from x Dialogue is here = rw (here, is) refl
none_moves s from x Active is here = rw (here, is) refl
none_moves s from x Asleep is here = rw (here, is) refl
none_moves s from x Awake is here = rw (here, is) refl
none_moves s from x Disconnected is here = rw (here, is) refl
none_moves s from x Lost is here = rw (here, is) refl

-- one that names another client
other_part : (s : State) (from : Address) (id : List ℕ) (x : Client) (phase : ClientState) → x.phase ≡ phase
    → bytes_eq id x.id ≡ false → is_here x from ≡ true
    → other_ping_outs x ≡ plain_part s (ByMessage from (ToPing (Some id))) [] x
other_part s from id x Dialogue is other here = rw (here, other, is) refl
other_part s from id x Active is other here = rw (here, other, is) refl
other_part s from id x Asleep is other here = rw (here, other, is) refl
other_part s from id x Awake is other here = rw (here, other, is) refl
other_part s from id x Disconnected is other here = rw (here, other, is) refl
other_part s from id x Lost is other here = rw (here, other, is) refl

other_moves : (s : State) (from : Address) (id : List ℕ) (x : Client) (phase : ClientState) → x.phase ≡ phase
    → bytes_eq id x.id ≡ false → is_here x from ≡ true
    → heard_at s.clock x ≡ plain_next s (ByMessage from (ToPing (Some id))) x
other_moves s from id x Dialogue is other here = rw (here, other, is) refl
other_moves s from id x Active is other here = rw (here, other, is) refl
other_moves s from id x Asleep is other here = rw (here, other, is) refl
other_moves s from id x Awake is other here = rw (here, other, is) refl
other_moves s from id x Disconnected is other here = rw (here, other, is) refl
other_moves s from id x Lost is other here = rw (here, other, is) refl

-- ---- one that wakes its client

none_of : (phase : ClientState) (e : Option Exchange) → is_asleep phase ≡ true
    → (if takes_messages phase then None else e) ≡ None → e ≡ None
none_of Asleep e is quiet = quiet
none_of Dialogue e is quiet = absurd cc
none_of Active e is quiet = absurd cc
none_of Awake e is quiet = absurd cc
none_of Disconnected e is quiet = absurd cc
none_of Lost e is quiet = absurd cc

-- it is free then
woken_free : (clock : ℕ) (x : Client) → is_asleep x.phase ≡ true → AtRest x
    → is_free (awake (heard_at clock x)) ≡ true
woken_free clock x is rest = ap is_none (none_of x.phase x.buffer.exchange is rest.quiet)

wakes_part : (s : State) (from : Address) (id : List ℕ) (x : Client) → x.phase ≡ Asleep
    → bytes_eq id x.id ≡ true → is_here x from ≡ true → AtRest x
    → woken_outs s.policy x ≡ part_for s (ByMessage from (ToPing (Some id))) [] x
wakes_part s from id x is own here rest =
    let a = around s (ByMessage from (ToPing (Some id))) in
    let y = awake (heard_at s.clock x) in
    let free = woken_free s.clock x (ap is_asleep is) rest in
    let shown : woken_outs s.policy x ≡ spell a [] y (handed_over s.policy y) ++ drained_outs (served a y) =
    λ i. free_row a [] y free i ++ left_row a y free i in
    shown ∙ (rw (here, own, is) refl)

wakes_moves : (s : State) (from : Address) (id : List ℕ) (x : Client) → x.phase ≡ Asleep
    → bytes_eq id x.id ≡ true → is_here x from ≡ true → AtRest x
    → woken_next s.policy s.clock x ≡ client_next s (ByMessage from (ToPing (Some id))) x
wakes_moves s from id x is own here rest =
    let a = around s (ByMessage from (ToPing (Some id))) in
    let y = awake (heard_at s.clock x) in
    let asleep : is_asleep x.phase ≡ true = ap is_asleep is in
    let free = woken_free s.clock x asleep rest in
    let woke : woken_next s.policy s.clock x ≡ drained (handed_by s.clock (over_plan s.policy 0 0 x) y) =
    ap (λ b. let z : Client = if b then y else heard_at s.clock x in
    drained (handed_by s.clock (over_plan s.policy 0 0 x) z)) asleep in
    let shown : woken_next s.policy s.clock x ≡ drained (served a y) =
    woke ∙ ap drained (free_moves a y free) in
    shown ∙ (rw (here, own, is) refl)

-- ---- one that names its client

-- which does not sleep
still_part : (s : State) (from : Address) (id : List ℕ) (x : Client) (phase : ClientState) → x.phase ≡ phase
    → is_asleep phase ≡ false
    → bytes_eq id x.id ≡ true → is_here x from ≡ true
    → pinged true x ≡ plain_part s (ByMessage from (ToPing (Some id))) [] x
still_part s from id x Asleep is up own here = absurd cc
still_part s from id x Dialogue is up own here = rw (here, own, is) refl
still_part s from id x Active is up own here = rw (here, own, is) refl
still_part s from id x Awake is up own here = rw (here, own, is) refl
still_part s from id x Disconnected is up own here = rw (here, own, is) refl
still_part s from id x Lost is up own here = rw (here, own, is) refl

still_moves : (s : State) (from : Address) (id : List ℕ) (x : Client) (phase : ClientState) → x.phase ≡ phase
    → is_asleep phase ≡ false
    → bytes_eq id x.id ≡ true → is_here x from ≡ true
    → heard_at s.clock x ≡ plain_next s (ByMessage from (ToPing (Some id))) x
still_moves s from id x Asleep is up own here = absurd cc
still_moves s from id x Dialogue is up own here = rw (here, own, is) refl
still_moves s from id x Active is up own here = rw (here, own, is) refl
still_moves s from id x Awake is up own here = rw (here, own, is) refl
still_moves s from id x Disconnected is up own here = rw (here, own, is) refl
still_moves s from id x Lost is up own here = rw (here, own, is) refl

asleep_is : (phase : ClientState) → is_asleep phase ≡ true → phase ≡ Asleep
asleep_is Asleep is = refl
asleep_is Dialogue is = absurd cc
asleep_is Active is = absurd cc
asleep_is Awake is = absurd cc
asleep_is Disconnected is = absurd cc
asleep_is Lost is = absurd cc

-- what a PINGREQ lets out that wakes nobody, and leads to
whole_part : (s : State) (from : Address) (client : Option (List ℕ)) (x : Client) (outs : List Out) → AtRest x
    → outs ≡ plain_part s (ByMessage from (ToPing client)) [] x
    → heard_at s.clock x ≡ plain_next s (ByMessage from (ToPing client)) x
    → outs ≡ part_for s (ByMessage from (ToPing client)) [] x
whole_part s from client x outs rest shown moves =
    shown ∙ sym (plain_row s (ByMessage from (ToPing client)) [] x (subst Busy moves rest.busy))

whole_moves : (s : State) (from : Address) (client : Option (List ℕ)) (x : Client) → AtRest x
    → heard_at s.clock x ≡ plain_next s (ByMessage from (ToPing client)) x
    → heard_at s.clock x ≡ client_next s (ByMessage from (ToPing client)) x
whole_moves s from client x rest moves =
    moves ∙ sym (plain_moves s (ByMessage from (ToPing client)) x (subst Busy moves rest.busy))

own_part : (s : State) (from : Address) (id : List ℕ) (x : Client) (asleep : Bool)
    → is_asleep x.phase ≡ asleep → bytes_eq id x.id ≡ true
    → is_here x from ≡ true → AtRest x
    → (if asleep then woken_outs s.policy x else pinged true x)
    ≡ part_for s (ByMessage from (ToPing (Some id))) [] x
own_part s from id x true is own here rest = wakes_part s from id x (asleep_is x.phase is) own here rest
own_part s from id x false is own here rest =
    whole_part s from (Some id) x (pinged true x) rest (still_part s from id x x.phase refl is own here)
    (still_moves s from id x x.phase refl is own here)

own_moves : (s : State) (from : Address) (id : List ℕ) (x : Client) (asleep : Bool)
    → is_asleep x.phase ≡ asleep → bytes_eq id x.id ≡ true
    → is_here x from ≡ true → AtRest x
    → (if asleep then woken_next s.policy s.clock x else heard_at s.clock x)
    ≡ client_next s (ByMessage from (ToPing (Some id))) x
own_moves s from id x true is own here rest = wakes_moves s from id x (asleep_is x.phase is) own here rest
own_moves s from id x false is own here rest =
    whole_moves s from (Some id) x rest (still_moves s from id x x.phase refl is own here)

-- ---- any PINGREQ

named_part : (s : State) (from : Address) (id : List ℕ) (x : Client) (own : Bool) → bytes_eq id x.id ≡ own
    → is_here x from ≡ true → AtRest x
    → (if own then own_ping_outs s.policy x else other_ping_outs x)
    ≡ part_for s (ByMessage from (ToPing (Some id))) [] x
named_part s from id x true own here rest = own_part s from id x (is_asleep x.phase) refl own here rest
named_part s from id x false own here rest =
    whole_part s from (Some id) x (other_ping_outs x) rest (other_part s from id x x.phase refl own here)
    (other_moves s from id x x.phase refl own here)

named_moves : (s : State) (from : Address) (id : List ℕ) (x : Client) (own : Bool) → bytes_eq id x.id ≡ own
    → is_here x from ≡ true → AtRest x
    → (if own then own_ping_next s.policy s.clock x else heard_at s.clock x)
    ≡ client_next s (ByMessage from (ToPing (Some id))) x
named_moves s from id x true own here rest = own_moves s from id x (is_asleep x.phase) refl own here rest
named_moves s from id x false own here rest =
    whole_moves s from (Some id) x rest (other_moves s from id x x.phase refl own here)

ping_part : (s : State) (from : Address) (client : Option (List ℕ)) (x : Client) → is_here x from ≡ true
    → AtRest x
    → ping_outs s.policy client x ≡ part_for s (ByMessage from (ToPing client)) [] x
ping_part s from None x here rest =
    whole_part s from None x (pinged false x) rest (none_part s from x x.phase refl here)
    (none_moves s from x x.phase refl here)
ping_part s from (Some id) x here rest = named_part s from id x (bytes_eq id x.id) refl here rest

ping_moves : (s : State) (from : Address) (client : Option (List ℕ)) (x : Client) → is_here x from ≡ true
    → AtRest x
    → ping_next s.policy s.clock client x ≡ client_next s (ByMessage from (ToPing client)) x
ping_moves s from None x here rest = whole_moves s from None x rest (none_moves s from x x.phase refl here)
ping_moves s from (Some id) x here rest = named_moves s from id x (bytes_eq id x.id) refl here rest

pub ping_row : (s : State) (from : Address) (client : Option (List ℕ)) → Good s
    → Makes s (ByMessage from (ToPing client))
    (found_outs (stranger_to from (ToPing client)) (ping_outs s.policy client)
    (at_place s.clients (place_at from s.clients)))
    (record s { clients = moved_if (place_at from s.clients) (ping_next s.policy s.clock client) s.clients })
ping_row s from client good =
    drain_row s (ByMessage from (ToPing client)) from (stranger_to from (ToPing client))
    (ping_outs s.policy client)
    (ping_next s.policy s.clock client) (place_at from s.clients) good
    (still_message s from (ToPing client) good refl refl) refl
    (ping_part s from client) (ping_moves s from client)

-- An awake client is sent PINGRESP exactly where nothing is left for it: in a row of a message, and in one of
-- no client.
use Rattle.std.proofs.Common.{◌≡◌, ℕ, Bool, true, false, List, [], ◌∷◌, refl, ap, sym, ◌∙◌}
use Rattle.std.proofs.Common.{if◌then◌else◌}
use Rattle.std.specs.Prelude.{◌&&◌, ◌||◌, Option, Some}
use Rattle.sng_states.specs.declared.state.ClientState.{ClientState}
use Rattle.sng_states.specs.declared.state.ClientState.TheVariants.{Dialogue, Active, Asleep, Awake}
use Rattle.sng_states.specs.declared.state.ClientState.TheVariants.{Disconnected, Lost}
use Rattle.sng_states.specs.States.{has_session, is_due_messages}
use Rattle.sng_book.specs.declared.address.Address.{Address}
use Rattle.sng_book.specs.declared.outcome.Outcome.{Outcome}
use Rattle.sng_book.specs.declared.outcome.Outcome.TheVariants.{Allowed, Denied}
use Rattle.sng_book.specs.declared.out.Out.{Out}
use Rattle.sng_history.specs.Answers.{dismissed, pubrec, pubcomp}
use Rattle.sng_history.specs.Causes.{Cause, Request, ByMessage}
use Rattle.sng_history.specs.Causes.{ToPing, ToLeave, ToSleep, ToRegister, ToPublish, ToSubscribe}
use Rattle.sng_history.specs.Causes.{ToUnsubscribe, ToConfirm, ToAcknowledge}
use Rattle.sng_history.specs.Causes.{ToState, Untaken}
use Rattle.sng_history.specs.Causes.{ToPublishOnce, ToRelease}
use Rattle.sng_history.specs.Clients.{Client, same_address, is_from, is_here, is_drained}
use Rattle.sng_history.specs.Good.{Each, OnePlace, AtRest}
use Rattle.sng_history.specs.State.{State}
use Rattle.sng_history.specs.Steps.{notes_for}
use Rattle.sng_history.specs.Verdicts.{is_active, ping_verdict, is_repeat}
use Rattle.sng_laws.specs.ViewsClients.{is_ponged}
use Rattle.sng_history.specs.Whole.{pong_by, answer_to, any_from, drops, client_rows}
use Rattle.sng_history.proofs.GoodNext.{message_stays}
use Rattle.sng_history.proofs.Own.{each_map}
use Rattle.sng_history.proofs.Places.{address_means}
use Rattle.sng_promise.proofs.Clients.SeenClients.{moved_to}
use Rattle.sng_promise.proofs.Clients.SeenHeard.{woken_if, ping_phase}
use Rattle.sng_promise.proofs.Sleepers.SeenFramesAnswers.{NoPong, none_pongs, none_if}
use Rattle.sng_promise.proofs.Sleepers.SeenFramesAnswers.{dismissed_none, pubrec_none}
use Rattle.sng_promise.proofs.Sleepers.SeenSleepers.{Author, Told, author_outs, same_place, rows_told}
use Rattle.sng_history.proofs.Booleans.{or_neither, left_holds, and_no}

-- ---- what answers a client's own message

same_true : (b : Bool) → ((b && true) || false) ≡ b
same_true true = refl
same_true false = refl

-- PINGRESP answers an active client, where it is
pong_here : (place to : Address) (o : Outcome) → is_ponged (Some place) (pong_by o to) ≡ true
    → same_address place to ≡ true
pong_here place to Allowed is = sym (same_true (same_address place to)) ∙ is
pong_here place to (Denied rule) is = absurd cc

ping_here : (from : Address) (client : Option (List ℕ)) (y : Client) (place : Address) (here active : Bool)
    → is_here y from ≡ here
    → is_ponged (Some place)
    (let outs : List Out = if here then (if active then pong_by (ping_verdict client y) y.address else [])
    else [] in outs) ≡ true
    → is_here y place ≡ true
ping_here from client y place true true is pongs =
    let same : place ≡ y.address =
    address_means place y.address (pong_here place y.address (ping_verdict client y) pongs) in
    let lives : has_session y.phase ≡ true =
    left_holds (has_session y.phase) (same_address y.address from) is in
    rw (same, lives) (same_place y.address)
ping_here from client y place true false is pongs = absurd cc
ping_here from client y place false active is pongs = absurd cc

active_awake : (phase : ClientState) → is_active phase ≡ true → phase ≡ Active
active_awake Active is = refl
active_awake Dialogue is = absurd cc
active_awake Asleep is = absurd cc
active_awake Awake is = absurd cc
active_awake Disconnected is = absurd cc
active_awake Lost is = absurd cc

never_awake : (client : Option (List ℕ)) (x : Client) → x.phase ≡ Active → (woken_if client x).phase ≡ Active
never_awake client x is = rw is refl

ping_own : (s : State) (from : Address) (client : Option (List ℕ)) (y : Client) (place : Address)
    (here active : Bool)
    → is_here y from ≡ here → is_active y.phase ≡ active
    → (moved_to s (ByMessage from (ToPing client)) y).phase ≡ Awake
    → is_ponged (Some place)
    (let outs : List Out = if here then (if active then pong_by (ping_verdict client y) y.address else [])
    else [] in outs) ≡ false
ping_own s from client y place true true is lives wakes =
    let bad : Active ≡ Awake =
    sym (ping_phase s from client y true is ∙ never_awake client y (active_awake y.phase lives)) ∙ wakes in
    absurd cc
ping_own s from client y place true false is lives wakes = refl
ping_own s from client y place false active is lives wakes = refl

ping_author : (s : State) (from : Address) (client : Option (List ℕ)) (y : Client)
    → Author s (ByMessage from (ToPing client)) y
ping_author s from client y = record {
  here = λ place pongs. ping_here from client y place (is_here y from) (is_active y.phase) refl pongs;
  own = λ wakes place. ping_own s from client y place (is_here y from) (is_active y.phase) refl refl wakes;
  stays = message_stays s from (ToPing client) y;
}

-- any other message is not
none_if_here : (b : Bool) (outs : List Out) (place : Address) → is_ponged (Some place) outs ≡ false
    → is_ponged (Some place) (let all : List Out = if b then outs else [] in all) ≡ false
none_if_here true outs place none = none
none_if_here false outs place none = refl

false_true : (b : Bool) → b ≡ false → b ≡ true → ⊥
false_true true one two = cc
false_true false one two = cc

-- no out is PINGRESP
abbrev NotPonged : List Out → Type 0
NotPonged outs = (place : Address) → is_ponged (Some place) outs ≡ false

other_author : (s : State) (from : Address) (request : Request) (y : Client)
    → NotPonged (answer_to request y) → Author s (ByMessage from request) y
other_author s from request y none = record {
  here = λ place pongs. absurd
      (false_true (is_ponged (Some place) (author_outs (ByMessage from request) y))
      (none_if_here (is_here y from) (answer_to request y) place (none place)) pongs);
  own = λ wakes place. none_if_here (is_here y from) (answer_to request y) place (none place);
  stays = message_stays s from request y;
}

unponged : (outs : List Out) → NoPong outs → NotPonged outs
unponged outs none place = none_pongs place outs none

-- a PUBCOMP is none
completed : (b : Bool) (to : Address) (n : ℕ)
    → NotPonged (let outs : List Out = if b then pubcomp to n ∷ [] else [] in outs)
completed true to n place = rw (and_no (same_address place to)) refl
completed false to n place = refl

pub message_author : (s : State) (from : Address) (request : Request) (y : Client)
    → Author s (ByMessage from request) y
message_author s from (ToPing client) y = ping_author s from client y
message_author s from (ToSleep duration) y =
    other_author s from (ToSleep duration) y
    (unponged (if is_due_messages y.phase then dismissed y.address ∷ [] else [])
    (none_if (is_due_messages y.phase) (dismissed y.address ∷ []) (dismissed_none y.address)))
message_author s from ToLeave y = other_author s from ToLeave y (λ place. refl)
message_author s from (ToRegister r) y = other_author s from (ToRegister r) y (λ place. refl)
message_author s from (ToPublish p) y = other_author s from (ToPublish p) y (λ place. refl)
message_author s from (ToPublishOnce p) y =
    other_author s from (ToPublishOnce p) y
    (unponged (if is_repeat p y then pubrec y.address p.msg_id ∷ [] else [])
    (none_if (is_repeat p y) (pubrec y.address p.msg_id ∷ []) (pubrec_none y.address p.msg_id)))
message_author s from (ToRelease n) y =
    other_author s from (ToRelease n) y
    (completed (is_active y.phase) y.address n)
message_author s from (ToSubscribe r) y = other_author s from (ToSubscribe r) y (λ place. refl)
message_author s from (ToUnsubscribe r) y = other_author s from (ToUnsubscribe r) y (λ place. refl)
message_author s from (ToConfirm r) y = other_author s from (ToConfirm r) y (λ place. refl)
message_author s from (ToAcknowledge r) y = other_author s from (ToAcknowledge r) y (λ place. refl)
message_author s from (ToState statement) y = other_author s from (ToState statement) y (λ place. refl)
message_author s from (Untaken message) y = other_author s from (Untaken message) y (λ place. refl)

-- ---- rows of no client

-- nothing is PINGRESP, and the client is as it was
idle_told : (s : State) (c : Cause) (outs : List Out) (x : Client) → NoPong outs
    → is_drained (moved_to s c x) ≡ false → Told s c outs x
idle_told s c outs x none busy is = none_pongs x.address outs none ∙ sym busy

pub idle_rows : (s : State) (c : Cause) (outs : List Out) → NoPong outs → ((x : Client) → moved_to s c x ≡ x)
    → Each AtRest s.clients
    → Each (Told s c outs) s.clients
idle_rows s c outs none same rest =
    each_map AtRest (Told s c outs) s.clients
    (λ x at. idle_told s c outs x none (ap is_drained (same x) ∙ at.busy)) rest

-- ---- a message

away_rows : (s : State) (c : Cause) (outs : List Out) (xs : List Client) → NoPong outs
    → ((x : Client) → is_from c x ≡ false → moved_to s c x ≡ x)
    → any_from c xs ≡ false → Each AtRest xs → Each (Told s c outs) xs
away_rows s c outs [] none same away rest = tt
away_rows s c outs (x ∷ xs) none same away rest =
    let both = or_neither (is_from c x) (any_from c xs) away in (
      idle_told s c outs x none (ap is_drained (same x both.0) ∙ rest.0.busy),
      away_rows s c outs xs none same both.1 rest.1,
    )

pub frame_told : (s : State) (c : Cause) (stranger : List Out) (any : Bool) → any_from c s.clients ≡ any
    → NoPong stranger
    → ((x : Client) → Author s c x)
    → ((x : Client) → is_from c x ≡ false → moved_to s c x ≡ x) → OnePlace s.clients → Each AtRest s.clients
    → Each
    (Told s c
    (let outs : List Out = if any then client_rows s c (drops s c (notes_for s c)) (notes_for s c)
    else stranger in outs)) s.clients
frame_told s c stranger true is none author same places rest =
    rows_told s c (drops s c (notes_for s c)) s.clients author places
frame_told s c stranger false is none author same places rest =
    away_rows s c stranger s.clients none same is rest

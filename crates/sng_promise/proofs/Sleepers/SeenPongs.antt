-- In each row an awake client is sent PINGRESP exactly where nothing is left for it.
use Rattle.std.proofs.Common.{◌≡◌, ℕ, Bool, true, false, List, [], ◌∷◌, ◌++◌, refl, ap, sym, ◌∙◌}
use Rattle.std.proofs.Common.{if◌then◌else◌}
use Rattle.std.specs.Prelude.{◌&&◌, not, Option, Some, None, drop}
use Rattle.std.specs.List.{flat_map}
use Rattle.std.specs.Str.{bytes_eq}
use Rattle.sng_states.specs.declared.state.ClientState.{ClientState}
use Rattle.sng_states.specs.declared.state.ClientState.TheVariants.{Dialogue, Active, Asleep, Awake}
use Rattle.sng_states.specs.declared.state.ClientState.TheVariants.{Disconnected, Lost}
use Rattle.sng_states.specs.States.{has_session}
use Rattle.sng_frames.specs.Writing.{written}
use Rattle.sng_frames.specs.declared.return_code.TheConstants.ReturnCode.{ACCEPTED}
use Rattle.sng_frames.specs.declared.messages.connect.Connect.{Connect}
use Rattle.sng_frames.specs.declared.frame.SnFrame.TheVariants as frame
use Rattle.sng_book.specs.declared.address.Address.{Address}
use Rattle.sng_book.specs.declared.decision.Decision.TheVariants as note
use Rattle.sng_book.specs.declared.decision.Who.TheVariants as who
use Rattle.sng_book.specs.declared.outcome.Outcome.{Outcome}
use Rattle.sng_book.specs.declared.outcome.Outcome.TheVariants.{Allowed, Denied}
use Rattle.sng_book.specs.declared.out.Out.{Out}
use Rattle.sng_book.specs.declared.out.Out.TheVariants.{Send, Note}
use Rattle.sng_text.specs.Texts.{is_name}
use Rattle.sng_history.specs.Answers.{connack, code_of, welcome, dismissed, pong}
use Rattle.sng_history.specs.Causes.{Cause, ByConnect, ByMessage, BySource, ByBroken, ByPacket, ByUp}
use Rattle.sng_history.specs.Causes.{ByDown, ByTake, ByReplace}
use Rattle.sng_history.specs.Causes.{ByTick}
use Rattle.sng_history.specs.Clients.{Client, same_address, is_here, is_drained, let_in, start_by}
use Rattle.sng_history.specs.Exits.{leaving, exits_of, resending, subscribing}
use Rattle.sng_history.specs.Good.{Each, AtRest, Good}
use Rattle.sng_history.specs.Lawful.{exits_for, fixed_for}
use Rattle.sng_history.specs.Links.{resumed, filters_wanted, outgoing}
use Rattle.sng_history.specs.Packets.{Answer, Delivers, Acknowledges, Grants, Refuses, Confirms, Strange}
use Rattle.sng_history.specs.Packets.{answer_of, has_place, owed}
use Rattle.sng_history.specs.Packets.{misnamed, dropped, answer_outs}
use Rattle.sng_history.specs.State.{State, around, later}
use Rattle.sng_history.specs.Steps.{notes_for, outs_by, client_next}
use Rattle.sng_history.specs.Ticking.{is_ping_due, with_wills, ping_dropped}
use Rattle.sng_history.specs.Verdicts.{entry}
use Rattle.sng_laws.specs.ViewsClients.{is_ponged}
use Rattle.sng_history.specs.Whole.{stranger_to, any_from, drops, client_rows, moved}
use Rattle.sng_history.specs.Whole.{beside, entering_part}
use Rattle.sng_history.specs.Whole.{around_welcome, entry_outs, drained_outs, spell, part}
use Rattle.sng_history.proofs.AddressesKept.{settled_for}
use Rattle.sng_history.proofs.GoodNext.{settled_tick, settled_packet, settled_ends}
use Rattle.sng_history.proofs.AddressesKept.{Settled}
use Rattle.sng_history.proofs.Own.{each_map}
use Rattle.sng_history.proofs.Hands.{every_if}
use Rattle.sng_promise.proofs.Link.LawAgainBegins.{again_unsent}
use Rattle.sng_promise.proofs.Link.LawLink.{wires_kept, subscribing_wires}
use Rattle.sng_promise.proofs.Link.LawLinkOrder.{all_unsent}
use Rattle.sng_history.proofs.Places.{Stays}
use Rattle.sng_promise.proofs.Clients.SeenClients.{moved_to}
use Rattle.sng_promise.proofs.Clients.SeenEntered.{connect_busy}
use Rattle.sng_promise.proofs.Sleepers.SeenFramesAnswers.{NoPong, none_pongs, both_none, none_if, none_sends}
use Rattle.sng_promise.proofs.Sleepers.SeenFrames.{spell_none}
use Rattle.sng_promise.proofs.Sleepers.SeenFramesAnswers.{dismissed_none, connack_none}
use Rattle.sng_promise.proofs.Sleepers.SeenFramesAnswers.{drops_none, unlike}
use Rattle.sng_promise.proofs.Sleepers.SeenFrames.{stranger_none}
use Rattle.sng_promise.proofs.Sleepers.SeenSleepers.{Author, Told, author_outs, rows_told, told_before}
use Rattle.sng_history.specs.Standing.{drop_notes}
use Rattle.sng_promise.proofs.Sleepers.SeenPongsMessages.{message_author, idle_rows, frame_told}

-- ---- a CONNECT

pub welcome_none : (connect : Connect) (from : Address) → NoPong (welcome connect from ∷ [])
welcome_none connect from = by_will connect.flags.will
  where
    by_will : (will : Bool) → NoPong
        ((if will then Send from (written frame.WillTopicRequest) else connack from ACCEPTED) ∷ [])
    by_will true = (unlike frame.WillTopicRequest refl refl, tt)
    by_will false = connack_none from ACCEPTED

around_none : (ack : Out) (clean : Bool) (own : List Out) → NoPong own → NoPong (ack ∷ [])
    → NoPong (around_welcome clean own ack)
around_none ack true own none sent = both_none own (ack ∷ []) none sent
around_none ack false own none sent = both_none (ack ∷ []) own sent none

flat_none : (P : Client → Type 0) (f : Client → List Out) (xs : List Client)
    → ((x : Client) → P x → NoPong (f x)) → Each P xs
    → NoPong (flat_map f xs)
flat_none P f [] none all = tt
flat_none P f (x ∷ xs) none all = both_none (f x) (flat_map f xs) (none x all.0) (flat_none P f xs none all.1)

pub moved_none : (from : Address) (id : List ℕ) (x : Client) → NoPong (moved from id x)
moved_none from id x =
    let away = has_session x.phase && not (same_address x.address from) in
    none_if (bytes_eq id x.id) (if away then dismissed x.address ∷ [] else [])
    (none_if away (dismissed x.address ∷ []) (dismissed_none x.address))

abbrev entry_moved : State → Address → Connect → Client → Client
entry_moved s from connect x = moved_to s (ByConnect from connect) x

-- whoever is not awake, or for whom something is left, is sent none
drained_none : (z : Client) → (z.phase ≡ Awake → is_drained z ≡ false) → NoPong (drained_outs z)
drained_none z busy = by_drained (is_drained z) refl
  where
    by_phase : (phase : ClientState) → z.phase ≡ phase → is_drained z ≡ true → z.phase ≡ Awake
    by_phase Awake is drained = is
    by_phase Active is drained = absurd (let e : false ≡ true = sym (rw is refl) ∙ drained in cc)
    by_phase Asleep is drained = absurd (let e : false ≡ true = sym (rw is refl) ∙ drained in cc)
    by_phase Dialogue is drained = absurd (let e : false ≡ true = sym (rw is refl) ∙ drained in cc)
    by_phase Disconnected is drained = absurd (let e : false ≡ true = sym (rw is refl) ∙ drained in cc)
    by_phase Lost is drained = absurd (let e : false ≡ true = sym (rw is refl) ∙ drained in cc)

    by_drained : (b : Bool) → is_drained z ≡ b → NoPong (if b then pong z.address ∷ [] else [])
    by_drained true is = absurd (let e : true ≡ false = sym is ∙ busy (by_phase z.phase refl is) in cc)
    by_drained false is = tt

connect_still : (s : State) (from : Address) (connect : Connect) (x : Client) → AtRest x
    → (entry_moved s from connect x).phase ≡ Awake
    → is_drained (entry_moved s from connect x) ≡ false
connect_still s from connect x rest is =
    connect_busy s from connect x (bytes_eq connect.client_id x.id) (is_here x from)
    (entry s connect) rest.busy is

none_said : (b : Bool) → NoPong (if b then [] else [])
none_said true = tt
none_said false = tt

beside_none : (s : State) (from : Address) (connect : Connect) (x : Client) → AtRest x
    → NoPong (beside (around s (ByConnect from connect))
    (notes_for s (ByConnect from connect)) connect.client_id x)
beside_none s from connect x rest = by_own (bytes_eq connect.client_id x.id)
  where
    c : Cause
    c = ByConnect from connect

    by_own : (b : Bool) → NoPong (if b then []
        else part (around s (ByConnect from connect)) [] (fixed_for s (ByConnect from connect) x) x)
    by_own true = tt
    by_own false =
        let a = around s (ByConnect from connect) in
        let n = fixed_for s (ByConnect from connect) x in
        let y = start_by a x in
        let z = entry_moved s from connect x in
        both_none (if is_here x from then [] else []) (spell a [] y n ++ drained_outs z)
        (none_said (is_here x from))
        (both_none (spell a [] y n) (drained_outs z) (spell_none a [] y n)
        (drained_none z (connect_still s from connect x rest)))

entering_none : (s : State) (from : Address) (connect : Connect) (x : Client)
    → NoPong (entering_part (around s (ByConnect from connect))
    (notes_for s (ByConnect from connect)) from connect x)
entering_none s from connect x =
    none_if (bytes_eq connect.client_id x.id)
    (spell (around s (ByConnect from connect)) [] (let_in s.clock from connect x)
    (drop 1 (fixed_for s (ByConnect from connect) x)))
    (spell_none (around s (ByConnect from connect)) [] (let_in s.clock from connect x)
    (drop 1 (fixed_for s (ByConnect from connect) x)))

entry_none : (s : State) (from : Address) (connect : Connect) (o : Outcome) → Each AtRest s.clients
    → NoPong (entry_outs s from connect (notes_for s (ByConnect from connect)) o)
entry_none s from connect Allowed rest =
    let c = ByConnect from connect in
    let notes = notes_for s c in
    let others = flat_map (beside (around s c) notes connect.client_id) s.clients in
    let noted = drop_notes (drops s c notes) in
    let entering = flat_map (entering_part (around s c) notes from connect) s.clients in
    let last = around_welcome connect.flags.clean entering (welcome connect from) in
    both_none (flat_map (moved from connect.client_id) s.clients) (others ++ (noted ++ last))
    (flat_none AtRest (moved from connect.client_id) s.clients
    (λ x at. moved_none from connect.client_id x) rest)
    (both_none others (noted ++ last)
    (flat_none AtRest (beside (around s c) notes connect.client_id) s.clients
    (λ x at. beside_none s from connect x at) rest)
    (both_none noted last (drops_none (drops s c notes))
    (around_none (welcome connect from) connect.flags.clean entering
    (flat_none AtRest (entering_part (around s c) notes from connect) s.clients
    (λ x at. entering_none s from connect x) rest)
    (welcome_none connect from))))
entry_none s from connect (Denied rule) rest = connack_none from (code_of rule)

-- ---- a packet of the broker

misnamed_none : (name : List ℕ) (b : Bool) → is_name name ≡ b → NoPong (misnamed name)
misnamed_none name true is = rw is tt
misnamed_none name false is = rw is tt

dropped_none : (place : Bool) (packet_id : Option ℕ) → NoPong (dropped place packet_id)
dropped_none place None = tt
dropped_none true (Some packet_id) = tt
dropped_none false (Some packet_id) = tt

pub packet_none : (s : State) (brought : Answer) → NoPong (answer_outs s.policy.limits s.up s.link brought)
packet_none s (Delivers p) =
    both_none (misnamed p.name) (dropped (has_place s.policy.limits s.link) (owed s.up p))
    (misnamed_none p.name (is_name p.name) refl)
    (dropped_none (has_place s.policy.limits s.link) (owed s.up p))
packet_none s (Acknowledges packet_id) = tt
packet_none s (Grants packet_id) = tt
packet_none s (Refuses packet_id) = tt
packet_none s Confirms = tt
packet_none s Strange = tt

-- ---- each row

quiet_author : (s : State) (c : Cause) (y : Client) → author_outs c y ≡ []
    → (let stays = Stays y (client_next s c y) in stays)
    → Author s c y
quiet_author s c y none stays = record {
  here = λ place pongs. absurd (let e : false ≡ true = sym (ap (is_ponged (Some place)) none) ∙ pongs in cc);
  own = λ wakes place. ap (is_ponged (Some place)) none;
  stays = stays;
}

pub take_none : (s : State) (up : Bool) → s.up ≡ up → NoPong (outs_by s ByTake)
take_none s true is =
    rw is (none_sends (leaving s.link (outgoing s.link) (exits_of s.policy (outgoing s.link)))
    (all_unsent s.policy s.link (outgoing s.link)))
take_none s false is = rw is tt

pub up_none : (s : State) → NoPong (outs_by s ByUp)
up_none s =
    let anew = subscribing (resumed s.link s.clock (exits_for s ByUp)) (filters_wanted s.link) in
    none_sends (resending s.link.in_flight (exits_for s ByUp) ++ anew)
    (again_unsent s.policy s.link.in_flight anew
    ∙ wires_kept anew (subscribing_wires (resumed s.link s.clock (exits_for s ByUp)) (filters_wanted s.link)))

pub ping_dropped_none : (due place : Bool)
    → NoPong (if due then (if place then [] else Note note.Outbox ∷ []) else [])
ping_dropped_none true true = tt
ping_dropped_none true false = tt
ping_dropped_none false place = tt

after_rows : (s : State) (c : Cause) (own rest : List Out) → NoPong rest → Each (Told s c own) s.clients
    → Each (Told s c (own ++ rest)) s.clients
after_rows s c own rest none told =
    each_map (Told s c own) (Told s c (own ++ rest)) s.clients
    (λ x is. told_before s c own rest x none is) told

pub row_told : (s : State) (c : Cause) → Good s → Each (Told s c (outs_by s c)) s.clients
row_told s (ByConnect from connect) good =
    let c = ByConnect from connect in
    each_map AtRest (Told s c (outs_by s c)) s.clients
    (λ x rest is. none_pongs x.address (outs_by s c) (entry_none s from connect (entry s connect) good.rest)
    ∙ sym (connect_still s from connect x rest is)) good.rest
row_told s (ByMessage from request) good =
    let c = ByMessage from request in
    frame_told s c (stranger_to from request) (any_from c s.clients) refl (stranger_none from request)
    (λ x. message_author s from request x) (λ x away. rw away refl) good.places good.rest
row_told s (BySource from p) good =
    idle_rows s (BySource from p) (outs_by s (BySource from p)) tt (λ x. refl) good.rest
row_told s (ByBroken from rule) good =
    let c = ByBroken from rule in
    frame_told s c (Note (note.Frame (who.Address from) (Denied rule)) ∷ []) (any_from c s.clients) refl tt
    (λ x. quiet_author s c x refl
    (settled_for s c x refl
    (every_if (Settled (around s c)) (is_here x from) (note.Frame (who.Client x.id) (Denied rule) ∷ [])
    ((λ y at here. here), tt))))
    (λ x away. rw away refl) good.places good.rest
row_told s (ByPacket p) good =
    let c = ByPacket p in
    after_rows s c (client_rows s c [] (notes_for s c)) (answer_outs s.policy.limits s.up s.link (answer_of p))
    (packet_none s (answer_of p))
    (rows_told s c [] s.clients (λ x. quiet_author s c x refl
    (settled_for s c x refl (settled_packet (around s c) s p x))) good.places)
row_told s ByUp good = idle_rows s ByUp (outs_by s ByUp) (up_none s) (λ x. refl) good.rest
row_told s ByDown good = idle_rows s ByDown [] tt (λ x. refl) good.rest
row_told s ByTake good = idle_rows s ByTake (outs_by s ByTake) (take_none s s.up refl) (λ x. refl) good.rest
row_told s (ByReplace policy) good =
    let c = ByReplace policy in
    rows_told s c (drops s c (notes_for s c)) s.clients
    (λ x. quiet_author s c x refl (settled_for s c x refl (settled_ends (around s c) policy x.id x.filters)))
    good.places
row_told s (ByTick clock) good =
    let c = ByTick clock in
    let now = later s.clock clock in
    let link = with_wills s.policy.limits s.link now s.clients in
    after_rows s c (client_rows s c [] (notes_for s c)) (ping_dropped s.policy.limits s.up link now)
    (ping_dropped_none (is_ping_due s.up link now) (has_place s.policy.limits link))
    (rows_told s c [] s.clients (λ x. quiet_author s c x refl
    (settled_for s c x refl (settled_tick s clock x))) good.places)

-- What a CONNECT of another client lets out that comes from where the client is not.
use Rattle.std.proofs.Common.{◌≡◌, ℕ, Bool, true, false, List, [], ◌∷◌, ◌++◌, refl, sym, subst}
use Rattle.std.proofs.Common.{if◌then◌else◌}
use Rattle.std.specs.Prelude.{◌&&◌, not, drop}
use Rattle.std.specs.List.{flat_map}
use Rattle.std.specs.Str.{bytes_eq}
use Rattle.sng_states.specs.States.{has_session}
use Rattle.sng_frames.specs.Writing.{written}
use Rattle.sng_frames.specs.declared.messages.connect.Connect.{Connect}
use Rattle.sng_frames.specs.declared.frame.SnFrame.TheVariants as frame
use Rattle.sng_frames.specs.declared.return_code.TheConstants.ReturnCode.{ACCEPTED}
use Rattle.sng_book.specs.declared.address.Address.{Address}
use Rattle.sng_book.specs.declared.decision.Decision.TheVariants as note
use Rattle.sng_book.specs.declared.outcome.Outcome.{Outcome}
use Rattle.sng_book.specs.declared.outcome.Outcome.TheVariants.{Allowed, Denied}
use Rattle.sng_book.specs.declared.out.Out.{Out}
use Rattle.sng_book.specs.declared.out.Out.TheVariants.{Note, Send}
use Rattle.sng_book.specs.Traces.{is_own}
use Rattle.sng_history.specs.Causes.{ByConnect}
use Rattle.sng_history.specs.Clients.{Client, same_address, let_in}
use Rattle.sng_history.specs.State.{State, around}
use Rattle.sng_history.specs.Standing.{Release, drop_notes}
use Rattle.sng_history.specs.Verdicts.{entry}
use Rattle.sng_history.specs.Answers.{code_of, connack, welcome, dismissed}
use Rattle.sng_history.specs.Whole.{part, spell, drops, moved, beside, entering_part, around_welcome, entry_outs}
use Rattle.sng_history.specs.Lawful.{fixed_for, entering_notes}
use Rattle.sng_history.specs.Steps.{notes_for, outs_by}
use Rattle.sng_history.specs.Good.{Each, AtRest}
use Rattle.sng_history.proofs.Own.{same_means, each_all, each_with, each_map, flip}
use Rattle.sng_history.proofs.Places.{let_in_at}
use Rattle.sng_history.proofs.Spelled.{spell_other, spell_exits}
use Rattle.sng_history.proofs.SaysParts.{entering_about}
use Rattle.sng_history.proofs.SentTo.{AllTo, spell_to, Stayed}
use Rattle.sng_history.proofs.Stayed.{entering_put}
use Rattle.sng_isolation.proofs.Silent.{Silent, silent_both, silent_flat, silent_by, skipped}
use Rattle.sng_isolation.proofs.Still.{connect_unconcerned}
use Rattle.sng_isolation.proofs.Foreign.{Elsewhere, part_silent}

-- another client is at none of these addresses
abbrev pub Off : List ℕ → List Address → Client → Type 0
Off id own x = bytes_eq id x.id ≡ false → (has_session x.phase && is_own own x.address) ≡ false

-- ---- the parts of a row

pub silent_drops : (id : List ℕ) (own : List Address) (dropped : List Release)
    → Silent id own (drop_notes dropped)
silent_drops id own [] = refl
silent_drops id own (r ∷ dropped) = silent_drops id own dropped

-- a client that is dismissed where it was
moved_silent : (id : List ℕ) (own : List Address) (from : Address) (client : List ℕ) (x : Client)
    → bytes_eq id client ≡ false
    → Off id own x → Silent id own (moved from client x)
moved_silent id own from client x away off = by_same (bytes_eq client x.id) refl
  where
    not_here : (session own_place : Bool) → (session && own_place) ≡ false → session ≡ true
        → own_place ≡ false
    not_here true own_place is session = is
    not_here false own_place is session = absurd cc

    by_session : (session elsewhere : Bool) → has_session x.phase ≡ session
        → (has_session x.phase && is_own own x.address) ≡ false
        → Silent id own (if session && elsewhere then dismissed x.address ∷ [] else [])
    by_session true true session is =
        skipped (is_own own x.address) (dismissed x.address) []
        (not_here (has_session x.phase) (is_own own x.address) is session) refl
    by_session true false session is = refl
    by_session false elsewhere session is = refl

    by_same : (same : Bool) → bytes_eq client x.id ≡ same
        → Silent id own (if same then (if has_session x.phase && not (same_address x.address from)
        then dismissed x.address ∷ [] else []) else [])
    by_same true is =
        by_session (has_session x.phase) (not (same_address x.address from)) refl
        (off (subst (λ d. bytes_eq id d ≡ false) (same_means client x.id is) away))
    by_same false is = refl

-- another client than the one that connects
beside_silent : (id : List ℕ) (own : List Address) (s : State) (from : Address) (connect : Connect)
    (x : Client)
    → is_own own from ≡ false → AtRest x → Elsewhere id from x
    → Silent id own (beside (around s (ByConnect from connect)) (notes_for s (ByConnect from connect))
    connect.client_id x)
beside_silent id own s from connect x off rest elsewhere = by_same (bytes_eq connect.client_id x.id) refl
  where
    by_same : (same : Bool) → bytes_eq connect.client_id x.id ≡ same
        → (let c = ByConnect from connect in
        Silent id own (if same then [] else part (around s c) [] (fixed_for s c x) x))
    by_same true is = refl
    by_same false is =
        part_silent id own s from (ByConnect from connect) [] x off is
        (connect_unconcerned s from connect x is) rest elsewhere

-- the one that connects
entering_silent : (id : List ℕ) (own : List Address) (s : State) (from : Address) (connect : Connect)
    (x : Client)
    → is_own own from ≡ false → bytes_eq id connect.client_id ≡ false → entry s connect ≡ Allowed
    → Silent id own (entering_part (around s (ByConnect from connect)) (notes_for s (ByConnect from connect))
    from connect x)
entering_silent id own s from connect x off away may = by_same (bytes_eq connect.client_id x.id) refl
  where
    later : bytes_eq connect.client_id x.id ≡ true
        → drop 1 (fixed_for s (ByConnect from connect) x) ≡ entering_notes s from connect x Allowed
    later is = rw (is, may) refl

    by_same : (same : Bool) → bytes_eq connect.client_id x.id ≡ same
        → (let c = ByConnect from connect in
        Silent id own (if same then spell (around s c) [] (let_in s.clock from connect x)
        (drop 1 (fixed_for s c x)) else []))
    by_same true is =
        let c = ByConnect from connect in
        let a = around s c in
        let y = let_in s.clock from connect x in
        let notes = drop 1 (fixed_for s c x) in
        let other : bytes_eq id x.id ≡ false =
        subst (λ d. bytes_eq id d ≡ false) (same_means connect.client_id x.id is) away in
        silent_by id own from (spell a [] y notes) off
        (subst (λ place. AllTo place (spell a [] y notes)) (let_in_at s.clock from connect x)
        (spell_to a [] y notes (subst (λ n. Stayed a n) (sym (later is))
        (entering_put s from connect x Allowed))))
        (spell_other a [] y x.id id notes other (entering_about s from connect x))
        (spell_exits a [] y x.id notes (entering_about s from connect x))
    by_same false is = refl

-- the answer
answer_silent : (id : List ℕ) (own : List Address) (from : Address) (connect : Connect)
    → is_own own from ≡ false → Silent id own (welcome connect from ∷ [])
answer_silent id own from connect off = by_will connect.flags.will
  where
    by_will : (will : Bool) → Silent id own
        ((if will then Send from (written frame.WillTopicRequest) else connack from ACCEPTED) ∷ [])
    by_will true = skipped (is_own own from) (Send from (written frame.WillTopicRequest)) [] off refl
    by_will false = skipped (is_own own from) (connack from ACCEPTED) [] off refl

welcome_silent : (id : List ℕ) (own : List Address) (clean : Bool) (outs : List Out) (ack : Out)
    → Silent id own outs → Silent id own (ack ∷ []) → Silent id own (around_welcome clean outs ack)
welcome_silent id own true outs ack none last = silent_both id own outs (ack ∷ []) none last
welcome_silent id own false outs ack none last = silent_both id own (ack ∷ []) outs last none

-- ---- the row

-- its own note is no note of this client
entry_silent : (id : List ℕ) (own : List Address) (s : State) (from : Address) (connect : Connect)
    (o : Outcome)
    → entry s connect ≡ o
    → bytes_eq connect.client_id id ≡ false → is_own own from ≡ false → Each AtRest s.clients
    → Each (Elsewhere id from) s.clients → Each (Off id own) s.clients
    → Silent id own (entry_outs s from connect (notes_for s (ByConnect from connect)) o)
entry_silent id own s from connect (Denied rule) is named off rest elsewhere apart =
    let away : bytes_eq id connect.client_id ≡ false = flip id connect.client_id named in
    let own_note = note.Connect connect.client_id (Denied rule) in
    silent_both id own (Note own_note ∷ []) (connack from (code_of rule) ∷ []) (rw away refl)
    (skipped (is_own own from) (connack from (code_of rule)) [] off refl)
entry_silent id own s from connect Allowed is named off rest elsewhere apart =
    let c = ByConnect from connect in
    let a = around s c in
    let notes = notes_for s c in
    let away : bytes_eq id connect.client_id ≡ false = flip id connect.client_id named in
    let leaves = flat_map (moved from connect.client_id) s.clients in
    let others = flat_map (beside a notes connect.client_id) s.clients in
    let enters = flat_map (entering_part a notes from connect) s.clients in
    let ends = drop_notes (drops s c notes) in
    let last = around_welcome connect.flags.clean enters (welcome connect from) in
    silent_both id own (Note (note.Connect connect.client_id Allowed) ∷ []) (leaves ++ (others ++ (ends ++ last)))
    (rw away refl)
    (silent_both id own leaves (others ++ (ends ++ last))
    (silent_flat id own (moved from connect.client_id) s.clients
    (each_map (Off id own) (λ x. Silent id own (moved from connect.client_id x)) s.clients
    (λ x apart_one. moved_silent id own from connect.client_id x away apart_one) apart))
    (silent_both id own others (ends ++ last)
    (silent_flat id own (beside a notes connect.client_id) s.clients
    (each_with AtRest (Elsewhere id from) (λ x. Silent id own (beside a notes connect.client_id x)) s.clients
    (λ x at elsewhere_one. beside_silent id own s from connect x off at elsewhere_one) rest elsewhere))
    (silent_both id own ends last (silent_drops id own (drops s c notes))
    (welcome_silent id own connect.flags.clean enters (welcome connect from)
    (silent_flat id own (entering_part a notes from connect) s.clients
    (each_all (λ x. Silent id own (entering_part a notes from connect x)) s.clients
    (λ x. entering_silent id own s from connect x off away is)))
    (answer_silent id own from connect off)))))

pub connect_silent : (id : List ℕ) (own : List Address) (s : State) (from : Address) (connect : Connect)
    → bytes_eq connect.client_id id ≡ false → is_own own from ≡ false → Each AtRest s.clients
    → Each (Elsewhere id from) s.clients → Each (Off id own) s.clients
    → Silent id own (outs_by s (ByConnect from connect))
connect_silent id own s from connect named off rest elsewhere apart =
    entry_silent id own s from connect (entry s connect) refl named off rest elsewhere apart

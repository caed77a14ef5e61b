-- A CONNECT of another client from elsewhere lets nothing out to where a client sleeps.
use Rattle.std.proofs.Common.{◌≡◌, ℕ, Bool, true, false, List, [], ◌∷◌, ◌++◌, refl, ap, sym, ◌∙◌, subst}
use Rattle.std.proofs.Common.{if◌then◌else◌}
use Rattle.std.specs.Prelude.{◌&&◌, not, drop}
use Rattle.std.specs.List.{flat_map}
use Rattle.std.specs.Str.{bytes_eq}
use Rattle.sng_states.specs.States.{has_session}
use Rattle.sng_frames.specs.Writing.{written}
use Rattle.sng_frames.specs.declared.return_code.TheConstants.ReturnCode.{ACCEPTED}
use Rattle.sng_frames.specs.declared.messages.connect.Connect.{Connect}
use Rattle.sng_frames.specs.declared.frame.SnFrame.TheVariants as frame
use Rattle.sng_book.specs.Denials.{is_allowed}
use Rattle.sng_book.specs.declared.address.Address.{Address}
use Rattle.sng_book.specs.declared.decision.Decision.{Decision}
use Rattle.sng_book.specs.declared.decision.Decision.TheVariants as note
use Rattle.sng_book.specs.declared.outcome.Outcome.{Outcome}
use Rattle.sng_book.specs.declared.outcome.Outcome.TheVariants.{Allowed, Denied}
use Rattle.sng_book.specs.declared.out.Out.{Out}
use Rattle.sng_book.specs.declared.out.Out.TheVariants.{Send}
use Rattle.sng_history.specs.Causes.{ByConnect}
use Rattle.sng_history.specs.Clients.{Around, Client, same_address, is_here, let_in}
use Rattle.sng_history.specs.Standing.{drop_notes}
use Rattle.sng_history.specs.State.{State, around}
use Rattle.sng_history.specs.Verdicts.{entry}
use Rattle.sng_history.specs.Answers.{code_of, dismissed, connack, welcome}
use Rattle.sng_history.specs.Outgoing.{all_gone}
use Rattle.sng_history.specs.Lawful.{entering_notes, fixed_for}
use Rattle.sng_history.specs.Whole.{spell, part, drops, moved, beside, entering_part, around_welcome}
use Rattle.sng_history.specs.Whole.{entry_outs}
use Rattle.sng_history.specs.Steps.{notes_for, outs_by}
use Rattle.sng_history.specs.Good.{Each}
use Rattle.sng_laws.specs.LawsSleep.{sent_to}
use Rattle.sng_history.proofs.Own.{same_means, each_map}
use Rattle.sng_history.proofs.Places.{let_in_at}
use Rattle.sng_history.proofs.SentTo.{AllTo, both_to, drops_to, spell_to, Stayed}
use Rattle.sng_history.proofs.Stayed.{entering_put}
use Rattle.sng_promise.proofs.Sleepers.SentAway.{away_both, away_flat, to_away, flip_address}
use Rattle.sng_promise.proofs.Sleepers.SleepersHere.{Sleeper}
use Rattle.sng_promise.proofs.Sleepers.SleepersParts.{elsewhere, part_away}

moved_away : (id : List ℕ) (place from : Address) (client : List ℕ) (x : Client) → bytes_eq id client ≡ false
    → Sleeper id place x
    → sent_to place (moved from client x) ≡ []
moved_away id place from client x apart sleeps = by_same (bytes_eq client x.id) refl (is_here x place) refl
  where
    dismissed_away : (session off : Bool) → has_session x.phase ≡ session → is_here x place ≡ false
        → sent_to place (if session && off then dismissed x.address ∷ [] else []) ≡ []
    dismissed_away true true session is =
        to_away place x.address (dismissed x.address ∷ []) (elsewhere place x session is) (refl, tt)
    dismissed_away true false session is = refl
    dismissed_away false off session is = refl

    by_same : (same : Bool) → bytes_eq client x.id ≡ same → (here : Bool) → is_here x place ≡ here
        → sent_to place (if same then
        (if has_session x.phase && not (same_address x.address from) then dismissed x.address ∷ []
        else []) else []) ≡ []
    by_same true same true here =
        let one : bytes_eq id client ≡ true =
        ap (bytes_eq id) (same_means client x.id same) ∙ (sleeps here).1 in
        absurd (let e = sym apart ∙ one in cc)
    by_same true same false here =
        dismissed_away (has_session x.phase) (not (same_address x.address from)) refl here
    by_same false same here is = refl

beside_part : (id : List ℕ) (s : State) (from : Address) (connect : Connect) (place : Address) (x : Client)
    → same_address from place ≡ false
    → Sleeper id place x
    → sent_to place (beside (around s (ByConnect from connect))
    (notes_for s (ByConnect from connect)) connect.client_id x) ≡ []
beside_part id s from connect place x off sleeps = by_same (bytes_eq connect.client_id x.id) refl
  where
    by_same : (b : Bool) → bytes_eq connect.client_id x.id ≡ b
        → sent_to place (if b then []
        else part (around s (ByConnect from connect)) [] (fixed_for s (ByConnect from connect) x) x) ≡ []
    by_same true is = refl
    by_same false is = part_away id s (ByConnect from connect) [] place x is off sleeps

spelled_at : (a : Around) (place : Address) (x : Client) (notes : List Decision) → x.address ≡ place
    → Stayed a notes
    → AllTo place (spell a [] x notes)
spelled_at a place x notes at stayed =
    subst (λ p. AllTo p (spell a [] x notes)) at (spell_to a [] x notes stayed)

entering_to : (s : State) (from : Address) (connect : Connect) (x : Client)
    → AllTo from (entering_part (around s (ByConnect from connect))
    (notes_for s (ByConnect from connect)) from connect x)
entering_to s from connect x = by_same (bytes_eq connect.client_id x.id)
  where
    by_same : (b : Bool) → AllTo from (
        if b then spell (around s (ByConnect from connect)) [] (let_in s.clock from connect x) (drop 1 (
        if b
        then note.Connect x.id (entry s connect) ∷ entering_notes s from connect x (entry s connect)
        else (if is_allowed (entry s connect) then
        (if is_here x from then note.Left x.id ∷ all_gone x.id x.buffer.waiting else []) else [])
        )) else [])
    by_same true =
        spelled_at (around s (ByConnect from connect)) from (let_in s.clock from connect x)
        (entering_notes s from connect x (entry s connect))
        (let_in_at s.clock from connect x) (entering_put s from connect x (entry s connect))
    by_same false = tt

flat_to : (place : Address) (f : Client → List Out) (xs : List Client) → ((x : Client) → AllTo place (f x))
    → AllTo place (flat_map f xs)
flat_to place f [] each = tt
flat_to place f (x ∷ xs) each = both_to place (f x) (flat_map f xs) (each x) (flat_to place f xs each)

welcome_to : (place : Address) (connect : Connect) (more : List Out) → AllTo place more
    → AllTo place (welcome connect place ∷ more)
welcome_to place connect more all = by_will connect.flags.will
  where
    by_will : (will : Bool) → AllTo place
        ((if will then Send place (written frame.WillTopicRequest) else connack place ACCEPTED) ∷ more)
    by_will true = (refl, all)
    by_will false = (refl, all)

around_to : (place : Address) (connect : Connect) (clean : Bool) (own : List Out) → AllTo place own
    → AllTo place (around_welcome clean own (welcome connect place))
around_to place connect true own all =
    both_to place own (welcome connect place ∷ []) all (welcome_to place connect [] tt)
around_to place connect false own all = welcome_to place connect own all

entry_away : (id : List ℕ) (s : State) (from : Address) (connect : Connect) (place : Address) (o : Outcome)
    → same_address from place ≡ false
    → bytes_eq id connect.client_id ≡ false → Each (Sleeper id place) s.clients
    → sent_to place (entry_outs s from connect (notes_for s (ByConnect from connect)) o) ≡ []
entry_away id s from connect place (Denied rule) off apart sleep =
    to_away place from (connack from (code_of rule) ∷ []) (flip_address from place off) (refl, tt)
entry_away id s from connect place Allowed off apart sleep =
    let c = ByConnect from connect in
    let notes = notes_for s c in
    let dropped = drops s c notes in
    let leaves = flat_map (moved from connect.client_id) s.clients in
    let others = flat_map (beside (around s c) notes connect.client_id) s.clients in
    let own = flat_map (entering_part (around s c) notes from connect) s.clients in
    let last = around_welcome connect.flags.clean own (welcome connect from) in
    away_both place leaves (others ++ (drop_notes dropped ++ last))
    (away_flat place (moved from connect.client_id) s.clients
    (each_map (Sleeper id place) (λ x. sent_to place (moved from connect.client_id x) ≡ []) s.clients
    (λ x sleeps. moved_away id place from connect.client_id x apart sleeps) sleep))
    (away_both place others (drop_notes dropped ++ last)
    (away_flat place (beside (around s c) notes connect.client_id) s.clients
    (each_map (Sleeper id place) (λ x. sent_to place (beside (around s c) notes connect.client_id x) ≡ [])
    s.clients
    (λ x sleeps. beside_part id s from connect place x off sleeps) sleep))
    (to_away place from (drop_notes dropped ++ last) (flip_address from place off)
    (both_to from (drop_notes dropped) last (drops_to from dropped)
    (around_to from connect connect.flags.clean own
    (flat_to from (entering_part (around s c) notes from connect) s.clients (entering_to s from connect))))))

pub connect_away : (id : List ℕ) (s : State) (from : Address) (connect : Connect) (place : Address)
    → same_address from place ≡ false
    → bytes_eq id connect.client_id ≡ false → Each (Sleeper id place) s.clients
    → sent_to place (outs_by s (ByConnect from connect)) ≡ []
connect_away id s from connect place off apart sleep =
    entry_away id s from connect place (entry s connect) off apart sleep

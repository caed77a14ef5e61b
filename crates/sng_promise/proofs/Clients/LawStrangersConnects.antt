-- A CONNECT accepts the client that it names, and no other.
use Rattle.std.proofs.Common.{◌≡◌, ℕ, Bool, true, false, List, [], ◌∷◌, ◌++◌, refl}
use Rattle.std.proofs.Common.{if◌then◌else◌}
use Rattle.std.specs.Prelude.{◌&&◌, not, drop}
use Rattle.std.specs.List.{flat_map}
use Rattle.std.specs.Str.{bytes_eq}
use Rattle.sng_states.specs.States.{has_session}
use Rattle.sng_frames.specs.declared.messages.connect.Connect.{Connect}
use Rattle.sng_frames.specs.declared.return_code.TheConstants.ReturnCode.{ACCEPTED}
use Rattle.sng_frames.specs.declared.frame.SnFrame.TheVariants as frame
use Rattle.sng_book.specs.Denials.{is_allowed}
use Rattle.sng_book.specs.declared.address.Address.{Address}
use Rattle.sng_book.specs.declared.decision.Decision.TheVariants as note
use Rattle.sng_book.specs.declared.outcome.Outcome.{Outcome}
use Rattle.sng_book.specs.declared.outcome.Outcome.TheVariants.{Allowed, Denied}
use Rattle.sng_book.specs.declared.out.Out.{Out}
use Rattle.sng_book.specs.declared.out.Out.TheVariants.{Send}
use Rattle.sng_history.specs.Causes.{ByConnect}
use Rattle.sng_history.specs.Outgoing.{all_gone, handed_over}
use Rattle.sng_history.specs.Clients.{Client, same_address, is_here, let_in}
use Rattle.sng_history.specs.State.{State, around}
use Rattle.sng_history.specs.Verdicts.{entry}
use Rattle.sng_history.specs.Answers.{dismissed, connack, welcome}
use Rattle.sng_history.specs.Whole.{spell, part, drops, moved, beside, entering_part, entry_outs}
use Rattle.sng_history.specs.Whole.{around_welcome}
use Rattle.sng_history.specs.Standing.{Release, drop_notes}
use Rattle.sng_history.specs.Lawful.{entering_notes, fixed_for}
use Rattle.sng_history.specs.Steps.{notes_for}
use Rattle.sng_laws.specs.ViewsClients.{is_admitted}
use Rattle.sng_history.specs.Packets.{dropped}
use Rattle.sng_history.proofs.Hands.{Every, every_handed, every_gone}
use Rattle.sng_promise.proofs.Clients.SeenNotes.{admitted_notes}
use Rattle.sng_frames.specs.Writing.{written}
use Rattle.sng_promise.proofs.Clients.LawAdmits.{admitted_append, admitted_flat, Modest, modest_notes}
use Rattle.sng_promise.proofs.Clients.LawAdmits.{modest_messages, spell_admits}
use Rattle.sng_promise.proofs.Clients.LawAdmits.{admitted_part}

moved_if : (id : List ℕ) (x : Client) (own away : Bool)
    → is_admitted id (if own then (if away then dismissed x.address ∷ [] else []) else []) ≡ false
moved_if id x true true = refl
moved_if id x true false = refl
moved_if id x false away = refl

pub beside_notes : (s : State) (from : Address) (connect : Connect) (x : Client) (id : List ℕ) (here : Bool)
    (o : Outcome)
    → admitted_notes id (if is_allowed o
    then (if here then note.Left x.id ∷ all_gone x.id x.buffer.waiting else []) else []) ≡ false
beside_notes s from connect x id true Allowed =
    modest_notes id (all_gone x.id x.buffer.waiting)
    (every_gone (Modest id) x.id x.buffer.waiting (modest_messages id x.id))
beside_notes s from connect x id false Allowed = refl
beside_notes s from connect x id here (Denied rule) = refl

beside_if : (s : State) (from : Address) (connect : Connect) (x : Client) (id : List ℕ) (own : Bool)
    → bytes_eq connect.client_id x.id ≡ own
    → is_admitted id (if own then []
    else part (around s (ByConnect from connect)) [] (fixed_for s (ByConnect from connect) x) x) ≡ false
beside_if s from connect x id true is = refl
beside_if s from connect x id false is =
    admitted_part s (ByConnect from connect) [] x id (bytes_eq id x.id) refl
    (rw is (beside_notes s from connect x id (is_here x from) (entry s connect)))

-- what waits for the one that connects is gone, or is handed over
pub entering_modest : (s : State) (from : Address) (connect : Connect) (x : Client) (id : List ℕ)
    (o : Outcome)
    → Every (Modest id) (entering_notes s from connect x o)
entering_modest s from connect x id (Denied rule) = tt
entering_modest s from connect x id Allowed = by_clean connect.flags.clean
  where
    by_clean : (clean : Bool)
        → Every (Modest id) (if clean then all_gone x.id x.buffer.waiting
        else handed_over s.policy (let_in s.clock from connect x))
    by_clean true = every_gone (Modest id) x.id x.buffer.waiting (modest_messages id x.id)
    by_clean false =
        let y = let_in s.clock from connect x in every_handed (Modest id) s.policy y (modest_messages id y.id)

entering_if : (s : State) (from : Address) (connect : Connect) (x : Client) (id : List ℕ) (own : Bool)
    → bytes_eq connect.client_id x.id ≡ own
    → is_admitted id
    (if own then spell (around s (ByConnect from connect)) [] (let_in s.clock from connect x)
    (drop 1 (fixed_for s (ByConnect from connect) x)) else []) ≡ false
entering_if s from connect x id true is =
    rw is
    (spell_admits id (around s (ByConnect from connect)) [] (let_in s.clock from connect x)
    (entering_notes s from connect x (entry s connect))
    (entering_modest s from connect x id (entry s connect)))
entering_if s from connect x id false is = refl

welcome_admits : (id : List ℕ) (connect : Connect) (from : Address)
    → is_admitted id (welcome connect from ∷ []) ≡ false
welcome_admits id connect from = by_will connect.flags.will
  where
    by_will : (will : Bool)
        → is_admitted id ((if will then Send from (written frame.WillTopicRequest) else connack from ACCEPTED)
        ∷ []) ≡ false
    by_will true = refl
    by_will false = refl

around_admits : (id : List ℕ) (ack : Out) (clean : Bool) (own : List Out) → is_admitted id own ≡ false
    → is_admitted id (ack ∷ []) ≡ false
    → is_admitted id (around_welcome clean own ack) ≡ false
around_admits id ack true own none sent = admitted_append id own (ack ∷ []) none sent
around_admits id ack false own none sent = admitted_append id (ack ∷ []) own sent none

drops_admit : (id : List ℕ) (dropped : List Release) → is_admitted id (drop_notes dropped) ≡ false
drops_admit id [] = refl
drops_admit id (r ∷ dropped) = drops_admit id dropped

pub entry_admits : (s : State) (from : Address) (connect : Connect) (id : List ℕ) (o : Outcome)
    → bytes_eq id connect.client_id ≡ false
    → is_admitted id (entry_outs s from connect (notes_for s (ByConnect from connect)) o) ≡ false
entry_admits s from connect id Allowed other =
    let c = ByConnect from connect in
    let f : Client → List Out = beside (around s c) (notes_for s c) connect.client_id in
    let g : Client → List Out = entering_part (around s c) (notes_for s c) from connect in
    let noted = drop_notes (drops s c (notes_for s c)) in
    let last = around_welcome connect.flags.clean (flat_map g s.clients) (welcome connect from) in
    rw other
    (admitted_append id (flat_map (moved from connect.client_id) s.clients)
    (flat_map f s.clients ++ (noted ++ last))
    (admitted_flat id (moved from connect.client_id) s.clients
    (λ x. moved_if id x (bytes_eq connect.client_id x.id)
    (has_session x.phase && not (same_address x.address from))))
    (admitted_append id (flat_map f s.clients) (noted ++ last)
    (admitted_flat id f s.clients (λ x. beside_if s from connect x id (bytes_eq connect.client_id x.id) refl))
    (admitted_append id noted last (drops_admit id (drops s c (notes_for s c)))
    (around_admits id (welcome connect from) connect.flags.clean (flat_map g s.clients)
    (admitted_flat id g s.clients
    (λ x. entering_if s from connect x id (bytes_eq connect.client_id x.id) refl))
    (welcome_admits id connect from)))))
entry_admits s from connect id (Denied rule) other = rw other refl

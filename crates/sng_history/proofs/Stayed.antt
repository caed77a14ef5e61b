-- No note of a cause brings a client elsewhere, but of its own CONNECT.
use Rattle.std.proofs.Common.{◌≡◌, ℕ, Bool, true, false, List, [], ◌∷◌, refl, ap, sym, subst, if◌then◌else◌}
use Rattle.std.specs.Prelude.{Option, Some, None}
use Rattle.std.specs.Str.{bytes_eq}
use Rattle.sng_frames.specs.declared.messages.connect.Connect.{Connect}
use Rattle.sng_frames.specs.declared.messages.subscribe.TopicRequest.{TopicRequest}
use Rattle.sng_book.specs.Denials.{is_allowed}
use Rattle.sng_book.specs.declared.address.Address.{Address}
use Rattle.sng_book.specs.declared.decision.Decision.{Decision}
use Rattle.sng_book.specs.declared.decision.Decision.TheVariants as note
use Rattle.sng_book.specs.declared.outcome.Outcome.{Outcome}
use Rattle.sng_book.specs.declared.outcome.Outcome.TheVariants.{Allowed, Denied}
use Rattle.sng_history.specs.Causes.{Cause, ByConnect, ByMessage, BySource, ByBroken, ByPacket, ByUp, ByDown}
use Rattle.sng_history.specs.Causes.{ByTake, ByReplace, ByTick}
use Rattle.sng_history.specs.Clients.{Around, Client, is_here, entered_by, subscribed}
use Rattle.sng_history.specs.Clients.{subscribe_of, unsubscribed, statement_of, note_by, id_opened_of, let_in}
use Rattle.sng_history.specs.State.{State, around}
use Rattle.sng_history.specs.Verdicts.{entry}
use Rattle.sng_history.specs.Outgoing.{all_gone, handed_over}
use Rattle.sng_history.specs.Lawful.{fixed_for, entering_notes}
use Rattle.sng_history.proofs.Hands.{OfMessages, every_if, every_gone, every_handed}
use Rattle.sng_history.proofs.Steady.{handed_steady, repeated_steady, received_steady}
use Rattle.sng_history.proofs.Statements.{stated_keeps}
use Rattle.sng_history.proofs.SentTo.{Stayed}

put : (a : Around) (said : Decision) (x : Client) → ((y : Client) → entered_by a.clock a.cause y ≡ y)
    → (note_by a said x).address ≡ x.address
put a (note.Connect id o) x none = entered (is_allowed o)
  where
    entered : (b : Bool) → (let y : Client = if b then entered_by a.clock a.cause x else x in y).address
        ≡ x.address
    entered true = ap (λ y. y.address) (none x)
    entered false = refl
put a (note.Subscribe whom filter o) x none = by_request (subscribe_of a.cause) filter o x
  where
    by_request : (r : Option TopicRequest) (filter : Option (List ℕ)) (o : Outcome) (x : Client)
        → (subscribed r filter o x).address ≡ x.address
    by_request None filter o x = refl
    by_request (Some r) None o x = refl
    by_request (Some r) (Some filter) Allowed x = refl
    by_request (Some r) (Some filter) (Denied rule) x = refl
put a (note.Unsubscribe whom filter o) x none = by_filter filter o x
  where
    by_filter : (filter : Option (List ℕ)) (o : Outcome) (x : Client)
        → (unsubscribed filter o x).address ≡ x.address
    by_filter None o x = refl
    by_filter (Some filter) Allowed x = refl
    by_filter (Some filter) (Denied rule) x = refl
put a (note.Will whom name o) x none = (stated_keeps (statement_of a.cause) o x).address
put a (note.Hand id name o) x none = (handed_steady a name o x).address
put a (note.Retry id name o) x none = (repeated_steady a.clock o x).address
put a (note.Left id) x none = refl
put a (note.Register whom name o) x none = refl
put a (note.Publish whom name o) x none = (received_steady (id_opened_of a.cause) o x).address
put a (note.Announce id name) x none = refl
put a (note.Forward whom name o) x none = refl
put a (note.Again whom name o) x none = refl
put a (note.End id filter o) x none = refl
put a (note.Lost id) x none = refl
put a note.Outbox x none = refl
put a (note.Frame whom o) x none = refl

all_put : (a : Around) (notes : List Decision) → ((y : Client) → entered_by a.clock a.cause y ≡ y)
    → Stayed a notes
all_put a [] none = tt
all_put a (said ∷ notes) none = (λ x. put a said x none, all_put a notes none)

pub messages_put : (a : Around) (client : List ℕ)
    → OfMessages (λ said. (x : Client) → (note_by a said x).address ≡ x.address) client
messages_put a client =
    record { announces = λ name x. refl; hands = λ name o x. (handed_steady a name o x).address }

-- the cause is a CONNECT of the client
abbrev pub enters_by : Cause → Client → Bool
enters_by (ByConnect from connect) x = bytes_eq connect.client_id x.id
enters_by (ByMessage from request) x = false
enters_by (BySource from p) x = false
enters_by (ByBroken from rule) x = false
enters_by (ByPacket p) x = false
enters_by ByUp x = false
enters_by ByDown x = false
enters_by ByTake x = false
enters_by (ByReplace policy) x = false
enters_by (ByTick clock) x = false

-- what another client than the one that connects has
pub beside_notes : (s : State) (from : Address) (connect : Connect) (x : Client)
    → bytes_eq connect.client_id x.id ≡ false
    → fixed_for s (ByConnect from connect) x
    ≡ (if is_allowed (entry s connect)
    then (if is_here x from then note.Left x.id ∷ all_gone x.id x.buffer.waiting else []) else [])
beside_notes s from connect x is = rw is refl

left_put : (a : Around) (x : Client) (here : Bool)
    → Stayed a (if here then note.Left x.id ∷ all_gone x.id x.buffer.waiting else [])
left_put a x true = (
  λ y. refl,
  every_gone (λ said. (y : Client) → (note_by a said y).address ≡ y.address) x.id x.buffer.waiting
      (messages_put a x.id),
)
left_put a x false = tt

pub fixed_put : (s : State) (c : Cause) (x : Client) → enters_by c x ≡ false
    → Stayed (around s c) (fixed_for s c x)
fixed_put s (ByConnect from connect) x other =
    let a = around s (ByConnect from connect) in
    let left : List Decision =
    if is_here x from then note.Left x.id ∷ all_gone x.id x.buffer.waiting else [] in
    subst (Stayed a) (sym (beside_notes s from connect x other))
    (every_if (λ said. (y : Client) → (note_by a said y).address ≡ y.address)
    (is_allowed (entry s connect)) left
    (left_put a x (is_here x from)))
fixed_put s (ByMessage from request) x other =
    let c = ByMessage from request in all_put (around s c) (fixed_for s c x) (λ y. refl)
fixed_put s (BySource from p) x other =
    let c = BySource from p in all_put (around s c) (fixed_for s c x) (λ y. refl)
fixed_put s (ByBroken from rule) x other =
    let c = ByBroken from rule in all_put (around s c) (fixed_for s c x) (λ y. refl)
fixed_put s (ByPacket p) x other = let c = ByPacket p in all_put (around s c) (fixed_for s c x) (λ y. refl)
fixed_put s ByUp x other = tt
fixed_put s ByDown x other = tt
fixed_put s ByTake x other = tt
fixed_put s (ByReplace policy) x other =
    let c = ByReplace policy in all_put (around s c) (fixed_for s c x) (λ y. refl)
fixed_put s (ByTick clock) x other =
    let c = ByTick clock in all_put (around s c) (fixed_for s c x) (λ y. refl)

-- what becomes of what waits for the one that connects leaves it where it came to
pub entering_put : (s : State) (from : Address) (connect : Connect) (x : Client) (o : Outcome)
    → Stayed (around s (ByConnect from connect)) (entering_notes s from connect x o)
entering_put s from connect x (Denied rule) = tt
entering_put s from connect x Allowed = by_clean connect.flags.clean
  where
    by_clean : (clean : Bool) → Stayed (around s (ByConnect from connect))
        (if clean then all_gone x.id x.buffer.waiting
        else handed_over s.policy (let_in s.clock from connect x))
    by_clean true =
        let a = around s (ByConnect from connect) in
        every_gone (λ said. (y : Client) → (note_by a said y).address ≡ y.address) x.id x.buffer.waiting
        (messages_put a x.id)
    by_clean false =
        let a = around s (ByConnect from connect) in
        let y = let_in s.clock from connect x in
        every_handed (λ said. (z : Client) → (note_by a said z).address ≡ z.address) s.policy y
        (messages_put a y.id)

-- A client keeps its id, and ids stay distinct.
use Rattle.std.proofs.Common.{◌≡◌, ℕ, Bool, true, false, List, [], ◌∷◌, ◌++◌, map, refl, sym, ◌∙◌, subst}
use Rattle.std.specs.Prelude.{if◌then◌else◌, ◌&&◌, not, Option, Some, None}
use Rattle.std.specs.Str.{bytes_eq}
use Rattle.std.proofs.lemmas.List.{append-nil}
use Rattle.sng_frames.specs.declared.messages.connect.Connect.{Connect}
use Rattle.sng_frames.specs.declared.messages.subscribe.TopicRequest.{TopicRequest}
use Rattle.sng_book.specs.declared.outcome.Outcome.{Outcome}
use Rattle.sng_book.specs.declared.outcome.Outcome.TheVariants.{Allowed, Denied}
use Rattle.sng_book.specs.Denials.{is_allowed}
use Rattle.sng_book.specs.declared.address.Address.{Address}
use Rattle.sng_book.specs.declared.decision.Decision.{Decision}
use Rattle.sng_book.specs.declared.decision.Decision.TheVariants as note
use Rattle.sng_history.specs.Causes.{Statement, Cause, ByConnect, ByMessage, BySource, ByBroken, ByPacket}
use Rattle.sng_history.specs.Causes.{ByUp, ByDown, ByTake, ByReplace, ByTick}
use Rattle.sng_history.specs.Clients.{Around, Client, blank, start_by, cleaned, opened, let_in, entered_by}
use Rattle.sng_history.specs.Clients.{stated_by, statement_of, subscribed, subscribe_of, unsubscribed}
use Rattle.sng_history.specs.Clients.{id_opened_of, note_by, notes_by, client_by}
use Rattle.sng_history.specs.State.{State, is_known}
use Rattle.sng_history.specs.Verdicts.{entry}
use Rattle.sng_history.specs.Steps.{newcomers_for}
use Rattle.sng_history.specs.Good.{Away, Distinct}
use Rattle.sng_history.proofs.Own.{flip}
use Rattle.sng_history.proofs.Steady.{start_lasts, drained_lasts, handed_steady, repeated_steady}
use Rattle.sng_history.proofs.Steady.{received_steady}
use Rattle.sng_history.proofs.Booleans.{or_neither}

cleaned_id : (clean : Bool) (x : Client) → (cleaned clean x).id ≡ x.id
cleaned_id true x = refl
cleaned_id false x = refl

opened_id : (will : Bool) (x : Client) → (opened will x).id ≡ x.id
opened_id true x = refl
opened_id false x = refl

pub let_in_id : (clock : ℕ) (from : Address) (connect : Connect) (x : Client)
    → (let_in clock from connect x).id ≡ x.id
let_in_id clock from connect x =
    let y : Client = record x { address = from; ids = []; duration = connect.duration; heard = clock } in
    opened_id connect.flags.will (cleaned connect.flags.clean y) ∙ cleaned_id connect.flags.clean y

entered_id : (clock : ℕ) (c : Cause) (x : Client) → (entered_by clock c x).id ≡ x.id
entered_id clock (ByConnect from connect) x = let_in_id clock from connect x
entered_id clock (ByMessage from request) x = refl
entered_id clock (BySource from p) x = refl
entered_id clock (ByBroken from rule) x = refl
entered_id clock (ByPacket p) x = refl
entered_id clock ByUp x = refl
entered_id clock ByDown x = refl
entered_id clock ByTake x = refl
entered_id clock (ByReplace policy) x = refl
entered_id clock (ByTick now) x = refl

if_id : (b : Bool) (x y : Client) → x.id ≡ y.id → (let z : Client = if b then x else y in z).id ≡ y.id
if_id true x y same = same
if_id false x y same = refl

subscribed_id : (r : Option TopicRequest) (filter : Option (List ℕ)) (outcome : Outcome) (x : Client)
    → (subscribed r filter outcome x).id ≡ x.id
subscribed_id None filter outcome x = refl
subscribed_id (Some r) None outcome x = refl
subscribed_id (Some r) (Some filter) Allowed x = refl
subscribed_id (Some r) (Some filter) (Denied rule) x = refl

unsubscribed_id : (filter : Option (List ℕ)) (outcome : Outcome) (x : Client)
    → (unsubscribed filter outcome x).id ≡ x.id
unsubscribed_id None outcome x = refl
unsubscribed_id (Some filter) Allowed x = refl
unsubscribed_id (Some filter) (Denied rule) x = refl

stated_id : (statement : Option Statement) (outcome : Outcome) (x : Client)
    → (stated_by statement outcome x).id ≡ x.id
stated_id None outcome x = refl
stated_id (Some statement) Allowed x = refl
stated_id (Some statement) (Denied rule) x = refl

pub note_id : (a : Around) (said : Decision) (x : Client) → (note_by a said x).id ≡ x.id
note_id a (note.Connect id outcome) x =
    if_id (is_allowed outcome) (entered_by a.clock a.cause x) x (entered_id a.clock a.cause x)
note_id a (note.Left id) x = refl
note_id a (note.Register whom name outcome) x = refl
note_id a (note.Publish whom name outcome) x =
    (received_steady (id_opened_of a.cause) outcome x).id
note_id a (note.Subscribe whom filter outcome) x = subscribed_id (subscribe_of a.cause) filter outcome x
note_id a (note.Unsubscribe whom filter outcome) x = unsubscribed_id filter outcome x
note_id a (note.Will whom name outcome) x = stated_id (statement_of a.cause) outcome x
note_id a (note.End id filter outcome) x = refl
note_id a (note.Hand id name outcome) x = (handed_steady a name outcome x).id
note_id a (note.Retry id name outcome) x = (repeated_steady a.clock outcome x).id
note_id a _ x = refl

notes_id : (a : Around) (notes : List Decision) (x : Client) → (notes_by a notes x).id ≡ x.id
notes_id a [] x = refl
notes_id a (said ∷ notes) x = notes_id a notes (note_by a said x) ∙ note_id a said x

pub client_id : (a : Around) (notes : List Decision) (x : Client) → (client_by a notes x).id ≡ x.id
client_id a notes x =
    (drained_lasts (notes_by a notes (start_by a x))).id
    ∙ (notes_id a notes (start_by a x) ∙ (start_lasts a x).id)

-- ---- ids

map_away : (f : Client → Client) (c : List ℕ) (xs : List Client) → ((x : Client) → (f x).id ≡ x.id)
    → Away c xs → Away c (map f xs)
map_away f c [] same away = tt
map_away f c (x ∷ xs) same away =
    (subst (λ id. bytes_eq c id ≡ false) (sym (same x)) away.0, map_away f c xs same away.1)

pub map_distinct : (f : Client → Client) (xs : List Client) → ((x : Client) → (f x).id ≡ x.id) → Distinct xs
    → Distinct (map f xs)
map_distinct f [] same apart = tt
map_distinct f (x ∷ xs) same apart = (
  subst (λ id. Away id (map f xs)) (sym (same x)) (map_away f x.id xs same apart.0),
  map_distinct f xs same apart.1,
)

pub unknown_away : (c : List ℕ) (xs : List Client) → is_known c xs ≡ false → Away c xs
unknown_away c [] is = tt
unknown_away c (x ∷ xs) is =
    let both = or_neither (bytes_eq c x.id) (is_known c xs) is in (both.0, unknown_away c xs both.1)

away_push : (c d : List ℕ) (xs : List Client) → Away c xs → bytes_eq c d ≡ false → Away c (xs ++ blank d ∷ [])
away_push c d [] away is = (is, tt)
away_push c d (x ∷ xs) away is = (away.0, away_push c d xs away.1 is)

distinct_push : (c : List ℕ) (xs : List Client) → Distinct xs → Away c xs → Distinct (xs ++ blank c ∷ [])
distinct_push c [] apart away = (tt, tt)
distinct_push c (x ∷ xs) apart away =
    (away_push x.id c xs apart.0 (flip x.id c away.0), distinct_push c xs apart.1 away.1)

distinct_new : (c : List ℕ) (xs : List Client) (ok known : Bool) → is_known c xs ≡ known → Distinct xs
    → Distinct (xs ++ (if ok && not known then blank c ∷ [] else []))
distinct_new c xs true false is apart = distinct_push c xs apart (unknown_away c xs is)
distinct_new c xs true true is apart = rw (append-nil xs) apart
distinct_new c xs false known is apart = rw (append-nil xs) apart

pub present_distinct : (s : State) (c : Cause) → Distinct s.clients
    → Distinct (s.clients ++ newcomers_for s c)
present_distinct s (ByConnect from connect) apart =
    distinct_new connect.client_id s.clients (is_allowed (entry s connect))
    (is_known connect.client_id s.clients) refl apart
present_distinct s (ByMessage from request) apart = rw (append-nil s.clients) apart
present_distinct s (BySource from p) apart = rw (append-nil s.clients) apart
present_distinct s (ByBroken from rule) apart = rw (append-nil s.clients) apart
present_distinct s (ByPacket p) apart = rw (append-nil s.clients) apart
present_distinct s ByUp apart = rw (append-nil s.clients) apart
present_distinct s ByDown apart = rw (append-nil s.clients) apart
present_distinct s ByTake apart = rw (append-nil s.clients) apart
present_distinct s (ByReplace policy) apart = rw (append-nil s.clients) apart
present_distinct s (ByTick clock) apart = rw (append-nil s.clients) apart

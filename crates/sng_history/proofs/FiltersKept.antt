-- What holds of a client's filters, and lasts as some end, holds after each step but a SUBSCRIBE; and what is
-- known where that is allowed.
use Rattle.std.proofs.Common.{◌≡◌, ℕ, Bool, true, false, List, [], ◌∷◌, refl, sym}
use Rattle.std.proofs.Common.{subst}
use Rattle.std.specs.Prelude.{if◌then◌else◌, ◌&&◌, Option, Some, None, Ok, Err}
use Rattle.std.specs.declared.result.Result.{Result}
use Rattle.sng_fan.specs.declared.held.Held.{Held}
use Rattle.sng_fan.specs.Subscriptions.{is_full, without_filter}
use Rattle.sng_frames.specs.declared.messages.subscribe.TopicRequest.{TopicRequest}
use Rattle.sng_book.specs.Denials.{is_allowed}
use Rattle.sng_book.specs.declared.decision.Decision.{Decision}
use Rattle.sng_book.specs.declared.decision.Decision.TheVariants as note
use Rattle.sng_book.specs.declared.decision.Who.TheVariants as who
use Rattle.sng_book.specs.declared.outcome.Denial.{Denial}
use Rattle.sng_book.specs.declared.outcome.Denial.TheVariants.{Room}
use Rattle.sng_book.specs.declared.outcome.RoomDenial.TheVariants.{Full}
use Rattle.sng_book.specs.declared.outcome.Place.TheVariants as place
use Rattle.sng_book.specs.declared.outcome.Outcome.{Outcome}
use Rattle.sng_book.specs.declared.outcome.Outcome.TheVariants.{Allowed, Denied}
use Rattle.sng_ids.specs.Ids.{is_full_for}
use Rattle.sng_history.specs.Causes.{Cause}
use Rattle.sng_history.specs.Causes.{ByConnect, ByMessage, BySource, ByBroken, ByPacket, ByUp, ByDown, ByTake}
use Rattle.sng_history.specs.Causes.{ByReplace, ByTick}
use Rattle.sng_history.specs.Requests.{gets_id}
use Rattle.sng_history.specs.Clients.{Around, Client, start_by, cleaned, opened, entered_by}
use Rattle.sng_history.specs.Clients.{unsubscribed}
use Rattle.sng_history.specs.Clients.{subscribe_of, statement_of, id_opened_of, note_by, notes_by}
use Rattle.sng_history.specs.Packets.{has_place}
use Rattle.sng_history.specs.State.{State, around}
use Rattle.sng_history.specs.Verdicts.{coverage, and_then, may_ask, filter_in, subscribe_room_in}
use Rattle.sng_history.specs.Verdicts.{subscribe_room, subscribe_named, subscribe_by, subscribe_ask}
use Rattle.sng_history.specs.Lawful.{fixed_for}
use Rattle.sng_history.specs.Steps.{client_next}
use Rattle.sng_history.proofs.Steady.{handed_steady, repeated_steady, client_filters, received_steady}
use Rattle.sng_history.proofs.Steady.{start_filters}
use Rattle.sng_history.proofs.Statements.{stated_keeps}
use Rattle.sng_history.proofs.WaitingAcks.{allowed_second, up_room}

-- ---- what ends keeps

-- what holds still once a filter ends, or all do
pub record Lasting (P : List Held → Type 0) : Type 0 where
  pub less : (held : List Held) (text : List ℕ) → P held → P (without_filter held text)
  pub none : P []

abbrev Kept : (List Held → Type 0) → Client → Client → Type 0
Kept P x y = P x.filters → P y.filters

kept_cleaned : (P : List Held → Type 0) → Lasting P → (clean : Bool) (x : Client) → Kept P x (cleaned clean x)
kept_cleaned P l true x p = l.none
kept_cleaned P l false x p = p

kept_opened : (P : List Held → Type 0) (will : Bool) (x : Client) → Kept P x (opened will x)
kept_opened P true x p = p
kept_opened P false x p = p

kept_entered : (P : List Held → Type 0) → Lasting P → (clock : ℕ) (c : Cause) (x : Client)
    → Kept P x (entered_by clock c x)
kept_entered P l clock (ByConnect from connect) x p =
    let y : Client = record x { address = from; ids = []; duration = connect.duration; heard = clock } in
    kept_opened P connect.flags.will (cleaned connect.flags.clean y)
    (kept_cleaned P l connect.flags.clean y p)
kept_entered P l clock (ByMessage from request) x p = p
kept_entered P l clock (BySource from source) x p = p
kept_entered P l clock (ByBroken from rule) x p = p
kept_entered P l clock (ByPacket packet) x p = p
kept_entered P l clock ByUp x p = p
kept_entered P l clock ByDown x p = p
kept_entered P l clock ByTake x p = p
kept_entered P l clock (ByReplace policy) x p = p
kept_entered P l now (ByTick clock) x p = p

kept_if : (P : List Held → Type 0) (b : Bool) (x y : Client) → Kept P x y → Kept P x (if b then y else x)
kept_if P true x y kept p = kept p
kept_if P false x y kept p = p

kept_unsubscribed : (P : List Held → Type 0) → Lasting P
    → (text : Option (List ℕ)) (outcome : Outcome) (x : Client) → Kept P x (unsubscribed text outcome x)
kept_unsubscribed P l None outcome x p = p
kept_unsubscribed P l (Some text) Allowed x p = l.less x.filters text p
kept_unsubscribed P l (Some text) (Denied rule) x p = p

kept_note : (P : List Held → Type 0) → Lasting P → (a : Around) (said : Decision) (x : Client)
    → subscribe_of a.cause ≡ None → Kept P x (note_by a said x)
kept_note P l a (note.Connect id outcome) x quiet p =
    kept_if P (is_allowed outcome) x (entered_by a.clock a.cause x) (kept_entered P l a.clock a.cause x) p
kept_note P l a (note.Subscribe whom text outcome) x quiet p = rw quiet p
kept_note P l a (note.Unsubscribe whom text outcome) x quiet p = kept_unsubscribed P l text outcome x p
kept_note P l a (note.End id text outcome) x quiet p = l.less x.filters text p
kept_note P l a (note.Left id) x quiet p = p
kept_note P l a (note.Register whom name outcome) x quiet p = p
kept_note P l a (note.Publish whom name outcome) x quiet p =
    subst P (sym (received_steady (id_opened_of a.cause) outcome x).filters) p
kept_note P l a (note.Will whom name outcome) x quiet p =
    subst P (sym (stated_keeps (statement_of a.cause) outcome x).filters) p
kept_note P l a (note.Announce id name) x quiet p = p
kept_note P l a (note.Hand id name outcome) x quiet p =
    subst P (sym (handed_steady a name outcome x).filters) p
kept_note P l a (note.Retry id name outcome) x quiet p =
    subst P (sym (repeated_steady a.clock outcome x).filters) p
kept_note P l a (note.Forward whom name outcome) x quiet p = p
kept_note P l a (note.Again whom name outcome) x quiet p = p
kept_note P l a (note.Lost id) x quiet p = p
kept_note P l a note.Outbox x quiet p = p
kept_note P l a (note.Frame whom outcome) x quiet p = p

kept_notes : (P : List Held → Type 0) → Lasting P → (a : Around) (notes : List Decision) (x : Client)
    → subscribe_of a.cause ≡ None → Kept P x (notes_by a notes x)
kept_notes P l a [] x quiet p = p
kept_notes P l a (said ∷ notes) x quiet p =
    kept_notes P l a notes (note_by a said x) quiet (kept_note P l a said x quiet p)

start_kept : (P : List Held → Type 0) (a : Around) (x : Client) → Kept P x (start_by a x)
start_kept P a x p = subst P (sym (start_filters a x)) p

-- whatever the row, where it is no SUBSCRIBE
pub kept_next : (P : List Held → Type 0) → Lasting P → (s : State) (c : Cause) (x : Client)
    → subscribe_of c ≡ None → Kept P x (client_next s c x)
kept_next P l s c x quiet p =
    let a = around s c in
    let notes = fixed_for s c x in
    subst P (sym (client_filters a notes x))
    (kept_notes P l a notes (start_by a x) quiet (start_kept P a x p))

-- ---- a SUBSCRIBE

-- the verdict on a SUBSCRIBE of a client that names a filter
abbrev pub subscribe_verdict : State → Client → TopicRequest → List ℕ → Outcome
subscribe_verdict s x r text = and_then (coverage s.policy x.id text) (subscribe_room s x r text)

-- its note names no filter and denies it, or has the verdict on the filter that it names
abbrev NamesOf : (Decision → Type 0) → State → Client → TopicRequest → Type 0
NamesOf P s x r =
    (text : List ℕ) → filter_in s.policy r.flags.id_type r.topic ≡ Ok text
    → P (note.Subscribe (who.Client x.id) (Some text) (subscribe_verdict s x r text))

abbrev DeniesOf : (Decision → Type 0) → Client → Type 0
DeniesOf P x = (rule : Denial) → P (note.Subscribe (who.Client x.id) None (Denied rule))

named_ask : (P : Decision → Type 0) (s : State) (x : Client) (r : TopicRequest)
    (named : Result (List ℕ) Denial) → filter_in s.policy r.flags.id_type r.topic ≡ named → NamesOf P s x r
    → DeniesOf P x
    → P (subscribe_named s x r named)
named_ask P s x r (Ok text) is names denies = names text is
named_ask P s x r (Err rule) is names denies = denies rule

judged_ask : (P : Decision → Type 0) (s : State) (x : Client) (r : TopicRequest) (may : Outcome)
    → NamesOf P s x r → DeniesOf P x → P (subscribe_by s x r may)
judged_ask P s x r Allowed names denies =
    named_ask P s x r (filter_in s.policy r.flags.id_type r.topic) refl names denies
judged_ask P s x r (Denied rule) names denies = denies rule

pub ask_cases : (P : Decision → Type 0) (s : State) (x : Client) (r : TopicRequest) → NamesOf P s x r
    → DeniesOf P x → P (subscribe_ask s x r)
ask_cases P s x r names denies = judged_ask P s x r (may_ask s.policy x) names denies

pub allowed_first : (a b : Outcome) → and_then a b ≡ Allowed → a ≡ Allowed
allowed_first Allowed b is = refl
allowed_first (Denied rule) b is = absurd cc

room_by : (ids full fits : Bool)
    → (if ids then Denied (Room (Full place.Ids))
    else (if full then Denied (Room (Full place.Subscriptions))
    else (if fits then Allowed else Denied (Room (Full place.Outbox))))) ≡ Allowed
    → (ids ≡ false) × (full ≡ false) × (fits ≡ true)
room_by true full fits is = absurd cc
room_by false true fits is = absurd cc
room_by false false false is = absurd cc
room_by false false true is = (refl, refl, refl)

-- what the verdict says where it allows
pub record MayStand (s : State) (x : Client) (r : TopicRequest) (text : List ℕ) : Type 0 where
  pub covers : coverage s.policy x.id text ≡ Allowed
  pub ids : (gets_id r.flags.id_type text && is_full_for text x.ids) ≡ false
  pub fits : is_full x.filters text ≡ false
  pub waits : has_place s.policy.limits s.link ≡ true

pub may_stand : (s : State) (x : Client) (r : TopicRequest) (text : List ℕ)
    → subscribe_verdict s x r text ≡ Allowed → MayStand s x r text
may_stand s x r text is =
    let room : subscribe_room_in s x r text ≡ Allowed =
    up_room s.up (subscribe_room_in s x r text)
    (allowed_second (coverage s.policy x.id text) (subscribe_room s x r text) is) in
    let each =
    room_by (gets_id r.flags.id_type text && is_full_for text x.ids) (is_full x.filters text)
    (has_place s.policy.limits s.link) room in
    record {
      covers = allowed_first (coverage s.policy x.id text) (subscribe_room s x r text) is;
      ids = each.0;
      fits = each.1;
      waits = each.2;
    }

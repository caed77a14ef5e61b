-- The names that a client was told ids of stand where they stood, and a row tells it at most one name more:
-- behind an announcement nothing
use Rattle.std.proofs.Common.{◌≡◌, ℕ, suc, ◌+◌, Bool, true, false, List, [], ◌∷◌, ◌++◌, length, refl, ap, sym}
use Rattle.std.proofs.Common.{◌∙◌, subst, if◌then◌else◌, arith}
use Rattle.std.specs.Prelude.{◌||◌, ◌&&◌, not, nat_lt, slice_get, Option, Some, None}
use Rattle.std.specs.List.{position_or_len}
use Rattle.std.specs.Str.{bytes_eq}
use Rattle.sng_text.specs.Texts.{is_name}
use Rattle.sng_grants.specs.Sources.{scope_of}
use Rattle.sng_policy.specs.Grants.{lists}
use Rattle.sng_frames.specs.declared.messages.register.Register.{Register}
use Rattle.sng_frames.specs.declared.messages.subscribe.TopicRequest.{TopicRequest}
use Rattle.sng_frames.specs.declared.frame.SnFrame.TheVariants as frame
use Rattle.sng_book.specs.declared.address.Address.{Address}
use Rattle.sng_book.specs.declared.decision.Decision.TheVariants as note
use Rattle.sng_book.specs.declared.decision.Who.TheVariants as who
use Rattle.sng_book.specs.declared.outcome.Outcome.{Outcome}
use Rattle.sng_book.specs.declared.outcome.Outcome.TheVariants.{Allowed}
use Rattle.sng_book.specs.declared.out.Out.TheVariants.{Note}
use Rattle.sng_book.specs.declared.row.Row.{Row}
use Rattle.sng_history.specs.Causes.{cause_of}
use Rattle.sng_history.specs.Notes.{notes_of}
use Rattle.sng_history.specs.State.{State, opening, state_of}
use Rattle.sng_history.specs.Lawful.{Lawful}
use Rattle.sng_history.specs.Steps.{newcomers_for, outs_by}
use Rattle.sng_laws.specs.ViewsClients.{is_admitted, is_among, accepted, with_name, names_after}
use Rattle.sng_laws.specs.ViewsClients.{names_told, those_at, phase_of, id_told}
use Rattle.sng_laws.specs.Views.{last_policy}
use Rattle.sng_laws.specs.ViewsMessages.{message_at, subscribe_in}
use Rattle.sng_laws.specs.LawsState.{OneMore}
use Rattle.sng_laws.specs.LawsRules.{judged, may_publish}
use Rattle.sng_laws.specs.LawsAnswers.{Brought, answer_to, is_active}
use Rattle.sng_laws.specs.LawsAsks.{may_ask, register_rules, register_stranger, register_answer, regack}
use Rattle.sng_laws.specs.LawsAsks.{told_as}
use Rattle.sng_history.proofs.Own.{same_self, same_means}
use Rattle.sng_history.proofs.Says.{says}
use Rattle.sng_history.proofs.Keeping.{exact_by}
use Rattle.sng_ids.specs.declared.limits.TheConstants.{MAX_TOPIC_IDS}
use Rattle.sng_promise.proofs.Clients.SeenNotes.{admitted_by_notes, names_by_notes}
use Rattle.sng_promise.proofs.Names.SeenIds.{id_place}
use Rattle.sng_promise.proofs.Clients.SeenState.{Stands, stands}
use Rattle.sng_promise.proofs.Answers.LawRegisters.{register_named_so}
use Rattle.sng_promise.proofs.Answers.LawDatagrams.{register_law}
use Rattle.sng_promise.proofs.Names.OneToldMessages.{OneTold}
use Rattle.sng_promise.proofs.Names.OneTold.{notes_told}

-- ---- the row

more_row : (h : List Row) (s : State) (row : Row) (id : List ℕ) → Stands h s
    → row.outs ≡ outs_by s (cause_of row.event)
    → is_among id (accepted h) ≡ true → is_admitted id row.outs ≡ false
    → OneMore (names_told id h) (names_told id (row ∷ h))
more_row h s row id st is known none =
    let c = cause_of row.event in
    let r = subscribe_in (message_at row.event) in
    let own = (says s c st.good.apart).own in
    let told : OneTold id (notes_of id row.outs) =
    subst (λ outs. OneTold id (notes_of id outs)) (sym is)
    (notes_told s c id s.clients (newcomers_for s c) own (ap (is_among id) st.shown.order ∙ known)) in
    subst (OneMore (names_told id h)) (sym (names_by_notes r id row.outs (names_told id h)))
    (told r (names_told id h) (sym (admitted_by_notes id row.outs) ∙ none))

pub names_kept : (h : List Row) (row : Row) (id : List ℕ) → Lawful opening (row ∷ h)
    → is_among id (accepted h) ≡ true
    → is_admitted id row.outs ≡ false
    → OneMore (names_told id h) (names_told id (row ∷ h))
names_kept h row id l known none =
    let s = state_of opening h in
    more_row h s row id (stands h l.0) (exact_by s (cause_of row.event) row.outs l.1) known none

-- ---- the id that is told stands for the name

then_named : (b : Bool) (one name : List ℕ) (names : List (List ℕ))
    → (if b then one ∷ names else one ∷ (names ++ name ∷ []))
    ≡ one ∷ (if b then names else names ++ name ∷ [])
then_named true one name names = refl
then_named false one name names = refl

place_by : (name one : List ℕ) (names : List (List ℕ)) (n : ℕ) (b : Bool) → bytes_eq name one ≡ b
    → slice_get (with_name (Some name) names) n ≡ Some name
    → slice_get (if b || is_among name names then one ∷ names else one ∷ (names ++ name ∷ []))
    (if not b then 1 + n else 0) ≡ Some name
place_by name one names n true is rest = ap Some (sym (same_means name one is))
place_by name one names n false is rest =
    let next : 1 + n ≡ suc n = omega arith in
    rw (then_named (is_among name names) one name names, next) rest

at_place : (name : List ℕ) (names : List (List ℕ))
    → slice_get (with_name (Some name) names) (position_or_len (bytes_eq name) names) ≡ Some name
at_place name [] = refl
at_place name (one ∷ names) =
    place_by name one names (position_or_len (bytes_eq name) names) (bytes_eq name one) refl
    (at_place name names)

pub told_names : (name : List ℕ) (names : List (List ℕ))
    → told_as (id_told name names) (with_name (Some name) names) ≡ Some name
told_names name names =
    let n = position_or_len (bytes_eq name) names in
    let next : n + 1 ≡ suc n = omega arith in
    rw (id_place name names, next) (at_place name names)

-- what a REGISTER tells that is allowed
after_register : (m : Option TopicRequest) (from : Address) (r : Register) (id : List ℕ) (k : ℕ)
    (names : List (List ℕ)) (name : Option (List ℕ)) (o : Outcome) → o ≡ Allowed → name ≡ Some r.name
    → names_after m id (Note (note.Register (who.Client id) name o) ∷ regack from k r o ∷ []) names
    ≡ with_name (Some r.name) names
after_register m from r id k names name o may is = rw (may, is, same_self id) refl

pub name_told : (h : List Row) (row : Row) (from : Address) (r : Register) (id : List ℕ)
    → Lawful opening (row ∷ h)
    → Brought row from (frame.Register r) → those_at from h ≡ id ∷ []
    → judged (register_rules h id r.name) ≡ Allowed
    → told_as (id_told r.name (names_told id h)) (names_told id (row ∷ h)) ≡ Some r.name
name_told h row from r id l brought at may =
    let names = names_told id h in
    let policy = last_policy h in
    let outs : row.outs ≡ register_answer h from r id =
    register_law h row from r l brought
    ∙ ap (answer_to (register_stranger from) (register_answer h from r)) at in
    let named : (let o : Option (List ℕ) = if may_ask h id && is_name r.name then Some r.name else None in o)
    ≡ Some r.name =
    register_named_so id r.name (is_active (phase_of id h)) (lists policy id) (is_name r.name)
    (may_publish (scope_of policy.clients id) r.name)
    (not (is_among r.name names) && not (nat_lt (length names) MAX_TOPIC_IDS)) may in
    ap (λ all. told_as (id_told r.name names)
    (names_after (subscribe_in (message_at row.event)) id all names)) outs
    ∙ (ap (told_as (id_told r.name names))
    (after_register (subscribe_in (message_at row.event)) from r id (id_told r.name names) names
    (if may_ask h id && is_name r.name then Some r.name else None)
    (judged (register_rules h id r.name)) may named)
    ∙ told_names r.name names)

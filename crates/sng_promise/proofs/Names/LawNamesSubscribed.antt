-- The id that a SUBACK tells stands for the name of the SUBSCRIBE.
use Rattle.std.proofs.Common.{◌≡◌, ℕ, Bool, true, false, List, [], ◌∷◌, refl, ap, ◌∙◌}
use Rattle.std.proofs.Common.{if◌then◌else◌}
use Rattle.std.specs.Prelude.{Option, Some, None}
use Rattle.sng_text.specs.Texts.{is_filter}
use Rattle.sng_grants.specs.declared.policy.Policy.{Policy}
use Rattle.sng_policy.specs.Grants.{lists}
use Rattle.sng_frames.specs.declared.flags.TopicIdType.{TopicIdType}
use Rattle.sng_frames.specs.declared.flags.TopicIdType.TheVariants.{Normal, Predefined, Short, Reserved}
use Rattle.sng_frames.specs.declared.messages.subscribe.TopicRequest.{TopicRequest}
use Rattle.sng_frames.specs.declared.frame.SnFrame.TheVariants as frame
use Rattle.sng_book.specs.declared.address.Address.{Address}
use Rattle.sng_book.specs.declared.decision.Decision.TheVariants as note
use Rattle.sng_book.specs.declared.decision.Who.TheVariants as who
use Rattle.sng_book.specs.declared.outcome.Outcome.{Outcome}
use Rattle.sng_book.specs.declared.outcome.Outcome.TheVariants.{Allowed}
use Rattle.sng_book.specs.declared.out.Out.TheVariants.{Note}
use Rattle.sng_book.specs.declared.row.Row.{Row}
use Rattle.sng_history.specs.State.{opening}
use Rattle.sng_history.specs.Lawful.{Lawful}
use Rattle.sng_laws.specs.Views.{last_policy}
use Rattle.sng_laws.specs.ViewsMessages.{message_in, message_at, subscribe_in}
use Rattle.sng_laws.specs.ViewsClients.{phase_of, those_at, tells_id, names_told, id_told, with_name}
use Rattle.sng_laws.specs.ViewsClients.{names_after}
use Rattle.sng_laws.specs.LawsRules.{judged}
use Rattle.sng_laws.specs.LawsAnswers.{Brought, answer_to, is_active, or_empty}
use Rattle.sng_laws.specs.LawsAsks.{may_ask, told_as}
use Rattle.sng_laws.specs.LawsSubscriptions.{filter_meant, form_rules, gap_rule, room_rules, subscribe_rules}
use Rattle.sng_laws.specs.LawsSubscriptions.{id_granted, suback, subscribe_stranger, subscribe_answer}
use Rattle.sng_history.proofs.Own.{same_self}
use Rattle.sng_promise.proofs.Answers.LawForms.{form_meant}
use Rattle.sng_promise.proofs.Answers.LawDatagrams.{subscribe_law}
use Rattle.sng_promise.proofs.Answers.LawSubscriptions.{allowed_form}
use Rattle.sng_promise.proofs.Names.LawNames.{told_names}

-- a text that is told an id is the filter that the SUBSCRIBE names, and SUBACK has the id of the text
record Named (policy : Policy) (type : TopicIdType) (octets : List ℕ) (names : List (List ℕ)) : Type 0 where
  meant : (text : List ℕ) → filter_meant policy type octets ≡ Some text
      → filter_meant policy type octets ≡ Some octets
  granted : id_granted names type octets ≡ id_told octets names

meant_text : (octets text : List ℕ) (b : Bool) → is_filter octets ≡ b
    → (let o : Option (List ℕ) = if b then Some octets else None in o) ≡ Some text
    → (let o : Option (List ℕ) = if b then Some octets else None in o) ≡ Some octets
meant_text octets text true is meant = refl
meant_text octets text false is meant = absurd cc

named : (policy : Policy) (type : TopicIdType) (octets : List ℕ) (names : List (List ℕ))
    → tells_id type octets ≡ true
    → Named policy type octets names
named policy Normal octets names tells = record {
  meant = λ text meant. meant_text octets text (is_filter octets) refl meant;
  granted = ap (λ b. if b then id_told octets names else 0) tells;
}
named policy Predefined octets names tells = absurd (let e = tells in cc)
named policy Short octets names tells = absurd (let e = tells in cc)
named policy Reserved octets names tells = absurd (let e = tells in cc)

-- what a SUBSCRIBE tells that is allowed
after_subscribe : (r : TopicRequest) (from : Address) (id : List ℕ) (k : ℕ) (names : List (List ℕ))
    (text : Option (List ℕ)) (o : Outcome) → o ≡ Allowed → text ≡ Some r.topic
    → tells_id r.flags.id_type r.topic ≡ true
    → names_after (Some r) id (Note (note.Subscribe (who.Client id) text o) ∷ suback from k r o ∷ []) names
    ≡ with_name (Some r.topic) names
after_subscribe r from id k names text o may is tells = rw (may, is, same_self id, tells) refl

pub name_subscribed_told : (h : List Row) (row : Row) (from : Address) (r : TopicRequest) (id : List ℕ)
    → Lawful opening (row ∷ h)
    → Brought row from (frame.Subscribe r) → those_at from h ≡ id ∷ []
    → judged (subscribe_rules h id r) ≡ Allowed → tells_id r.flags.id_type r.topic ≡ true
    → told_as (id_granted (names_told id h) r.flags.id_type r.topic) (names_told id (row ∷ h)) ≡ Some r.topic
name_subscribed_told h row from r id l brought at may tells =
    let names = names_told id h in
    let policy = last_policy h in
    let meant_as = filter_meant policy r.flags.id_type r.topic in
    let is = named policy r.flags.id_type r.topic names tells in
    let k = id_granted names r.flags.id_type r.topic in
    let outs : row.outs ≡ subscribe_answer h from r id =
    subscribe_law h row from r l brought
    ∙ ap (answer_to (subscribe_stranger from) (subscribe_answer h from r)) at in
    let read : subscribe_in (message_at row.event) ≡ Some r =
    ap (λ e. subscribe_in (message_at e)) brought.event
    ∙ ap (λ d. subscribe_in (message_in d)) brought.reads in
    let text = or_empty meant_as in
    let asked = allowed_form (is_active (phase_of id h)) (lists policy id) id (form_rules policy r)
    (gap_rule policy id text ∷ room_rules h id r.flags.id_type text) may in
    let meant = form_meant policy r asked.1 in
    let noted : (let o : Option (List ℕ) = if may_ask h id then meant_as else None in o) ≡ Some r.topic =
    ap (λ b. if b then meant_as else None) asked.0 ∙ is.meant meant.0 meant.1 in
    ap (λ all. told_as k (names_after (subscribe_in (message_at row.event)) id all names)) outs
    ∙ (ap (λ m. told_as k (names_after m id (subscribe_answer h from r id) names)) read
    ∙ (ap (told_as k)
    (after_subscribe r from id k names (if may_ask h id then meant_as else None)
    (judged (subscribe_rules h id r)) may noted tells)
    ∙ (ap (λ n. told_as n (with_name (Some r.topic) names)) is.granted ∙ told_names r.topic names)))

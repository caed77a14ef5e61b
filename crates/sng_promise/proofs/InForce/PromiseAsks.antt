-- The note of each ask stands under the policy in force.
use Rattle.std.proofs.Common.{◌≡◌, inl, inr, ℕ, Bool, true, false, List, refl, if◌then◌else◌}
use Rattle.std.specs.Prelude.{◌&&◌, Option, Some, None, Ok, Err}
use Rattle.std.specs.declared.result.Result.{Result}
use Rattle.sng_text.specs.Texts.{is_name, is_filter}
use Rattle.sng_text.specs.declared.qos.Qos.{Qos}
use Rattle.sng_text.specs.declared.qos.Qos.TheVariants.{AtMostOnce}
use Rattle.sng_grants.specs.declared.policy.Policy.{Policy}
use Rattle.sng_policy.specs.Grants.{lists, lists_source, topic}
use Rattle.sng_ids.specs.Ids.{Ids, name_of, is_full_for}
use Rattle.sng_fan.specs.Subscriptions.{is_full}
use Rattle.sng_frames.specs.declared.messages.publish.Publish.{Publish}
use Rattle.sng_frames.specs.declared.messages.subscribe.TopicRequest.{TopicRequest}
use Rattle.sng_frames.specs.declared.flags.TopicIdType.{TopicIdType}
use Rattle.sng_frames.specs.declared.flags.TopicIdType.TheVariants.{Normal, Predefined, Short, Reserved}
use Rattle.sng_outbox.specs.declared.origin.Origin.TheVariants as origin
use Rattle.sng_book.specs.declared.decision.Decision.TheVariants as note
use Rattle.sng_book.specs.declared.decision.Who.{Who}
use Rattle.sng_book.specs.declared.decision.Who.TheVariants as who
use Rattle.sng_book.specs.declared.outcome.Denial.{Denial}
use Rattle.sng_book.specs.declared.outcome.Denial.TheVariants.{Form, Grant}
use Rattle.sng_book.specs.declared.outcome.FormDenial.TheVariants.{BadName, BadFilter, OutOfTurn}
use Rattle.sng_book.specs.declared.outcome.GrantDenial.TheVariants.{NoScope, UnknownSource}
use Rattle.sng_book.specs.declared.outcome.Outcome.{Outcome}
use Rattle.sng_book.specs.declared.outcome.Outcome.TheVariants.{Allowed, Denied}
use Rattle.sng_history.specs.Clients.{Client}
use Rattle.sng_history.specs.Packets.{has_place}
use Rattle.sng_history.specs.Requests.{gets_id, id_in}
use Rattle.sng_history.specs.State.{State, qos_of}
use Rattle.sng_history.specs.Verdicts.{and_then, octets_of, predefined_name, told_name, normal_name, name_in}
use Rattle.sng_history.specs.Verdicts.{named_ask, source_ask, once_room, publish_once_ask, publish_once_by}
use Rattle.sng_history.specs.Verdicts.{is_active, in_turn, client_scope, may_ask, name_given, room, id_room}
use Rattle.sng_history.specs.Verdicts.{register_named, register_by, register_ask, publish_named, publish_by}
use Rattle.sng_history.specs.Verdicts.{publish_ask, publish_once_named}
use Rattle.sng_history.specs.Verdicts.{as_filter, predefined_filter, filter_in, coverage, subscribe_named}
use Rattle.sng_history.specs.Verdicts.{subscribe_by, subscribe_ask}
use Rattle.sng_history.specs.Verdicts.{unsubscribe_named, unsubscribe_by, unsubscribe_ask}
use Rattle.sng_laws.specs.LawsPromise.{is_of_form, IsUnread, Stands}
use Rattle.sng_promise.proofs.WantedFilters.HeldFilters.{named_filter}
use Rattle.sng_promise.proofs.InForce.PromiseRules.{asked_so, publish_room, register_room, publish_once_room}
use Rattle.sng_promise.proofs.InForce.PromiseCovers.{covers, covers_first}

-- ---- reading

-- what is not read breaks a rule of form
abbrev IsForm : Result (List ℕ) Denial → Type 0
IsForm (Ok name) = Unit {0}
IsForm (Err rule) = is_of_form rule ≡ true

form_if : (b : Bool) (text : List ℕ) (rule : Denial) → is_of_form rule ≡ true
    → (let read : Result (List ℕ) Denial = if b then Ok text else Err rule in IsForm read)
form_if true text rule is = tt
form_if false text rule is = is

predefined_form : (id : ℕ) (name : Option (List ℕ)) → IsForm (predefined_name id name)
predefined_form id None = refl
predefined_form id (Some name) = tt

told_form : (id : ℕ) (name : Option (List ℕ)) → IsForm (told_name id name)
told_form id None = refl
told_form id (Some name) = tt

normal_form : (ids : Option Ids) (id : ℕ) → IsForm (normal_name ids id)
normal_form None id = refl
normal_form (Some ids) id = told_form id (name_of id ids)

name_form : (policy : Policy) (ids : Option Ids) (type : TopicIdType) (id : ℕ)
    → IsForm (name_in policy ids type id)
name_form policy ids Short id = form_if (is_name (octets_of id)) (octets_of id) (Form BadName) refl
name_form policy ids Predefined id = predefined_form id (topic policy id)
name_form policy ids Normal id = normal_form ids id
name_form policy ids Reserved id = refl

text_form : (text : List ℕ) → IsForm (as_filter text)
text_form text = form_if (is_filter text) text (Form BadFilter) refl

topic_form : (id : ℕ) (name : Option (List ℕ)) → IsForm (predefined_filter id name)
topic_form id None = refl
topic_form id (Some name) = text_form name

short_form : (b : Bool) (text : List ℕ)
    → (let read : Result (List ℕ) Denial = if b then as_filter text else Err (Form BadName) in IsForm read)
short_form true text = text_form text
short_form false text = refl

filter_form : (policy : Policy) (type : TopicIdType) (text : List ℕ) → IsForm (filter_in policy type text)
filter_form policy Normal text = text_form text
filter_form policy Short text = short_form (is_name text) text
filter_form policy Predefined text = topic_form (id_in text) (topic policy (id_in text))
filter_form policy Reserved text = refl

-- ---- before that

-- an ask that is denied before anything is read
abbrev pub IsFirst : Policy → Who → Outcome → Type 0
IsFirst policy whom Allowed = Unit {0}
IsFirst policy whom (Denied rule) = IsUnread policy whom (Denied rule)

pub listed_first : (policy : Policy) (id : List ℕ) (b : Bool) → lists policy id ≡ b
    → IsFirst policy (who.Client id) (if b then Allowed else Denied (Grant (NoScope id)))
listed_first policy id true is = tt
listed_first policy id false is = inr (refl, is)

pub turn_first : (policy : Policy) (whom : Who) (b : Bool)
    → IsFirst policy whom (if b then Allowed else Denied (Form OutOfTurn))
turn_first policy whom true = tt
turn_first policy whom false = inl refl

pub first_both : (policy : Policy) (whom : Who) (a b : Outcome) → IsFirst policy whom a
    → IsFirst policy whom b
    → IsFirst policy whom (and_then a b)
first_both policy whom Allowed b one two = two
first_both policy whom (Denied rule) b one two = one

pub scope_first : (policy : Policy) (id : List ℕ) → IsFirst policy (who.Client id) (client_scope policy id)
scope_first policy id = listed_first policy id (lists policy id) refl

may_first : (policy : Policy) (x : Client) → IsFirst policy (who.Client x.id) (may_ask policy x)
may_first policy x =
    first_both policy (who.Client x.id) (in_turn x) (client_scope policy x.id)
    (turn_first policy (who.Client x.id) (is_active x.phase))
    (scope_first policy x.id)

-- ---- a REGISTER

read_register : (policy : Policy) (x : Client) (named : Result (List ℕ) Denial) → IsForm named
    → Stands policy (register_named policy x named)
read_register policy x (Ok name) form =
    asked_so policy (origin.Client x.id) name (id_room name x.ids) (register_room name x.ids)
read_register policy x (Err rule) form = inl form

judged_register : (policy : Policy) (x : Client) (text : List ℕ) (may : Outcome)
    → IsFirst policy (who.Client x.id) may
    → Stands policy (register_by policy x text may)
judged_register policy x text Allowed first =
    read_register policy x (name_given text) (form_if (is_name text) text (Form BadName) refl)
judged_register policy x text (Denied rule) first = first

pub register_stands : (policy : Policy) (x : Client) (text : List ℕ)
    → Stands policy (register_ask policy x text)
register_stands policy x text = judged_register policy x text (may_ask policy x) (may_first policy x)

-- ---- a PUBLISH

read_publish : (s : State) (x : Client) (q : Qos) (named : Result (List ℕ) Denial) → IsForm named
    → Stands s.policy (publish_named s x q named)
read_publish s x q (Ok name) form = asked_so s.policy (origin.Client x.id) name (room s q) (publish_room s q)
read_publish s x q (Err rule) form = inl form

judged_publish : (s : State) (x : Client) (p : Publish) (may : Outcome)
    → IsFirst s.policy (who.Client x.id) may
    → Stands s.policy (publish_by s x p may)
judged_publish s x p Allowed first =
    read_publish s x (qos_of p.flags.qos) (name_in s.policy (Some x.ids) p.flags.id_type p.topic_id)
    (name_form s.policy (Some x.ids) p.flags.id_type p.topic_id)
judged_publish s x p (Denied rule) first = first

pub publish_stands : (s : State) (x : Client) (p : Publish) → Stands s.policy (publish_ask s x p)
publish_stands s x p = judged_publish s x p (may_ask s.policy x) (may_first s.policy x)

-- ---- a PUBLISH at QoS 2

read_once : (s : State) (x : Client) (p : Publish) (named : Result (List ℕ) Denial) → IsForm named
    → Stands s.policy (publish_once_named s x p named)
read_once s x p (Ok name) form =
    asked_so s.policy (origin.Client x.id) name (once_room s x p) (publish_once_room s x p)
read_once s x p (Err rule) form = inl form

judged_once : (s : State) (x : Client) (p : Publish) (may : Outcome)
    → IsFirst s.policy (who.Client x.id) may
    → Stands s.policy (publish_once_by s x p may)
judged_once s x p Allowed first =
    read_once s x p (name_in s.policy (Some x.ids) p.flags.id_type p.topic_id)
    (name_form s.policy (Some x.ids) p.flags.id_type p.topic_id)
judged_once s x p (Denied rule) first = first

pub publish_once_stands : (s : State) (x : Client) (p : Publish) → Stands s.policy (publish_once_ask s x p)
publish_once_stands s x p = judged_once s x p (may_ask s.policy x) (may_first s.policy x)

-- ---- a PUBLISH without a session

read_source : (s : State) (ip : List ℕ) (named : Result (List ℕ) Denial) → IsForm named
    → Stands s.policy (named_ask s ip named)
read_source s ip (Ok name) form =
    asked_so s.policy (origin.Source ip) name (room s AtMostOnce) (publish_room s AtMostOnce)
read_source s ip (Err rule) form = inl form

pub source_stands : (s : State) (ip : List ℕ) (p : Publish) → Stands s.policy (source_ask s ip p)
source_stands s ip p = by_listed (lists_source s.policy ip) refl
  where
    by_listed : (b : Bool) → lists_source s.policy ip ≡ b
        → Stands s.policy
        (if b
        then named_ask s ip (name_in s.policy None p.flags.id_type p.topic_id)
        else note.Publish (who.Source ip) None (Denied (Grant UnknownSource)))
    by_listed true is =
        read_source s ip (name_in s.policy None p.flags.id_type p.topic_id)
        (name_form s.policy None p.flags.id_type p.topic_id)
    by_listed false is = inr (refl, is)

-- ---- a SUBSCRIBE

read_subscribe : (s : State) (x : Client) (r : TopicRequest) (named : Result (List ℕ) Denial)
    → filter_in s.policy r.flags.id_type r.topic ≡ named → IsForm named
    → Stands s.policy (subscribe_named s x r named)
read_subscribe s x r (Ok text) is form =
    covers_first s.policy x.id text (coverage s.policy x.id text) s.up
    (gets_id r.flags.id_type text && is_full_for text x.ids)
    (is_full x.filters text) (has_place s.policy.limits s.link)
    (covers s.policy x.id text (named_filter s.policy r.flags.id_type r.topic text is))
read_subscribe s x r (Err rule) is form = inl form

judged_subscribe : (s : State) (x : Client) (r : TopicRequest) (may : Outcome)
    → IsFirst s.policy (who.Client x.id) may
    → Stands s.policy (subscribe_by s x r may)
judged_subscribe s x r Allowed first =
    read_subscribe s x r (filter_in s.policy r.flags.id_type r.topic) refl
    (filter_form s.policy r.flags.id_type r.topic)
judged_subscribe s x r (Denied rule) first = first

pub subscribe_stands : (s : State) (x : Client) (r : TopicRequest) → Stands s.policy (subscribe_ask s x r)
subscribe_stands s x r = judged_subscribe s x r (may_ask s.policy x) (may_first s.policy x)

-- ---- an UNSUBSCRIBE

read_unsubscribe : (policy : Policy) (x : Client) (named : Result (List ℕ) Denial) → IsForm named
    → Stands policy (unsubscribe_named x named)
read_unsubscribe policy x (Ok text) form = tt
read_unsubscribe policy x (Err rule) form = form

pub unsubscribe_stands : (policy : Policy) (x : Client) (r : TopicRequest)
    → Stands policy (unsubscribe_ask policy x r)
unsubscribe_stands policy x r = by_turn (is_active x.phase)
  where
    by_turn : (active : Bool) → Stands policy
        (unsubscribe_by policy x r (if active then Allowed else Denied (Form OutOfTurn)))
    by_turn true =
        read_unsubscribe policy x (filter_in policy r.flags.id_type r.topic)
        (filter_form policy r.flags.id_type r.topic)
    by_turn false = refl

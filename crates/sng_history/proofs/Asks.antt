-- What a client asks for is noted by one note of its kind, whatever the verdict.
use Rattle.std.proofs.Common.{ℕ, List}
use Rattle.std.specs.Prelude.{Option, Some, None, Ok, Err}
use Rattle.std.specs.declared.result.Result.{Result}
use Rattle.sng_text.specs.declared.qos.Qos.{Qos}
use Rattle.sng_grants.specs.declared.policy.Policy.{Policy}
use Rattle.sng_frames.specs.declared.messages.publish.Publish.{Publish}
use Rattle.sng_frames.specs.declared.messages.subscribe.TopicRequest.{TopicRequest}
use Rattle.sng_outbox.specs.declared.origin.Origin.TheVariants as origin
use Rattle.sng_book.specs.declared.decision.Decision.{Decision}
use Rattle.sng_book.specs.declared.decision.Decision.TheVariants as note
use Rattle.sng_book.specs.declared.decision.Who.TheVariants as who
use Rattle.sng_book.specs.declared.outcome.Denial.{Denial}
use Rattle.sng_book.specs.declared.outcome.Outcome.{Outcome}
use Rattle.sng_book.specs.declared.outcome.Outcome.TheVariants.{Allowed, Denied}
use Rattle.sng_history.specs.Clients.{Client}
use Rattle.sng_history.specs.State.{State, qos_of}
use Rattle.sng_history.specs.Verdicts.{exit, and_then, verdict, name_in, may_ask, name_given, id_room}
use Rattle.sng_history.specs.Verdicts.{register_named, register_by, register_ask, publish_named, publish_by}
use Rattle.sng_history.specs.Verdicts.{publish_ask, once_room, publish_once_named, publish_once_by}
use Rattle.sng_history.specs.Verdicts.{publish_once_ask}
use Rattle.sng_history.specs.Verdicts.{coverage, in_turn, filter_in, subscribe_room, subscribe_named}
use Rattle.sng_history.specs.Verdicts.{subscribe_by, subscribe_ask, unsubscribe_named, unsubscribe_by}
use Rattle.sng_history.specs.Verdicts.{unsubscribe_ask}

-- what holds of each note of a REGISTER of the client
abbrev OfRegister : (Decision → Type 0) → Client → Type 0
OfRegister P x =
    (name : Option (List ℕ)) (outcome : Outcome) → P (note.Register (who.Client x.id) name outcome)

named_register : (P : Decision → Type 0) (policy : Policy) (x : Client) (named : Result (List ℕ) Denial)
    → OfRegister P x → P (register_named policy x named)
named_register P policy x (Ok name) all =
    all (Some name) (and_then (exit policy (origin.Client x.id) name) (id_room name x.ids))
named_register P policy x (Err rule) all = all None (Denied rule)

judged_register : (P : Decision → Type 0) (policy : Policy) (x : Client) (text : List ℕ) (may : Outcome)
    → OfRegister P x → P (register_by policy x text may)
judged_register P policy x text Allowed all = named_register P policy x (name_given text) all
judged_register P policy x text (Denied rule) all = all None (Denied rule)

pub of_register : (P : Decision → Type 0) (policy : Policy) (x : Client) (text : List ℕ) → OfRegister P x
    → P (register_ask policy x text)
of_register P policy x text all = judged_register P policy x text (may_ask policy x) all

-- of each note of a PUBLISH
abbrev OfPublish : (Decision → Type 0) → Client → Type 0
OfPublish P x = (name : Option (List ℕ)) (outcome : Outcome) → P (note.Publish (who.Client x.id) name outcome)

named_publish : (P : Decision → Type 0) (s : State) (x : Client) (q : Qos) (named : Result (List ℕ) Denial)
    → OfPublish P x → P (publish_named s x q named)
named_publish P s x q (Ok name) all = all (Some name) (verdict s (origin.Client x.id) name q)
named_publish P s x q (Err rule) all = all None (Denied rule)

judged_publish : (P : Decision → Type 0) (s : State) (x : Client) (p : Publish) (may : Outcome)
    → OfPublish P x → P (publish_by s x p may)
judged_publish P s x p Allowed all =
    named_publish P s x (qos_of p.flags.qos) (name_in s.policy (Some x.ids) p.flags.id_type p.topic_id) all
judged_publish P s x p (Denied rule) all = all None (Denied rule)

pub of_publish : (P : Decision → Type 0) (s : State) (x : Client) (p : Publish) → OfPublish P x
    → P (publish_ask s x p)
of_publish P s x p all = judged_publish P s x p (may_ask s.policy x) all

named_once : (P : Decision → Type 0) (s : State) (x : Client) (p : Publish) (named : Result (List ℕ) Denial)
    → OfPublish P x → P (publish_once_named s x p named)
named_once P s x p (Ok name) all =
    all (Some name) (and_then (exit s.policy (origin.Client x.id) name) (once_room s x p))
named_once P s x p (Err rule) all = all None (Denied rule)

judged_once : (P : Decision → Type 0) (s : State) (x : Client) (p : Publish) (may : Outcome)
    → OfPublish P x → P (publish_once_by s x p may)
judged_once P s x p Allowed all =
    named_once P s x p (name_in s.policy (Some x.ids) p.flags.id_type p.topic_id) all
judged_once P s x p (Denied rule) all = all None (Denied rule)

pub of_publish_once : (P : Decision → Type 0) (s : State) (x : Client) (p : Publish) → OfPublish P x
    → P (publish_once_ask s x p)
of_publish_once P s x p all = judged_once P s x p (may_ask s.policy x) all

-- of each note of a SUBSCRIBE
abbrev OfSubscribe : (Decision → Type 0) → Client → Type 0
OfSubscribe P x =
    (filter : Option (List ℕ)) (outcome : Outcome) → P (note.Subscribe (who.Client x.id) filter outcome)

named_subscribe : (P : Decision → Type 0) (s : State) (x : Client) (r : TopicRequest)
    (named : Result (List ℕ) Denial) → OfSubscribe P x → P (subscribe_named s x r named)
named_subscribe P s x r (Ok filter) all =
    all (Some filter) (and_then (coverage s.policy x.id filter) (subscribe_room s x r filter))
named_subscribe P s x r (Err rule) all = all None (Denied rule)

judged_subscribe : (P : Decision → Type 0) (s : State) (x : Client) (r : TopicRequest) (may : Outcome)
    → OfSubscribe P x → P (subscribe_by s x r may)
judged_subscribe P s x r Allowed all =
    named_subscribe P s x r (filter_in s.policy r.flags.id_type r.topic) all
judged_subscribe P s x r (Denied rule) all = all None (Denied rule)

pub of_subscribe : (P : Decision → Type 0) (s : State) (x : Client) (r : TopicRequest) → OfSubscribe P x
    → P (subscribe_ask s x r)
of_subscribe P s x r all = judged_subscribe P s x r (may_ask s.policy x) all

-- and of each note of an UNSUBSCRIBE
abbrev OfUnsubscribe : (Decision → Type 0) → Client → Type 0
OfUnsubscribe P x =
    (filter : Option (List ℕ)) (outcome : Outcome) → P (note.Unsubscribe (who.Client x.id) filter outcome)

named_unsubscribe : (P : Decision → Type 0) (x : Client) (named : Result (List ℕ) Denial) → OfUnsubscribe P x
    → P (unsubscribe_named x named)
named_unsubscribe P x (Ok filter) all = all (Some filter) Allowed
named_unsubscribe P x (Err rule) all = all None (Denied rule)

judged_unsubscribe : (P : Decision → Type 0) (policy : Policy) (x : Client) (r : TopicRequest) (may : Outcome)
    → OfUnsubscribe P x → P (unsubscribe_by policy x r may)
judged_unsubscribe P policy x r Allowed all =
    named_unsubscribe P x (filter_in policy r.flags.id_type r.topic) all
judged_unsubscribe P policy x r (Denied rule) all = all None (Denied rule)

pub of_unsubscribe : (P : Decision → Type 0) (policy : Policy) (x : Client) (r : TopicRequest)
    → OfUnsubscribe P x → P (unsubscribe_ask policy x r)
of_unsubscribe P policy x r all = judged_unsubscribe P policy x r (in_turn x) all

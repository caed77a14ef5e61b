-- What a client asks is judged alike in two states that it cannot tell apart.
use Rattle.std.proofs.Common.{◌≡◌, ℕ, false, List, refl, ap, ◌∙◌}
use Rattle.std.specs.Prelude.{Some, Ok, Err}
use Rattle.std.specs.declared.result.Result.{Result}
use Rattle.sng_text.specs.declared.qos.Qos.{Qos}
use Rattle.sng_grants.specs.declared.policy.Policy.{Policy}
use Rattle.sng_frames.specs.declared.messages.connect.Connect.{Connect}
use Rattle.sng_frames.specs.declared.messages.publish.Publish.{Publish}
use Rattle.sng_frames.specs.declared.messages.subscribe.TopicRequest.{TopicRequest}
use Rattle.sng_outbox.specs.declared.origin.Origin.TheVariants as origin
use Rattle.sng_book.specs.declared.decision.Decision.TheVariants as note
use Rattle.sng_book.specs.declared.decision.Who.TheVariants as who
use Rattle.sng_book.specs.declared.outcome.Denial.{Denial}
use Rattle.sng_book.specs.declared.outcome.Outcome.{Outcome}
use Rattle.sng_book.specs.declared.outcome.Outcome.TheVariants.{Allowed, Denied}
use Rattle.sng_history.specs.Clients.{Client}
use Rattle.sng_history.specs.State.{State, qos_of}
use Rattle.sng_history.specs.Verdicts.{exit, and_then, room, verdict, in_turn, may_ask, name_given, id_room}
use Rattle.sng_history.specs.Verdicts.{register_named, register_by, register_ask, name_in, publish_named}
use Rattle.sng_history.specs.Verdicts.{publish_by, publish_ask, once_room, publish_once_named, publish_once_by}
use Rattle.sng_history.specs.Verdicts.{publish_once_ask, coverage, filter_in, subscribe_room, subscribe_named}
use Rattle.sng_history.specs.Verdicts.{subscribe_by, subscribe_ask, unsubscribe_named, unsubscribe_by}
use Rattle.sng_history.specs.Verdicts.{unsubscribe_ask, entry, entry_form, entry_room, client_scope}
use Rattle.sng_isolation.specs.Room.{is_crowded, tells_crowd}
use Rattle.sng_isolation.proofs.Policies.{SaysSame, exit_same, coverage_same, client_scope_same, name_in_same}
use Rattle.sng_isolation.proofs.Policies.{filter_in_same}
use Rattle.sng_isolation.proofs.Crowds.{agree_note, then_same, room_same, once_room_same, subscribe_room_same}
use Rattle.sng_isolation.proofs.Crowds.{entry_room_same}

may_ask_same : (p q : Policy) (x : Client) → SaysSame x.id p q → may_ask p x ≡ may_ask q x
may_ask_same p q x same = ap (and_then (in_turn x)) (client_scope_same x.id p q same)

pub register_same : (p q : Policy) (x : Client) (text : List ℕ) → SaysSame x.id p q
    → register_ask p x text ≡ register_ask q x text
register_same p q x text same =
    ap (register_by p x text) (may_ask_same p q x same) ∙ by_turn (may_ask q x)
  where
    by_name : (read : Result (List ℕ) Denial) → register_named p x read ≡ register_named q x read
    by_name (Ok name) =
        ap (λ o. note.Register (who.Client x.id) (Some name) (and_then o (id_room name x.ids)))
        (exit_same x.id name p q same)
    by_name (Err rule) = refl

    by_turn : (o : Outcome) → register_by p x text o ≡ register_by q x text o
    by_turn Allowed = by_name (name_given text)
    by_turn (Denied rule) = refl

verdict_same : (s t : State) (id name : List ℕ) (q : Qos) → SaysSame id s.policy t.policy → s.up ≡ t.up
    → is_crowded (verdict s (origin.Client id) name q) ≡ false
    → is_crowded (verdict t (origin.Client id) name q) ≡ false
    → verdict s (origin.Client id) name q ≡ verdict t (origin.Client id) name q
verdict_same s t id name q same up one two =
    then_same (exit s.policy (origin.Client id) name) (exit t.policy (origin.Client id) name) (room s q)
    (room t q) (exit_same id name s.policy t.policy same) (room_same s t q up) one two

pub publish_same : (s t : State) (x : Client) (p : Publish) → SaysSame x.id s.policy t.policy → s.up ≡ t.up
    → tells_crowd (publish_ask s x p) ≡ false → tells_crowd (publish_ask t x p) ≡ false
    → publish_ask s x p ≡ publish_ask t x p
publish_same s t x p same up one two =
    agree_note (publish_by s x p) (publish_by t x p) (may_ask s.policy x) (may_ask t.policy x)
    (may_ask_same s.policy t.policy x same) by_turn one two
  where
    by_name : (read : Result (List ℕ) Denial)
        → tells_crowd (publish_named s x (qos_of p.flags.qos) read) ≡ false
        → tells_crowd (publish_named t x (qos_of p.flags.qos) read) ≡ false
        → publish_named s x (qos_of p.flags.qos) read ≡ publish_named t x (qos_of p.flags.qos) read
    by_name (Ok name) one two =
        ap (note.Publish (who.Client x.id) (Some name))
        (verdict_same s t x.id name (qos_of p.flags.qos) same up one two)
    by_name (Err rule) one two = refl

    by_turn : (o : Outcome) → tells_crowd (publish_by s x p o) ≡ false → tells_crowd (publish_by t x p o) ≡ false
        → publish_by s x p o ≡ publish_by t x p o
    by_turn Allowed one two =
        agree_note (publish_named s x (qos_of p.flags.qos)) (publish_named t x (qos_of p.flags.qos))
        (name_in s.policy (Some x.ids) p.flags.id_type p.topic_id)
        (name_in t.policy (Some x.ids) p.flags.id_type p.topic_id)
        (name_in_same x.id (Some x.ids) p.flags.id_type p.topic_id s.policy t.policy same) by_name one two
    by_turn (Denied rule) one two = refl

pub publish_once_same : (s t : State) (x : Client) (p : Publish) → SaysSame x.id s.policy t.policy
    → s.up ≡ t.up
    → tells_crowd (publish_once_ask s x p) ≡ false → tells_crowd (publish_once_ask t x p) ≡ false
    → publish_once_ask s x p ≡ publish_once_ask t x p
publish_once_same s t x p same up one two =
    agree_note (publish_once_by s x p) (publish_once_by t x p) (may_ask s.policy x) (may_ask t.policy x)
    (may_ask_same s.policy t.policy x same) by_turn one two
  where
    by_name : (read : Result (List ℕ) Denial) → tells_crowd (publish_once_named s x p read) ≡ false
        → tells_crowd (publish_once_named t x p read) ≡ false
        → publish_once_named s x p read ≡ publish_once_named t x p read
    by_name (Ok name) one two =
        ap (note.Publish (who.Client x.id) (Some name))
        (then_same (exit s.policy (origin.Client x.id) name) (exit t.policy (origin.Client x.id) name)
        (once_room s x p) (once_room t x p) (exit_same x.id name s.policy t.policy same)
        (once_room_same s t x p up) one two)
    by_name (Err rule) one two = refl

    by_turn : (o : Outcome) → tells_crowd (publish_once_by s x p o) ≡ false
        → tells_crowd (publish_once_by t x p o) ≡ false → publish_once_by s x p o ≡ publish_once_by t x p o
    by_turn Allowed one two =
        agree_note (publish_once_named s x p) (publish_once_named t x p)
        (name_in s.policy (Some x.ids) p.flags.id_type p.topic_id)
        (name_in t.policy (Some x.ids) p.flags.id_type p.topic_id)
        (name_in_same x.id (Some x.ids) p.flags.id_type p.topic_id s.policy t.policy same) by_name one two
    by_turn (Denied rule) one two = refl

pub subscribe_same : (s t : State) (x : Client) (r : TopicRequest) → SaysSame x.id s.policy t.policy
    → s.up ≡ t.up
    → tells_crowd (subscribe_ask s x r) ≡ false → tells_crowd (subscribe_ask t x r) ≡ false
    → subscribe_ask s x r ≡ subscribe_ask t x r
subscribe_same s t x r same up one two =
    agree_note (subscribe_by s x r) (subscribe_by t x r) (may_ask s.policy x) (may_ask t.policy x)
    (may_ask_same s.policy t.policy x same) by_turn one two
  where
    by_filter : (read : Result (List ℕ) Denial) → tells_crowd (subscribe_named s x r read) ≡ false
        → tells_crowd (subscribe_named t x r read) ≡ false
        → subscribe_named s x r read ≡ subscribe_named t x r read
    by_filter (Ok filter) one two =
        ap (note.Subscribe (who.Client x.id) (Some filter))
        (then_same (coverage s.policy x.id filter) (coverage t.policy x.id filter) (subscribe_room s x r filter)
        (subscribe_room t x r filter) (coverage_same x.id filter s.policy t.policy same)
        (subscribe_room_same s t x r filter up) one two)
    by_filter (Err rule) one two = refl

    by_turn : (o : Outcome) → tells_crowd (subscribe_by s x r o) ≡ false
        → tells_crowd (subscribe_by t x r o) ≡ false → subscribe_by s x r o ≡ subscribe_by t x r o
    by_turn Allowed one two =
        agree_note (subscribe_named s x r) (subscribe_named t x r) (filter_in s.policy r.flags.id_type r.topic)
        (filter_in t.policy r.flags.id_type r.topic)
        (filter_in_same x.id r.flags.id_type r.topic s.policy t.policy same) by_filter one two
    by_turn (Denied rule) one two = refl

pub unsubscribe_same : (p q : Policy) (x : Client) (r : TopicRequest) → SaysSame x.id p q
    → unsubscribe_ask p x r ≡ unsubscribe_ask q x r
unsubscribe_same p q x r same = by_turn (in_turn x)
  where
    by_turn : (o : Outcome) → unsubscribe_by p x r o ≡ unsubscribe_by q x r o
    by_turn Allowed = ap (unsubscribe_named x) (filter_in_same x.id r.flags.id_type r.topic p q same)
    by_turn (Denied rule) = refl

-- its CONNECT
pub entry_same : (s t : State) (connect : Connect) → SaysSame connect.client_id s.policy t.policy
    → is_crowded (entry s connect) ≡ false → is_crowded (entry t connect) ≡ false
    → entry s connect ≡ entry t connect
entry_same s t connect same one two =
    let id = connect.client_id in
    then_same (entry_form connect) (entry_form connect)
    (and_then (client_scope s.policy id) (entry_room s.policy.limits s.clients id))
    (and_then (client_scope t.policy id) (entry_room t.policy.limits t.clients id)) refl
    (then_same (client_scope s.policy id) (client_scope t.policy id) (entry_room s.policy.limits s.clients id)
    (entry_room t.policy.limits t.clients id) (client_scope_same id s.policy t.policy same)
    (entry_room_same s.policy.limits t.policy.limits s.clients t.clients id)) one two

-- The policy speaks first in each verdict, and want of the connection or of room behind it.
use Rattle.std.proofs.Common.{◌≡◌, ℕ, Bool, true, false, List, [], ◌∷◌, refl, sym, subst, if◌then◌else◌}
use Rattle.std.specs.Prelude.{not, is_some}
use Rattle.sng_grants.specs.Limits.{Limits}
use Rattle.sng_text.specs.declared.qos.Qos.{Qos}
use Rattle.sng_text.specs.declared.qos.Qos.TheVariants.{AtLeastOnce}
use Rattle.sng_grants.specs.Sources.{scope_of}
use Rattle.sng_grants.specs.declared.policy.Policy.{Policy}
use Rattle.sng_ids.specs.Ids.{Ids, is_full_for}
use Rattle.sng_states.specs.OpenIds as ids_open
use Rattle.sng_outbox.specs.declared.origin.Origin.{Origin}
use Rattle.sng_outbox.specs.declared.origin.Origin.TheVariants as origin
use Rattle.sng_book.specs.declared.outcome.Place.TheVariants as place
use Rattle.sng_book.specs.declared.outcome.Denial.{Denial}
use Rattle.sng_book.specs.declared.outcome.Denial.TheVariants.{Grant, Room}
use Rattle.sng_book.specs.declared.outcome.GrantDenial.TheVariants.{NoScope, UnknownSource, MissingPub}
use Rattle.sng_book.specs.declared.outcome.RoomDenial.TheVariants.{UpstreamDown, Full}
use Rattle.sng_book.specs.declared.outcome.Outcome.{Outcome}
use Rattle.sng_book.specs.declared.outcome.Outcome.TheVariants.{Allowed, Denied}
use Rattle.sng_history.specs.Links.{Link}
use Rattle.sng_history.specs.Packets.{has_place}
use Rattle.sng_history.specs.Room.{has_flight, room_in}
use Rattle.sng_history.specs.State.{State}
use Rattle.sng_history.specs.Verdicts.{exit, and_then, id_room, room, once_room, once_room_in}
use Rattle.sng_history.specs.Clients.{Client}
use Rattle.sng_laws.specs.LawsRules.{judged, may_publish, publish_rules}
use Rattle.sng_laws.specs.LawsPromise.{is_of_room, IsSaid}
use Rattle.sng_promise.proofs.Answers.LawRules.{exit_ruled}
use Rattle.sng_frames.specs.declared.messages.publish.Publish.{Publish}

-- ---- whose rules deny

-- a denial is the policy's own
abbrev pub IsOwn : Outcome → Type 0
IsOwn Allowed = Unit {0}
IsOwn (Denied rule) = is_of_room rule ≡ false

-- a denial is of the connection or of room
abbrev pub IsRoom : Outcome → Type 0
IsRoom Allowed = Unit {0}
IsRoom (Denied rule) = is_of_room rule ≡ true

two_own : (unlisted missing : Bool) (first second : Denial) → is_of_room first ≡ false
    → is_of_room second ≡ false
    → IsOwn (judged ((unlisted, first) ∷ (missing, second) ∷ []))
two_own true missing first second one two = one
two_own false true first second one two = two
two_own false false first second one two = tt

pub publish_own : (policy : Policy) (asker : Origin) (name : List ℕ)
    → IsOwn (judged (publish_rules policy asker name))
publish_own policy (origin.Client id) name =
    let scope = scope_of policy.clients id in
    two_own (not (is_some scope)) (not (may_publish scope name)) (Grant (NoScope id))
    (Grant (MissingPub name)) refl refl
publish_own policy (origin.Source ip) name =
    let scope = scope_of policy.sources ip in
    two_own (not (is_some scope)) (not (may_publish scope name)) (Grant UnknownSource)
    (Grant (MissingPub name)) refl refl

-- ---- room

room_if : (b : Bool) (o : Outcome) (rule : Denial) → IsRoom o → is_of_room rule ≡ true
    → IsRoom (if b then o else Denied rule)
room_if true o rule one two = one
room_if false o rule one two = two

pub link_room : (limits : Limits) (link : Link) (q : Qos) → IsRoom (room_in limits link q)
link_room limits link q =
    room_if (has_flight limits link q) (if has_place limits link then Allowed else Denied (Room (Full place.Outbox)))
    (Room (Full place.InFlight))
    (room_if (has_place limits link) Allowed (Room (Full place.Outbox)) tt refl) refl

pub publish_room : (s : State) (q : Qos) → IsRoom (room s q)
publish_room s q = room_if s.up (room_in s.policy.limits s.link q) (Room UpstreamDown)
    (link_room s.policy.limits s.link q) refl

full_room : (full : Bool) (o : Outcome) → IsRoom o
    → IsRoom (if full then Denied (Room (Full place.Exchanges)) else o)
full_room true o room = refl
full_room false o room = room

-- and for a publish at QoS 2
pub publish_once_room : (s : State) (x : Client) (p : Publish) → IsRoom (once_room s x p)
publish_once_room s x p =
    room_if s.up (once_room_in s x p) (Room UpstreamDown)
    (full_room (ids_open.is_full_for p.msg_id x.unreleased) (room_in s.policy.limits s.link AtLeastOnce)
    (link_room s.policy.limits s.link AtLeastOnce)) refl

ids_room : (b : Bool) → IsRoom (if b then Denied (Room (Full place.Ids)) else Allowed)
ids_room true = refl
ids_room false = tt

pub register_room : (name : List ℕ) (ids : Ids) → IsRoom (id_room name ids)
register_room name ids = ids_room (is_full_for name ids)

-- ---- what the policy says, and room behind it

said_so : (verdict more : Outcome) → IsOwn verdict → IsRoom more → IsSaid verdict (and_then verdict more)
said_so Allowed Allowed own room = refl
said_so Allowed (Denied rule) own room = rw room refl
said_so (Denied rule) more own room = rw own refl

-- an ask to publish under a name
pub asked_so : (policy : Policy) (asker : Origin) (name : List ℕ) (more : Outcome) → IsRoom more
    → IsSaid (judged (publish_rules policy asker name)) (and_then (exit policy asker name) more)
asked_so policy asker name more room =
    let verdict = judged (publish_rules policy asker name) in
    subst (λ o. IsSaid verdict (and_then o more)) (sym (exit_ruled policy asker name))
    (said_so verdict more (publish_own policy asker name) room)

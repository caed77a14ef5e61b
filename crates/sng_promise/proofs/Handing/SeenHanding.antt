-- What the notes of a row show of the messages for a client moves as the client does: by a hand-over, and as
-- what waits is gone.
use Rattle.std.proofs.Common.{◌≡◌, ℕ, Bool, true, false, List, [], ◌∷◌, refl, ap, sym, ◌∙◌, subst}
use Rattle.std.proofs.Common.{if◌then◌else◌}
use Rattle.std.specs.Prelude.{◌&&◌, is_some, is_none, Option, Some, None}
use Rattle.sng_text.specs.declared.qos.Qos.{Qos}
use Rattle.sng_text.specs.declared.qos.Qos.TheVariants.{AtMostOnce, AtLeastOnce}
use Rattle.sng_policy.specs.declared.grant.NameGrant.{NameGrant}
use Rattle.sng_policy.specs.declared.grant.NameGrant.TheVariants as on_name
use Rattle.sng_policy.specs.declared.permission.Permission.TheVariants as permission
use Rattle.sng_policy.specs.Grants.{receive_grant}
use Rattle.sng_states.specs.States.{takes_messages}
use Rattle.sng_ids.specs.Ids.{id_for, is_full_for}
use Rattle.sng_queue.specs.declared.exchange.Exchange.{Exchange}
use Rattle.sng_queue.specs.Messages.{Message}
use Rattle.sng_queue.specs.Buffers.{Buffer, nothing, settle}
use Rattle.sng_grants.specs.declared.policy.Policy.{Policy}
use Rattle.sng_book.specs.declared.decision.Decision.{Decision}
use Rattle.sng_book.specs.declared.decision.Decision.TheVariants as note
use Rattle.sng_book.specs.declared.outcome.Place.TheVariants as place
use Rattle.sng_book.specs.declared.outcome.Denial.TheVariants.{Room, Peer}
use Rattle.sng_book.specs.declared.outcome.RoomDenial.TheVariants.{Full}
use Rattle.sng_book.specs.declared.outcome.PeerDenial.TheVariants.{Gone}
use Rattle.sng_book.specs.declared.outcome.Outcome.{Outcome}
use Rattle.sng_book.specs.declared.outcome.Outcome.TheVariants.{Allowed, Denied}
use Rattle.sng_history.specs.Handing.{Known, known_as}
use Rattle.sng_history.specs.Clients.{Client, Around, handed, note_by}
use Rattle.sng_history.specs.Verdicts.{name_outcome}
use Rattle.sng_history.specs.Outgoing.{receive, behind, offered, judged_turn, turns, is_free, handed_over}
use Rattle.sng_history.specs.Outgoing.{all_gone}
use Rattle.sng_laws.specs.ViewsHanding.{is_refused_at_once}
use Rattle.sng_laws.specs.ViewsHanding.{last_number, is_idle}
use Rattle.sng_laws.specs.LawsTurns.{Moment, Occasion, may_deny, IsDeniedSo}
use Rattle.sng_history.proofs.Own.{same_self}
use Rattle.sng_promise.proofs.Names.Marked.{id_marked}
use Rattle.sng_promise.proofs.Names.SeenIds.{Telling}
use Rattle.sng_promise.proofs.Handing.SeenFollows.{Settling, settling_next, View, Follows, idle_with}
use Rattle.sng_promise.proofs.Handing.SeenTurns.{come_out}
use Rattle.sng_promise.proofs.Handing.SeenTurns.{announced_follows}
use Rattle.sng_promise.proofs.Handing.SeenHandingNotes.{view_by, Shown, at, occasion_by, Moved, moved_so}
use Rattle.sng_promise.proofs.Handing.SeenHandingNotes.{free_may, denied_step}
use Rattle.sng_promise.proofs.Handing.SeenHandingNotes.{meant_at, view_denied, denied_moved}
use Rattle.sng_promise.proofs.Handing.SeenHandingSent.{Turn, turn_free, left_moved, sent_moved}
use Rattle.sng_history.proofs.Turns.{none_right}

known_moved : (a : Around) (id : List ℕ) (due : List Message) (m : Message) (more : List Message)
    (notes : List Decision) (v : View)
    (x : Client) (known : Known) (q : Qos)
    → known_as a.policy x.ids m.name ≡ Some known → m.qos ≡ q → Turn a id due m more notes v x
    → Moved a id due (note.Hand id m.name Allowed ∷ behind q notes) v x
known_moved a id due m more notes v x known AtMostOnce knows q t =
    left_moved a id due m more notes v x known knows q t
known_moved a id due m more notes v x known AtLeastOnce knows q t =
    sent_moved a id due m more notes v x known knows q t

-- an id is announced, and nothing more leaves
announced_moved : (a : Around) (id : List ℕ) (due : List Message) (m : Message) (more : List Message)
    (notes : List Decision) (v : View)
    (x : Client)
    → known_as a.policy x.ids m.name ≡ None
    → Turn a id due m more notes v x → Moved a id due (note.Announce id m.name ∷ []) v x
announced_moved a id due m more notes v x unknown t =
    let f : Follows due v x.ids x.number (idle_with (m ∷ more)) =
    subst (Follows due v x.ids x.number) t.is t.shown in (
      record {
        phase = λ m fits. refl;
        turn = (
          λ own. (
            turn_free a id due m more notes v x t,
            meant_at a v x m.name None t.shown.telling.marks
                unknown,
          ),
          ap (id_for m.name) t.shown.telling.marks ∙ id_marked m.name v.told v.known,
        );
      },
      rw (same_self id, t.is) (announced_follows due v x.ids x.number m more a.clock f),
    )

offered_moved : (a : Around) (id : List ℕ) (due : List Message) (m : Message) (more : List Message)
    (notes : List Decision) (v : View)
    (x : Client) (known : Option Known) (full : Bool)
    → known_as a.policy x.ids m.name ≡ known → Turn a id due m more notes v x
    → Moved a id due (offered id m (is_some known) full notes) v x
offered_moved a id due m more notes v x (Some known) full knows t =
    known_moved a id due m more notes v x known m.qos knows refl t
offered_moved a id due m more notes v x None true knows t =
    denied_moved a id due notes v x m more None (Room (Full place.Ids)) refl
    (free_may (occasion_by a.cause) (at v x) (turn_free a id due m more notes v x t)) t.is refl t.shown
    (t.rest (come_out v m.name (Denied (Room (Full place.Ids)))) x.number)
offered_moved a id due m more notes v x None false knows t = announced_moved a id due m more notes v x knows t

-- what the policy denies as a message has its turn
abbrev pub DeniedByPolicy : Outcome → Type 0
DeniedByPolicy Allowed = Unit {0}
DeniedByPolicy (Denied rule) =
    (by : Occasion) (now : Moment) → may_deny by now ≡ true → IsDeniedSo by rule now

grant_denies : (id name : List ℕ) (g : NameGrant)
    → DeniedByPolicy (name_outcome permission.Subscribe (Some id) name g)
grant_denies id name on_name.Allowed = tt
grant_denies id name on_name.Unlisted = λ by now may. may
grant_denies id name on_name.Missing = λ by now may. may

pub policy_denies : (policy : Policy) (id name : List ℕ) → DeniedByPolicy (receive policy id name)
policy_denies policy id name = grant_denies id name (receive_grant policy id name)

judged_moved : (a : Around) (id : List ℕ) (due : List Message) (m : Message) (more : List Message)
    (notes : List Decision) (v : View)
    (x : Client) (o : Outcome)
    → is_refused_at_once o ≡ false → DeniedByPolicy o
    → Turn a id due m more notes v x → Moved a id due (judged_turn a.policy id x.ids m o notes) v x
judged_moved a id due m more notes v x Allowed refused denies t =
    offered_moved a id due m more notes v x (known_as a.policy x.ids m.name) (is_full_for m.name x.ids) refl t
judged_moved a id due m more notes v x (Denied rule) refused denies t =
    denied_moved a id due notes v x m more None rule refused
    (denies (occasion_by a.cause) (at v x)
    (free_may (occasion_by a.cause) (at v x) (turn_free a id due m more notes v x t))) t.is refl t.shown
    (t.rest (come_out v m.name (Denied rule)) x.number)

-- the policy refuses nothing before its turn
grant_waits : (id name : List ℕ) (g : NameGrant)
    → is_refused_at_once (name_outcome permission.Subscribe (Some id) name g) ≡ false
grant_waits id name on_name.Allowed = refl
grant_waits id name on_name.Unlisted = refl
grant_waits id name on_name.Missing = refl

pub never_refused : (policy : Policy) (id name : List ℕ) → is_refused_at_once (receive policy id name) ≡ false
never_refused policy id name = grant_waits id name (receive_grant policy id name)

pub turns_moved : (a : Around) (id : List ℕ) (due waiting : List Message) (v : View) (x : Client)
    → takes_messages x.phase ≡ true
    → x.buffer ≡ idle_with waiting → Shown due v x
    → Moved a id due (turns a.policy id x.ids waiting) v x
turns_moved a id due [] v x takes is shown = shown
turns_moved a id due (m ∷ more) v x takes is shown =
    judged_moved a id due m more (turns a.policy id x.ids more) v x (receive a.policy id m.name)
    (never_refused a.policy id m.name) (policy_denies a.policy id m.name)
    (record {
      is = is;
      shown = shown;
      takes = takes;
      rest = λ w number after. turns_moved a id due more w
          (record x { number = number; buffer = idle_with more }) takes refl after;
    })

-- what may leave of what waits leaves
takes_so : (takes : Bool) (e : Option Exchange) → (takes && is_none e) ≡ true → takes ≡ true
takes_so true e free = refl
takes_so false e free = absurd cc

free_moved : (a : Around) (due : List Message) (v : View) (x : Client) (free : Bool) → is_free x ≡ free
    → Shown due v x
    → Moved a x.id due (if free then turns a.policy x.id x.ids x.buffer.waiting else []) v x
free_moved a due v x true is shown =
    turns_moved a x.id due x.buffer.waiting v x (takes_so (takes_messages x.phase) x.buffer.exchange is)
    (ap (λ e. let b : Buffer = record { waiting = x.buffer.waiting; exchange = e } in b)
    (none_right (takes_messages x.phase) x.buffer.exchange is)) shown
free_moved a due v x false is shown = shown

pub handed_moved : (a : Around) (due : List Message) (v : View) (x : Client) → Shown due v x
    → Moved a x.id due (handed_over a.policy x) v x
handed_moved a due v x shown = free_moved a due v x (is_free x) refl shown

-- ---- what waits is gone

gone_client : (a : Around) (name : List ℕ) (x : Client) → x.buffer ≡ nothing
    → handed a name (Denied (Peer Gone)) x ≡ record x { buffer = nothing }
gone_client a name x empty = ap (λ b. let y : Client = record x { buffer = settle b } in y) empty

pub gone_moved : (a : Around) (id : List ℕ) (due waiting : List Message) (v : View) (x : Client)
    → x.buffer ≡ nothing
    → v.progress.unanswered ≡ None
    → Settling due v.progress.settled v.settled waiting → Telling v.told v.known x.ids
    → x.number ≡ last_number v.progress.numbered
    → Moved a id due (all_gone id waiting) v x
gone_moved a id due [] v x empty none settling telling given =
    subst (Follows due v x.ids x.number) (sym empty)
    (record {
      telling = telling;
      settling = settling;
      given = given;
      exchange = rw none refl;
      front = rw none tt;
    })
gone_moved a id due (m ∷ more) v x empty none settling telling given = (
  denied_step a id m.name (Peer Gone) v x (ap is_idle none),
  moved_so a id due (all_gone id more) (view_by a id due (note.Hand id m.name (Denied (Peer Gone))) v)
      (come_out v m.name (Denied (Peer Gone)))
      (note_by a (note.Hand id m.name (Denied (Peer Gone))) x) (record x { buffer = nothing })
      (view_denied a id due m.name (Peer Gone) v refl) (gone_client a m.name x empty)
      (gone_moved a id due more (come_out v m.name (Denied (Peer Gone))) (record x { buffer = nothing })
      refl refl
      (settling_next due v.progress.settled v.settled m more (Denied (Peer Gone)) settling) telling given),
)

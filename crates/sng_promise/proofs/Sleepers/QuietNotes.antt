-- Notes behind which nothing is sent to a client.
use Rattle.std.proofs.Common.{◌≡◌, ℕ, Bool, true, false, List, [], ◌∷◌, ◌++◌, refl, ap, sym, ◌∙◌, subst}
use Rattle.std.proofs.Common.{if◌then◌else◌}
use Rattle.std.specs.Prelude.{◌&&◌, is_none, Option, Some, None}
use Rattle.std.specs.List.{list_any}
use Rattle.sng_grants.specs.Limits.{Limits}
use Rattle.sng_grants.specs.declared.policy.Policy.{Policy}
use Rattle.sng_fan.specs.declared.held.Held.{Held}
use Rattle.sng_states.specs.States.{takes_messages, is_awake}
use Rattle.sng_queue.specs.Messages.{Message}
use Rattle.sng_queue.specs.Buffers.{Buffer}
use Rattle.sng_outbox.specs.declared.item.Publication.{Publication}
use Rattle.sng_book.specs.declared.decision.Decision.{Decision}
use Rattle.sng_book.specs.declared.decision.Decision.TheVariants as note
use Rattle.sng_book.specs.declared.outcome.Denial.{Denial}
use Rattle.sng_book.specs.declared.outcome.Denial.TheVariants.{Peer}
use Rattle.sng_book.specs.declared.outcome.PeerDenial.TheVariants.{BrokerRefused}
use Rattle.sng_book.specs.declared.outcome.Outcome.{Outcome}
use Rattle.sng_book.specs.declared.outcome.Outcome.TheVariants.{Allowed, Denied}
use Rattle.sng_book.specs.declared.out.Out.{Out}
use Rattle.sng_book.specs.declared.out.Out.TheVariants.{Send, Wire, Note}
use Rattle.sng_history.specs.Causes.{ByTick}
use Rattle.sng_history.specs.Arriving.{arrival, turned_away_by, turned_away}
use Rattle.sng_history.specs.Clients.{Around, Client}
use Rattle.sng_history.specs.Clients.{note_by}
use Rattle.sng_history.specs.Links.{Link}
use Rattle.sng_history.specs.Room.{room_in}
use Rattle.sng_history.specs.Standing.{Release, is_release, holds}
use Rattle.sng_history.specs.State.{State, around}
use Rattle.sng_history.specs.Verdicts.{coverage}
use Rattle.sng_history.specs.Outgoing.{turns, handed_over, all_gone}
use Rattle.sng_history.specs.Ticking.{will_of, is_unanswered}
use Rattle.sng_history.specs.Losing.{unplaced, will_dropped, lost_notes, exchange_again, again_notes}
use Rattle.sng_history.specs.Lawful.{end_of, ends_under, refused_end}
use Rattle.sng_history.specs.Whole.{frames_of}
use Rattle.sng_history.proofs.Hands.{Every, every_append, every_if}
use Rattle.sng_history.proofs.Steady.{handed_steady}

-- nothing is sent among these
abbrev pub NoneSent : List Out → Type 0
NoneSent [] = Unit {0}
NoneSent (Send to datagram ∷ outs) = ⊥
NoneSent (Note said ∷ outs) = NoneSent outs
NoneSent (Wire packet ∷ outs) = NoneSent outs

pub none_both : (xs ys : List Out) → NoneSent xs → NoneSent ys → NoneSent (xs ++ ys)
none_both [] ys one two = two
none_both (Send to datagram ∷ xs) ys one two = absurd one
none_both (Note said ∷ xs) ys one two = none_both xs ys one two
none_both (Wire packet ∷ xs) ys one two = none_both xs ys one two

none_if : (b : Bool) (outs : List Out) → NoneSent outs → NoneSent (if b then outs else [])
none_if true outs none = none
none_if false outs none = tt

-- ---- notes behind which nothing is sent

pub record Quiet (a : Around) (said : Decision) : Type 0 where
  pub sends : (dropped : List Release) (x : Client) → NoneSent (frames_of a dropped x said)
  pub sleeps : (x : Client) → is_awake x.phase ≡ false → is_awake (note_by a said x).phase ≡ false

quiet_end : (a : Around) (client filter : List ℕ) (o : Outcome) → Quiet a (note.End client filter o)
quiet_end a client filter o = record {
  sends = λ dropped x. none_if (list_any (is_release x.id filter) dropped) (Note note.Outbox ∷ []) tt;
  sleeps = λ x is. is;
}

quiet_hand : (a : Around) (client name : List ℕ) (rule : Denial)
    → Quiet a (note.Hand client name (Denied rule))
quiet_hand a client name rule = record {
  sends = λ dropped x. tt;
  sleeps = λ x is. ap is_awake (handed_steady a name (Denied rule) x).phase ∙ is;
}

quiet_gone : (a : Around) (client : List ℕ) (waiting : List Message)
    → Every (Quiet a) (all_gone client waiting)
quiet_gone a client [] = tt
quiet_gone a client (m ∷ more) = (quiet_hand a client m.name _, quiet_gone a client more)

quiet_ended : (a : Around) (client filter : List ℕ) (o : Outcome) → Every (Quiet a) (end_of client filter o)
quiet_ended a client filter Allowed = tt
quiet_ended a client filter (Denied rule) = (quiet_end a client filter (Denied rule), tt)

pub quiet_ends : (a : Around) (policy : Policy) (client : List ℕ) (held : List Held)
    → Every (Quiet a) (ends_under policy client held)
quiet_ends a policy client [] = tt
quiet_ends a policy client (h ∷ held) =
    let o = coverage policy client h.filter in
    every_append (Quiet a) (end_of client h.filter o) (ends_under policy client held)
    (quiet_ended a client h.filter o)
    (quiet_ends a policy client held)

pub quiet_refused : (a : Around) (x : Client) (filter : Option (List ℕ))
    → Every (Quiet a) (refused_end x filter)
quiet_refused a x None = tt
quiet_refused a x (Some filter) =
    every_if (Quiet a) (holds filter x) (note.End x.id filter (Denied (Peer BrokerRefused)) ∷ [])
    (quiet_end a x.id filter (Denied (Peer BrokerRefused)), tt)

quiet_turned : (a : Around) (client name : List ℕ) (o : Outcome)
    → Every (Quiet a) (turned_away_by client name o)
quiet_turned a client name Allowed = tt
quiet_turned a client name (Denied rule) = (quiet_hand a client name rule, tt)

pub quiet_away : (a : Around) (client : List ℕ) (due : Option Message) (b : Buffer)
    → Every (Quiet a) (turned_away client due b)
quiet_away a client None b = tt
quiet_away a client (Some m) b = quiet_turned a client m.name (arrival b m)

-- what waits for it goes on waiting
pub quiet_kept : (a : Around) (policy : Policy) (x : Client) → takes_messages x.phase ≡ false
    → Every (Quiet a) (handed_over policy x)
quiet_kept a policy x is =
    subst (Every (Quiet a))
    (sym (ap (λ b. let notes : List Decision = if b && is_none x.buffer.exchange
    then turns policy x.id x.ids x.buffer.waiting else [] in notes) is)) tt

quiet_unplaced : (s : State) (clock : ℕ) (id : List ℕ) (p : Publication) (o : Outcome)
    → Every (Quiet (around s (ByTick clock))) (unplaced id p o)
quiet_unplaced s clock id p Allowed = tt
quiet_unplaced s clock id p (Denied rule) = (record { sends = λ dropped x. tt; sleeps = λ x is. is }, tt)

quiet_dropped : (limits : Limits) (s : State) (clock : ℕ) (link : Link) (id : List ℕ) (ps : List Publication)
    → Every (Quiet (around s (ByTick clock))) (will_dropped limits link id ps)
quiet_dropped limits s clock link id [] = tt
quiet_dropped limits s clock link id (p ∷ ps) = quiet_unplaced s clock id p (room_in limits link p.qos)

pub quiet_lost : (limits : Limits) (s : State) (clock : ℕ) (link : Link) (x : Client)
    → Every (Quiet (around s (ByTick clock))) (lost_notes limits link x)
quiet_lost limits s clock link x =
    let a = around s (ByTick clock) in
    let will = will_of x.id x.wills.will in (
      record { sends = λ dropped y. tt; sleeps = λ y is. refl },
      every_append (Quiet a) (all_gone x.id x.buffer.waiting) (will_dropped limits link x.id will)
          (quiet_gone a x.id x.buffer.waiting)
          (quiet_dropped limits s clock link x.id will),
    )

pub quiet_again : (a : Around) (policy : Policy) (clock : ℕ) (x : Client) → takes_messages x.phase ≡ false
    → Every (Quiet a) (again_notes policy clock x)
quiet_again a policy clock x is =
    subst (Every (Quiet a))
    (sym
    (ap
    (λ b. let notes : List Decision = if b && is_unanswered clock x.buffer.exchange
    then exchange_again policy x x.buffer.exchange else [] in notes) is))
    tt

pub quiet_either : (a : Around) (b : Bool) (xs ys : List Decision) → Every (Quiet a) xs → Every (Quiet a) ys
    → Every (Quiet a) (if b then xs else ys)
quiet_either a true xs ys one two = one
quiet_either a false xs ys one two = two

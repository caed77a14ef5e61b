-- Each note of each plain row stands under the policy in force at that row.
use Rattle.std.proofs.Common.{ℕ, List, [], ◌∷◌, refl, sym, subst, Ok, Err}
use Rattle.std.specs.declared.result.Result.{Result}
use Rattle.std.specs.Prelude.{Option, Some, None}
use Rattle.sng_grants.specs.declared.policy.Policy.{Policy}
use Rattle.sng_frames.specs.Reading.{frame_of}
use Rattle.sng_frames.specs.declared.fault.FrameFault.{FrameFault}
use Rattle.sng_frames.specs.declared.fault.FrameFault.TheVariants as fault
use Rattle.sng_frames.specs.declared.frame.SnFrame.{SnFrame}
use Rattle.sng_frames.specs.declared.frame.SnFrame.TheVariants as frame
use Rattle.sng_frames.specs.declared.messages.publish.Publish.{Publish}
use Rattle.sng_frames.specs.declared.qos.FrameQos.{FrameQos}
use Rattle.sng_frames.specs.declared.qos.FrameQos.TheVariants as qos
use Rattle.sng_book.specs.declared.address.Address.{Address}
use Rattle.sng_book.specs.declared.event.Event.{Event}
use Rattle.sng_book.specs.declared.event.Event.TheVariants as event
use Rattle.sng_book.specs.declared.decision.Decision.{Decision}
use Rattle.sng_book.specs.declared.out.Out.{Out}
use Rattle.sng_book.specs.declared.out.Out.TheVariants.{Send, Wire, Note}
use Rattle.sng_book.specs.declared.row.Row.{Row}
use Rattle.sng_history.specs.Causes.{Cause, cause_of, datagram_cause, frame_cause, publish_cause}
use Rattle.sng_history.specs.Causes.{disconnect_cause}
use Rattle.sng_history.specs.State.{State, opening, state_of, policy_by}
use Rattle.sng_history.specs.Steps.{outs_by}
use Rattle.sng_history.specs.Good.{Each}
use Rattle.sng_history.specs.Lawful.{Lawful, fixed_for}
use Rattle.sng_laws.specs.LawsPromise.{AllStand, Stands}
use Rattle.sng_laws.specs.Views.{last_policy}
use Rattle.sng_promise.proofs.InForce.EachNote.{EachNote}
use Rattle.sng_promise.proofs.InForce.EachNoteRow.{note_fixed}
use Rattle.sng_history.proofs.Hands.{Every}
use Rattle.sng_promise.proofs.WantedFilters.HeldFilters.{OwnFilters}
use Rattle.sng_history.proofs.Keeping.{exact_by}
use Rattle.sng_history.proofs.Own.{each_map}
use Rattle.sng_promise.proofs.InForce.PromiseClients.{Broken, every_fixed}
use Rattle.sng_promise.proofs.InForce.PromiseNobody.{nobody_stands}
use Rattle.sng_promise.proofs.Clients.SeenState.{stands}
use Rattle.sng_promise.proofs.Standing.StandingFilters.{are_filters}

-- ---- what is no message

rule_broken : (from : Address) (broke : FrameFault) → Broken (datagram_cause from (Err broke))
rule_broken from fault.Malformed = refl
rule_broken from fault.NotSupported = refl
rule_broken from fault.TooLong = refl
rule_broken from fault.Memory = refl

publish_broken : (from : Address) (p : Publish) (q : FrameQos) → Broken (publish_cause from p q)
publish_broken from p qos.WithoutSession = tt
publish_broken from p qos.AtMostOnce = tt
publish_broken from p qos.AtLeastOnce = tt
publish_broken from p qos.ExactlyOnce = tt

disconnect_broken : (from : Address) (duration : Option ℕ) → Broken (disconnect_cause from duration)
disconnect_broken from None = tt
disconnect_broken from (Some duration) = tt

frame_broken : (from : Address) (message : SnFrame) → Broken (frame_cause from message)
frame_broken from (frame.Publish p) = publish_broken from p p.flags.qos
frame_broken from (frame.Disconnect duration) = disconnect_broken from duration
frame_broken from _ = tt

datagram_broken : (from : Address) (read : Result SnFrame FrameFault) → Broken (datagram_cause from read)
datagram_broken from (Ok message) = frame_broken from message
datagram_broken from (Err broke) = rule_broken from broke

cause_broken : (e : Event) → Broken (cause_of e)
cause_broken (event.Datagram from datagram) = datagram_broken from (frame_of datagram)
cause_broken (event.Broker p) = tt
cause_broken event.Up = tt
cause_broken event.Down = tt
cause_broken event.Take = tt
cause_broken (event.Replace policy) = tt
cause_broken (event.Tick clock) = tt

-- ---- the row

all_stand : (policy : Policy) (outs : List Out) → EachNote (Stands policy) outs → AllStand policy outs
all_stand policy [] each = tt
all_stand policy (Note said ∷ outs) each = (each.0, all_stand policy outs each.1)
all_stand policy (Send to datagram ∷ outs) each = all_stand policy outs each
all_stand policy (Wire packet ∷ outs) each = all_stand policy outs each

row_stands : (s : State) (c : Cause) → Broken c → Each OwnFilters s.clients
    → AllStand (policy_by c s.policy) (outs_by s c)
row_stands s c broken filters =
    let P : Decision → Type 0 = Stands (policy_by c s.policy) in
    all_stand (policy_by c s.policy) (outs_by s c)
    (note_fixed P s c
    (record {
      dropped = tt;
      nobody = nobody_stands s c broken;
      own =
          each_map OwnFilters (λ x. Every P (fixed_for s c x)) s.clients
          (λ x are. every_fixed s c x broken are) filters;
    }))

-- ---- the law

-- in plain rows that is the policy of the last replacement
abbrev pub EachStandsPlain : List Row → Type 0
EachStandsPlain [] = Unit {0}
EachStandsPlain (row ∷ earlier) = EachStandsPlain earlier × AllStand (last_policy (row ∷ earlier)) row.outs

pub promise_law : (h : List Row) → Lawful opening h → EachStandsPlain h
promise_law [] l = tt
promise_law (row ∷ h) l =
    let s = state_of opening h in
    let c = cause_of row.event in (
      promise_law h l.0,
      subst (λ policy. AllStand policy row.outs) (stands (row ∷ h) l).shown.policy
          (subst (AllStand (policy_by c s.policy)) (sym (exact_by s c row.outs l.1))
          (row_stands s c (cause_broken row.event) (are_filters h l.0))),
    )

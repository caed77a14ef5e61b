-- The state that a lawful history leads to is what its rows show.
use Rattle.std.proofs.Common.{◌≡◌, ℕ, Bool, false, List, [], ◌∷◌, ◌++◌, map, refl, ap, sym, ◌∙◌, subst}
use Rattle.std.proofs.Common.{Ok, Err}
use Rattle.std.specs.Prelude.{Option, Some, None}
use Rattle.std.specs.declared.result.Result.{Result}
use Rattle.sng_grants.specs.declared.policy.Policy.{Policy}
use Rattle.sng_frames.specs.Reading.{frame_of}
use Rattle.sng_frames.specs.declared.fault.FrameFault.{FrameFault}
use Rattle.sng_frames.specs.declared.messages.publish.Publish.{Publish}
use Rattle.sng_frames.specs.declared.qos.FrameQos.{FrameQos}
use Rattle.sng_frames.specs.declared.qos.FrameQos.TheVariants as qos
use Rattle.sng_frames.specs.declared.frame.SnFrame.{SnFrame}
use Rattle.sng_frames.specs.declared.frame.SnFrame.TheVariants as frame
use Rattle.sng_book.specs.declared.address.Address.{Address}
use Rattle.sng_book.specs.declared.event.Event.{Event}
use Rattle.sng_book.specs.declared.event.Event.TheVariants.{Datagram, Broker, Up, Down, Take, Replace, Tick}
use Rattle.sng_book.specs.declared.out.Out.{Out}
use Rattle.sng_book.specs.declared.row.Row.{Row}
use Rattle.sng_history.specs.Causes.{Cause, datagram_cause, publish_cause, cause_of}
use Rattle.sng_history.specs.Clients.{Client}
use Rattle.sng_history.specs.Notes.{notes_of}
use Rattle.sng_history.specs.State.{State, opening, around, after, state_of, later, is_known, policy_by}
use Rattle.sng_history.specs.State.{clock_by, up_by}
use Rattle.sng_history.specs.Lawful.{Lawful, fixed_for}
use Rattle.sng_history.specs.Steps.{outs_of, newcomers_for, client_next, next_of}
use Rattle.sng_history.specs.Good.{Good}
use Rattle.sng_laws.specs.Views.{last_policy, clock_at, is_up}
use Rattle.sng_laws.specs.ViewsMessages.{message_at}
use Rattle.sng_laws.specs.ViewsClients.{is_among, accepted, accepted_in}
use Rattle.sng_laws.specs.ViewsStanding.{standing_of, standing_after}
use Rattle.sng_laws.specs.LawsState.{ClientShown}
use Rattle.sng_history.proofs.Own.{each_with, each_map}
use Rattle.sng_history.proofs.Says.{says}
use Rattle.sng_history.proofs.Keeping.{exact_by, next_same}
use Rattle.sng_history.proofs.GoodNext.{good_next, good_opening}
use Rattle.sng_promise.proofs.Clients.SeenStrangers.{unheard_first, unheard_row}
use Rattle.sng_promise.proofs.Handing.SeenMailed.{Mailed}
use Rattle.sng_promise.proofs.Clients.LawStrangers.{row_admits, among_parts}
use Rattle.sng_promise.proofs.Link.SeenLink.{waits_row}
use Rattle.sng_promise.proofs.Standing.StandingNotes.{standing_by_notes}
use Rattle.sng_promise.proofs.Standing.StandingStrangers.{unknown_row}
use Rattle.sng_laws.specs.ViewsWills.{will_of}
use Rattle.sng_promise.proofs.Link.SeenPings.{Connected, pinged_row}
use Rattle.sng_promise.proofs.Handing.SeenViews.{InForce}
use Rattle.sng_promise.proofs.Sleepers.SeenPongs.{row_told}
use Rattle.sng_promise.proofs.Clients.SeenRows.{WillShown, Seen}
use Rattle.sng_promise.proofs.Clients.SeenOrder.{StateShown, Unstanding, each_left, clients_row, known_among}
use Rattle.sng_promise.proofs.Clients.SeenOrder.{order_row}

-- a datagram moves neither the policy nor the clock nor the connection
record Still (c : Cause) : Type 0 where
  policy : (before : Policy) → policy_by c before ≡ before
  clock : (before : ℕ) → clock_by c before ≡ before
  up : (before : Bool) → up_by c before ≡ before

publish_still : (from : Address) (p : Publish) (q : FrameQos) → Still (publish_cause from p q)
publish_still from p qos.WithoutSession = record { policy = λ b. refl; clock = λ b. refl; up = λ b. refl }
publish_still from p qos.AtMostOnce = record { policy = λ b. refl; clock = λ b. refl; up = λ b. refl }
publish_still from p qos.AtLeastOnce = record { policy = λ b. refl; clock = λ b. refl; up = λ b. refl }
publish_still from p qos.ExactlyOnce = record { policy = λ b. refl; clock = λ b. refl; up = λ b. refl }

disconnect_still : (from : Address) (duration : Option ℕ)
    → Still (datagram_cause from (Ok (frame.Disconnect duration)))
disconnect_still from None = record { policy = λ b. refl; clock = λ b. refl; up = λ b. refl }
disconnect_still from (Some duration) = record { policy = λ b. refl; clock = λ b. refl; up = λ b. refl }

still : (from : Address) (read : Result SnFrame FrameFault) → Still (datagram_cause from read)
still from (Ok (frame.Publish p)) = publish_still from p p.flags.qos
still from (Ok (frame.Disconnect duration)) = disconnect_still from duration
still from (Ok message) = record { policy = λ b. refl; clock = λ b. refl; up = λ b. refl }
still from (Err broke) = record { policy = λ b. refl; clock = λ b. refl; up = λ b. refl }

record Moved (s : State) (e : Event) (rows h : List Row) : Type 0 where
  policy : policy_by (cause_of e) s.policy ≡ last_policy rows
  clock : clock_by (cause_of e) s.clock ≡ clock_at rows
  up : up_by (cause_of e) s.up ≡ is_up rows

moved_row : (by : ℕ) (h : List Row) (s : State) (e : Event) (outs : List Out) → StateShown h s
    → Moved s e (record { by = by; event = e; outs = outs } ∷ h) h
moved_row by h s (Datagram from datagram) outs shown =
    let same = still from (frame_of datagram) in
    record {
      policy = same.policy s.policy ∙ shown.policy;
      clock = same.clock s.clock ∙ shown.clock;
      up = same.up s.up ∙ shown.up;
    }
moved_row by h s (Broker packet) outs shown =
    record { policy = shown.policy; clock = shown.clock; up = shown.up }
moved_row by h s Up outs shown = record { policy = shown.policy; clock = shown.clock; up = refl }
moved_row by h s Down outs shown = record { policy = shown.policy; clock = shown.clock; up = refl }
moved_row by h s Take outs shown = record { policy = shown.policy; clock = shown.clock; up = shown.up }
moved_row by h s (Replace policy) outs shown = record { policy = refl; clock = shown.clock; up = shown.up }
moved_row by h s (Tick clock) outs shown =
    record { policy = shown.policy; clock = ap (λ was. later was clock) shown.clock; up = shown.up }

abbrev Both : List Row → Client → Type 0
Both h x = ClientShown h x × Mailed h x

shown_row : (by : ℕ) (h : List Row) (s : State) (e : Event) → Good s → StateShown h s
    → StateShown (record { by = by; event = e; outs = outs_of s e } ∷ h) (next_of s e)
shown_row by h s e good shown =
    let c = cause_of e in
    let outs = outs_of s e in
    let moved = moved_row by h s e outs shown in
    let connected : Connected h s = record { up = shown.up; clock = shown.clock; pinged = shown.pinged } in
    let own = (says s c good.apart).own in
    let unstanding : Unstanding h s = λ id is.
    let none = ap (is_among id) (sym shown.order) ∙ (known_among id s.clients ∙ is) in
    (shown.strangers id none, shown.unheard id none) in
    let force : InForce (around s c) by h e outs =
    record { cause = refl; policy = moved.policy; clock = moved.clock } in
    let seen = clients_row by h s e outs force shown.clock
    (each_with (Both h) (WillShown h) (Seen h) s.clients
    (λ x both willed. record { shown = both.0; mailed = both.1; willed = willed })
    (each_with (ClientShown h) (Mailed h) (Both h) s.clients
    (λ x one two. (one, two)) shown.clients shown.mailed) shown.willed)
    (row_told s c good) unstanding own in
    let rows = record { by = by; event = e; outs = outs } ∷ h in
    let after = map (client_next s c) (s.clients ++ newcomers_for s c) in
    let away : (id : List ℕ) → is_among id (accepted h) ≡ false → is_known id s.clients ≡ false =
    λ id before. sym (known_among id s.clients) ∙ (ap (is_among id) shown.order ∙ before) in
    record {
      policy = moved.policy;
      clock = moved.clock;
      up = moved.up;
      waits =
          waits_row s e h connected shown.waits good.apart shown.order
          (each_map (ClientShown h) (λ x. x.filters ≡ standing_of x.id h) s.clients
          (λ x is. is.filters) shown.clients)
          (each_map (ClientShown h) (λ x. x.wills.will ≡ will_of x.id h) s.clients
          (λ x is. is.will) shown.clients)
          (each_left (λ x. notes_of x.id outs ≡ fixed_for s c x) s.clients (newcomers_for s c) own) moved.policy;
      pinged = pinged_row h s e connected;
      order = order_row s e h shown.order;
      clients = each_map (Seen rows) (ClientShown rows) after (λ x is. is.shown) seen;
      mailed = each_map (Seen rows) (Mailed rows) after (λ x is. is.mailed) seen;
      willed = each_map (Seen rows) (WillShown rows) after (λ x is. is.willed) seen;
      strangers = λ id none.
          let before : is_among id (accepted h) ≡ false =
          (among_parts id (accepted h) (accepted_in (accepted h) e outs) none).0 in
          ap (standing_after (message_at e) id outs) (shown.strangers id before)
          ∙ (standing_by_notes (message_at e) id outs [] ∙ unknown_row s e id (away id before));
      unheard = λ id none.
          let parts = among_parts id (accepted h) (accepted_in (accepted h) e outs) none in
          unheard_row by h s e id force (away id parts.0) (row_admits s e (accepted h) id parts.0 parts.1)
          (shown.unheard id parts.0);
    }

-- a state between rows of a lawful history
pub record Stands (h : List Row) (s : State) : Type 0 where
  pub good : Good s
  pub shown : StateShown h s

-- after a lawful row, too
stands_row : (by : ℕ) (h : List Row) (s : State) (e : Event) (outs : List Out) → outs ≡ outs_of s e
    → Stands h s
    → Stands (record { by = by; event = e; outs = outs } ∷ h) (after s (cause_of e) outs)
stands_row by h s e outs is stands =
    subst (λ o. Stands (record { by = by; event = e; outs = o } ∷ h) (after s (cause_of e) o)) (sym is)
    (subst (Stands (record { by = by; event = e; outs = outs_of s e } ∷ h))
    (sym (next_same s (cause_of e) stands.good))
    (record {
      good = good_next s (cause_of e) stands.good;
      shown = shown_row by h s e stands.good stands.shown;
    }))

pub stands : (h : List Row) → Lawful opening h → Stands h (state_of opening h)
stands [] l =
    record {
      good = good_opening;
      shown =
          record {
            policy = refl;
            clock = refl;
            up = refl;
            waits = refl;
            pinged = refl;
            order = refl;
            clients = tt;
            mailed = tt;
            willed = tt;
            strangers = λ id none. refl;
            unheard = λ id none. unheard_first id;
          };
    }
stands (row ∷ h) l =
    stands_row row.by h (state_of opening h) row.event row.outs
    (exact_by (state_of opening h) (cause_of row.event) row.outs l.1)
    (stands h l.0)

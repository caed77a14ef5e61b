-- What a tick does to a client in two states that it cannot tell apart.
use Rattle.std.proofs.Common.{◌≡◌, ℕ, Bool, true, false, List, [], ◌∷◌, ◌++◌, map, refl, ap, ap₂, sym, ◌∙◌, subst}
use Rattle.std.proofs.Common.{if◌then◌else◌}
use Rattle.std.specs.Prelude.{Option, Some, None}
use Rattle.std.specs.List.{flat_map}
use Rattle.sng_grants.specs.Limits.{Limits}
use Rattle.sng_outbox.specs.declared.item.Item.TheVariants as item
use Rattle.sng_outbox.specs.declared.item.Publication.{Publication}
use Rattle.sng_book.specs.declared.address.Address.{Address}
use Rattle.sng_book.specs.declared.outcome.Outcome.{Outcome}
use Rattle.sng_book.specs.declared.outcome.Outcome.TheVariants.{Allowed, Denied}
use Rattle.sng_history.specs.Causes.{ByTick}
use Rattle.sng_history.specs.Clients.{Client}
use Rattle.sng_history.specs.Links.{Link}
use Rattle.sng_history.specs.Outgoing.{all_gone}
use Rattle.sng_history.specs.Room.{room_in}
use Rattle.sng_history.specs.State.{State, around, later}
use Rattle.sng_history.specs.Ticking.{will_of, testament, testaments, all_placed, with_wills, is_lost_at}
use Rattle.sng_history.specs.Ticking.{ping_dropped}
use Rattle.sng_history.specs.Losing.{before, unplaced, will_dropped, lost_notes, again_notes, tick_notes}
use Rattle.sng_history.specs.Whole.{part}
use Rattle.sng_history.specs.Lawful.{fixed_for}
use Rattle.sng_history.specs.Steps.{outs_by, next_by}
use Rattle.sng_history.proofs.Hands.{Every}
use Rattle.sng_history.proofs.Own.{same_means}
use Rattle.sng_isolation.specs.Room.{is_crowded, HasRoom}
use Rattle.sng_isolation.specs.Isolation.{kept_of}
use Rattle.sng_isolation.proofs.Alike.{mine, Alike, Sound, GoesOn}
use Rattle.sng_isolation.proofs.Crowds.{room_allowed}
use Rattle.sng_isolation.proofs.Roomy.{Roomy, every_right}
use Rattle.sng_isolation.proofs.Noted.{tick_same}
use Rattle.sng_isolation.proofs.Fan.{own_part, kept_is}
use Rattle.sng_isolation.proofs.Wills.{FindsRoom, WillFindsRoom, wills_trace, ticked_mine}
use Rattle.sng_isolation.proofs.Common.{SameNotes, says_alike, roomy_fixed, rows_common, kept_common}
use Rattle.sng_isolation.proofs.SilentUpstream.{behind_same, silent_ping}

tick_notes_same : (id : List ℕ) (own : List Address) (s t : State) (clock : ℕ) → Sound id own s → Sound id own t
    → Alike id s t → HasRoom id (outs_by s (ByTick clock)) → HasRoom id (outs_by t (ByTick clock))
    → SameNotes id s t (ByTick clock)
tick_notes_same id own s t clock sound also alike room other x is it =
    let now = later s.clock clock in
    let then_time = later t.clock clock in
    let same_time : then_time ≡ now = ap (λ k. later k clock) (sym alike.clock) in
    let at_now : tick_notes t.policy t.link then_time t.clients x ≡ tick_notes t.policy t.link now t.clients x =
    ap (λ k. tick_notes t.policy t.link k t.clients x) same_time in
    tick_same s t now x (says_alike id s t x alike is)
    (roomy_fixed id s (ByTick clock) x sound.good room is)
    (subst (Every Roomy) at_now (roomy_fixed id t (ByTick clock) x also.good other it))
    ∙ sym at_now

-- ---- the client's will

will_room : (limits : Limits) (link : Link) (id : List ℕ) (ps : List Publication)
    → Every Roomy (will_dropped limits link id ps)
    → FindsRoom limits link ps
will_room limits link id [] roomy = tt
will_room limits link id (p ∷ ps) roomy = by_room (room_in limits link p.qos) refl roomy
  where
    by_room : (o : Outcome) → room_in limits link p.qos ≡ o → Every Roomy (unplaced id p o)
        → room_in limits link p.qos ≡ Allowed
    by_room Allowed is free = is
    by_room (Denied rule) is free =
        room_allowed limits link p.qos (subst (λ o. is_crowded o ≡ false) (sym is) free.0)

tick_room : (s : State) (now : ℕ) (x : Client) → Every Roomy (tick_notes s.policy s.link now s.clients x)
    → FindsRoom s.policy.limits (all_placed s.policy.limits s.link (testaments now (before x.id s.clients)))
    (testament now x)
tick_room s now x = by_lost (is_lost_at now x)
  where
    by_lost : (b : Bool)
        → (let link = all_placed s.policy.limits s.link (testaments now (before x.id s.clients)) in
        Every Roomy (if b then lost_notes s.policy.limits link x else again_notes s.policy now x)
        → FindsRoom s.policy.limits link (if b then will_of x.id x.wills.will else []))
    by_lost true roomy =
        let link = all_placed s.policy.limits s.link (testaments now (before x.id s.clients)) in
        will_room s.policy.limits link x.id (will_of x.id x.wills.will)
        (every_right Roomy (all_gone x.id x.buffer.waiting)
        (will_dropped s.policy.limits link x.id (will_of x.id x.wills.will))
        roomy.1)
    by_lost false roomy = tt

kept_room : (id : List ℕ) (own : List Address) (s : State) (clock : ℕ) → Sound id own s
    → HasRoom id (outs_by s (ByTick clock))
    → WillFindsRoom s.policy.limits id (later s.clock clock) s.link s.clients (kept_of id s.clients)
kept_room id own s clock sound room = by_kept (kept_of id s.clients) refl
  where
    by_kept : (o : Option Client) → kept_of id s.clients ≡ o
        → WillFindsRoom s.policy.limits id (later s.clock clock) s.link s.clients o
    by_kept None is = tt
    by_kept (Some x) is =
        let now = later s.clock clock in
        subst (λ d. FindsRoom s.policy.limits
        (all_placed s.policy.limits s.link (testaments now (before d s.clients))) (testament now x))
        (sym (same_means id x.id (kept_is id x s.clients is)))
        (tick_room s now x (roomy_fixed id s (ByTick clock) x sound.good room is))

tick_waits : (id : List ℕ) (own : List Address) (s : State) (clock : ℕ) → Sound id own s
    → HasRoom id (outs_by s (ByTick clock))
    → mine id (next_by s (ByTick clock)).link.waiting
    ≡ mine id s.link.waiting
    ++ own_part (λ x. map item.Publish (testament (later s.clock clock) x)) (kept_of id s.clients)
tick_waits id own s clock sound room =
    let now = later s.clock clock in
    ticked_mine s.policy.limits id s.up s.link now s.clients
    ∙ wills_trace s.policy.limits id now s.link s.clients sound.good.apart (kept_room id own s clock sound room)

pub common_tick : (id : List ℕ) (own : List Address) (s t : State) (clock : ℕ) → Sound id own s
    → Sound id own t → Alike id s t → HasRoom id (outs_by s (ByTick clock))
    → HasRoom id (outs_by t (ByTick clock))
    → GoesOn id own s t (ByTick clock) (ByTick clock)
common_tick id own s t clock sound also alike room other =
    let c = ByTick clock in
    let now = later s.clock clock in
    let then_time = later t.clock clock in
    let notes : SameNotes id s t c = tick_notes_same id own s t clock sound also alike room other in
    record {
      traces =
          behind_same id own (flat_map (λ x. part (around s c) [] (fixed_for s c x) x) s.clients)
          (ping_dropped s.policy.limits s.up (with_wills s.policy.limits s.link now s.clients) now)
          (flat_map (λ x. part (around t c) [] (fixed_for t c x) x) t.clients)
          (ping_dropped t.policy.limits t.up (with_wills t.policy.limits t.link then_time t.clients) then_time)
          (rows_common id own s t c [] [] (λ x. refl) sound also alike notes)
          (silent_ping s.policy.limits id own s.up (with_wills s.policy.limits s.link now s.clients) now)
          (silent_ping t.policy.limits id own t.up (with_wills t.policy.limits t.link then_time t.clients)
          then_time);
      alike = record {
        kept = kept_common id s t c refl alike notes;
        policy = alike.policy;
        clock = ap (λ k. later k clock) alike.clock;
        up = alike.up;
        waits =
            tick_waits id own s clock sound room
            ∙ (ap₂ (λ items more. items ++ more) alike.waits
            (ap₂ (λ k o. own_part (λ x. map item.Publish (testament (later k clock) x)) o) alike.clock alike.kept)
            ∙ sym (tick_waits id own t clock also other));
      };
    }

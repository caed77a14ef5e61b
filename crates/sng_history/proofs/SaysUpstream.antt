-- What leaves for the broker, and what a source or a packet of the broker brings, is no client's; and it
-- leaves with the outcomes that the step fixes.
use Rattle.std.proofs.Common.{◌≡◌, ℕ, Bool, true, false, List, [], ◌∷◌, ◌++◌, refl, ap, ◌∙◌}
use Rattle.std.specs.Prelude.{if◌then◌else◌, Option, Some, None, Ok, Err}
use Rattle.std.specs.declared.result.Result.{Result}
use Rattle.std.proofs.lemmas.List.{append-nil}
use Rattle.sng_policy.specs.Grants.{lists_source}
use Rattle.sng_frames.specs.declared.messages.publish.Publish.{Publish}
use Rattle.sng_text.specs.Texts.{is_name}
use Rattle.sng_outbox.specs.declared.in_flight.InFlight.{InFlight}
use Rattle.sng_outbox.specs.declared.item.Item.{Item}
use Rattle.sng_outbox.specs.declared.item.Item.TheVariants as item
use Rattle.sng_outbox.specs.declared.item.Publication.{Publication}
use Rattle.sng_grants.specs.Limits.{Limits}
use Rattle.sng_grants.specs.declared.policy.Policy.{Policy}
use Rattle.sng_book.specs.declared.decision.Decision.{Decision}
use Rattle.sng_book.specs.declared.decision.Decision.TheVariants as note
use Rattle.sng_book.specs.declared.decision.Who.TheVariants as who
use Rattle.sng_book.specs.declared.outcome.Denial.{Denial}
use Rattle.sng_book.specs.declared.outcome.Denial.TheVariants.{Form}
use Rattle.sng_book.specs.declared.outcome.FormDenial.TheVariants.{BadName}
use Rattle.sng_book.specs.declared.outcome.Outcome.{Outcome}
use Rattle.sng_book.specs.declared.outcome.Outcome.TheVariants.{Allowed, Denied}
use Rattle.sng_book.specs.declared.out.Out.{Out}
use Rattle.sng_book.specs.declared.out.Out.TheVariants.{Note}
use Rattle.sng_history.specs.Causes.{ByUp, ByTake}
use Rattle.sng_history.specs.Notes.{notes_of, said_of, exits_in, exits_of_out}
use Rattle.sng_history.specs.Links.{Link, wants, may_open, next_packet_id, packet_id_by, exited, resumed}
use Rattle.sng_history.specs.Links.{outgoing}
use Rattle.sng_history.specs.Links.{filters_wanted, subscribe_sent, subscribe_left}
use Rattle.sng_history.specs.Links.{unsubscribe_left}
use Rattle.sng_history.specs.State.{State}
use Rattle.sng_history.specs.Ticking.{is_ping_due, ping_dropped}
use Rattle.sng_history.specs.Verdicts.{source_ask, named_ask, name_in, exit}
use Rattle.sng_history.specs.Exits.{exits_of, forwarded, subscribe_packet, unsubscribe_packet, subscribing}
use Rattle.sng_history.specs.Exits.{subscribe_out, subscribe_leaves, leaving, agains_of, sent_again, resending}
use Rattle.sng_history.specs.Packets.{Answer, Delivers, Acknowledges, Grants, Refuses, Confirms}
use Rattle.sng_history.specs.Packets.{Strange as StrangePacket, owed, has_place, dropped, misnamed}
use Rattle.sng_history.specs.Packets.{answer_outs}
use Rattle.sng_history.specs.Lawful.{exits_for}
use Rattle.sng_history.specs.Steps.{outs_by}
use Rattle.sng_history.proofs.Own.{notes_append, exits_append}
use Rattle.sng_history.proofs.Spelled.{Mute, mute_none, mute_both, mute_if}

-- ---- what leaves for the broker

forwarded_says : (p : Publication) (packet_id : Option ℕ) (o : Outcome) (outs : List Out)
    → exits_in (forwarded p packet_id o ++ outs) ≡ o ∷ exits_in outs
forwarded_says p packet_id Allowed outs = refl
forwarded_says p packet_id (Denied rule) outs = refl

-- an out without exits adds none, and one of nobody adds no note
no_wire_exits : (b : Bool) (out : Out) (outs : List Out) → exits_of_out out ≡ []
    → exits_in ((if b then [] else out ∷ []) ++ outs) ≡ exits_in outs
no_wire_exits true out outs none = refl
no_wire_exits false out outs none = ap (λ exits. exits ++ exits_in outs) none

no_wire_none : (d : List ℕ) (b : Bool) (out : Out) (outs : List Out) → said_of d out ≡ []
    → notes_of d ((if b then [] else out ∷ []) ++ outs) ≡ notes_of d outs
no_wire_none d true out outs none = refl
no_wire_none d false out outs none = ap (λ notes. notes ++ notes_of d outs) none

-- outs without a note in front of others
front_exits : (front outs : List Out) → Mute front → exits_in (front ++ outs) ≡ exits_in outs
front_exits front outs mute = exits_append front outs ∙ ap (λ exits. exits ++ exits_in outs) mute.exits

front_none : (d : List ℕ) (front outs : List Out) → Mute front → notes_of d (front ++ outs) ≡ notes_of d outs
front_none d front outs mute =
    notes_append d front outs ∙ ap (λ notes. notes ++ notes_of d outs) (mute.notes d)

-- a SUBSCRIBE has no note
mute_subscribe : (link : Link) (filter : List ℕ) → Mute (subscribe_out link filter)
mute_subscribe link filter =
    mute_if (may_open link.wanted filter) (subscribe_packet (next_packet_id link) filter ∷ [])
    (record { notes = λ c. refl; exits = refl; asks = λ q. refl })

mute_leaves : (link : Link) (filter : List ℕ) → Mute (subscribe_leaves link filter)
mute_leaves link filter =
    mute_if (wants link.wanted filter) (subscribe_out link filter) (mute_subscribe link filter)

pub leaving_exits : (policy : Policy) (link : Link) (items : List Item)
    → exits_in (leaving link items (exits_of policy items)) ≡ exits_of policy items
leaving_exits policy link [] = refl
leaving_exits policy link (item.Publish p ∷ items) =
    let o = exit policy p.origin p.name in
    forwarded_says p (packet_id_by link p.qos) o (leaving (exited link p o) items (exits_of policy items))
    ∙ ap (λ outcomes. o ∷ outcomes) (leaving_exits policy (exited link p o) items)
leaving_exits policy link (item.Subscribe filter ∷ items) =
    front_exits (subscribe_leaves link filter) (leaving (subscribe_left link filter) items (exits_of policy items))
    (mute_leaves link filter)
    ∙ leaving_exits policy (subscribe_left link filter) items
leaving_exits policy link (item.Unsubscribe filter ∷ items) =
    no_wire_exits (wants link.wanted filter) (unsubscribe_packet (next_packet_id link) filter)
    (leaving (unsubscribe_left link filter) items (exits_of policy items)) refl
    ∙ leaving_exits policy (unsubscribe_left link filter) items
leaving_exits policy link (item.Acknowledge packet_id ∷ items) = leaving_exits policy link items
leaving_exits policy link (item.Ping ∷ items) = leaving_exits policy link items

forwarded_none : (d : List ℕ) (p : Publication) (packet_id : Option ℕ) (o : Outcome) (outs : List Out)
    → notes_of d (forwarded p packet_id o ++ outs) ≡ notes_of d outs
forwarded_none d p packet_id Allowed outs = refl
forwarded_none d p packet_id (Denied rule) outs = refl

pub leaving_none : (d : List ℕ) (policy : Policy) (link : Link) (items : List Item)
    → notes_of d (leaving link items (exits_of policy items)) ≡ []
leaving_none d policy link [] = refl
leaving_none d policy link (item.Publish p ∷ items) =
    let o = exit policy p.origin p.name in
    forwarded_none d p (packet_id_by link p.qos) o (leaving (exited link p o) items (exits_of policy items))
    ∙ leaving_none d policy (exited link p o) items
leaving_none d policy link (item.Subscribe filter ∷ items) =
    front_none d (subscribe_leaves link filter)
    (leaving (subscribe_left link filter) items (exits_of policy items)) (mute_leaves link filter)
    ∙ leaving_none d policy (subscribe_left link filter) items
leaving_none d policy link (item.Unsubscribe filter ∷ items) =
    no_wire_none d (wants link.wanted filter) (unsubscribe_packet (next_packet_id link) filter)
    (leaving (unsubscribe_left link filter) items (exits_of policy items)) refl
    ∙ leaving_none d policy (unsubscribe_left link filter) items
leaving_none d policy link (item.Acknowledge packet_id ∷ items) = leaving_none d policy link items
leaving_none d policy link (item.Ping ∷ items) = leaving_none d policy link items

-- SUBSCRIBEs have no notes
pub mute_subscribing : (link : Link) (filters : List (List ℕ)) → Mute (subscribing link filters)
mute_subscribing link [] = mute_none
mute_subscribing link (filter ∷ filters) =
    mute_both (subscribe_out link filter) (subscribing (subscribe_sent link filter) filters)
    (mute_subscribe link filter)
    (mute_subscribing (subscribe_sent link filter) filters)

pub take_exits : (s : State) (up : Bool) → s.up ≡ up → exits_in (outs_by s ByTake) ≡ exits_for s ByTake
take_exits s true is = rw is (leaving_exits s.policy s.link (outgoing s.link))
take_exits s false is = rw is refl

pub take_none : (s : State) (d : List ℕ) (up : Bool) → s.up ≡ up → notes_of d (outs_by s ByTake) ≡ []
take_none s d true is = rw is (leaving_none d s.policy s.link (outgoing s.link))
take_none s d false is = rw is refl

-- ---- what is sent again

again_says : (sent : InFlight) (o : Outcome) (outs : List Out)
    → exits_in (sent_again sent o ++ outs) ≡ o ∷ exits_in outs
again_says sent Allowed outs = refl
again_says sent (Denied rule) outs = refl

pub resending_exits : (policy : Policy) (flights : List InFlight)
    → exits_in (resending flights (agains_of policy flights)) ≡ agains_of policy flights
resending_exits policy [] = refl
resending_exits policy (sent ∷ flights) =
    let o = exit policy sent.publication.origin sent.publication.name in
    again_says sent o (resending flights (agains_of policy flights))
    ∙ ap (λ outcomes. o ∷ outcomes) (resending_exits policy flights)

again_none : (d : List ℕ) (sent : InFlight) (o : Outcome) (outs : List Out)
    → notes_of d (sent_again sent o ++ outs) ≡ notes_of d outs
again_none d sent Allowed outs = refl
again_none d sent (Denied rule) outs = refl

pub resending_none : (d : List ℕ) (policy : Policy) (flights : List InFlight)
    → notes_of d (resending flights (agains_of policy flights)) ≡ []
resending_none d policy [] = refl
resending_none d policy (sent ∷ flights) =
    again_none d sent (exit policy sent.publication.origin sent.publication.name)
    (resending flights (agains_of policy flights)) ∙ resending_none d policy flights

abbrev anew : State → List Out
anew s = subscribing (resumed s.link s.clock (agains_of s.policy s.link.in_flight)) (filters_wanted s.link)

pub up_exits : (s : State) → exits_in (outs_by s ByUp) ≡ exits_for s ByUp
up_exits s =
    let back = resending s.link.in_flight (agains_of s.policy s.link.in_flight) in
    exits_append back (anew s)
    ∙ (ap (λ exits. exits_in back ++ exits)
    (mute_subscribing (resumed s.link s.clock (agains_of s.policy s.link.in_flight))
    (filters_wanted s.link)).exits
    ∙ (append-nil (exits_in back) ∙ resending_exits s.policy s.link.in_flight))

pub up_none : (s : State) (d : List ℕ) → notes_of d (outs_by s ByUp) ≡ []
up_none s d =
    let back = resending s.link.in_flight (agains_of s.policy s.link.in_flight) in
    notes_append d back (anew s)
    ∙ (ap (λ notes. notes ++ notes_of d (anew s)) (resending_none d s.policy s.link.in_flight)
    ∙ (mute_subscribing (resumed s.link s.clock (agains_of s.policy s.link.in_flight))
    (filters_wanted s.link)).notes d)

-- ---- a packet of the broker

mute_note : (b : Bool) (said : Decision) → Mute (Note said ∷ []) → Mute (if b then [] else Note said ∷ [])
mute_note true said m = mute_none
mute_note false said m = m

mute_dropped : (place : Bool) (o : Option ℕ) → Mute (dropped place o)
mute_dropped place None = mute_none
mute_dropped place (Some packet_id) =
    mute_note place note.Outbox (record { notes = λ c. refl; exits = refl; asks = λ q. refl })

pub mute_packet : (limits : Limits) (up : Bool) (link : Link) (a : Answer) → Mute (answer_outs limits up link a)
mute_packet limits up link (Delivers p) =
    mute_both (misnamed p.name) (dropped (has_place limits link) (owed up p))
    (mute_note (is_name p.name) (note.Frame who.Broker (Denied (Form BadName)))
    (record { notes = λ c. refl; exits = refl; asks = λ q. refl }))
    (mute_dropped (has_place limits link) (owed up p))
mute_packet limits up link (Acknowledges packet_id) = mute_none
mute_packet limits up link (Grants packet_id) = mute_none
mute_packet limits up link (Refuses packet_id) = mute_none
mute_packet limits up link Confirms = mute_none
mute_packet limits up link StrangePacket = record { notes = λ c. refl; exits = refl; asks = λ q. refl }

-- ---- a PINGREQ for which there is no place at a tick

mute_full : (has : Bool) → Mute (if has then [] else Note note.Outbox ∷ [])
mute_full has = mute_note has note.Outbox (record { notes = λ c. refl; exits = refl; asks = λ q. refl })

pub mute_ping : (limits : Limits) (up : Bool) (link : Link) (clock : ℕ)
    → Mute (ping_dropped limits up link clock)
mute_ping limits up link clock =
    mute_if (is_ping_due up link clock) (if has_place limits link then [] else Note note.Outbox ∷ [])
    (mute_full (has_place limits link))

-- ---- a publish of a source

-- its note is no client's
pub record Foreign (outs : List Out) : Type 0 where
  pub notes : (c : List ℕ) → notes_of c outs ≡ []
  pub exits : exits_in outs ≡ []

foreign_named : (s : State) (source : List ℕ) (named : Result (List ℕ) Denial)
    → Foreign (Note (named_ask s source named) ∷ [])
foreign_named s source (Ok name) = record { notes = λ c. refl; exits = refl }
foreign_named s source (Err rule) = record { notes = λ c. refl; exits = refl }

foreign_ask : (s : State) (source : List ℕ) (p : Publish) (listed : Bool)
    → lists_source s.policy source ≡ listed → Foreign (Note (source_ask s source p) ∷ [])
foreign_ask s source p true is =
    rw is (foreign_named s source (name_in s.policy None p.flags.id_type p.topic_id))
foreign_ask s source p false is = rw is (record { notes = λ c. refl; exits = refl })

pub foreign_source : (s : State) (source : List ℕ) (p : Publish) → Foreign (Note (source_ask s source p) ∷ [])
foreign_source s source p = foreign_ask s source p (lists_source s.policy source) refl

pub foreign : (outs : List Out) → Mute outs → Foreign outs
foreign outs mute = record { notes = mute.notes; exits = mute.exits }

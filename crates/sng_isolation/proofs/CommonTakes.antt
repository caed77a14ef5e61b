-- What a take does to a client in two states that it cannot tell apart: its own publishes leave alike.
use Rattle.std.proofs.Common.{◌≡◌, ℕ, Bool, true, false, List, [], ◌∷◌, ◌++◌, map, refl, ap, ap₂, sym, ◌∙◌, cond}
use Rattle.std.proofs.Common.{subst, if◌then◌else◌}
use Rattle.std.specs.Prelude.{Option}
use Rattle.sng_grants.specs.declared.policy.Policy.{Policy}
use Rattle.sng_outbox.specs.declared.item.Item.{Item}
use Rattle.sng_outbox.specs.declared.item.Item.TheVariants as item
use Rattle.sng_outbox.specs.declared.item.Publication.{Publication}
use Rattle.sng_outbox.specs.declared.origin.Origin.{Origin}
use Rattle.sng_outbox.specs.declared.origin.Origin.TheVariants as origin
use Rattle.sng_book.specs.Whom.{who_of}
use Rattle.sng_book.specs.declared.address.Address.{Address}
use Rattle.sng_book.specs.declared.decision.Decision.TheVariants as note
use Rattle.sng_book.specs.declared.outcome.Outcome.{Outcome}
use Rattle.sng_book.specs.declared.outcome.Outcome.TheVariants.{Allowed, Denied}
use Rattle.sng_book.specs.declared.out.Out.{Out}
use Rattle.sng_book.specs.declared.out.Out.TheVariants.{Note, Wire}
use Rattle.sng_book.specs.Traces.{trace_of}
use Rattle.sng_history.specs.Causes.{ByTake}
use Rattle.sng_history.specs.Exits.{exits_of, forwarded}
use Rattle.sng_history.specs.Exits.{leaving}
use Rattle.sng_history.specs.Exits.{subscribe_leaves, subscribe_packet}
use Rattle.sng_history.specs.Links.{Link, wants, packet_id_by, exited}
use Rattle.sng_history.specs.Links.{subscribe_left, unsubscribe_left}
use Rattle.sng_history.specs.Links.{may_open, next_packet_id, filters_owed, outgoing}
use Rattle.sng_history.specs.Notes.{is_client}
use Rattle.sng_history.specs.State.{State}
use Rattle.sng_history.specs.Verdicts.{exit}
use Rattle.sng_history.specs.Steps.{outs_by, next_by}
use Rattle.sng_history.proofs.Own.{same_means}
use Rattle.sng_isolation.proofs.Alike.{is_by, mine, Alike, Sound, GoesOn}
use Rattle.sng_isolation.proofs.Policies.{SaysSame, exit_same, says_same}
use Rattle.sng_isolation.proofs.Common.{kept_common}

-- the note with which an item leaves, where it is a publish
abbrev left_with : Policy → Item → Out
left_with policy (item.Publish p) =
    Note (note.Forward (who_of p.origin) p.name (exit policy p.origin p.name))
left_with policy (item.Subscribe filter) = Note note.Outbox
left_with policy (item.Unsubscribe filter) = Note note.Outbox
left_with policy (item.Acknowledge packet_id) = Note note.Outbox
left_with policy item.Ping = Note note.Outbox

speaks_by : (id : List ℕ) (asker : Origin) → is_client id (who_of asker) ≡ is_by id asker
speaks_by id (origin.Client client) = refl
speaks_by id (origin.Source source) = refl

-- its packet is nobody's, so there is just the note
forwarded_trace : (id : List ℕ) (own : List Address) (p : Publication) (packet_id : Option ℕ) (o : Outcome)
    (rest : List Out)
    → trace_of id own (forwarded p packet_id o ++ rest)
    ≡ cond (is_by id p.origin) (Note (note.Forward (who_of p.origin) p.name o) ∷ trace_of id own rest)
    (trace_of id own rest)
forwarded_trace id own p packet_id Allowed rest =
    ap (λ b. cond b (Note (note.Forward (who_of p.origin) p.name Allowed) ∷ trace_of id own rest)
    (trace_of id own rest)) (speaks_by id p.origin)
forwarded_trace id own p packet_id (Denied rule) rest =
    ap (λ b. cond b (Note (note.Forward (who_of p.origin) p.name (Denied rule)) ∷ trace_of id own rest)
    (trace_of id own rest)) (speaks_by id p.origin)

subscribe_trace : (id : List ℕ) (own : List Address) (link : Link) (filter : List ℕ) (rest : List Out)
    → trace_of id own (subscribe_leaves link filter ++ rest) ≡ trace_of id own rest
subscribe_trace id own link filter rest = by_two (wants link.wanted filter) (may_open link.wanted filter)
  where
    by_two : (wanted may : Bool)
        → trace_of id own ((if wanted
        then (if may then subscribe_packet (next_packet_id link) filter ∷ [] else []) else []) ++ rest)
        ≡ trace_of id own rest
    by_two true true = refl
    by_two true false = refl
    by_two false may = refl

no_wire_trace : (id : List ℕ) (own : List Address) (b : Bool) (packet : List ℕ) (rest : List Out)
    → trace_of id own ((if b then [] else Wire packet ∷ []) ++ rest) ≡ trace_of id own rest
no_wire_trace id own true packet rest = refl
no_wire_trace id own false packet rest = refl

-- of all that leaves just the notes of the client's own publishes are for it
leaving_trace : (id : List ℕ) (own : List Address) (policy : Policy) (link : Link) (items : List Item)
    → trace_of id own (leaving link items (exits_of policy items)) ≡ map (left_with policy) (mine id items)
leaving_trace id own policy link [] = refl
leaving_trace id own policy link (item.Publish p ∷ items) =
    let o = exit policy p.origin p.name in
    let rest = leaving (exited link p o) items (exits_of policy items) in
    forwarded_trace id own p (packet_id_by link p.qos) o rest
    ∙ by_own (is_by id p.origin) (leaving_trace id own policy (exited link p o) items)
  where
    by_own : (b : Bool)
        → (let o = exit policy p.origin p.name in
        let rest = leaving (exited link p o) items (exits_of policy items) in
        trace_of id own rest ≡ map (left_with policy) (mine id items)
        → cond b (Note (note.Forward (who_of p.origin) p.name o) ∷ trace_of id own rest) (trace_of id own rest)
        ≡ map (left_with policy) (cond b (item.Publish p ∷ mine id items) (mine id items)))
    by_own true same =
        ap (λ (outs : List Out). left_with policy (item.Publish p) ∷ outs) same
    by_own false same = same
leaving_trace id own policy link (item.Subscribe filter ∷ items) =
    subscribe_trace id own link filter (leaving (subscribe_left link filter) items (exits_of policy items))
    ∙ leaving_trace id own policy (subscribe_left link filter) items
leaving_trace id own policy link (item.Unsubscribe filter ∷ items) =
    no_wire_trace id own (wants link.wanted filter) _
    (leaving (unsubscribe_left link filter) items (exits_of policy items))
    ∙ leaving_trace id own policy (unsubscribe_left link filter) items
leaving_trace id own policy link (item.Acknowledge packet_id ∷ items) =
    leaving_trace id own policy link items
leaving_trace id own policy link (item.Ping ∷ items) = leaving_trace id own policy link items

exit_mine : (id name : List ℕ) (asker : Origin) (p q : Policy) → is_by id asker ≡ true → SaysSame id p q
    → exit p asker name ≡ exit q asker name
exit_mine id name (origin.Client client) p q own same =
    exit_same client name p q (subst (λ d. SaysSame d p q) (same_means id client own) same)
exit_mine id name (origin.Source source) p q own same = absurd cc

-- they leave alike under policies that say the same to the client
left_same : (id : List ℕ) (p q : Policy) (items : List Item) → SaysSame id p q
    → map (left_with p) (mine id items) ≡ map (left_with q) (mine id items)
left_same id p q [] same = refl
left_same id p q (item.Publish one ∷ items) same = by_own (is_by id one.origin) refl (left_same id p q items same)
  where
    by_own : (b : Bool) → is_by id one.origin ≡ b
        → map (left_with p) (mine id items) ≡ map (left_with q) (mine id items)
        → map (left_with p) (cond b (item.Publish one ∷ mine id items) (mine id items))
        ≡ map (left_with q) (cond b (item.Publish one ∷ mine id items) (mine id items))
    by_own true own rest =
        ap₂ (λ o (outs : List Out). Note (note.Forward (who_of one.origin) one.name o) ∷ outs)
        (exit_mine id one.name one.origin p q own same) rest
    by_own false own rest = rest
left_same id p q (item.Subscribe filter ∷ items) same = left_same id p q items same
left_same id p q (item.Unsubscribe filter ∷ items) same = left_same id p q items same
left_same id p q (item.Acknowledge packet_id ∷ items) same = left_same id p q items same
left_same id p q (item.Ping ∷ items) same = left_same id p q items same

-- what is owed is nobody's
mine_owed : (id : List ℕ) (texts : List (List ℕ)) (items : List Item)
    → mine id (map item.Subscribe texts ++ items) ≡ mine id items
mine_owed id [] items = refl
mine_owed id (text ∷ texts) items = mine_owed id texts items

take_trace : (id : List ℕ) (own : List Address) (s : State) (b : Bool) → s.up ≡ b
    → trace_of id own (outs_by s ByTake)
    ≡ (let outs : List Out = if b then map (left_with s.policy) (mine id s.link.waiting) else [] in outs)
take_trace id own s true is =
    rw is
    (leaving_trace id own s.policy s.link (outgoing s.link)
    ∙ ap (map (left_with s.policy)) (mine_owed id (filters_owed s.link) s.link.waiting))
take_trace id own s false is = rw is refl

pub common_take : (id : List ℕ) (own : List Address) (s t : State) → Sound id own s → Sound id own t
    → Alike id s t → GoesOn id own s t ByTake ByTake
common_take id own s t sound also alike = record {
  traces =
      take_trace id own s s.up refl
      ∙ (ap₂ (λ (b : Bool) (outs : List Out). let some : List Out = if b then outs else [] in some) alike.up
      (left_same id s.policy t.policy s.link.waiting (says_same id s.policy t.policy alike.policy)
      ∙ ap (map (left_with t.policy)) alike.waits)
      ∙ sym (take_trace id own t t.up refl));
  alike = record {
    kept = kept_common id s t ByTake refl alike (λ x is it. refl);
    policy = alike.policy;
    clock = alike.clock;
    up = alike.up;
    waits = waits_by s ∙ (ap₂ (λ (b : Bool) (items : List Item). let some : List Item =
        if b then [] else items in some)
        alike.up alike.waits ∙ sym (waits_by t));
  };
}
  where
    by_up : (b : Bool) (items : List Item)
        → mine id (if b then [] else items) ≡ (let some : List Item = if b then [] else mine id items in some)
    by_up true items = refl
    by_up false items = refl

    waits_by : (r : State) → mine id (next_by r ByTake).link.waiting
        ≡ (let some : List Item = if r.up then [] else mine id r.link.waiting in some)
    waits_by r = by_up r.up r.link.waiting

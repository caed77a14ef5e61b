-- What its own CONNECT does to a client in two states that it cannot tell apart.
use Rattle.std.proofs.Common.{◌≡◌, ℕ, Bool, true, false, List, [], ◌∷◌, ◌++◌, refl, ap, ap₂, sym, ◌∙◌, cond, subst}
use Rattle.std.proofs.Common.{if◌then◌else◌}
use Rattle.std.specs.Prelude.{◌&&◌, not, drop, Option, Some, None}
use Rattle.std.specs.List.{list_any, flat_map}
use Rattle.std.specs.Str.{bytes_eq}
use Rattle.sng_frames.specs.declared.messages.connect.Connect.{Connect}
use Rattle.sng_states.specs.States.{has_session}
use Rattle.sng_book.specs.Denials.{is_allowed}
use Rattle.sng_book.specs.declared.address.Address.{Address}
use Rattle.sng_book.specs.declared.decision.Decision.TheVariants as note
use Rattle.sng_book.specs.declared.outcome.Outcome.{Outcome}
use Rattle.sng_book.specs.declared.outcome.Outcome.TheVariants.{Allowed, Denied}
use Rattle.sng_book.specs.declared.out.Out.{Out}
use Rattle.sng_book.specs.declared.out.Out.TheVariants.{Note}
use Rattle.sng_book.specs.Traces.{speaks_of, reaches, trace_of}
use Rattle.sng_history.specs.Causes.{Cause, ByConnect}
use Rattle.sng_history.specs.Clients.{Client, blank, same_address, let_in}
use Rattle.sng_history.specs.Standing.{drop_notes, released, unsubscribes}
use Rattle.sng_history.specs.State.{State, around, is_known}
use Rattle.sng_history.specs.Verdicts.{entry}
use Rattle.sng_history.specs.Answers.{code_of, connack, welcome, dismissed}
use Rattle.sng_history.specs.Whole.{part, spell, drops, moved, beside, entering_part, around_welcome, entry_outs}
use Rattle.sng_history.specs.Lawful.{fixed_for}
use Rattle.sng_history.specs.Steps.{notes_for, outs_by, entrants, client_next, clients_next}
use Rattle.sng_history.specs.Good.{Each}
use Rattle.sng_history.proofs.Own.{same_self, same_means, each_map}
use Rattle.sng_history.proofs.Booleans.{or_neither}
use Rattle.sng_history.proofs.Kept.{client_id}
use Rattle.sng_isolation.specs.Room.{is_crowded, crowds, HasRoom}
use Rattle.sng_isolation.specs.Isolation.{kept_of}
use Rattle.sng_isolation.proofs.Alone.{right_fails}
use Rattle.sng_isolation.proofs.Silent.{Silent, silent_flat}
use Rattle.sng_isolation.proofs.Foreign.{other_silent}
use Rattle.sng_isolation.proofs.ForeignConnect.{silent_drops}
use Rattle.sng_isolation.proofs.KeptOf.{kept_map, kept_first, kept_later, unknown}
use Rattle.sng_isolation.proofs.Alike.{Alike, IsPlaced, Sound, GoesOn}
use Rattle.sng_isolation.proofs.Policies.{SaysSame, says_same}
use Rattle.sng_isolation.proofs.Asked.{entry_same}
use Rattle.sng_isolation.proofs.Noted.{connect_same}
use Rattle.sng_isolation.proofs.Spelling.{own_around, both_same, spell_same}
use Rattle.sng_isolation.proofs.Fan.{kept_is, fans}
use Rattle.sng_isolation.proofs.Waits.{mine_both, mine_unsubscribes}
use Rattle.sng_isolation.proofs.Common.{around_same, next_common, kept_moved}

-- ---- the verdict

-- where the client finds room, the verdict is not that there is none for it
entry_free : (id : List ℕ) (s : State) (from : Address) (connect : Connect) (o : Outcome)
    → bytes_eq id connect.client_id ≡ true
    → HasRoom id (entry_outs s from connect (notes_for s (ByConnect from connect)) o) → is_crowded o ≡ false
entry_free id s from connect Allowed named room = refl
entry_free id s from connect (Denied rule) named room =
    let said = note.Connect connect.client_id (Denied rule) in
    let both = or_neither (crowds id (Note said)) (list_any (crowds id) (connack from (code_of rule) ∷ [])) room in
    right_fails (bytes_eq id connect.client_id) (is_crowded (Denied rule)) both.0 named

-- ---- who is there

-- the client once it may be among the others
abbrev entered_of : Connect → Outcome → Option Client → Option Client
entered_of connect o (Some x) = Some x
entered_of connect o None = if is_allowed o then Some (blank connect.client_id) else None

enters_kept : (id : List ℕ) (s : State) (connect : Connect) (o : Option Client)
    → connect.client_id ≡ id → kept_of id s.clients ≡ o
    → kept_of id (s.clients ++ entrants s connect) ≡ entered_of connect (entry s connect) o
enters_kept id s connect (Some x) named is = kept_first id x s.clients (entrants s connect) is
enters_kept id s connect None named is =
    kept_later id s.clients (entrants s connect) is
    ∙ (ap (λ b. kept_of id (if is_allowed (entry s connect) && not b then blank connect.client_id ∷ [] else []))
    (ap (λ d. is_known d s.clients) named ∙ unknown id s.clients is) ∙ by_entry (is_allowed (entry s connect)))
  where
    by_entry : (b : Bool)
        → kept_of id (if b && not false then blank connect.client_id ∷ [] else [])
        ≡ (let o : Option Client = if b then Some (blank connect.client_id) else None in o)
    by_entry true =
        ap (λ own. let o : Option Client = cond own (Some (blank connect.client_id)) None in o)
        (ap (bytes_eq id) named ∙ same_self id)
    by_entry false = refl

-- ---- what it lets out

-- what is a part of nobody but the one that connects
none_of : (id : List ℕ) (own : List Address) (connect : Connect) (x : Client) (outs : List Out)
    → connect.client_id ≡ id → bytes_eq id x.id ≡ false
    → Silent id own (if bytes_eq connect.client_id x.id then outs else [])
none_of id own connect x outs named away =
    ap (λ b. trace_of id own (let some : List Out = if b then outs else [] in some))
    (ap (λ d. bytes_eq d x.id) named ∙ away)

beside_silent : (id : List ℕ) (own : List Address) (s : State) (from : Address) (connect : Connect)
    (x : Client)
    → connect.client_id ≡ id → IsPlaced id own x
    → Silent id own (beside (around s (ByConnect from connect)) (notes_for s (ByConnect from connect))
    connect.client_id x)
beside_silent id own s from connect x named placed = by_same (bytes_eq connect.client_id x.id) refl
  where
    by_same : (b : Bool) → bytes_eq connect.client_id x.id ≡ b
        → (let c = ByConnect from connect in
        Silent id own (if b then [] else part (around s c) [] (fixed_for s c x) x))
    by_same true is = refl
    by_same false is =
        let away : bytes_eq id x.id ≡ false = ap (λ d. bytes_eq d x.id) (sym named) ∙ is in
        other_silent id own s (ByConnect from connect) [] x is away (placed ∙ away)

-- what is handed over, or gone, behind the note that it is accepted
entering_common : (id : List ℕ) (own : List Address) (s t : State) (from : Address) (connect : Connect)
    (x : Client)
    → Alike id s t → bytes_eq connect.client_id x.id ≡ true
    → fixed_for s (ByConnect from connect) x ≡ fixed_for t (ByConnect from connect) x
    → trace_of id own (entering_part (around s (ByConnect from connect))
    (notes_for s (ByConnect from connect)) from connect x)
    ≡ trace_of id own (entering_part (around t (ByConnect from connect))
    (notes_for t (ByConnect from connect)) from connect x)
entering_common id own s t from connect x alike is same =
    let c = ByConnect from connect in
    own_spell s
    ∙ (spell_same id own (around s c) [] (let_in s.clock from connect x) (drop 1 (fixed_for s c x))
    ∙ (ap₂ (λ a y. trace_of id own (spell a [] y (drop 1 (fixed_for s c x)))) (around_same id s t c alike)
    (ap (λ clock. let_in clock from connect x) alike.clock)
    ∙ (ap (λ notes. trace_of id own (spell (own_around id (around t c)) [] (let_in t.clock from connect x)
    (drop 1 notes))) same
    ∙ (sym (spell_same id own (around t c) [] (let_in t.clock from connect x) (drop 1 (fixed_for t c x)))
    ∙ sym (own_spell t)))))
  where
    own_spell : (r : State)
        → (let c = ByConnect from connect in
        trace_of id own (entering_part (around r c) (notes_for r c) from connect x)
        ≡ trace_of id own (spell (around r c) [] (let_in r.clock from connect x) (drop 1 (fixed_for r c x))))
    own_spell r =
        let c = ByConnect from connect in
        ap (λ b. trace_of id own (let some : List Out =
        if b then spell (around r c) [] (let_in r.clock from connect x) (drop 1 (fixed_for r c x)) else [] in some))
        is

welcome_common : (id : List ℕ) (own : List Address) (clean : Bool) (xs ys : List Out) (ack : Out)
    → trace_of id own xs ≡ trace_of id own ys
    → trace_of id own (around_welcome clean xs ack) ≡ trace_of id own (around_welcome clean ys ack)
welcome_common id own true xs ys ack same = both_same id own xs (ack ∷ []) ys (ack ∷ []) same refl
welcome_common id own false xs ys ack same = both_same id own (ack ∷ []) xs (ack ∷ []) ys refl same

-- the client as it connects has the same notes
abbrev SameEntry : List ℕ → State → State → Cause → Type 0
SameEntry id s t c = (x : Client) → bytes_eq id x.id ≡ true → fixed_for s c x ≡ fixed_for t c x

accepted_common : (id : List ℕ) (own : List Address) (s t : State) (from : Address) (connect : Connect)
    → connect.client_id ≡ id → Sound id own s → Sound id own t → Alike id s t
    → SameEntry id s t (ByConnect from connect)
    → trace_of id own (entry_outs s from connect (notes_for s (ByConnect from connect)) Allowed)
    ≡ trace_of id own (entry_outs t from connect (notes_for t (ByConnect from connect)) Allowed)
accepted_common id own s t from connect named sound also alike notes =
    let c = ByConnect from connect in
    let d = connect.client_id in
    let said = note.Connect d Allowed in
    let enters : List Out = flat_map (entering_part (around s c) (notes_for s c) from connect) s.clients in
    let entered : List Out = flat_map (entering_part (around t c) (notes_for t c) from connect) t.clients in
    let clean = connect.flags.clean in
    let ack = welcome connect from in
    ap (λ (rest : List Out). cond (speaks_of id said) (Note said ∷ rest) rest)
    (both_same id own (flat_map (moved from d) s.clients)
    (flat_map (beside (around s c) (notes_for s c) d) s.clients
    ++ (drop_notes (drops s c (notes_for s c)) ++ around_welcome clean enters ack))
    (flat_map (moved from d) t.clients)
    (flat_map (beside (around t c) (notes_for t c) d) t.clients
    ++ (drop_notes (drops t c (notes_for t c)) ++ around_welcome clean entered ack))
    (fans (reaches id own) id (moved from d) (moved from d) s.clients t.clients sound.good.apart also.good.apart
    (moved_none s sound) (moved_none t also) alike.kept (λ x is it. refl))
    (both_same id own (flat_map (beside (around s c) (notes_for s c) d) s.clients)
    (drop_notes (drops s c (notes_for s c)) ++ around_welcome clean enters ack)
    (flat_map (beside (around t c) (notes_for t c) d) t.clients)
    (drop_notes (drops t c (notes_for t c)) ++ around_welcome clean entered ack)
    (beside_none s sound ∙ sym (beside_none t also))
    (both_same id own (drop_notes (drops s c (notes_for s c))) (around_welcome clean enters ack)
    (drop_notes (drops t c (notes_for t c))) (around_welcome clean entered ack)
    (silent_drops id own (drops s c (notes_for s c)) ∙ sym (silent_drops id own (drops t c (notes_for t c))))
    (welcome_common id own clean enters entered ack
    (fans (reaches id own) id (entering_part (around s c) (notes_for s c) from connect)
    (entering_part (around t c) (notes_for t c) from connect) s.clients t.clients sound.good.apart
    also.good.apart (entering_none s sound) (entering_none t also) alike.kept
    (λ x is it.
    let mine_is : bytes_eq id x.id ≡ true = kept_is id x s.clients is in
    entering_common id own s t from connect x alike (ap (λ e. bytes_eq e x.id) named ∙ mine_is)
    (notes x mine_is)))))))
  where
    moved_none : (r : State) → Sound id own r
        → Each (λ x. bytes_eq id x.id ≡ false → Silent id own (moved from connect.client_id x)) r.clients
    moved_none r sound =
        each_map (IsPlaced id own)
        (λ x. bytes_eq id x.id ≡ false → Silent id own (moved from connect.client_id x)) r.clients
        (λ x at away. none_of id own connect x
        (if has_session x.phase && not (same_address x.address from) then dismissed x.address ∷ [] else [])
        named away) sound.placed

    beside_none : (r : State) → Sound id own r
        → (let c = ByConnect from connect in
        Silent id own (flat_map (beside (around r c) (notes_for r c) connect.client_id) r.clients))
    beside_none r sound =
        let c = ByConnect from connect in
        let f = beside (around r c) (notes_for r c) connect.client_id in
        silent_flat id own f r.clients
        (each_map (IsPlaced id own) (λ x. Silent id own (f x)) r.clients
        (λ x at. beside_silent id own r from connect x named at) sound.placed)

    entering_none : (r : State) → Sound id own r
        → (let c = ByConnect from connect in
        Each (λ x. bytes_eq id x.id ≡ false
        → Silent id own (entering_part (around r c) (notes_for r c) from connect x)) r.clients)
    entering_none r sound =
        let c = ByConnect from connect in
        each_map (IsPlaced id own) (λ x. bytes_eq id x.id ≡ false
        → Silent id own (entering_part (around r c) (notes_for r c) from connect x)) r.clients
        (λ x at away. none_of id own connect x
        (spell (around r c) [] (let_in r.clock from connect x) (drop 1 (fixed_for r c x))) named away)
        sound.placed

entry_common : (id : List ℕ) (own : List Address) (s t : State) (from : Address) (connect : Connect)
    (o : Outcome)
    → connect.client_id ≡ id → Sound id own s → Sound id own t → Alike id s t
    → SameEntry id s t (ByConnect from connect)
    → trace_of id own (entry_outs s from connect (notes_for s (ByConnect from connect)) o)
    ≡ trace_of id own (entry_outs t from connect (notes_for t (ByConnect from connect)) o)
entry_common id own s t from connect Allowed named sound also alike notes =
    accepted_common id own s t from connect named sound also alike notes
entry_common id own s t from connect (Denied rule) named sound also alike notes = refl

-- ---- the step

pub common_connect : (id : List ℕ) (own : List Address) (s t : State) (from : Address) (connect : Connect)
    → Sound id own s → Sound id own t → Alike id s t → bytes_eq connect.client_id id ≡ true
    → HasRoom id (outs_by s (ByConnect from connect)) → HasRoom id (outs_by t (ByConnect from connect))
    → GoesOn id own s t (ByConnect from connect) (ByConnect from connect)
common_connect id own s t from connect sound also alike is_named room other =
    let c = ByConnect from connect in
    let named : connect.client_id ≡ id = same_means connect.client_id id is_named in
    let own_id : bytes_eq id connect.client_id ≡ true = ap (bytes_eq id) named ∙ same_self id in
    let says : SaysSame id s.policy t.policy = says_same id s.policy t.policy alike.policy in
    let entered : entry s connect ≡ entry t connect =
    entry_same s t connect (subst (λ d. SaysSame d s.policy t.policy) (sym named) says)
    (entry_free id s from connect (entry s connect) own_id room)
    (entry_free id t from connect (entry t connect) own_id other) in
    let notes : SameEntry id s t c =
    λ x is. connect_same s t from connect x (ap (λ d. bytes_eq d x.id) named ∙ is) entered
    (subst (λ d. SaysSame d s.policy t.policy) (same_means id x.id is) says) alike.clock in
    let there : kept_of id (s.clients ++ entrants s connect) ≡ kept_of id (t.clients ++ entrants t connect) =
    enters_kept id s connect (kept_of id s.clients) named refl
    ∙ (ap₂ (λ o x. entered_of connect o x) entered alike.kept
    ∙ sym (enters_kept id t connect (kept_of id t.clients) named refl)) in
    record {
      traces =
          ap (λ o. trace_of id own (entry_outs s from connect (notes_for s c) o)) entered
          ∙ entry_common id own s t from connect (entry t connect) named sound also alike notes;
      alike = record {
        kept =
            kept_map id (client_next s c) (s.clients ++ entrants s connect)
            (λ x. client_id (around s c) (fixed_for s c x) x)
            ∙ (kept_moved id (client_next s c) (client_next t c) (s.clients ++ entrants s connect)
            (t.clients ++ entrants t connect) there
            (λ x is it. next_common id s t c x alike
            (notes x (kept_is id x (s.clients ++ entrants s connect) is)))
            ∙ sym (kept_map id (client_next t c) (t.clients ++ entrants t connect)
            (λ x. client_id (around t c) (fixed_for t c x) x)));
        policy = alike.policy;
        clock = alike.clock;
        up = alike.up;
        waits =
            mine_both id s.link.waiting (unsubscribes s.policy.limits s.link (released s.clients (clients_next s c)))
            t.link.waiting (unsubscribes t.policy.limits t.link (released t.clients (clients_next t c))) alike.waits
            (mine_unsubscribes s.policy.limits id s.link (released s.clients (clients_next s c))
            ∙ sym (mine_unsubscribes t.policy.limits id t.link (released t.clients (clients_next t c))));
      };
    }

-- What a CONNECT lets out has just the notes that the step makes.
use Rattle.std.proofs.Common.{◌≡◌, ℕ, Bool, true, false, List, [], ◌∷◌, ◌++◌, refl, ap, sym, ◌∙◌, subst}
use Rattle.std.specs.Prelude.{if◌then◌else◌, ◌&&◌, not, drop}
use Rattle.std.specs.List.{flat_map}
use Rattle.std.specs.Str.{bytes_eq}
use Rattle.std.proofs.lemmas.List.{append-nil}
use Rattle.sng_frames.specs.declared.messages.connect.Connect.{Connect}
use Rattle.sng_book.specs.declared.address.Address.{Address}
use Rattle.sng_book.specs.declared.decision.Decision.{Decision}
use Rattle.sng_book.specs.declared.decision.Decision.TheVariants as note
use Rattle.sng_book.specs.declared.outcome.Denial.{Denial}
use Rattle.sng_book.specs.declared.outcome.Outcome.{Outcome}
use Rattle.sng_book.specs.declared.outcome.Outcome.TheVariants.{Allowed, Denied}
use Rattle.sng_book.specs.declared.out.Out.{Out}
use Rattle.sng_book.specs.declared.out.Out.TheVariants.{Note}
use Rattle.sng_book.specs.Denials.{is_allowed}
use Rattle.sng_history.specs.Causes.{ByConnect}
use Rattle.sng_history.specs.Clients.{Client, blank, let_in}
use Rattle.sng_history.specs.Notes.{notes_of, exits_in}
use Rattle.sng_history.specs.State.{State, around, is_known}
use Rattle.sng_history.specs.Standing.{drop_notes}
use Rattle.sng_history.specs.Verdicts.{entry}
use Rattle.sng_history.specs.Answers.{code_of, connack, welcome}
use Rattle.sng_history.specs.Whole.{moved}
use Rattle.sng_history.specs.Whole.{around_welcome, entry_row, entry_outs}
use Rattle.sng_history.specs.Lawful.{entering_notes, fixed_for}
use Rattle.sng_history.specs.Steps.{notes_for, entrants}
use Rattle.sng_history.specs.Good.{Each, Away, Distinct}
use Rattle.sng_history.proofs.Own.{same_self, same_means, flip, notes_append, exits_append}
use Rattle.sng_history.proofs.Own.{each_all, each_with, each_append, absent, each_own}
use Rattle.sng_history.proofs.Own.{no_exits}
use Rattle.sng_history.proofs.Spelled.{Mute, mute_of, spell_own}
use Rattle.sng_history.proofs.Spelled.{part_own}
use Rattle.sng_history.proofs.Sent.{drops_sent}
use Rattle.sng_history.proofs.Told.{tells}
use Rattle.sng_history.proofs.Kept.{unknown_away}
use Rattle.sng_history.proofs.SaysParts.{Says, part_for, drops_for, all_here, moved_all, beside_for}
use Rattle.sng_history.proofs.SaysParts.{beside_exits_by, only_beside, entering_for, entering_about}
use Rattle.sng_history.proofs.SaysParts.{entering_if, entering_exits_by, only_entering}

abbrev row_accepted : State → Address → Connect → List Out
row_accepted s from connect = entry_row s from connect (notes_for s (ByConnect from connect))

-- the answer is CONNACK or WILLTOPICREQ, and brings no note
mute_welcome : (connect : Connect) (from : Address) → Mute (welcome connect from ∷ [])
mute_welcome connect from = by_will connect.flags.will refl
  where
    by_will : (will : Bool) → connect.flags.will ≡ will → Mute (welcome connect from ∷ [])
    by_will true is = rw is (record { notes = λ c. refl; exits = refl; asks = λ q. refl })
    by_will false is = rw is (record { notes = λ c. refl; exits = refl; asks = λ q. refl })

around_notes : (clean : Bool) (own : List Out) (ack : Out) (d : List ℕ) → Mute (ack ∷ [])
    → notes_of d (around_welcome clean own ack) ≡ notes_of d own
around_notes true own ack d mute =
    notes_append d own (ack ∷ [])
    ∙ (ap (λ notes. notes_of d own ++ notes) (mute.notes d) ∙ append-nil (notes_of d own))
around_notes false own ack d mute =
    notes_append d (ack ∷ []) own ∙ ap (λ notes. notes ++ notes_of d own) (mute.notes d)

around_exits : (clean : Bool) (own : List Out) (ack : Out) → Mute (ack ∷ [])
    → exits_in (around_welcome clean own ack) ≡ exits_in own
around_exits true own ack mute =
    exits_append own (ack ∷ []) ∙ (ap (λ exits. exits_in own ++ exits) mute.exits ∙ append-nil (exits_in own))
around_exits false own ack mute = exits_append (ack ∷ []) own ∙ ap (λ exits. exits ++ exits_in own) mute.exits

-- what stands behind the parts of the others: the notes of what is dropped, what waited, and the answer
abbrev end_accepted : State → Address → Connect → List Out
end_accepted s from connect =
    drop_notes (drops_for s (ByConnect from connect))
    ++ around_welcome connect.flags.clean (flat_map (entering_for s from connect) s.clients)
    (welcome connect from)

end_notes : (s : State) (from : Address) (connect : Connect) (d : List ℕ)
    → notes_of d (end_accepted s from connect) ≡ notes_of d (flat_map (entering_for s from connect) s.clients)
end_notes s from connect d =
    let dropped = drops_for s (ByConnect from connect) in
    let own = flat_map (entering_for s from connect) s.clients in
    let last = around_welcome connect.flags.clean own (welcome connect from) in
    notes_append d (drop_notes dropped) last
    ∙ (ap (λ notes. notes ++ notes_of d last) ((mute_of (drop_notes dropped) (drops_sent dropped)).notes d)
    ∙ around_notes connect.flags.clean own (welcome connect from) d (mute_welcome connect from))

end_exits : (s : State) (from : Address) (connect : Connect) → exits_in (end_accepted s from connect) ≡ []
end_exits s from connect =
    let dropped = drops_for s (ByConnect from connect) in
    let f = entering_for s from connect in
    let last = around_welcome connect.flags.clean (flat_map f s.clients) (welcome connect from) in
    exits_append (drop_notes dropped) last
    ∙ (ap (λ exits. exits ++ exits_in last) (mute_of (drop_notes dropped) (drops_sent dropped)).exits
    ∙ (around_exits connect.flags.clean (flat_map f s.clients) (welcome connect from)
    (mute_welcome connect from)
    ∙ no_exits f s.clients (each_all (λ x. exits_in (f x) ≡ []) s.clients
    (λ x. entering_exits_by s from connect x (bytes_eq connect.client_id x.id)))))

pub accepted_notes : (s : State) (from : Address) (connect : Connect) (d : List ℕ)
    → notes_of d (row_accepted s from connect)
    ≡ notes_of d (flat_map (beside_for s from connect) s.clients)
    ++ notes_of d (flat_map (entering_for s from connect) s.clients)
accepted_notes s from connect d =
    let a = flat_map (moved from connect.client_id) s.clients in
    let b = flat_map (beside_for s from connect) s.clients in
    let end = end_accepted s from connect in
    notes_append d a (b ++ end)
    ∙ (ap (λ notes. notes ++ notes_of d (b ++ end)) ((moved_all from connect.client_id s.clients).notes d)
    ∙ (notes_append d b end ∙ ap (λ notes. notes_of d b ++ notes) (end_notes s from connect d)))

accepted_exits : (s : State) (from : Address) (connect : Connect)
    → exits_in (row_accepted s from connect) ≡ []
accepted_exits s from connect =
    let a = flat_map (moved from connect.client_id) s.clients in
    let b = flat_map (beside_for s from connect) s.clients in
    let end = end_accepted s from connect in
    let none : exits_in b ≡ [] =
    no_exits (beside_for s from connect) s.clients
    (each_all (λ x. exits_in (beside_for s from connect x) ≡ []) s.clients
    (λ x. beside_exits_by s from connect x (bytes_eq connect.client_id x.id))) in
    exits_append a (b ++ end)
    ∙ (ap (λ exits. exits ++ exits_in (b ++ end)) (moved_all from connect.client_id s.clients).exits
    ∙ (exits_append b end ∙ (ap (λ exits. exits ++ exits_in end) none ∙ end_exits s from connect)))

-- the notes of the client that connects behind the first, of which its part has the others
enters : (s : State) (from : Address) (connect : Connect) (x : Client)
    → bytes_eq connect.client_id x.id ≡ true → entry s connect ≡ Allowed
    → notes_of x.id (entering_for s from connect x) ≡ entering_notes s from connect x Allowed
enters s from connect x is may =
    let c = ByConnect from connect in
    let a = around s c in
    let later : drop 1 (fixed_for s c x) ≡ entering_notes s from connect x Allowed = rw (is, may) refl in
    ap (λ same. notes_of x.id (entering_if s from connect x same)) is
    ∙ (spell_own a [] (let_in a.clock from connect x) x.id (drop 1 (fixed_for s c x))
    (entering_about s from connect x) ∙ later)

-- the notes of the client that connects, and of each other
accepted_one : (s : State) (from : Address) (connect : Connect) (x : Client) (same : Bool)
    (b e : List Decision) → bytes_eq connect.client_id x.id ≡ same → entry s connect ≡ Allowed
    → b ≡ notes_of x.id (beside_for s from connect x) → e ≡ notes_of x.id (entering_for s from connect x)
    → (if bytes_eq x.id connect.client_id then note.Connect connect.client_id Allowed ∷ [] else [])
    ++ (b ++ e) ≡ fixed_for s (ByConnect from connect) x
accepted_one s from connect x true b e is may one two =
    let same : connect.client_id ≡ x.id = same_means connect.client_id x.id is in
    let none : b ≡ [] = one ∙ (rw is refl) in
    let own : e ≡ entering_notes s from connect x Allowed = two ∙ enters s from connect x is may in
    rw (none, own, may, same, same_self x.id) refl
accepted_one s from connect x false b e is may one two =
    let c = ByConnect from connect in
    let away : bytes_eq x.id connect.client_id ≡ false = flip x.id connect.client_id is in
    let none : e ≡ [] = two ∙ (rw is refl) in
    let all : b ≡ fixed_for s c x =
    one ∙ (ap (λ t. notes_of x.id (if t then [] else part_for s c [] x)) is
    ∙ part_own (around s c) [] (fixed_for s c x) x (tells s c x)) in
    ap (λ t. (if t then note.Connect connect.client_id Allowed ∷ [] else []) ++ (b ++ e)) away
    ∙ (ap (λ notes. b ++ notes) none ∙ (append-nil b ∙ all))

accepted_own : (s : State) (from : Address) (connect : Connect) → Distinct s.clients
    → entry s connect ≡ Allowed
    → Each (λ x. notes_of x.id (Note (note.Connect connect.client_id Allowed) ∷ row_accepted s from connect)
    ≡ fixed_for s (ByConnect from connect) x) s.clients
accepted_own s from connect apart may =
    let f = beside_for s from connect in
    let g = entering_for s from connect in
    each_with (λ x. notes_of x.id (flat_map f s.clients) ≡ notes_of x.id (f x))
    (λ x. notes_of x.id (flat_map g s.clients) ≡ notes_of x.id (g x))
    (λ x. notes_of x.id (Note (note.Connect connect.client_id Allowed) ∷ row_accepted s from connect)
    ≡ fixed_for s (ByConnect from connect) x) s.clients
    (λ x other own. ap (λ notes. (if bytes_eq x.id connect.client_id
    then note.Connect connect.client_id Allowed ∷ []
    else []) ++ notes) (accepted_notes s from connect x.id)
    ∙ accepted_one s from connect x (bytes_eq connect.client_id x.id) (notes_of x.id (flat_map f s.clients))
    (notes_of x.id (flat_map g s.clients)) refl may other own)
    (each_own f s.clients (only_beside s from connect) apart)
    (each_own g s.clients (only_entering s from connect) apart)

-- nothing waits for one of whom nothing was heard
pub blank_enters : (s : State) (from : Address) (connect : Connect) (clean : Bool)
    → connect.flags.clean ≡ clean → entering_notes s from connect (blank connect.client_id) Allowed ≡ []
blank_enters s from connect true is = rw is refl
blank_enters s from connect false is = by_will connect.flags.will refl
  where
    by_will : (will : Bool) → connect.flags.will ≡ will
        → entering_notes s from connect (blank connect.client_id) Allowed ≡ []
    by_will true test = rw (is, test) refl
    by_will false test = rw (is, test) refl

-- who is accepted for the first time
accepted_new : (s : State) (from : Address) (connect : Connect) (known : Bool)
    → is_known connect.client_id s.clients ≡ known → entry s connect ≡ Allowed
    → Each (λ x. notes_of x.id (Note (note.Connect connect.client_id Allowed) ∷ row_accepted s from connect)
    ≡ fixed_for s (ByConnect from connect) x)
    (if not known then blank connect.client_id ∷ [] else [])
accepted_new s from connect true is may = tt
accepted_new s from connect false is may =
    let id = connect.client_id in
    let away : Away id s.clients = unknown_away id s.clients is in
    let none : notes_of id (flat_map (beside_for s from connect) s.clients) ≡ [] =
    absent (beside_for s from connect) id s.clients (only_beside s from connect) away in
    let nor : notes_of id (flat_map (entering_for s from connect) s.clients) ≡ [] =
    absent (entering_for s from connect) id s.clients (only_entering s from connect) away in
    let first : (if bytes_eq id id then note.Connect id Allowed ∷ [] else [])
    ++ notes_of id (row_accepted s from connect) ≡ note.Connect id Allowed ∷ [] =
    ap (λ notes. (if bytes_eq id id then note.Connect id Allowed ∷ [] else []) ++ notes)
    (accepted_notes s from connect id) ∙ (rw (none, nor, same_self id) refl) in
    let fixed : fixed_for s (ByConnect from connect) (blank id) ≡ note.Connect id Allowed ∷ [] =
    rw (same_self id, may) (ap (λ notes. note.Connect id Allowed ∷ notes)
    (blank_enters s from connect connect.flags.clean refl)) in
    (first ∙ sym fixed, tt)

refused_one : (s : State) (from : Address) (connect : Connect) (rule : Denial) (x : Client) (same : Bool)
    → bytes_eq connect.client_id x.id ≡ same → entry s connect ≡ Denied rule
    → notes_of x.id (Note (note.Connect connect.client_id (Denied rule)) ∷ connack from (code_of rule) ∷ [])
    ≡ fixed_for s (ByConnect from connect) x
refused_one s from connect rule x true is may =
    let e : connect.client_id ≡ x.id = same_means connect.client_id x.id is in
    rw (may, e, same_self x.id) refl
refused_one s from connect rule x false is may =
    let away : bytes_eq x.id connect.client_id ≡ false = flip x.id connect.client_id is in
    rw (away, is, may) refl

pub entry_says : (s : State) (from : Address) (connect : Connect) (o : Outcome) → entry s connect ≡ o
    → Distinct s.clients
    → Says s (ByConnect from connect) (entry_outs s from connect (notes_for s (ByConnect from connect)) o)
entry_says s from connect Allowed is apart =
    let c = ByConnect from connect in
    let P : Client → Type 0 =
    λ x. notes_of x.id (Note (note.Connect connect.client_id Allowed) ∷ row_accepted s from connect)
    ≡ fixed_for s c x in
    let news : entrants s connect
    ≡ (if not (is_known connect.client_id s.clients) then blank connect.client_id ∷ [] else []) =
    ap (λ o. if is_allowed o && not (is_known connect.client_id s.clients) then blank connect.client_id ∷ []
    else []) is in
    record {
      exits = accepted_exits s from connect;
      new = sym news;
      own =
          each_append P s.clients (entrants s connect) (accepted_own s from connect apart is)
          (subst (Each P) (sym news) (accepted_new s from connect
          (is_known connect.client_id s.clients) refl is));
    }
entry_says s from connect (Denied rule) is apart =
    let c = ByConnect from connect in
    let news : entrants s connect ≡ [] =
    ap (λ o. if is_allowed o && not (is_known connect.client_id s.clients)
    then blank connect.client_id ∷ [] else []) is in
    all_here s c (entry_outs s from connect (notes_for s c) (Denied rule)) news (sym news) refl
    (each_all (λ x. notes_of x.id (entry_outs s from connect (notes_for s c) (Denied rule)) ≡ fixed_for s c x)
    s.clients (λ x. refused_one s from connect rule x (bytes_eq connect.client_id x.id) refl is))

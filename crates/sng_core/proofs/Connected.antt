-- The row and the next state of a CONNECT, as code makes them.
use Rattle.std.proofs.Common.{◌≡◌, ℕ, ◌-◌, Bool, true, false, List, [], ◌∷◌, ◌++◌, map}
use Rattle.std.proofs.Common.{take, drop, length, refl, ap, sym, ◌∙◌}
use Rattle.std.specs.Prelude.{if◌then◌else◌, not, filter, Option}
use Rattle.std.specs.Prelude.{Some, None}
use Rattle.std.specs.List.{flat_map}
use Rattle.std.proofs.lemmas.List.{append-nil, append_assoc, length-map}
use Rattle.std.proofs.Math.Seq.{take-nil}
use Rattle.sng_frames.specs.declared.messages.connect.Connect.{Connect}
use Rattle.sng_outbox.specs.declared.item.Item.TheVariants as item
use Rattle.sng_book.specs.declared.address.Address.{Address}
use Rattle.sng_book.specs.declared.decision.Decision.TheVariants as note
use Rattle.sng_book.specs.declared.outcome.Denial.{Denial}
use Rattle.sng_book.specs.declared.outcome.Outcome.{Outcome}
use Rattle.sng_book.specs.declared.outcome.Outcome.TheVariants.{Allowed, Denied}
use Rattle.sng_book.specs.declared.out.Out.TheVariants.{Note}
use Rattle.sng_history.specs.Causes.{ByConnect}
use Rattle.sng_history.specs.Clients.{Client, is_here}
use Rattle.sng_history.specs.Entering.{welcomed}
use Rattle.sng_history.specs.Links.{Link}
use Rattle.sng_history.specs.Standing.{is_held, released, places_left, unsubscribes}
use Rattle.sng_history.specs.Standing.{drop_notes, still_wanted}
use Rattle.sng_history.specs.State.{State, around}
use Rattle.sng_history.specs.Verdicts.{entry}
use Rattle.sng_history.specs.Answers.{welcome}
use Rattle.sng_history.specs.Whole.{around_welcome, entry_outs}
use Rattle.sng_history.specs.Steps.{notes_for, outs_by, client_next}
use Rattle.sng_history.specs.Good.{AtRest, OnePlace, Good}
use Rattle.sng_history.proofs.Own.{each_all, each_map, map_same}
use Rattle.sng_history.proofs.SaysParts.{beside_for, entering_for, drops_for}
use Rattle.sng_history.proofs.Entries.{entering_next, entered_next, heard_next}
use Rattle.sng_core.specs.Forms.{place_at, place_of, client_at, at_place, moved_if, heard_at, hearing}
use Rattle.sng_core.specs.Connecting.{moved_outs, put_out, dropped_notes}
use Rattle.sng_core.specs.Connecting.{alone_by, let_go, own_outs}
use Rattle.sng_core.specs.Connecting.{returning, dropped_by, connect_outs, connect_next}
use Rattle.sng_core.proofs.Found.{found_here, nobody_here, no_moves, one_moves}
use Rattle.sng_core.proofs.Found.{moved_same, read_at, within}
use Rattle.sng_core.proofs.Plain.{all_busy}
use Rattle.sng_core.proofs.RefusedFilters.{keep_same, keep_all}
use Rattle.sng_core.proofs.Releasing.{Same, released_none}
use Rattle.sng_core.proofs.ReleasingLink.{gone_in}
use Rattle.sng_core.proofs.Releasing.{held_each}
use Rattle.sng_core.proofs.ReleasingLink.{told_gone, let_go_is, drops_are}
use Rattle.sng_core.proofs.ReleasingLink.{take_texts, with_both}
use Rattle.sng_core.proofs.Rows.{Makes, makes}
use Rattle.sng_core.proofs.ConnectingKnown.{moved_all}
use Rattle.sng_core.proofs.ConnectingBeside.{beside_by}
use Rattle.sng_core.proofs.ConnectingReleases.{lets_go, welcoming, welcomed_first, welcoming_alike}
use Rattle.sng_core.proofs.ConnectingReleases.{welcomed_are, welcomed_held}
use Rattle.sng_core.proofs.ConnectingServed.{own_row}
use Rattle.sng_core.proofs.ConnectingNext.{welcome_all}

dropped_are : (s : State) (from : Address) (connect : Connect) → Good s → entry s connect ≡ Allowed
    → drop_notes (drops_for s (ByConnect from connect)) ≡ dropped_notes (dropped_by s connect)
dropped_are s from connect good may =
    let a = around s (ByConnect from connect) in
    let f = welcoming a from connect in
    let g = client_next s (ByConnect from connect) in
    let n = places_left s.policy.limits s.link in
    let moves : map g s.clients ≡ map f s.clients ++ [] =
    map_same g f s.clients (each_map AtRest (λ x. g x ≡ f x) s.clients
    (λ x at. entering_next s from connect x at.busy may) good.rest)
    ∙ sym (append-nil (map f s.clients)) in
    let rs = released s.clients (map f s.clients ++ []) in
    ap (λ xs. drop_notes (drop n (released s.clients xs))) moves
    ∙ (drops_are n rs
    ∙ ap (λ m. dropped_notes (m - n))
    (sym (length-map rs (λ r. r.filter))
    ∙ ap length ((lets_go s.clock from connect f s.clients
    (welcoming_alike a from connect) good.apart).released [])))

thrice : {A : Type 0} (a b c d : List A) → (a ++ (b ++ c)) ++ d ≡ a ++ (b ++ (c ++ d))
thrice a b c d = append_assoc a (b ++ c) d ∙ ap (λ xs. a ++ xs) (append_assoc b c d)

accepted_row : (s : State) (from : Address) (connect : Connect) → Good s → entry s connect ≡ Allowed
    → connect_outs s from connect Allowed ≡ outs_by s (ByConnect from connect)
accepted_row s from connect good may =
    let id = connect.client_id in
    let c = ByConnect from connect in
    let before = moved_outs from (at_place s.clients (place_of id s.clients)) in
    let beside = put_out id (at_place s.clients (place_at from s.clients)) in
    let end =
    around_welcome connect.flags.clean (flat_map (entering_for s from connect) s.clients)
    (welcome connect from) in
    ap (λ outs. Note (note.Connect id Allowed) ∷ outs)
    (thrice before beside (dropped_notes (dropped_by s connect))
    (own_outs s.policy from connect (returning s connect)))
    ∙ sym (ap (entry_outs s from connect (notes_for s c)) may
    ∙ ap (λ outs. Note (note.Connect id Allowed) ∷ outs)
    (ap (λ outs. outs ++ (flat_map (beside_for s from connect) s.clients
    ++ (drop_notes (drops_for s c) ++ end))) (moved_all from id s.clients good.apart)
    ∙ (ap (λ outs. before ++ (outs ++ (drop_notes (drops_for s c) ++ end)))
    (beside_by s from connect (place_at from s.clients) may good.places
    (all_busy s.clients good.rest) refl)
    ∙ (ap (λ outs. before ++ (beside ++ (outs ++ end))) (dropped_are s from connect good may)
    ∙ ap (λ outs. before ++ (beside ++ (dropped_notes (dropped_by s connect) ++ outs)))
    (own_row s from connect good may)))))

abbrev with_link : State → Link → List Client → State
with_link s link xs = record s { link = link; clients = xs }

abbrev link_with : State → List Client → Link
link_with s xs =
    record s.link {
      waiting = s.link.waiting ++ unsubscribes s.policy.limits s.link (released s.clients xs);
      wanted = still_wanted xs s.link.wanted;
    }

-- the link lets go of just those
link_goes : (s : State) (from : Address) (connect : Connect) → Good s
    → let_go s.policy.limits s.link (alone_by connect s.clients)
    ≡ link_with s (welcomed (around s (ByConnect from connect)) from connect s.clients)
link_goes s from connect good =
    let a = around s (ByConnect from connect) in
    let f = welcoming a from connect in
    let rest = welcomed_first a from connect s.clients in
    let texts = alone_by connect s.clients in
    let goes = lets_go s.clock from connect f s.clients (welcoming_alike a from connect) good.apart in
    let xs = map f s.clients ++ rest in
    let other : List ℕ → Bool = λ text. not (gone_in texts text) in
    let told : told_gone s.policy.limits s.link texts
    ≡ unsubscribes s.policy.limits s.link (released s.clients xs) =
    ap (λ ts. map item.Unsubscribe (take (places_left s.policy.limits s.link) ts)) (sym (goes.released rest))
    ∙ sym (take_texts (places_left s.policy.limits s.link) (released s.clients xs)) in
    let kept : still_wanted xs s.link.wanted ≡ filter (λ w. other w.filter) s.link.wanted =
    keep_same (is_held xs) other s.link.wanted
    (λ text is. welcomed_held a from connect s.clients text
    ∙ goes.held text (sym (good.wanted_held text) ∙ is)) in
    let_go_is s.policy.limits s.link texts
    ∙ (ap (λ items. with_both s.link (s.link.waiting ++ items) (filter (λ w. other w.filter) s.link.wanted))
    told
    ∙ (ap (with_both s.link
    (s.link.waiting ++ unsubscribes s.policy.limits s.link (released s.clients xs))) (sym kept)
    ∙ ap (link_with s) (sym (welcomed_are a from connect s.clients))))

accept_row : (s : State) (from : Address) (connect : Connect) → Good s → entry s connect ≡ Allowed
    → Makes s (ByConnect from connect) (connect_outs s from connect Allowed)
    (connect_next s from connect Allowed)
accept_row s from connect good may =
    let a = around s (ByConnect from connect) in
    let xs = welcomed a from connect s.clients in
    let after = connect_next s from connect Allowed in
    makes s (ByConnect from connect) (connect_outs s from connect Allowed) after good
    (accepted_row s from connect good may)
    (ap (λ link. with_link s link after.clients) (link_goes s from connect good)
    ∙ (ap (with_link s (link_with s xs)) (welcome_all a from connect s.clients good.apart)
    ∙ ap (λ ys. with_link s (link_with s ys) ys) (sym (entered_next s from connect good.rest may))))

hearing_off : (clock : ℕ) (from : Address) (y : Client) → is_here y from ≡ false → hearing clock from y ≡ y
hearing_off clock from y off = rw off refl

hearing_by : (clock : ℕ) (from : Address) (xs : List Client) (place : Option ℕ) → OnePlace xs
    → place_at from xs ≡ place → map (hearing clock from) xs ≡ moved_if place (heard_at clock) xs
hearing_by clock from xs None places at =
    no_moves from (hearing clock from) xs (hearing_off clock from) (nobody_here from xs at)
hearing_by clock from xs (Some i) places at =
    let x = client_at xs i in
    let read = read_at xs i (within from xs i at) in
    let here = found_here from xs i x at read in
    one_moves from (hearing clock from) xs i x (hearing_off clock from) places read here
    ∙ moved_same (hearing clock from) (heard_at clock) xs i x read (rw here refl)

hearing_filters : (clock : ℕ) (x : Client) (here : Bool)
    → (if here then heard_at clock x else x).filters ≡ x.filters
hearing_filters clock x true = refl
hearing_filters clock x false = refl

-- whoever is heard keeps what stands
link_stays : (s : State) (from : Address) → Good s
    → s.link ≡ link_with s (map (hearing s.clock from) s.clients)
link_stays s from good =
    let f = hearing s.clock from in
    let same = each_all (Same f) s.clients (λ x. hearing_filters s.clock x (is_here x from)) in
    let all : List ℕ → Bool = λ text. true in
    let none : released s.clients (map f s.clients) ≡ [] =
    ap (released s.clients) (sym (append-nil (map f s.clients))) ∙ released_none f [] s.clients [] same in
    let told : unsubscribes s.policy.limits s.link (released s.clients (map f s.clients)) ≡ [] =
    ap (unsubscribes s.policy.limits s.link) none
    ∙ ap (map _) (take-nil (places_left s.policy.limits s.link)) in
    let kept : still_wanted (map f s.clients) s.link.wanted ≡ s.link.wanted =
    keep_same (is_held (map f s.clients)) all s.link.wanted
    (λ text is. held_each f s.clients text same ∙ (sym (good.wanted_held text) ∙ is))
    ∙ keep_all s.link.wanted in
    sym (ap (λ items. with_both s.link (s.link.waiting ++ items)
    (still_wanted (map f s.clients) s.link.wanted)) told
    ∙ (ap (λ items. with_both s.link items (still_wanted (map f s.clients) s.link.wanted))
    (append-nil s.link.waiting) ∙ ap (with_both s.link s.link.waiting) kept))

refuse_row : (s : State) (from : Address) (connect : Connect) (rule : Denial) → Good s
    → entry s connect ≡ Denied rule
    → Makes s (ByConnect from connect) (connect_outs s from connect (Denied rule))
    (connect_next s from connect (Denied rule))
refuse_row s from connect rule good may =
    let heard = map (hearing s.clock from) s.clients in
    makes s (ByConnect from connect) (connect_outs s from connect (Denied rule))
    (connect_next s from connect (Denied rule)) good
    (sym (ap (entry_outs s from connect (notes_for s (ByConnect from connect))) may))
    (ap (with_link s s.link) (sym
    (hearing_by s.clock from s.clients (place_at from s.clients) good.places refl))
    ∙ (ap (λ link. with_link s link heard) (link_stays s from good)
    ∙ ap (λ ys. with_link s (link_with s ys) ys) (sym (heard_next s from connect rule good.rest may))))

connect_by : (s : State) (from : Address) (connect : Connect) (o : Outcome) → Good s → entry s connect ≡ o
    → Makes s (ByConnect from connect) (connect_outs s from connect o) (connect_next s from connect o)
connect_by s from connect Allowed good may = accept_row s from connect good may
connect_by s from connect (Denied rule) good may = refuse_row s from connect rule good may

pub connect_row : (s : State) (from : Address) (connect : Connect) → Good s
    → Makes s (ByConnect from connect) (connect_outs s from connect (entry s connect))
    (connect_next s from connect (entry s connect))
connect_row s from connect good = connect_by s from connect (entry s connect) good refl

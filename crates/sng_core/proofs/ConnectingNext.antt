-- What the client that connects comes to, and all clients with it.
use Rattle.std.proofs.Common.{◌≡◌, ℕ, zero, suc, Bool, true, false, List, [], ◌∷◌, ◌++◌, map}
use Rattle.std.proofs.Common.{length, refl, ap, sym, ◌∙◌, subst}
use Rattle.std.specs.Prelude.{if◌then◌else◌, nat_lt, slice_get, Option}
use Rattle.std.specs.Prelude.{Some, None}
use Rattle.std.specs.List.{position_or_len}
use Rattle.std.specs.Str.{bytes_eq}
use Rattle.std.proofs.lemmas.List.{append-nil, map-append}
use Rattle.sng_frames.specs.declared.messages.connect.Connect.{Connect}
use Rattle.sng_book.specs.declared.address.Address.{Address}
use Rattle.sng_history.specs.Clients.{Client, Around, blank, is_here, let_in}
use Rattle.sng_history.specs.Entering.{left_at, entering, entering_first, served, serving, welcomed}
use Rattle.sng_history.specs.State.{is_known}
use Rattle.sng_history.specs.Good.{Away, Distinct}
use Rattle.sng_history.proofs.Own.{same_means}
use Rattle.sng_history.proofs.Kept.{let_in_id}
use Rattle.sng_history.proofs.Places.{away_of}
use Rattle.sng_history.proofs.ClientIds.{ids_of}
use Rattle.sng_history.proofs.ClientIds.{length_ids}
use Rattle.sng_core.specs.Forms.{place_of, client_at, at_place, moved_if}
use Rattle.sng_core.specs.Forms.{entered}
use Rattle.sng_sessions.specs.Handed.{handed_by}
use Rattle.sng_sessions.specs.Moving.{moved_at}
use Rattle.sng_turns.specs.HandingOver.{hand_plan}
use Rattle.sng_core.specs.Connecting.{nothing_handed, own_plan}
use Rattle.sng_core.proofs.Found.{read_at}
use Rattle.sng_core.proofs.HandingRows.{free_moves}
use Rattle.sng_core.proofs.ConnectingKnown.{known_here, unknown_all, each_away}
use Rattle.sng_core.proofs.ConnectingReleases.{in_with, welcoming}
use Rattle.sng_core.proofs.ConnectingServed.{known_test}
use Rattle.sng_core.proofs.Releasing.{differs_by}

moves_at : (a : Around) (from : Address) (connect : Connect) (x : Client) (clean will : Bool)
    → connect.client_id ≡ x.id
    → (let y = in_with a.clock from connect x clean will in
    handed_by a.clock
    (if clean then nothing_handed
    else (if will then nothing_handed else hand_plan a.policy connect.client_id [] 0 0 x.buffer.waiting))
    y
    ≡ served a y)
moves_at a from connect x true true same = refl
moves_at a from connect x true false same = refl
moves_at a from connect x false true same = refl
moves_at a from connect x false false same =
    let y = in_with a.clock from connect x false false in
    ap (λ id. handed_by a.clock (hand_plan a.policy id [] 0 0 x.buffer.waiting) y) same ∙ free_moves a y refl

own_moves : (a : Around) (from : Address) (connect : Connect) (x : Client) → connect.client_id ≡ x.id
    → handed_by a.clock (own_plan a.policy connect (Some x)) (let_in a.clock from connect x)
    ≡ served a (let_in a.clock from connect x)
own_moves a from connect x same = moves_at a from connect x connect.flags.clean connect.flags.will same

-- the one that has the id is served alone
left_id : (id : List ℕ) (clock : ℕ) (x : Client) (here : Bool) → bytes_eq id x.id ≡ false
    → bytes_eq id (let y : Client = if here then left_at clock x else x in y).id ≡ false
left_id id clock x true is = is
left_id id clock x false is = is

passes_by : (a : Around) (id : List ℕ) (y : Client) → bytes_eq id y.id ≡ false → serving a id y ≡ y
passes_by a id y off = rw off refl

other_enters : (clock : ℕ) (from : Address) (connect : Connect) (y : Client)
    → bytes_eq connect.client_id y.id ≡ false
    → bytes_eq connect.client_id (entering clock from connect y).id ≡ false
other_enters clock from connect y off = rw off (left_id connect.client_id clock y (is_here y from) off)

other_passes : (a : Around) (from : Address) (connect : Connect) (y : Client)
    → bytes_eq connect.client_id y.id ≡ false → welcoming a from connect y ≡ entering a.clock from connect y
other_passes a from connect y off =
    passes_by a connect.client_id (entering a.clock from connect y) (other_enters a.clock from connect y off)

all_pass : (a : Around) (from : Address) (connect : Connect) (ys : List Client) → Away connect.client_id ys
    → map (serving a connect.client_id) (map (entering a.clock from connect) ys)
    ≡ map (entering a.clock from connect) ys
all_pass a from connect [] away = refl
all_pass a from connect (y ∷ ys) away =
    ap (λ z. z ∷ map (serving a connect.client_id) (map (entering a.clock from connect) ys))
    (other_passes a from connect y away.0)
    ∙ ap (λ zs. entering a.clock from connect y ∷ zs) (all_pass a from connect ys away.1)

serves : (a : Around) (id : List ℕ) (y : Client) → bytes_eq id y.id ≡ true → serving a id y ≡ served a y
serves a id y is = rw is refl

enters_as : (clock : ℕ) (from : Address) (connect : Connect) (x : Client)
    → bytes_eq connect.client_id x.id ≡ true → entering clock from connect x ≡ let_in clock from connect x
enters_as clock from connect x is = rw is refl

own_welcome : (a : Around) (from : Address) (connect : Connect) (x : Client)
    → bytes_eq connect.client_id x.id ≡ true
    → welcoming a from connect x ≡ handed_by a.clock (own_plan a.policy connect (Some x))
    (entering a.clock from connect x)
own_welcome a from connect x is =
    let y = let_in a.clock from connect x in
    let h = handed_by a.clock (own_plan a.policy connect (Some x)) in
    ap (serving a connect.client_id) (enters_as a.clock from connect x is)
    ∙ (serves a connect.client_id y (ap (bytes_eq connect.client_id) (let_in_id a.clock from connect x) ∙ is)
    ∙ (sym (own_moves a from connect x (same_means connect.client_id x.id is))
    ∙ ap h (sym (enters_as a.clock from connect x is))))

one_welcome : (a : Around) (from : Address) (connect : Connect) (h : Client → Client) (xs : List Client)
    (i : ℕ) (x : Client) → Distinct xs → slice_get xs i ≡ Some x → bytes_eq connect.client_id x.id ≡ true
    → welcoming a from connect x ≡ h (entering a.clock from connect x)
    → map (serving a connect.client_id) (map (entering a.clock from connect) xs)
    ≡ moved_at i h (map (entering a.clock from connect) xs)
one_welcome a from connect h [] i x apart read is own = absurd cc
one_welcome a from connect h (y ∷ ys) zero x apart read is own =
    let e : y ≡ x = cc in
    let at : bytes_eq connect.client_id y.id ≡ true =
    subst (λ z. bytes_eq connect.client_id z.id ≡ true) (sym e) is in
    let first : welcoming a from connect y ≡ h (entering a.clock from connect y) =
    subst (λ z. welcoming a from connect z ≡ h (entering a.clock from connect z)) (sym e) own in
    ap (λ z. z ∷ map (serving a connect.client_id) (map (entering a.clock from connect) ys)) first
    ∙ ap (λ zs. h (entering a.clock from connect y) ∷ zs)
    (all_pass a from connect ys (away_of connect.client_id y ys at apart.0))
one_welcome a from connect h (y ∷ ys) (suc i) x apart read is own =
    let off : bytes_eq connect.client_id y.id ≡ false =
    differs_by connect.client_id y x (bytes_eq connect.client_id y.id) refl is
    (each_away y.id ys i x apart.0 read) in
    ap (λ z. z ∷ map (serving a connect.client_id) (map (entering a.clock from connect) ys))
    (other_passes a from connect y off)
    ∙ ap (λ zs. entering a.clock from connect y ∷ zs)
    (one_welcome a from connect h ys i x apart.1 read is own)

-- for one that comes first nothing waits
blank_passes : (a : Around) (from : Address) (connect : Connect) (same clean will : Bool)
    → (let y = in_with a.clock from connect (blank connect.client_id) clean will in
    if same then served a y else y)
    ≡ in_with a.clock from connect (blank connect.client_id) clean will
blank_passes a from connect true true true = refl
blank_passes a from connect true true false = refl
blank_passes a from connect true false true = refl
blank_passes a from connect true false false = refl
blank_passes a from connect false clean will = refl

first_passes : (a : Around) (from : Address) (connect : Connect)
    → serving a connect.client_id (let_in a.clock from connect (blank connect.client_id))
    ≡ let_in a.clock from connect (blank connect.client_id)
first_passes a from connect =
    blank_passes a from connect (bytes_eq connect.client_id
    (let_in a.clock from connect (blank connect.client_id)).id) connect.flags.clean connect.flags.will

known_first : (clock : ℕ) (from : Address) (connect : Connect) (xs : List Client)
    → is_known connect.client_id xs ≡ true → entering_first clock from connect xs ≡ []
known_first clock from connect xs is = rw is refl

unknown_first : (clock : ℕ) (from : Address) (connect : Connect) (xs : List Client)
    → is_known connect.client_id xs ≡ false
    → entering_first clock from connect xs ≡ let_in clock from connect (blank connect.client_id) ∷ []
unknown_first clock from connect xs is = rw is refl

welcome_by : (a : Around) (from : Address) (connect : Connect) (xs : List Client) (found : Bool)
    → (let i = position_or_len (bytes_eq connect.client_id) (ids_of xs) in
    let place : Option ℕ = if found then Some i else None in
    nat_lt i (length (ids_of xs)) ≡ found → Distinct xs
    → moved_if place (handed_by a.clock (own_plan a.policy connect (at_place xs place)))
    (entered a.clock from connect xs) ≡ welcomed a from connect xs)
welcome_by a from connect xs true is apart =
    let id = connect.client_id in
    let g = serving a id in
    let i = position_or_len (bytes_eq id) (ids_of xs) in
    let x = client_at xs i in
    let h = handed_by a.clock (own_plan a.policy connect (Some x)) in
    let ys = map (entering a.clock from connect) xs in
    let read = read_at xs i (ap (λ n. nat_lt i n) (sym (length_ids xs)) ∙ is) in
    let here = known_here id xs i x refl read in
    let all : entered a.clock from connect xs ≡ ys =
    ap (λ first. ys ++ first) (known_first a.clock from connect xs (known_test id xs ∙ is))
    ∙ append-nil ys in
    ap (moved_at i h) all ∙ (sym (one_welcome a from connect h xs i x apart read here
    (own_welcome a from connect x here)) ∙ ap (map g) (sym all))
welcome_by a from connect xs false is apart =
    let id = connect.client_id in
    let g = serving a id in
    let ys = map (entering a.clock from connect) xs in
    let new = let_in a.clock from connect (blank id) in
    let all : entered a.clock from connect xs ≡ ys ++ new ∷ [] =
    ap (λ first. ys ++ first) (unknown_first a.clock from connect xs (known_test id xs ∙ is)) in
    sym (ap (map g) all
    ∙ (map-append g ys (new ∷ [])
    ∙ (ap (λ zs. zs ++ g new ∷ []) (all_pass a from connect xs (unknown_all id xs is))
    ∙ (ap (λ z. ys ++ z ∷ []) (first_passes a from connect) ∙ sym all))))

pub welcome_all : (a : Around) (from : Address) (connect : Connect) (xs : List Client) → Distinct xs
    → moved_if (place_of connect.client_id xs)
    (handed_by a.clock (own_plan a.policy connect (at_place xs (place_of connect.client_id xs))))
    (entered a.clock from connect xs) ≡ welcomed a from connect xs
welcome_all a from connect xs apart =
    welcome_by a from connect xs (nat_lt (position_or_len (bytes_eq connect.client_id) (ids_of xs))
    (length (ids_of xs))) refl apart

-- What a CONNECT makes of each client.
use Rattle.std.proofs.Common.{◌≡◌, ℕ, Bool, true, false, List, [], ◌∷◌, ◌++◌, map, refl, ap, sym, ◌∙◌}
use Rattle.std.specs.Prelude.{if◌then◌else◌, ◌&&◌, is_none, slice_get}
use Rattle.std.specs.Str.{bytes_eq}
use Rattle.std.proofs.lemmas.List.{append-nil, map-append}
use Rattle.sng_states.specs.States.{is_awake}
use Rattle.sng_frames.specs.declared.messages.connect.Connect.{Connect}
use Rattle.sng_book.specs.declared.address.Address.{Address}
use Rattle.sng_book.specs.declared.outcome.Denial.{Denial}
use Rattle.sng_book.specs.declared.outcome.Outcome.TheVariants.{Allowed, Denied}
use Rattle.sng_history.specs.Causes.{ByConnect}
use Rattle.sng_history.specs.Clients.{Client, Around, blank, is_here, cleaned, opened, let_in, start_by}
use Rattle.sng_history.specs.Clients.{notes_by, is_drained, drained}
use Rattle.sng_history.specs.State.{State, around, is_known}
use Rattle.sng_history.specs.Outgoing.{handed_over, all_gone}
use Rattle.sng_history.specs.Verdicts.{entry}
use Rattle.sng_history.specs.Lawful.{fixed_for}
use Rattle.sng_history.specs.Steps.{client_next, entrants}
use Rattle.sng_history.specs.Good.{Each, AtRest}
use Rattle.sng_history.specs.Entering.{heard_at, left_at, entering, entering_first, served, serving, welcomed}
use Rattle.sng_history.specs.Entering.{hearing}
use Rattle.sng_history.proofs.Own.{same_self, each_map, map_same}
use Rattle.sng_history.proofs.Steady.{undrained}
use Rattle.sng_history.proofs.Hands.{served_steady, gone_stays}
use Rattle.sng_history.proofs.Kept.{let_in_id}

-- ---- where it is accepted

-- what waits is gone in a clean session, and else handed over
let_in_by : (a : Around) (from : Address) (connect : Connect) (x : Client) (clean will : Bool)
    → connect.flags.clean ≡ clean → connect.flags.will ≡ will
    → (let y = let_in a.clock from connect x in
    notes_by a (if connect.flags.clean then all_gone x.id x.buffer.waiting else handed_over a.policy y) y
    ≡ served a y)
let_in_by a from connect x true true is opens = rw (is, opens) (gone_stays a x.id x.buffer.waiting _ refl)
let_in_by a from connect x true false is opens = rw (is, opens) (gone_stays a x.id x.buffer.waiting _ refl)
let_in_by a from connect x false will is opens = rw is refl

let_in_served : (a : Around) (from : Address) (connect : Connect) (x : Client)
    → (let y = let_in a.clock from connect x in
    notes_by a (if connect.flags.clean then all_gone x.id x.buffer.waiting else handed_over a.policy y) y
    ≡ served a y)
let_in_served a from connect x = let_in_by a from connect x connect.flags.clean connect.flags.will refl refl

-- who is let in does not sleep
let_in_up : (clock : ℕ) (from : Address) (connect : Connect) (x : Client)
    → is_awake (let_in clock from connect x).phase ≡ false
let_in_up clock from connect x =
    let y : Client = record x { address = from; ids = []; duration = connect.duration; heard = clock } in
    by_will connect.flags.will (cleaned connect.flags.clean y)
  where
    by_will : (will : Bool) (y : Client) → is_awake (opened will y).phase ≡ false
    by_will true y = refl
    by_will false y = refl

up_undrained : (x : Client) → is_awake x.phase ≡ false → drained x ≡ x
up_undrained x is =
    undrained x (ap (λ b. b && (is_none (slice_get x.buffer.waiting 0) && is_none x.buffer.exchange)) is)

-- nor does it once it is served
pub own_undrained : (a : Around) (from : Address) (connect : Connect) (x : Client)
    → (let y = served a (let_in a.clock from connect x) in drained y ≡ y)
own_undrained a from connect x =
    let y = let_in a.clock from connect x in
    up_undrained (served a y) (ap is_awake (served_steady a y).phase ∙ let_in_up a.clock from connect x)

-- the one that connects,
pub own_next : (s : State) (from : Address) (connect : Connect) (x : Client) → entry s connect ≡ Allowed
    → bytes_eq connect.client_id x.id ≡ true
    → client_next s (ByConnect from connect) x
    ≡ served (around s (ByConnect from connect)) (let_in s.clock from connect x)
own_next s from connect x may is =
    ap drained (own_by s from connect x (is_here x from) may is refl)
    ∙ own_undrained (around s (ByConnect from connect)) from connect x
  where
    own_by : (s : State) (from : Address) (connect : Connect) (x : Client) (here : Bool)
        → entry s connect ≡ Allowed
        → bytes_eq connect.client_id x.id ≡ true → is_here x from ≡ here
        → (let c = ByConnect from connect in
        notes_by (around s c) (fixed_for s c x) (start_by (around s c) x)
        ≡ served (around s c) (let_in s.clock from connect x))
    own_by s from connect x true may is here =
        rw (is, here, may) (let_in_served (around s (ByConnect from connect)) from connect x)
    own_by s from connect x false may is here =
        rw (is, here, may) (let_in_served (around s (ByConnect from connect)) from connect x)

-- and another one, where it was at rest
pub other_next : (s : State) (from : Address) (connect : Connect) (x : Client) → is_drained x ≡ false
    → entry s connect ≡ Allowed
    → bytes_eq connect.client_id x.id ≡ false
    → client_next s (ByConnect from connect) x ≡ (if is_here x from then left_at s.clock x else x)
other_next s from connect x busy may is =
    ap drained (other_by s from connect x (is_here x from) may is refl)
    ∙ other_rests s.clock x (is_here x from) busy
  where
    other_by : (s : State) (from : Address) (connect : Connect) (x : Client) (here : Bool)
        → entry s connect ≡ Allowed
        → bytes_eq connect.client_id x.id ≡ false → is_here x from ≡ here
        → (let c = ByConnect from connect in
        notes_by (around s c) (fixed_for s c x) (start_by (around s c) x)
        ≡ (if here then left_at s.clock x else x))
    other_by s from connect x true may is here =
        rw (is, here, may) (gone_stays (around s (ByConnect from connect)) x.id x.buffer.waiting
        (left_at s.clock x) refl)
    other_by s from connect x false may is here = rw (is, here, may) refl

    other_rests : (clock : ℕ) (x : Client) (here : Bool) → is_drained x ≡ false
        → drained (if here then left_at clock x else x) ≡ (if here then left_at clock x else x)
    other_rests clock x true busy = refl
    other_rests clock x false busy = undrained x busy

left_if : (id : List ℕ) (clock : ℕ) (x : Client) (here : Bool) → bytes_eq id x.id ≡ false
    → bytes_eq id (let y : Client = if here then left_at clock x else x in y).id ≡ false
left_if id clock x true is = is
left_if id clock x false is = is

entering_by : (s : State) (from : Address) (connect : Connect) (x : Client) (same : Bool)
    → is_drained x ≡ false
    → entry s connect ≡ Allowed → bytes_eq connect.client_id x.id ≡ same
    → client_next s (ByConnect from connect) x
    ≡ serving (around s (ByConnect from connect)) connect.client_id
    (if same then let_in s.clock from connect x else (if is_here x from then left_at s.clock x else x))
entering_by s from connect x true busy may is =
    own_next s from connect x may is
    ∙ sym (serves (around s (ByConnect from connect)) connect.client_id (let_in s.clock from connect x)
    (ap (bytes_eq connect.client_id) (let_in_id s.clock from connect x) ∙ is))
  where
    serves : (a : Around) (id : List ℕ) (y : Client) → bytes_eq id y.id ≡ true → serving a id y ≡ served a y
    serves a id y is = rw is refl
entering_by s from connect x false busy may is =
    let y : Client = if is_here x from then left_at s.clock x else x in
    other_next s from connect x busy may is
    ∙ sym (passes (around s (ByConnect from connect)) connect.client_id y
    (left_if connect.client_id s.clock x (is_here x from) is))
  where
    passes : (a : Around) (id : List ℕ) (y : Client) → bytes_eq id y.id ≡ false → serving a id y ≡ y
    passes a id y is = rw is refl

pub entering_next : (s : State) (from : Address) (connect : Connect) (x : Client) → is_drained x ≡ false
    → entry s connect ≡ Allowed
    → client_next s (ByConnect from connect) x
    ≡ serving (around s (ByConnect from connect)) connect.client_id (entering s.clock from connect x)
entering_next s from connect x busy may =
    entering_by s from connect x (bytes_eq connect.client_id x.id) busy may refl

first_of : (s : State) (connect : Connect) → entry s connect ≡ Allowed
    → is_known connect.client_id s.clients ≡ false → entrants s connect ≡ blank connect.client_id ∷ []
first_of s connect may is = rw (may, is) refl

none_of : (s : State) (connect : Connect) → entry s connect ≡ Allowed
    → is_known connect.client_id s.clients ≡ true → entrants s connect ≡ []
none_of s connect may is = rw (may, is) refl

entering_blank : (clock : ℕ) (from : Address) (connect : Connect)
    → entering clock from connect (blank connect.client_id)
    ≡ let_in clock from connect (blank connect.client_id)
entering_blank clock from connect = rw (same_self connect.client_id) refl

first_next : (s : State) (from : Address) (connect : Connect) (known : Bool)
    → is_known connect.client_id s.clients ≡ known → entry s connect ≡ Allowed
    → map (client_next s (ByConnect from connect)) (entrants s connect)
    ≡ map (serving (around s (ByConnect from connect)) connect.client_id)
    (entering_first s.clock from connect s.clients)
first_next s from connect true is may =
    ap (map (client_next s (ByConnect from connect))) (none_of s connect may is) ∙ (rw is refl)
first_next s from connect false is may =
    let f = client_next s (ByConnect from connect) in
    let g = serving (around s (ByConnect from connect)) connect.client_id in
    let new = blank connect.client_id in
    ap (map f) (first_of s connect may is)
    ∙ (ap (λ x. x ∷ []) (entering_next s from connect new refl may
    ∙ ap g (entering_blank s.clock from connect)) ∙ (rw is refl))

map_twice : (f g h : Client → Client) (xs : List Client) → Each (λ x. f x ≡ g (h x)) xs
    → map f xs ≡ map g (map h xs)
map_twice f g h [] same = refl
map_twice f g h (x ∷ xs) same = rw (same.0, map_twice f g h xs same.1) refl

-- all clients
pub entered_next : (s : State) (from : Address) (connect : Connect) → Each AtRest s.clients
    → entry s connect ≡ Allowed
    → map (client_next s (ByConnect from connect)) (s.clients ++ entrants s connect)
    ≡ welcomed (around s (ByConnect from connect)) from connect s.clients
entered_next s from connect rest may =
    let f = client_next s (ByConnect from connect) in
    let g = serving (around s (ByConnect from connect)) connect.client_id in
    let h = entering s.clock from connect in
    map-append f s.clients (entrants s connect)
    ∙ (ap (λ xs. xs ++ map f (entrants s connect)) (map_twice f g h s.clients
    (each_map AtRest (λ x. f x ≡ g (h x)) s.clients
    (λ x at. entering_next s from connect x at.busy may) rest))
    ∙ (ap (λ xs. map g (map h s.clients) ++ xs)
    (first_next s from connect (is_known connect.client_id s.clients) refl may)
    ∙ sym (map-append g (map h s.clients) (entering_first s.clock from connect s.clients))))

-- ---- and where it is denied

-- who is heard is at rest as before
hearing_rests : (clock : ℕ) (x : Client) (here : Bool) → is_drained x ≡ false
    → drained (if here then heard_at clock x else x) ≡ (if here then heard_at clock x else x)
hearing_rests clock x true busy = undrained (heard_at clock x) busy
hearing_rests clock x false busy = undrained x busy

hearing_by : (s : State) (from : Address) (connect : Connect) (rule : Denial) (x : Client) (same here : Bool)
    → entry s connect ≡ Denied rule → bytes_eq connect.client_id x.id ≡ same → is_here x from ≡ here
    → (let c = ByConnect from connect in
    notes_by (around s c) (fixed_for s c x) (start_by (around s c) x)
    ≡ (if here then heard_at s.clock x else x))
hearing_by s from connect rule x true true may is here = rw (is, here, may) refl
hearing_by s from connect rule x true false may is here = rw (is, here, may) refl
hearing_by s from connect rule x false true may is here = rw (is, here, may) refl
hearing_by s from connect rule x false false may is here = rw (is, here, may) refl

pub hearing_next : (s : State) (from : Address) (connect : Connect) (rule : Denial) (x : Client)
    → is_drained x ≡ false
    → entry s connect ≡ Denied rule → client_next s (ByConnect from connect) x ≡ hearing s.clock from x
hearing_next s from connect rule x busy may =
    ap drained (hearing_by s from connect rule x (bytes_eq connect.client_id x.id)
    (is_here x from) may refl refl)
    ∙ hearing_rests s.clock x (is_here x from) busy

no_entrants : (s : State) (connect : Connect) (rule : Denial) → entry s connect ≡ Denied rule
    → entrants s connect ≡ []
no_entrants s connect rule may = rw may refl

pub heard_next : (s : State) (from : Address) (connect : Connect) (rule : Denial) → Each AtRest s.clients
    → entry s connect ≡ Denied rule
    → map (client_next s (ByConnect from connect)) (s.clients ++ entrants s connect)
    ≡ map (hearing s.clock from) s.clients
heard_next s from connect rule rest may =
    let f = client_next s (ByConnect from connect) in
    let g = hearing s.clock from in
    ap (λ xs. map f (s.clients ++ xs)) (no_entrants s connect rule may)
    ∙ (ap (map f) (append-nil s.clients)
    ∙ map_same f g s.clients (each_map AtRest (λ x. f x ≡ g x) s.clients
    (λ x at. hearing_next s from connect rule x at.busy may) rest))

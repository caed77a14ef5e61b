-- Where clients are behind a step: the client at addresses of its own, and no other at any of these.
use Rattle.std.proofs.Common.{◌≡◌, ℕ, Bool, true, false, List, [], ◌∷◌, ◌++◌, refl, ap, sym, ◌∙◌, subst}
use Rattle.std.proofs.Common.{if◌then◌else◌}
use Rattle.std.specs.Prelude.{◌&&◌, not}
use Rattle.std.specs.Str.{bytes_eq}
use Rattle.std.proofs.lemmas.List.{append-nil}
use Rattle.sng_frames.specs.declared.messages.connect.Connect.{Connect}
use Rattle.sng_book.specs.Denials.{is_allowed}
use Rattle.sng_book.specs.declared.address.Address.{Address}
use Rattle.sng_book.specs.declared.outcome.Denial.{Denial}
use Rattle.sng_book.specs.declared.outcome.Outcome.{Outcome}
use Rattle.sng_book.specs.declared.outcome.Outcome.TheVariants.{Allowed, Denied}
use Rattle.sng_book.specs.Traces.{is_own}
use Rattle.sng_history.specs.Causes.{Cause}
use Rattle.sng_history.specs.Causes.{ByConnect, ByMessage, BySource, ByBroken, ByPacket, ByUp, ByDown, ByTake}
use Rattle.sng_history.specs.Causes.{ByReplace, ByTick}
use Rattle.sng_history.specs.Clients.{Client, blank, is_here, let_in, start_by, notes_by}
use Rattle.sng_history.specs.Entering.{heard_at}
use Rattle.sng_history.specs.State.{State, around, is_known}
use Rattle.sng_history.specs.Verdicts.{entry}
use Rattle.sng_history.specs.Lawful.{fixed_for}
use Rattle.sng_history.specs.Steps.{entrants, newcomers_for, client_next, clients_next, next_by}
use Rattle.sng_history.specs.Good.{Each, AtRest}
use Rattle.sng_history.proofs.Own.{same_self, same_means, each_with, each_map, each_append, each_mapped}
use Rattle.sng_history.proofs.Steady.{start_lasts, drained_lasts}
use Rattle.sng_history.proofs.Hands.{served_steady}
use Rattle.sng_history.proofs.Kept.{client_id}
use Rattle.sng_history.proofs.Entries.{own_next, hearing_next}
use Rattle.sng_history.proofs.Places.{let_in_at}
use Rattle.sng_history.proofs.GoodNext.{good_next}
use Rattle.sng_history.proofs.SentTo.{stayed_at}
use Rattle.sng_history.proofs.Stayed.{enters_by, fixed_put}
use Rattle.sng_isolation.proofs.Alike.{IsPlaced, Sound}

-- a client keeps its address, but with its own CONNECT
pub address_next : (s : State) (c : Cause) (x : Client) → enters_by c x ≡ false
    → (client_next s c x).address ≡ x.address
address_next s c x other =
    let a = around s c in
    let y = start_by a x in
    let notes = fixed_for s c x in
    (drained_lasts (notes_by a notes y)).address
    ∙ (stayed_at a notes y (fixed_put s c x other) ∙ (start_lasts a x).address)

-- where it is placed, and the other keeps its id and is at an address that is one of these as well, so is that
placed_at : (id : List ℕ) (own : List Address) (x y : Client) → y.id ≡ x.id
    → is_own own y.address ≡ bytes_eq id x.id → IsPlaced id own y
placed_at id own x y same at = at ∙ ap (bytes_eq id) (sym same)

placed_next : (id : List ℕ) (own : List Address) (s : State) (c : Cause) (x : Client) → enters_by c x ≡ false
    → IsPlaced id own x → IsPlaced id own (client_next s c x)
placed_next id own s c x other placed =
    placed_at id own x (client_next s c x) (client_id (around s c) (fixed_for s c x) x)
    (ap (is_own own) (address_next s c x other) ∙ placed)

-- ---- a CONNECT

-- it comes from an address of the client exactly where it is the client's
abbrev pub IsStraight : List ℕ → List Address → Cause → Type 0
IsStraight id own (ByConnect from connect) = is_own own from ≡ bytes_eq id connect.client_id
IsStraight id own (ByMessage from request) = Unit {0}
IsStraight id own (BySource from p) = Unit {0}
IsStraight id own (ByBroken from rule) = Unit {0}
IsStraight id own (ByPacket p) = Unit {0}
IsStraight id own ByUp = Unit {0}
IsStraight id own ByDown = Unit {0}
IsStraight id own ByTake = Unit {0}
IsStraight id own (ByReplace policy) = Unit {0}
IsStraight id own (ByTick clock) = Unit {0}

entered_placed : (id : List ℕ) (own : List Address) (s : State) (from : Address) (connect : Connect)
    (x : Client)
    → entry s connect ≡ Allowed → bytes_eq connect.client_id x.id ≡ true
    → is_own own from ≡ bytes_eq id connect.client_id
    → IsPlaced id own (client_next s (ByConnect from connect) x)
entered_placed id own s from connect x may named straight =
    let c = ByConnect from connect in
    let a = around s c in
    let y = let_in s.clock from connect x in
    let at : (client_next s c x).address ≡ from =
    ap (λ z. z.address) (own_next s from connect x may named)
    ∙ ((served_steady a y).address ∙ let_in_at s.clock from connect x) in
    placed_at id own x (client_next s c x) (client_id a (fixed_for s c x) x)
    (ap (is_own own) at ∙ (straight ∙ ap (bytes_eq id) (same_means connect.client_id x.id named)))

heard_placed : (id : List ℕ) (own : List Address) (s : State) (from : Address) (connect : Connect)
    (rule : Denial) (x : Client)
    → entry s connect ≡ Denied rule → AtRest x → IsPlaced id own x
    → IsPlaced id own (client_next s (ByConnect from connect) x)
heard_placed id own s from connect rule x may rest placed =
    subst (IsPlaced id own) (sym (hearing_next s from connect rule x rest.busy may)) (by_here (is_here x from))
  where
    by_here : (here : Bool) → IsPlaced id own (if here then heard_at s.clock x else x)
    by_here true = placed
    by_here false = placed

connect_placed : (id : List ℕ) (own : List Address) (s : State) (from : Address) (connect : Connect)
    (o : Outcome) (x : Client)
    → entry s connect ≡ o → is_own own from ≡ bytes_eq id connect.client_id → AtRest x → IsPlaced id own x
    → IsPlaced id own (client_next s (ByConnect from connect) x)
connect_placed id own s from connect (Denied rule) x may straight rest placed =
    heard_placed id own s from connect rule x may rest placed
connect_placed id own s from connect Allowed x may straight rest placed =
    by_own (bytes_eq connect.client_id x.id) refl
  where
    by_own : (b : Bool) → bytes_eq connect.client_id x.id ≡ b
        → IsPlaced id own (client_next s (ByConnect from connect) x)
    by_own true is = entered_placed id own s from connect x may is straight
    by_own false is = placed_next id own s (ByConnect from connect) x is placed

first_placed : (id : List ℕ) (own : List Address) (s : State) (from : Address) (connect : Connect)
    (o : Outcome) (known : Bool)
    → entry s connect ≡ o → is_own own from ≡ bytes_eq id connect.client_id
    → Each (λ x. IsPlaced id own (client_next s (ByConnect from connect) x))
    (if is_allowed o && not known then blank connect.client_id ∷ [] else [])
first_placed id own s from connect (Denied rule) known may straight = tt
first_placed id own s from connect Allowed true may straight = tt
first_placed id own s from connect Allowed false may straight = (
  entered_placed id own s from connect (blank connect.client_id) may (same_self connect.client_id) straight,
  tt,
)

-- ---- all clients

-- nobody enters by any other cause
stay_placed : (id : List ℕ) (own : List Address) (s : State) (c : Cause) → newcomers_for s c ≡ []
    → ((x : Client) → enters_by c x ≡ false) → Each (IsPlaced id own) s.clients
    → Each (IsPlaced id own) (clients_next s c)
stay_placed id own s c none others placed =
    each_mapped (IsPlaced id own) (client_next s c) (s.clients ++ newcomers_for s c)
    (subst (Each (λ x. IsPlaced id own (client_next s c x)))
    (sym (append-nil s.clients) ∙ ap (λ xs. s.clients ++ xs) (sym none))
    (each_map (IsPlaced id own) (λ x. IsPlaced id own (client_next s c x)) s.clients
    (λ x at. placed_next id own s c x (others x) at) placed))

all_placed : (id : List ℕ) (own : List Address) (s : State) (c : Cause) → IsStraight id own c
    → Each AtRest s.clients → Each (IsPlaced id own) s.clients → Each (IsPlaced id own) (clients_next s c)
all_placed id own s (ByConnect from connect) straight rest placed =
    let c = ByConnect from connect in
    each_mapped (IsPlaced id own) (client_next s c) (s.clients ++ entrants s connect)
    (each_append (λ x. IsPlaced id own (client_next s c x)) s.clients (entrants s connect)
    (each_with AtRest (IsPlaced id own) (λ x. IsPlaced id own (client_next s c x)) s.clients
    (λ x at is. connect_placed id own s from connect (entry s connect) x refl straight at is) rest placed)
    (first_placed id own s from connect (entry s connect) (is_known connect.client_id s.clients) refl straight))
all_placed id own s (ByMessage from request) straight rest placed =
    stay_placed id own s (ByMessage from request) refl (λ x. refl) placed
all_placed id own s (BySource from p) straight rest placed =
    stay_placed id own s (BySource from p) refl (λ x. refl) placed
all_placed id own s (ByBroken from rule) straight rest placed =
    stay_placed id own s (ByBroken from rule) refl (λ x. refl) placed
all_placed id own s (ByPacket p) straight rest placed =
    stay_placed id own s (ByPacket p) refl (λ x. refl) placed
all_placed id own s ByUp straight rest placed = stay_placed id own s ByUp refl (λ x. refl) placed
all_placed id own s ByDown straight rest placed = stay_placed id own s ByDown refl (λ x. refl) placed
all_placed id own s ByTake straight rest placed = stay_placed id own s ByTake refl (λ x. refl) placed
all_placed id own s (ByReplace policy) straight rest placed =
    stay_placed id own s (ByReplace policy) refl (λ x. refl) placed
all_placed id own s (ByTick clock) straight rest placed =
    stay_placed id own s (ByTick clock) refl (λ x. refl) placed

pub sound_next : (id : List ℕ) (own : List Address) (s : State) (c : Cause) → IsStraight id own c
    → Sound id own s → Sound id own (next_by s c)
sound_next id own s c straight sound = record {
  good = good_next s c sound.good;
  placed = all_placed id own s c straight sound.good.rest sound.placed;
}

-- An awake client is sent PINGRESP exactly where nothing is left for it: so the rows show when it sleeps
-- again (MQTT-SN 1.2, 6.14).
use Rattle.std.proofs.Common.{◌≡◌, Bool, true, false, List, [], ◌∷◌, ◌++◌, refl, ap, sym, ◌∙◌, subst}
use Rattle.std.proofs.Common.{if◌then◌else◌, arith}
use Rattle.std.specs.Prelude.{◌==◌, ◌&&◌, ◌||◌, Some}
use Rattle.std.specs.List.{flat_map}
use Rattle.std.proofs.lemmas.List.Folds.{list_any-append}
use Rattle.std.proofs.lemmas.Bool.Decides.{nat_tests}
use Rattle.sng_states.specs.declared.state.ClientState.TheVariants.{Asleep, Awake}
use Rattle.sng_book.specs.declared.address.Address.{Address}
use Rattle.sng_book.specs.declared.out.Out.{Out}
use Rattle.sng_history.specs.Causes.{Cause, request_of}
use Rattle.sng_history.specs.Clients.{Client, same_address, is_here, is_author, start_by, is_drained, drained}
use Rattle.sng_history.specs.Good.{Each, Apart, OnePlace}
use Rattle.sng_history.specs.Lawful.{fixed_for}
use Rattle.sng_history.specs.Standing.{Release}
use Rattle.sng_history.specs.State.{State, around}
use Rattle.sng_history.specs.Steps.{client_next}
use Rattle.sng_history.specs.Whole.{answer, drained_outs, spell, part}
use Rattle.sng_laws.specs.ViewsClients.{is_pong_to, is_ponged}
use Rattle.sng_history.proofs.Own.{same_self, each_with}
use Rattle.sng_history.proofs.Places.{Stays, address_means, here_is, apart_flip}
use Rattle.sng_promise.proofs.Clients.SeenClients.{moved_to}
use Rattle.sng_promise.proofs.Sleepers.SeenFramesAnswers.{NoPong, none_pongs}
use Rattle.sng_promise.proofs.Sleepers.SeenFrames.{spell_none}
use Rattle.sng_history.proofs.Booleans.{left_holds, right_holds}
use Rattle.sng_history.specs.Answers.{pong}

-- ---- addresses

pub same_place : (place : Address) → same_address place place ≡ true
same_place place =
    let port : (place.port == place.port) ≡ true = grind (arith, nat_tests) in
    rw (same_self place.ip, port) refl

not_true : (b : Bool) → (b ≡ true → ⊥) → b ≡ false
not_true true none = absurd (none refl)
not_true false none = refl

either : (b c : Bool) → (b || c) ≡ true → (b ≡ true → ⊥) → (c ≡ true → ⊥) → ⊥
either true c is one two = one refl
either false c is one two = two is

-- ---- what is sent for one client

abbrev pub author_outs : Cause → Client → List Out
author_outs c y = if is_author c y then answer (request_of c) y else []

pub pongs_append : (place : Address) (xs ys : List Out)
    → is_ponged (Some place) (xs ++ ys) ≡ (is_ponged (Some place) xs || is_ponged (Some place) ys)
pongs_append place xs ys = list_any-append (is_pong_to (Some place)) xs ys

drained_by : (place to : Address) (b : Bool)
    → is_ponged (Some place) (let outs : List Out = if b then pong to ∷ [] else [] in outs)
    ≡ (b && same_address place to)
drained_by place to true = whole (same_address place to)
  where
    whole : (b : Bool) → ((b && true) || false) ≡ b
    whole true = refl
    whole false = refl
drained_by place to false = refl

part_pongs : (s : State) (c : Cause) (dropped : List Release) (y : Client) (place : Address)
    → is_ponged (Some place) (part (around s c) dropped (fixed_for s c y) y)
    ≡ (is_ponged (Some place) (author_outs c y)
    || (is_drained (moved_to s c y) && same_address place (moved_to s c y).address))
part_pongs s c dropped y place =
    let a = around s c in
    let z = moved_to s c y in
    let said = spell a dropped (start_by a y) (fixed_for s c y) in
    pongs_append place (author_outs c y) (said ++ drained_outs z)
    ∙ ap (λ b. is_ponged (Some place) (author_outs c y) || b)
    (pongs_append place said (drained_outs z)
    ∙ (ap (λ b. b || is_ponged (Some place) (drained_outs z))
    (none_pongs place said (spell_none a dropped (start_by a y) (fixed_for s c y)))
    ∙ drained_by place z.address (is_drained z)))

-- what a client's own message is answered, and what becomes of the client by it
pub record Author (s : State) (c : Cause) (y : Client) : Type 0 where
  pub here : (place : Address) → is_ponged (Some place) (author_outs c y) ≡ true → is_here y place ≡ true
  pub own : (moved_to s c y).phase ≡ Awake → (place : Address)
      → is_ponged (Some place) (author_outs c y) ≡ false
  pub stays : Stays y (client_next s c y)

-- ---- one client and another

awake_there : (z : Client) → z.phase ≡ Awake → is_here (drained z) z.address ≡ true
awake_there z is = by_drained (is_drained z)
  where
    by_drained : (b : Bool) → is_here (if b then record z { phase = Asleep } else z) z.address ≡ true
    by_drained true = same_place z.address
    by_drained false = rw is (same_place z.address)

drained_there : (z : Client) (place : Address) → is_drained z ≡ true → same_address place z.address ≡ true
    → is_here (drained z) place ≡ true
drained_there z place is same =
    let at : place ≡ z.address = address_means place z.address same in
    rw (is, at) (same_place z.address)

-- the client was where it is
awake_here : (s : State) (c : Cause) (x : Client) → Author s c x → (moved_to s c x).phase ≡ Awake
    → x.address ≡ (moved_to s c x).address
awake_here s c x author is =
    let z = moved_to s c x in here_is x z.address (author.stays z.address (awake_there z is))

awake_own : (s : State) (c : Cause) (x : Client) → Author s c x → (moved_to s c x).phase ≡ Awake
    → is_here x x.address ≡ true
awake_own s c x author is =
    let z = moved_to s c x in
    subst (λ place. is_here x place ≡ true) (sym (awake_here s c x author is))
    (author.stays z.address (awake_there z is))

not_both : (b c : Bool) → (b && c) ≡ false → b ≡ true → c ≡ true → ⊥
not_both true true apart one two = cc
not_both true false apart one two = cc
not_both false c apart one two = cc

-- nothing of that is sent to it for another client
other_pongs : (s : State) (c : Cause) (dropped : List Release) (x y : Client) → Author s c x → Author s c y
    → Apart x y
    → (moved_to s c x).phase ≡ Awake
    → is_ponged (Some x.address) (part (around s c) dropped (fixed_for s c y) y) ≡ false
other_pongs s c dropped x y author other apart is =
    let z = moved_to s c y in
    let own = awake_own s c x author is in
    let never : is_here y x.address ≡ true → ⊥ =
    λ there. not_both (is_here x x.address) (is_here y x.address) (apart x.address) own there in
    part_pongs s c dropped y x.address
    ∙ not_true (is_ponged (Some x.address) (author_outs c y)
    || (is_drained z && same_address x.address z.address))
    (λ pongs. either (is_ponged (Some x.address) (author_outs c y))
    (is_drained z && same_address x.address z.address) pongs
    (λ answers. never (other.here x.address answers))
    (λ sleeps. never (other.stays x.address
    (drained_there z x.address (left_holds (is_drained z) (same_address x.address z.address) sleeps)
    (right_holds (is_drained z) (same_address x.address z.address) sleeps)))))

and_whole : (b c : Bool) → c ≡ true → (b && c) ≡ b
and_whole true c is = is
and_whole false c is = refl

own_pongs : (s : State) (c : Cause) (dropped : List Release) (x : Client) → Author s c x
    → (moved_to s c x).phase ≡ Awake
    → is_ponged (Some x.address) (part (around s c) dropped (fixed_for s c x) x) ≡ is_drained (moved_to s c x)
own_pongs s c dropped x author is =
    let z = moved_to s c x in
    let there : same_address x.address z.address ≡ true =
    subst (λ place. same_address x.address place ≡ true) (awake_here s c x author is)
    (same_place x.address) in
    part_pongs s c dropped x x.address
    ∙ (ap (λ b. b || (is_drained z && same_address x.address z.address)) (author.own is x.address)
    ∙ and_whole (is_drained z) (same_address x.address z.address) there)

-- ---- all clients

-- what is sent for these clients tells the client, where it is awake then, whether anything is left
abbrev pub Told : State → Cause → List Out → Client → Type 0
Told s c outs x =
    (moved_to s c x).phase ≡ Awake → is_ponged (Some x.address) outs ≡ is_drained (moved_to s c x)

rest_pongs : (s : State) (c : Cause) (dropped : List Release) (x : Client) (ys : List Client)
    → ((y : Client) → Author s c y)
    → Each (Apart x) ys
    → (moved_to s c x).phase ≡ Awake
    → is_ponged (Some x.address) (flat_map (λ y. part (around s c) dropped (fixed_for s c y) y) ys) ≡ false
rest_pongs s c dropped x [] author apart is = refl
rest_pongs s c dropped x (y ∷ ys) author apart is =
    let f : Client → List Out = λ one. part (around s c) dropped (fixed_for s c one) one in
    pongs_append x.address (f y) (flat_map f ys)
    ∙ (ap (λ b. b || is_ponged (Some x.address) (flat_map f ys))
    (other_pongs s c dropped x y (author x) (author y) apart.0 is)
    ∙ rest_pongs s c dropped x ys author apart.1 is)

or_none : (b : Bool) → (b || false) ≡ b
or_none true = refl
or_none false = refl

pub rows_told : (s : State) (c : Cause) (dropped : List Release) (xs : List Client)
    → ((y : Client) → Author s c y) → OnePlace xs
    → Each (Told s c (flat_map (λ y. part (around s c) dropped (fixed_for s c y) y) xs)) xs
rows_told s c dropped [] author places = tt
rows_told s c dropped (x ∷ xs) author places =
    let f : Client → List Out = λ y. part (around s c) dropped (fixed_for s c y) y in (
      λ is. pongs_append x.address (f x) (flat_map f xs)
          ∙ (ap (λ b. is_ponged (Some x.address) (f x) || b) (rest_pongs s c dropped x xs author places.0 is)
          ∙ (or_none (is_ponged (Some x.address) (f x)) ∙ own_pongs s c dropped x (author x) is)),
      each_with (Apart x) (Told s c (flat_map f xs)) (Told s c (f x ++ flat_map f xs)) xs
          (λ y apart told is. pongs_append y.address (f x) (flat_map f xs)
          ∙ (ap (λ b. b || is_ponged (Some y.address) (flat_map f xs))
          (other_pongs s c dropped y x (author y) (author x) (apart_flip x y apart) is)
          ∙ told is))
          places.0 (rows_told s c dropped xs author places.1),
    )

-- where nothing else of the row is PINGRESP
pub told_before : (s : State) (c : Cause) (own rest : List Out) (x : Client) → NoPong rest → Told s c own x
    → Told s c (own ++ rest) x
told_before s c own rest x none told is =
    pongs_append x.address own rest
    ∙ (ap (λ b. is_ponged (Some x.address) own || b) (none_pongs x.address rest none)
    ∙ (or_none (is_ponged (Some x.address) own) ∙ told is))

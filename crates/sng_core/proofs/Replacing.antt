-- A replacement of the policy, one ending after another, lets out what the law of rows says, and leads to the
-- state that it says.
use Rattle.std.proofs.Common.{◌≡◌, ◌+◌, ℕ, suc, Bool, true, false, List, [], ◌∷◌}
use Rattle.std.proofs.Common.{◌++◌, map, length, take, refl, ap, sym, ◌∙◌, arith}
use Rattle.std.proofs.Common.{length-append}
use Rattle.std.specs.Prelude.{if◌then◌else◌}
use Rattle.std.specs.List.{list_any, flat_map}
use Rattle.std.specs.Str.{bytes_eq}
use Rattle.std.proofs.lemmas.List.{append-nil, append_assoc, take_all}
use Rattle.std.proofs.lemmas.List.Folds.{list_any-append}
use Rattle.sng_grants.specs.Limits.{Limits}
use Rattle.sng_grants.specs.declared.policy.Policy.{Policy}
use Rattle.sng_fan.specs.declared.held.Held.{Held}
use Rattle.sng_fan.specs.Subscriptions.{IsOneClients}
use Rattle.sng_outbox.specs.declared.item.Item.TheVariants as item
use Rattle.sng_history.specs.Causes.{ByReplace}
use Rattle.sng_history.specs.Clients.{Client}
use Rattle.sng_history.specs.Links.{Link}
use Rattle.sng_history.specs.Standing.{Release, ended, releases_of, released_from, released}
use Rattle.sng_history.specs.Standing.{places_left, dropped_of, is_release}
use Rattle.sng_history.specs.Standing.{still_wanted}
use Rattle.sng_history.specs.State.{State, around}
use Rattle.sng_history.specs.Lawful.{ends_under}
use Rattle.sng_history.specs.Whole.{spell}
use Rattle.sng_history.specs.Steps.{outs_by, next_by, client_next, clients_next}
use Rattle.sng_history.specs.Good.{Each, Away, Distinct, Good}
use Rattle.sng_endings.specs.declared.replacing.SubscriptionEnd.{SubscriptionEnd}
use Rattle.sng_core.proofs.ReplacingSteps.{moved_of, ended_next, ended_outs, all_next, all_outs}
use Rattle.sng_endings.specs.Replacing as apart
use Rattle.sng_endings.specs.Replacing.{moved, endings_by, endings_from}
use Rattle.sng_history.proofs.Endless.{each_wanted, all_still}
use Rattle.sng_history.proofs.Own.{flip}
use Rattle.sng_history.proofs.SaysParts.{part_for, drops_for}
use Rattle.sng_history.proofs.Booleans.{or_neither}
use Rattle.sng_core.proofs.Plain.{Busy, plain_moves, plain_row, all_busy}
use Rattle.sng_core.proofs.ReplacingEnding.{Waits, course}
use Rattle.sng_core.proofs.ReplacingClient.{lost, others, client_course, Unreleased, client_says}
use Rattle.sng_core.proofs.ReplacingLost.{ended_lost, busy_next, once_held}

-- ---- all clients

-- one of these is the client's
abbrev of_client : List ℕ → Release → Bool
of_client client r = bytes_eq client r.client

unreleased_all : (client : List ℕ) (releases : List Release) (held : List Held)
    → list_any (of_client client) releases ≡ false → Unreleased client releases held
unreleased_all client releases [] none = tt
unreleased_all client releases (h ∷ held) none =
    (miss client h.filter releases none, unreleased_all client releases held none)
  where
    miss : (client text : List ℕ) (releases : List Release) → list_any (of_client client) releases ≡ false
        → list_any (is_release client text) releases ≡ false
    miss client text [] none = refl
    miss client text (r ∷ releases) none =
        let both = or_neither (bytes_eq client r.client) (list_any (of_client client) releases) none in
        rw (both.0) (miss client text releases both.1)

others_release : (client id : List ℕ) (keep : List ℕ → Bool) (texts : List (List ℕ))
    → bytes_eq client id ≡ false → list_any (of_client client) (releases_of id keep texts) ≡ false
others_release client id keep [] away = refl
others_release client id keep (text ∷ texts) away =
    pick client id text (releases_of id keep texts) (keep text) away
    (others_release client id keep texts away)
  where
    pick : (client id text : List ℕ) (more : List Release) (b : Bool) → bytes_eq client id ≡ false
        → list_any (of_client client) more ≡ false
        → list_any (of_client client) (if b then more else record { client = id; filter = text } ∷ more)
        ≡ false
    pick client id text more true away later = later
    pick client id text more false away later = rw away later

away_release : (f : Client → Client) (client : List ℕ) (earlier xs : List Client) → Away client xs
    → list_any (of_client client) (released_from earlier xs (map f xs)) ≡ false
away_release f client earlier [] away = refl
away_release f client earlier (x ∷ xs) away =
    let first = releases_of x.id (others earlier xs) (ended x (f x)) in
    list_any-append (of_client client) first (released_from (earlier ++ f x ∷ []) xs (map f xs))
    ∙ rw (others_release client x.id (others earlier xs) (ended x (f x)) away.0)
    (away_release f client (earlier ++ f x ∷ []) xs away.1)

next_append : (limits : Limits) (s : State) (one two : List SubscriptionEnd)
    → all_next limits s (one ++ two) ≡ all_next limits (all_next limits s one) two
next_append limits s [] two = refl
next_append limits s (e ∷ one) two = next_append limits (ended_next limits s e) one two

outs_append : (limits : Limits) (s : State) (one two : List SubscriptionEnd)
    → all_outs limits s (one ++ two) ≡ all_outs limits s one ++ all_outs limits (all_next limits s one) two
outs_append limits s [] two = refl
outs_append limits s (e ∷ one) two =
    ap (λ outs. ended_outs limits s e ++ outs) (outs_append limits (ended_next limits s e) one two)
    ∙ sym (append_assoc (ended_outs limits s e) (all_outs limits (ended_next limits s e) one)
    (all_outs limits (all_next limits (ended_next limits s e) one) two))

-- the state as one client is done with
done_course : (s : State) (policy : Policy) (place : ℕ) (earlier : List Client) (x : Client)
    (xs : List Client) (releases : List Release) → Busy x → place ≡ length earlier
    → (let y = client_next s (ByReplace policy) x in
    all_next policy.limits (course policy.limits s (earlier ++ x ∷ xs) releases)
    (endings_by policy place x.id x.filters)
    ≡ course policy.limits s ((earlier ++ y ∷ []) ++ xs)
    (releases ++ releases_of x.id (others earlier xs) (ended x y)))
done_course s policy place earlier x xs releases busy is =
    let y = client_next s (ByReplace policy) x in
    client_course s (around s (ByReplace policy)) policy place x.id earlier xs x.filters is x releases
    ∙ (ap (λ z. course policy.limits s (earlier ++ z ∷ xs)
    (releases ++ releases_of x.id (others earlier xs) (lost policy x.id x.filters)))
    (sym (plain_moves s (ByReplace policy) x (busy_next s policy x busy)))
    ∙ (ap (λ ys. course policy.limits s ys
    (releases ++ releases_of x.id (others earlier xs) (lost policy x.id x.filters)))
    (sym (append_assoc earlier (y ∷ []) xs))
    ∙ ap (λ texts. course policy.limits s ((earlier ++ y ∷ []) ++ xs)
    (releases ++ releases_of x.id (others earlier xs) texts)) (sym (ended_lost s policy x))))

longer : (place : ℕ) (earlier : List Client) (y : Client) → place ≡ length earlier
    → suc place ≡ length (earlier ++ y ∷ [])
longer place earlier y is =
    let size : length (earlier ++ y ∷ []) ≡ length earlier + 1 = length-append earlier (y ∷ []) in
    omega (arith, size)

rest_course : (s : State) (policy : Policy) (place : ℕ) (earlier xs : List Client) (releases : List Release)
    → Each Busy xs → place ≡ length earlier
    → (let f = client_next s (ByReplace policy) in
    all_next policy.limits (course policy.limits s (earlier ++ xs) releases) (endings_from policy place xs)
    ≡ course policy.limits s (earlier ++ map f xs) (releases ++ released_from earlier xs (map f xs)))
rest_course s policy place earlier [] releases busy is =
    ap (course policy.limits s (earlier ++ [])) (sym (append-nil releases))
rest_course s policy place earlier (x ∷ xs) releases busy is =
    let f = client_next s (ByReplace policy) in
    let first = releases_of x.id (others earlier xs) (ended x (f x)) in
    next_append policy.limits (course policy.limits s (earlier ++ x ∷ xs) releases)
    (endings_by policy place x.id x.filters)
    (endings_from policy (suc place) xs)
    ∙ (ap (λ (t : State). all_next policy.limits t (endings_from policy (suc place) xs))
    (done_course s policy place earlier x xs releases busy.0 is)
    ∙ (rest_course s policy (suc place) (earlier ++ f x ∷ []) xs (releases ++ first) busy.1
    (longer place earlier (f x) is)
    ∙ (ap (λ ys. course policy.limits s ys
    ((releases ++ first) ++ released_from (earlier ++ f x ∷ []) xs (map f xs)))
    (append_assoc earlier (f x ∷ []) (map f xs))
    ∙ ap (course policy.limits s (earlier ++ f x ∷ map f xs))
    (append_assoc releases first (released_from (earlier ++ f x ∷ []) xs (map f xs))))))

abbrev NoneOf : List Release → Client → Type 0
NoneOf releases x = list_any (of_client x.id) releases ≡ false

none_more : (id : List ℕ) (releases more : List Release) (xs : List Client) → Away id xs
    → Each (NoneOf releases) xs → ((x : Client) → bytes_eq x.id id ≡ false
    → list_any (of_client x.id) more ≡ false)
    → Each (NoneOf (releases ++ more)) xs
none_more id releases more [] away none each = tt
none_more id releases more (x ∷ xs) away none each = (
  list_any-append (of_client x.id) releases more ∙ rw none.0 (each x (flip x.id id away.0)),
  none_more id releases more xs away.1 none.1 each,
)

rest_says : (s : State) (policy : Policy) (dropped : List Release) (place : ℕ) (earlier xs : List Client)
    (releases : List Release) → Each Busy xs → place ≡ length earlier
    → Distinct xs → Each (λ x. IsOneClients x.filters) xs → Each (NoneOf releases) xs
    → (let f = client_next s (ByReplace policy) in
    dropped ≡ dropped_of policy.limits s.link (releases ++ released_from earlier xs (map f xs))
    → all_outs policy.limits (course policy.limits s (earlier ++ xs) releases) (endings_from policy place xs)
    ≡ flat_map (part_for s (ByReplace policy) dropped) xs)
rest_says s policy dropped place earlier [] releases busy is apart once none drops = refl
rest_says s policy dropped place earlier (x ∷ xs) releases busy is apart once none drops =
    let f = client_next s (ByReplace policy) in
    let a = around s (ByReplace policy) in
    let own = endings_by policy place x.id x.filters in
    let first = releases_of x.id (others earlier xs) (ended x (f x)) in
    let later = released_from (earlier ++ f x ∷ []) xs (map f xs) in
    let first_is : first ≡ releases_of x.id (others earlier xs) (lost policy x.id x.filters) =
    ap (releases_of x.id (others earlier xs)) (ended_lost s policy x) in
    let one : all_outs policy.limits (course policy.limits s (earlier ++ x ∷ xs) releases) own
    ≡ spell a dropped x (ends_under policy x.id x.filters) =
    client_says s a dropped policy place earlier xs later x.id x.filters is (once_held x.filters once.0.0)
    (unreleased_all x.id later x.filters (away_release f x.id (earlier ++ f x ∷ []) xs apart.0))
    x releases refl (unreleased_all x.id releases x.filters none.0)
    (drops ∙ ap (λ rs. dropped_of policy.limits s.link (releases ++ (rs ++ later))) first_is) in
    let rest : all_outs policy.limits (course policy.limits s ((earlier ++ f x ∷ []) ++ xs) (releases ++ first))
    (endings_from policy (suc place) xs) ≡ flat_map (part_for s (ByReplace policy) dropped) xs =
    rest_says s policy dropped (suc place) (earlier ++ f x ∷ []) xs (releases ++ first) busy.1
    (longer place earlier (f x) is) apart.1 once.1
    (none_more x.id releases first xs apart.0 none.1
    (λ y away. others_release y.id x.id (others earlier xs) (ended x (f x)) away))
    (drops ∙ ap (dropped_of policy.limits s.link) (sym (append_assoc releases first later))) in
    outs_append policy.limits (course policy.limits s (earlier ++ x ∷ xs) releases) own
    (endings_from policy (suc place) xs)
    ∙ (ap (λ outs. outs ++ all_outs policy.limits
    (all_next policy.limits (course policy.limits s (earlier ++ x ∷ xs) releases) own)
    (endings_from policy (suc place) xs)) one
    ∙ (ap (λ outs. spell a dropped x (ends_under policy x.id x.filters) ++ outs)
    (ap (λ (t : State). all_outs policy.limits t (endings_from policy (suc place) xs))
    (done_course s policy place earlier x xs releases busy.0 is) ∙ rest)
    ∙ ap (λ outs. outs ++ flat_map (part_for s (ByReplace policy) dropped) xs)
    (sym (plain_row s (ByReplace policy) dropped x (busy_next s policy x busy.0)))))

-- ---- the whole row

take_none : {X : Type 0} (n : ℕ) → take {A = X} n [] ≡ []
take_none n = take_all n [] (omega arith)

-- before the first ending the state is as it was
at_first : (limits : Limits) (s : State) → Good s → course limits s s.clients [] ≡ s
at_first limits s good =
    let waits : Waits limits s.link [] ≡ s.link.waiting =
    ap (λ rs. s.link.waiting ++ map (λ (r : Release). item.Unsubscribe r.filter) rs)
    (take_none (places_left limits s.link)) ∙ append-nil s.link.waiting in
    let wanted : still_wanted s.clients s.link.wanted ≡ s.link.wanted =
    all_still s.clients s.link.wanted s.link.wanted (λ text is. sym (good.wanted_held text) ∙ is)
    (each_wanted s.link.wanted) in
    ap (λ items. let t : State = record s
    { link = record s.link { waiting = items; wanted = still_wanted s.clients s.link.wanted } } in
    t) waits
    ∙ ap (λ ws. let t : State = record s { link = record s.link { wanted = ws } } in t) wanted

none_yet : (xs : List Client) → Each (NoneOf []) xs
none_yet [] = tt
none_yet (x ∷ xs) = (refl, none_yet xs)

pub replaced_outs : (s : State) (policy : Policy) → Good s
    → all_outs policy.limits s (endings_from policy 0 s.clients) ≡ outs_by s (ByReplace policy)
replaced_outs s policy good =
    ap (λ (t : State). all_outs policy.limits t (endings_from policy 0 s.clients))
    (sym (at_first policy.limits s good))
    ∙ rest_says s policy (drops_for s (ByReplace policy)) 0 [] s.clients []
    (all_busy s.clients good.rest) refl good.apart good.once (none_yet s.clients) refl

pub replaced_next : (s : State) (policy : Policy) → Good s
    → (let t = all_next policy.limits s (endings_from policy 0 s.clients) in
    let u : State = record t { policy = policy } in
    u) ≡ next_by s (ByReplace policy)
replaced_next s policy good =
    let c = ByReplace policy in
    let f = client_next s c in
    let all : clients_next s c ≡ map f s.clients = ap (map f) (append-nil s.clients) in
    ap (λ (t : State). let u : State =
    record (all_next policy.limits t (endings_from policy 0 s.clients)) { policy = policy } in
    u) (sym (at_first policy.limits s good))
    ∙ (ap (λ (t : State). let u : State = record t { policy = policy } in u)
    (rest_course s policy 0 [] s.clients [] (all_busy s.clients good.rest) refl)
    ∙ ap (λ ys. let u : State =
    record (course policy.limits s ys (released s.clients ys)) { policy = policy } in
    u)
    (sym all))

-- ---- what ends, over the clients and the link alone

pub moved_by : (s : State) (policy in_force : Policy) (link : Link) (clients : List Client) → Good s
    → in_force ≡ policy
    → moved link clients ≡ apart.all_next policy.limits (moved_of s) (endings_from policy 0 s.clients)
    → record s { policy = in_force; link = link; clients = clients } ≡ next_by s (ByReplace policy)
moved_by s policy in_force link clients good policy_is moved_is =
    (λ i. record s { policy = policy_is i; link = (moved_is i).link; clients = (moved_is i).clients })
    ∙ replaced_next s policy good

-- The endings of one client: the state that they lead to, and what they let out.
use Rattle.std.proofs.Common.{◌≡◌, ℕ, Bool, true, false, List, [], ◌∷◌}
use Rattle.std.proofs.Common.{◌++◌, length, refl, ap, sym, ◌∙◌}
use Rattle.std.specs.Prelude.{if◌then◌else◌, ◌||◌}
use Rattle.std.specs.List.{list_any}
use Rattle.std.specs.Str.{bytes_eq}
use Rattle.std.proofs.lemmas.List.{append-nil, append_assoc}
use Rattle.std.proofs.lemmas.List.Folds.{list_any-append}
use Rattle.sng_grants.specs.declared.policy.Policy.{Policy}
use Rattle.sng_fan.specs.declared.held.Held.{Held}
use Rattle.sng_fan.specs.Subscriptions.{has_text, stands}
use Rattle.sng_book.specs.declared.decision.Decision.TheVariants as note
use Rattle.sng_book.specs.declared.outcome.Outcome.{Outcome}
use Rattle.sng_book.specs.declared.outcome.Outcome.TheVariants.{Allowed, Denied}
use Rattle.sng_book.specs.declared.out.Out.TheVariants.{Note}
use Rattle.sng_history.specs.Clients.{Client, Around, without, notes_by}
use Rattle.sng_history.specs.Standing.{Release, is_held, releases_of}
use Rattle.sng_history.specs.Standing.{dropped_of, is_release, drop_note}
use Rattle.sng_history.specs.State.{State}
use Rattle.sng_history.specs.Verdicts.{coverage}
use Rattle.sng_history.specs.Lawful.{end_of, ends_under}
use Rattle.sng_history.specs.Whole.{spell}
use Rattle.sng_endings.specs.declared.replacing.SubscriptionEnd.{SubscriptionEnd}
use Rattle.sng_core.proofs.ReplacingSteps.{ended_next, all_next, all_outs}
use Rattle.sng_endings.specs.Replacing.{ended_clients, ended_notes, ending_of, endings_by}
use Rattle.sng_history.proofs.Own.{same_self, flip}
use Rattle.sng_history.proofs.Booleans.{or_neither}
use Rattle.sng_core.proofs.ReplacingHeld.{Middle, gone_held}
use Rattle.sng_core.proofs.ReplacingEnding.{course, gone_if, ended_course, dropped_said}
use Rattle.sng_core.proofs.Found.{moved_behind}

-- ---- the endings of one client

-- the filters that are denied to the client
abbrev pub lost_of : List ℕ → Outcome → List (List ℕ)
lost_of text Allowed = []
lost_of text (Denied rule) = text ∷ []

abbrev pub lost : Policy → List ℕ → List Held → List (List ℕ)
lost policy client [] = []
lost policy client (h ∷ held) = lost_of h.filter (coverage policy client h.filter) ++ lost policy client held

-- for whom else a filter stands
abbrev pub others : List Client → List Client → List ℕ → Bool
others earlier xs text = is_held earlier text || is_held xs text

gone_then : (releases more : List Release) (client text : List ℕ) (held : Bool)
    → (releases ++ gone_if held client text) ++ more
    ≡ releases ++ (if held then more else record { client = client; filter = text } ∷ more)
gone_then releases more client text true = ap (λ rs. rs ++ more) (append-nil releases)
gone_then releases more client text false =
    append_assoc releases (record { client = client; filter = text } ∷ []) more

gone_first : (more later : List Release) (client text : List ℕ) (held : Bool)
    → (if held then more else record { client = client; filter = text } ∷ more) ++ later
    ≡ gone_if held client text ++ (more ++ later)
gone_first more later client text true = refl
gone_first more later client text false = refl

one_next : (s : State) (a : Around) (policy : Policy) (place : ℕ) (client : List ℕ) (earlier xs : List Client)
    (h : Held) (rest : List Held) (z : Client) (releases : List Release) (o : Outcome)
    → place ≡ length earlier
    → ((y : Client) (rs : List Release)
    → all_next policy.limits (course policy.limits s (earlier ++ y ∷ xs) rs)
    (endings_by policy place client rest)
    ≡ course policy.limits s (earlier ++ notes_by a (ends_under policy client rest) y ∷ xs)
    (rs ++ releases_of client (others earlier xs) (lost policy client rest)))
    → all_next policy.limits (course policy.limits s (earlier ++ z ∷ xs) releases)
    (ending_of place client h.filter o ++ endings_by policy place client rest)
    ≡ course policy.limits s
    (earlier ++ notes_by a (end_of client h.filter o ++ ends_under policy client rest) z ∷ xs)
    (releases ++ releases_of client (others earlier xs) (lost_of h.filter o ++ lost policy client rest))
one_next s a policy place client earlier xs h rest z releases Allowed is later = later z releases
one_next s a policy place client earlier xs h rest z releases (Denied rule) is later =
    let text = h.filter in
    let e : SubscriptionEnd =
    record { place = place; filter = text; note = note.End client text (Denied rule) } in
    let y = without text z in
    let held = is_held (Middle earlier z xs text) text in
    let more = releases_of client (others earlier xs) (lost policy client rest) in
    ap (λ (t : State). all_next policy.limits t (endings_by policy place client rest))
    (ended_course policy.limits s earlier z xs releases client e is)
    ∙ (later y (releases ++ gone_if held client text)
    ∙ ap (course policy.limits s (earlier ++ notes_by a (ends_under policy client rest) y ∷ xs))
    (gone_then releases more client text held
    ∙ ap (λ b. releases ++ (if b then more else record { client = client; filter = text } ∷ more))
    (gone_held earlier z xs text)))

pub client_course : (s : State) (a : Around) (policy : Policy) (place : ℕ) (client : List ℕ)
    (earlier xs : List Client) (rest : List Held) → place ≡ length earlier
    → (z : Client) (releases : List Release)
    → all_next policy.limits (course policy.limits s (earlier ++ z ∷ xs) releases)
    (endings_by policy place client rest)
    ≡ course policy.limits s (earlier ++ notes_by a (ends_under policy client rest) z ∷ xs)
    (releases ++ releases_of client (others earlier xs) (lost policy client rest))
client_course s a policy place client earlier xs [] is z releases =
    ap (course policy.limits s (earlier ++ z ∷ xs)) (sym (append-nil releases))
client_course s a policy place client earlier xs (h ∷ rest) is z releases =
    one_next s a policy place client earlier xs h rest z releases (coverage policy client h.filter) is
    (client_course s a policy place client earlier xs rest is)

-- ---- what they let out

-- no two of these are the same
abbrev pub HeldOnce : List Held → Type 0
HeldOnce [] = Unit {0}
HeldOnce (h ∷ held) = (stands held h.filter ≡ false) × HeldOnce held

-- none of these filters of the client was let go of
abbrev pub Unreleased : List ℕ → List Release → List Held → Type 0
Unreleased client releases [] = Unit {0}
Unreleased client releases (h ∷ held) =
    (list_any (is_release client h.filter) releases ≡ false) × Unreleased client releases held

unreleased_more : (client text : List ℕ) (releases : List Release) (held : Bool) (rest : List Held)
    → stands rest text ≡ false → Unreleased client releases rest
    → Unreleased client (releases ++ gone_if held client text) rest
unreleased_more client text releases held [] none un = tt
unreleased_more client text releases held (h ∷ rest) none un =
    let away = or_neither (has_text text h) (stands rest text) none in (
      list_any-append (is_release client h.filter) releases (gone_if held client text)
          ∙ (rw un.0 (one_away client h.filter text held away.0)),
      unreleased_more client text releases held rest away.1 un.1,
    )
  where
    one_away : (client text gone : List ℕ) (held : Bool) → bytes_eq text gone ≡ false
        → list_any (is_release client text) (gone_if held client gone) ≡ false
    one_away client text gone true away = refl
    one_away client text gone false away = rw (same_self client, away) refl

-- a filter that is not among these is not let go of for them
miss_one : (client text : List ℕ) (keep : List ℕ → Bool) (h : Held) (more : List (List ℕ)) (o : Outcome)
    → bytes_eq h.filter text ≡ false
    → list_any (is_release client text) (releases_of client keep more) ≡ false
    → list_any (is_release client text) (releases_of client keep (lost_of h.filter o ++ more)) ≡ false
miss_one client text keep h more Allowed away later = later
miss_one client text keep h more (Denied rule) away later =
    pick client text h.filter (releases_of client keep more) (keep h.filter) away later
  where
    pick : (client text gone : List ℕ) (more : List Release) (b : Bool) → bytes_eq gone text ≡ false
        → list_any (is_release client text) more ≡ false
        → list_any (is_release client text)
        (if b then more else record { client = client; filter = gone } ∷ more) ≡ false
    pick client text gone more true away later = later
    pick client text gone more false away later = rw (same_self client, flip text gone away) later

releases_miss : (policy : Policy) (client text : List ℕ) (keep : List ℕ → Bool) (rest : List Held)
    → stands rest text ≡ false
    → list_any (is_release client text) (releases_of client keep (lost policy client rest)) ≡ false
releases_miss policy client text keep [] none = refl
releases_miss policy client text keep (h ∷ rest) none =
    let away = or_neither (has_text text h) (stands rest text) none in
    miss_one client text keep h (lost policy client rest) (coverage policy client h.filter) away.0
    (releases_miss policy client text keep rest away.1)

one_outs : (s : State) (a : Around) (dropped : List Release) (policy : Policy) (place : ℕ) (client : List ℕ)
    (earlier xs : List Client) (h : Held) (rest : List Held) (z : Client) (releases later : List Release)
    (o : Outcome)
    → z.id ≡ client → place ≡ length earlier
    → dropped ≡ dropped_of policy.limits s.link
    (releases ++ (releases_of client (others earlier xs) (lost_of h.filter o ++ lost policy client rest)
    ++ later))
    → stands rest h.filter ≡ false → list_any (is_release client h.filter) releases ≡ false
    → Unreleased client releases rest → list_any (is_release client h.filter) later ≡ false
    → ((y : Client) (rs : List Release) → y.id ≡ client → Unreleased client rs rest
    → dropped ≡ dropped_of policy.limits s.link
    (rs ++ (releases_of client (others earlier xs) (lost policy client rest) ++ later))
    → all_outs policy.limits (course policy.limits s (earlier ++ y ∷ xs) rs)
    (endings_by policy place client rest)
    ≡ spell a dropped y (ends_under policy client rest))
    → all_outs policy.limits (course policy.limits s (earlier ++ z ∷ xs) releases)
    (ending_of place client h.filter o ++ endings_by policy place client rest)
    ≡ spell a dropped z (end_of client h.filter o ++ ends_under policy client rest)
one_outs s a dropped policy place client earlier xs h rest z releases later Allowed own is drops once none un
    then_none more = more z releases own un drops
one_outs s a dropped policy place client earlier xs h rest z releases later
    (Denied rule) own is drops once none un then_none more =
    let text = h.filter in
    let e : SubscriptionEnd =
    record { place = place; filter = text; note = note.End client text (Denied rule) } in
    let held = is_held (Middle earlier z xs text) text in
    let behind = releases_of client (others earlier xs) (lost policy client rest) in
    let link = (course policy.limits s (earlier ++ z ∷ xs) releases).link in
    let split : releases ++ (releases_of client (others earlier xs) (text ∷ lost policy client rest) ++ later)
    ≡ releases ++ (gone_if held client text ++ (behind ++ later)) =
    ap (λ rs. releases ++ rs)
    (ap (λ b. (if b then behind else record { client = client; filter = text } ∷ behind) ++ later)
    (sym (gone_held earlier z xs text)) ∙ gone_first behind later client text held) in
    let drops_are : dropped ≡ dropped_of policy.limits s.link
    (releases ++ (gone_if held client text ++ (behind ++ later))) =
    drops ∙ ap (dropped_of policy.limits s.link) split in
    let next_drops : dropped ≡ dropped_of policy.limits s.link
    ((releases ++ gone_if held client text) ++ (behind ++ later)) =
    drops_are ∙ ap (dropped_of policy.limits s.link)
    (sym (append_assoc releases (gone_if held client text) (behind ++ later))) in
    let behind_none : list_any (is_release client text) (behind ++ later) ≡ false =
    list_any-append (is_release client text) behind later
    ∙ rw (releases_miss policy client text (others earlier xs) rest once) then_none in
    let clients_are : ended_clients (earlier ++ z ∷ xs) e ≡ Middle earlier z xs text =
    rw is (moved_behind (without text) earlier z xs) in
    let notes_are : ended_notes policy.limits link (ended_clients (earlier ++ z ∷ xs) e) text
    ≡ drop_note dropped z.id text =
    ap (λ ys. ended_notes policy.limits link ys text) clients_are
    ∙ (dropped_said policy.limits s.link releases (behind ++ later) client text held none behind_none
    ∙ (ap (λ rs. drop_note rs client text) (sym drops_are)
    ∙ ap (λ c. drop_note dropped c text) (sym own))) in
    let after_are : all_outs policy.limits
    (ended_next policy.limits (course policy.limits s (earlier ++ z ∷ xs) releases) e)
    (endings_by policy place client rest)
    ≡ spell a dropped (without text z) (ends_under policy client rest) =
    ap (λ (t : State). all_outs policy.limits t (endings_by policy place client rest))
    (ended_course policy.limits s earlier z xs releases client e is)
    ∙ more (without text z) (releases ++ gone_if held client text) own
    (unreleased_more client text releases held rest once un) next_drops in
    ap (λ outs. Note e.note ∷ (outs
    ++ all_outs policy.limits (ended_next policy.limits (course policy.limits s (earlier ++ z ∷ xs) releases) e)
    (endings_by policy place client rest))) notes_are
    ∙ ap (λ outs. Note e.note ∷ (drop_note dropped z.id text ++ outs)) after_are

pub client_says : (s : State) (a : Around) (dropped : List Release) (policy : Policy) (place : ℕ)
    (earlier xs : List Client) (later : List Release) (client : List ℕ) (rest : List Held)
    → place ≡ length earlier
    → HeldOnce rest → Unreleased client later rest
    → (z : Client) (releases : List Release) → z.id ≡ client → Unreleased client releases rest
    → dropped ≡ dropped_of policy.limits s.link
    (releases ++ (releases_of client (others earlier xs) (lost policy client rest) ++ later))
    → all_outs policy.limits (course policy.limits s (earlier ++ z ∷ xs) releases)
    (endings_by policy place client rest)
    ≡ spell a dropped z (ends_under policy client rest)
client_says s a dropped policy place earlier xs later client [] is once then_un z releases own un drops = refl
client_says s a dropped policy place earlier xs later client
    (h ∷ rest) is once then_un z releases own un drops =
    one_outs s a dropped policy place client earlier xs h rest z releases later
    (coverage policy client h.filter) own is drops once.0 un.0 un.1 then_un.0
    (client_says s a dropped policy place earlier xs later client rest is once.1 then_un.1)

-- Where the broker is not told of the end of a filter for want of place, the row notes it.
use Rattle.std.proofs.Common.{◌≡◌, ℕ, zero, suc, Bool, true, false, List, [], ◌∷◌, ◌++◌, map, refl, ap, sym}
use Rattle.std.proofs.Common.{◌∙◌, subst, if◌then◌else◌}
use Rattle.std.specs.Prelude.{◌||◌, not, filter, drop}
use Rattle.std.specs.List.{list_any, flat_map}
use Rattle.std.specs.Str.{bytes_eq}
use Rattle.sng_fan.specs.declared.held.Held.{Held}
use Rattle.sng_fan.specs.Subscriptions.{has_text, stands}
use Rattle.sng_frames.specs.declared.messages.connect.Connect.{Connect}
use Rattle.sng_book.specs.declared.address.Address.{Address}
use Rattle.sng_book.specs.declared.outcome.Outcome.TheVariants.{Allowed}
use Rattle.sng_book.specs.declared.out.Out.{Out}
use Rattle.sng_history.specs.Causes.{Cause}
use Rattle.sng_history.specs.Causes.{ByConnect}
use Rattle.sng_history.specs.Clients.{Client}
use Rattle.sng_history.specs.Standing.{Release, is_held, ended, releases_of, released_from, released}
use Rattle.sng_history.specs.Standing.{places_left, is_release, drop_notes}
use Rattle.sng_history.specs.State.{State, around}
use Rattle.sng_history.specs.State.{policy_by}
use Rattle.sng_history.specs.Verdicts.{entry}
use Rattle.sng_history.specs.Answers.{welcome}
use Rattle.sng_history.specs.Whole.{moved, beside}
use Rattle.sng_history.specs.Whole.{entering_part, around_welcome, entry_outs}
use Rattle.sng_history.specs.Steps.{outs_by, notes_for, client_next}
use Rattle.sng_history.specs.Good.{Each}
use Rattle.sng_laws.specs.ViewsLink.{is_outbox_noted}
use Rattle.sng_history.proofs.Own.{same_self, same_means}
use Rattle.sng_history.proofs.SaysParts.{part_for, drops_for}
use Rattle.sng_promise.proofs.WantedFilters.UpstreamLeaving.{is_one}
use Rattle.sng_promise.proofs.WantedFilters.UpstreamEnds.{or_first, noted_left, noted_right, NoEntry}
use Rattle.sng_promise.proofs.WantedFilters.UpstreamEnds.{ends_noted}
use Rattle.sng_promise.proofs.WantedFilters.UpstreamEnds.{part_noted}
use Rattle.sng_history.proofs.Booleans.{or_right}

-- a filter that is among those that ended stood, and does not any more
ended_means : (before after : List Held) (text : List ℕ)
    → is_one (map (λ h. h.filter) (filter (λ h. not (stands after h.filter)) before)) text ≡ true
    → (stands before text ≡ true) × (stands after text ≡ false)
ended_means [] after text is = absurd cc
ended_means (h ∷ held) after text is =
    let kept = filter (λ g. not (stands after g.filter)) held in
    at (stands after h.filter) refl is
    (λ later. let both = ended_means held after text later in
    (or_right (has_text text h) (stands held text) both.0, both.1))
  where
    flipped : (a b : List ℕ) → bytes_eq a b ≡ true → bytes_eq b a ≡ true
    flipped a b is = subst (λ t. bytes_eq b t ≡ true) (sym (same_means a b is)) (same_self b)

    own : (b : Bool) → bytes_eq text h.filter ≡ b → stands after h.filter ≡ false
        → (b || is_one (map (λ g. g.filter) (filter (λ g. not (stands after g.filter)) held)) text) ≡ true
        → (is_one (map (λ g. g.filter) (filter (λ g. not (stands after g.filter)) held)) text ≡ true
        → ((has_text text h || stands held text) ≡ true) × (stands after text ≡ false))
        → ((has_text text h || stands held text) ≡ true) × (stands after text ≡ false)
    own true same gone is rest = (
      or_first (has_text text h) (stands held text) (flipped text h.filter same),
      ap (stands after) (same_means text h.filter same) ∙ gone,
    )
    own false same gone is rest = rest is

    at : (b : Bool) → stands after h.filter ≡ b
        → is_one (map (λ g. g.filter)
        (if not b then h ∷ filter (λ g. not (stands after g.filter)) held
        else filter (λ g. not (stands after g.filter)) held)) text ≡ true
        → (is_one (map (λ g. g.filter) (filter (λ g. not (stands after g.filter)) held)) text ≡ true
        → ((has_text text h || stands held text) ≡ true) × (stands after text ≡ false))
        → ((has_text text h || stands held text) ≡ true) × (stands after text ≡ false)
    at true keeps is rest = rest is
    at false keeps is rest = own (bytes_eq text h.filter) refl keeps is rest

-- of each release, were it dropped, the outs would say so
abbrev Tells : List Release → List Out → Release → Type 0
Tells D outs r = list_any (is_release r.client r.filter) D ≡ true → is_outbox_noted outs ≡ true

abbrev AllTell : List Release → List Out → List Release → Type 0
AllTell D outs [] = Unit {0}
AllTell D outs (r ∷ rs) = Tells D outs r × AllTell D outs rs

tell_append : (D : List Release) (outs : List Out) (xs ys : List Release) → AllTell D outs xs
    → AllTell D outs ys
    → AllTell D outs (xs ++ ys)
tell_append D outs [] ys one two = two
tell_append D outs (x ∷ xs) ys one two = (one.0, tell_append D outs xs ys one.1 two)

tell_if : (D : List Release) (outs : List Out) (r : Release) (rs : List Release) (b : Bool) → Tells D outs r
    → AllTell D outs rs
    → AllTell D outs (if b then rs else r ∷ rs)
tell_if D outs r rs true one more = more
tell_if D outs r rs false one more = (one, more)

tell_releases : (D : List Release) (outs : List Out) (client : List ℕ) (others : List ℕ → Bool)
    (texts : List (List ℕ)) → ((text : List ℕ) → is_one texts text ≡ true
    → Tells D outs (record { client = client; filter = text }))
    → AllTell D outs (releases_of client others texts)
tell_releases D outs client others [] all = tt
tell_releases D outs client others (text ∷ texts) all =
    tell_if D outs (record { client = client; filter = text }) (releases_of client others texts) (others text)
    (all text (or_first (bytes_eq text text) (is_one texts text) (same_self text)))
    (tell_releases D outs client others texts
    (λ t is. all t (or_right (bytes_eq t text) (is_one texts t) is)))

abbrev EndsTell : State → Cause → List Release → List Out → Client → Type 0
EndsTell s c D outs x = (text : List ℕ) → is_one (ended x (client_next s c x)) text ≡ true → Tells D outs
    (record { client = x.id; filter = text })

tell_from : (s : State) (c : Cause) (D : List Release) (outs : List Out) (earlier xs : List Client)
    → Each (EndsTell s c D outs) xs
    → AllTell D outs (released_from earlier xs (map (client_next s c) xs))
tell_from s c D outs earlier [] all = tt
tell_from s c D outs earlier (x ∷ xs) all =
    let y = client_next s c x in
    let others : List ℕ → Bool = λ text. is_held earlier text || is_held xs text in
    tell_append D outs (releases_of x.id others (ended x y))
    (released_from (earlier ++ y ∷ []) xs (map (client_next s c) xs))
    (tell_releases D outs x.id others (ended x y) all.0) (tell_from s c D outs (earlier ++ y ∷ []) xs all.1)

-- the parts of all clients
each_tells : (s : State) (c : Cause) (D : List Release) (xs : List Client) → NoEntry (around s c)
    → Each (EndsTell s c D (flat_map (part_for s c D) xs)) xs
each_tells s c D [] none = tt
each_tells s c D (x ∷ xs) none = (
  λ text is there.
      let both = ended_means x.filters (client_next s c x).filters text is in
      noted_left (part_for s c D x) (flat_map (part_for s c D) xs)
      (part_noted s c D x text (ends_noted s c x text none both.0 both.1) there),
  more xs (each_tells s c D xs none),
)
  where
    more : (ys : List Client) → Each (EndsTell s c D (flat_map (part_for s c D) xs)) ys
        → Each (EndsTell s c D (part_for s c D x ++ flat_map (part_for s c D) xs)) ys
    more [] all = tt
    more (y ∷ ys) all = (
      λ text is there. noted_right (part_for s c D x) (flat_map (part_for s c D) xs) (all.0 text is there),
      more ys all.1,
    )

tell_drop : (D : List Release) (outs : List Out) (n : ℕ) (rs : List Release) → AllTell D outs rs
    → AllTell D outs (drop n rs)
tell_drop D outs zero rs all = all
tell_drop D outs (suc n) [] all = tt
tell_drop D outs (suc n) (r ∷ rs) all = tell_drop D outs n rs all.1

none_told : (D rs : List Release) (outs : List Out) → D ≡ rs → AllTell D outs rs
    → is_outbox_noted outs ≡ false → rs ≡ []
none_told D [] outs is all none = refl
none_told D (r ∷ rs) outs is all none =
    absurd (let there : list_any (is_release r.client r.filter) D ≡ true =
    ap (list_any (is_release r.client r.filter)) is
    ∙ or_first (is_release r.client r.filter r) (list_any (is_release r.client r.filter) rs)
    (rw (same_self r.client, same_self r.filter) refl) in
    let bad : true ≡ false = sym (all.0 there) ∙ none in cc)

-- where the row does not note it, none is dropped
pub rows_dropped : (s : State) (c : Cause) → NoEntry (around s c)
    → is_outbox_noted (flat_map (part_for s c (drops_for s c)) s.clients) ≡ false → drops_for s c ≡ []
rows_dropped s c none quiet =
    let D = drops_for s c in
    let outs = flat_map (part_for s c D) s.clients in
    let all : AllTell D outs (released s.clients (map (client_next s c) s.clients)) =
    tell_from s c D outs [] s.clients (each_tells s c D s.clients none) in
    none_told D D outs refl (tell_drop D outs (places_left (policy_by c s.policy).limits s.link)
    (released s.clients (map (client_next s c) s.clients)) all) quiet

-- a CONNECT that is accepted
drops_noted : (D : List Release) → is_outbox_noted (drop_notes D) ≡ false → D ≡ []
drops_noted [] quiet = refl
drops_noted (r ∷ D) quiet = absurd cc

false_right : (xs ys : List Out) → is_outbox_noted (xs ++ ys) ≡ false → is_outbox_noted ys ≡ false
false_right xs ys quiet = at (is_outbox_noted ys) refl
  where
    at : (b : Bool) → is_outbox_noted ys ≡ b → b ≡ false
    at true is = absurd (let bad : true ≡ false = sym (noted_right xs ys is) ∙ quiet in cc)
    at false is = refl

false_left : (xs ys : List Out) → is_outbox_noted (xs ++ ys) ≡ false → is_outbox_noted xs ≡ false
false_left xs ys quiet = at (is_outbox_noted xs) refl
  where
    at : (b : Bool) → is_outbox_noted xs ≡ b → b ≡ false
    at true is = absurd (let bad : true ≡ false = sym (noted_left xs ys is) ∙ quiet in cc)
    at false is = refl

pub entry_dropped : (s : State) (from : Address) (connect : Connect) → entry s connect ≡ Allowed
    → is_outbox_noted (outs_by s (ByConnect from connect)) ≡ false → drops_for s (ByConnect from connect) ≡ []
entry_dropped s from connect is quiet =
    let c = ByConnect from connect in
    let D = drops_for s c in
    let one = flat_map (moved from connect.client_id) s.clients in
    let two = flat_map (beside (around s c) (notes_for s c) connect.client_id) s.clients in
    let last =
    around_welcome connect.flags.clean
    (flat_map (entering_part (around s c) (notes_for s c) from connect) s.clients)
    (welcome connect from) in
    let all : is_outbox_noted (one ++ (two ++ (drop_notes D ++ last))) ≡ false =
    sym (ap (λ o. is_outbox_noted (entry_outs s from connect (notes_for s c) o)) is) ∙ quiet in
    drops_noted D (false_left (drop_notes D) (last)
    (false_right two (drop_notes D ++ last) (false_right one (two ++ (drop_notes D ++ last)) all)))

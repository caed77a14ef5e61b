-- Which filters stand, and which are wanted, once the broker refused one.
use Rattle.std.proofs.Common.{◌≡◌, ℕ, Bool, true, false, List, [], ◌∷◌, map}
use Rattle.std.proofs.Common.{refl, ap, sym, ◌∙◌}
use Rattle.std.specs.Prelude.{if◌then◌else◌, ◌&&◌, ◌||◌, not, filter, Option, Some, None}
use Rattle.std.specs.List.{find}
use Rattle.std.specs.Option.{option_map}
use Rattle.std.specs.Str.{bytes_eq}
use Rattle.std.proofs.lemmas.List.{append-nil}
use Rattle.sng_fan.specs.declared.held.Held.{Held}
use Rattle.sng_fan.specs.Subscriptions.{has_text, stands, without_filter}
use Rattle.sng_history.specs.Clients.{Client, without}
use Rattle.sng_history.specs.Links.{Wanted, is_filter_of, is_open, wants, closed}
use Rattle.sng_history.specs.Packets.{Answer, Refuses}
use Rattle.sng_history.specs.Packets.{answered, filter_open}
use Rattle.sng_history.specs.Standing.{holds, is_held, still_wanted}
use Rattle.sng_history.specs.State.{State}
use Rattle.sng_history.proofs.Own.{same_self}
use Rattle.sng_history.proofs.Booleans.{or_right}
use Rattle.sng_history.proofs.OneEnds.{without_stands}
use Rattle.sng_core.specs.Refusing.{refused_clients, refused_wanted}
use Rattle.sng_core.specs.Refusing.{packet_link, packet_next}

-- ---- nothing is open with the packet id

closed_none_by : (id : ℕ) (w : Wanted) (wanted : List Wanted) (b : Bool) → is_open id w ≡ b
    → (let f : Wanted → List ℕ = λ v. v.filter in
    option_map f (if b then Some w else find (is_open id) wanted) ≡ None)
    → (filter_open wanted id ≡ None → closed wanted id ≡ wanted)
    → (if b then record w { open_id = None } else w) ∷ closed wanted id ≡ w ∷ wanted
closed_none_by id w wanted true is none later = absurd cc
closed_none_by id w wanted false is none later = ap (λ vs. w ∷ vs) (later none)

closed_none : (id : ℕ) (wanted : List Wanted) → filter_open wanted id ≡ None → closed wanted id ≡ wanted
closed_none id [] none = refl
closed_none id (w ∷ wanted) none = closed_none_by id w wanted (is_open id w) refl none (closed_none id wanted)

abbrev with_open : State → List Wanted → Option (List ℕ) → State
with_open s wanted o =
    record s {
      link = record s.link { wanted = refused_wanted o wanted };
      clients = refused_clients o s.clients;
    }

-- nothing happens
pub nothing_open : (s : State) (id : ℕ) → filter_open s.link.wanted id ≡ None → s ≡ packet_next s (Refuses id)
nothing_open s id none =
    sym (ap (λ items. record (packet_next s (Refuses id))
    { link = record (packet_link s (Refuses id)) { waiting = items } }) (append-nil s.link.waiting)
    ∙ (ap (with_open s (closed s.link.wanted id)) none
    ∙ ap (λ wanted. with_open s wanted None) (closed_none id s.link.wanted none)))

-- ---- a filter ends

without_none_by : (h : Held) (held : List Held) (text : List ℕ) (b : Bool) → has_text text h ≡ b
    → (b || stands held text) ≡ false → (stands held text ≡ false → without_filter held text ≡ held)
    → (if not b then h ∷ without_filter held text else without_filter held text) ≡ h ∷ held
without_none_by h held text true is none later = absurd cc
without_none_by h held text false is none later = ap (λ hs. h ∷ hs) (later none)

pub without_none : (held : List Held) (text : List ℕ) → stands held text ≡ false
    → without_filter held text ≡ held
without_none [] text none = refl
without_none (h ∷ held) text none =
    without_none_by h held text (has_text text h) refl none (without_none held text)

or_and : (a b n : Bool) → ((a && n) || (b && n)) ≡ ((a || b) && n)
or_and true b true = refl
or_and true true false = refl
or_and true false false = refl
or_and false b n = refl

ended_held : (gone : List ℕ) (xs : List Client) (text : List ℕ)
    → is_held (map (without gone) xs) text ≡ (is_held xs text && not (bytes_eq gone text))
ended_held gone [] text = refl
ended_held gone (x ∷ xs) text =
    ap (λ b. b || is_held (map (without gone) xs) text) (without_stands x.filters gone text)
    ∙ (ap (λ b. (holds text x && not (bytes_eq gone text)) || b) (ended_held gone xs text)
    ∙ or_and (holds text x) (is_held xs text) (not (bytes_eq gone text)))

-- ---- what is wanted still

-- two tests keep the same of what is wanted, where they agree on that
pub keep_same : (k l : List ℕ → Bool) (wanted : List Wanted)
    → ((text : List ℕ) → wants wanted text ≡ true → k text ≡ l text)
    → filter (λ w. k w.filter) wanted ≡ filter (λ w. l w.filter) wanted
keep_same k l [] same = refl
keep_same k l (w ∷ wanted) same =
    let now = same w.filter (ap (λ b. b || wants wanted w.filter) (same_self w.filter)) in
    let later =
    keep_same k l wanted (λ text is. same text (or_right (is_filter_of text w) (wants wanted text) is)) in
    ap (λ b. if b then w ∷ filter (λ v. k v.filter) wanted else filter (λ v. k v.filter) wanted) now
    ∙ ap (λ vs. if l w.filter then w ∷ vs else vs) later

pub keep_all : (wanted : List Wanted) → filter (λ w. true) wanted ≡ wanted
keep_all [] = refl
keep_all (w ∷ wanted) = ap (λ vs. w ∷ vs) (keep_all wanted)

abbrev still_by : State → Answer → Option (List ℕ) → Type 0
still_by s a o =
    still_wanted (refused_clients o s.clients) (answered s.link a).wanted
    ≡ refused_wanted o (answered s.link a).wanted

pub refused_still : (s : State) (a : Answer) (o : Option (List ℕ))
    → ((text : List ℕ) → wants (answered s.link a).wanted text ≡ true → is_held s.clients text ≡ true)
    → still_by s a o
refused_still s a None held =
    let some : List ℕ → Bool = λ text. true in
    keep_same (is_held s.clients) some (answered s.link a).wanted held ∙ keep_all (answered s.link a).wanted
refused_still s a (Some gone) held =
    let other : List ℕ → Bool = λ text. not (bytes_eq gone text) in
    keep_same (is_held (map (without gone) s.clients)) other (answered s.link a).wanted
    (λ text is. ended_held gone s.clients text ∙ ap (λ b. b && not (bytes_eq gone text)) (held text is))

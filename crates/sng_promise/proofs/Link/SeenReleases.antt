-- What a note asks of the broker, and which filters stand for nobody any more, as the rows show it.
use Rattle.std.proofs.Common.{◌≡◌, ℕ, zero, suc, ◌-◌, Bool, true, false, List, [], ◌∷◌, ◌++◌, map, length}
use Rattle.std.proofs.Common.{refl, ap, sym, ◌∙◌}
use Rattle.std.proofs.Common.{if◌then◌else◌}
use Rattle.std.specs.Prelude.{◌||◌, not, filter, take, Option, Some, None}
use Rattle.std.specs.List.{list_any}
use Rattle.std.proofs.lemmas.List.{append-nil, map-append}
use Rattle.sng_fan.specs.declared.held.Held.{Held}
use Rattle.sng_fan.specs.Subscriptions.{stands}
use Rattle.sng_frames.specs.declared.qos.FrameQos.{FrameQos}
use Rattle.sng_frames.specs.declared.qos.FrameQos.TheVariants as qos
use Rattle.sng_frames.specs.declared.messages.publish.Publish.{Publish}
use Rattle.sng_outbox.specs.declared.item.Item.TheVariants as item
use Rattle.sng_outbox.specs.declared.origin.Origin.TheVariants as origin
use Rattle.sng_book.specs.Denials.{is_allowed}
use Rattle.sng_book.specs.declared.decision.Decision.{Decision}
use Rattle.sng_book.specs.declared.decision.Decision.TheVariants as note
use Rattle.sng_book.specs.declared.decision.Who.{Who}
use Rattle.sng_book.specs.declared.decision.Who.TheVariants as who
use Rattle.sng_book.specs.declared.outcome.Denial.{Denial}
use Rattle.sng_book.specs.declared.outcome.Outcome.{Outcome}
use Rattle.sng_book.specs.declared.outcome.Outcome.TheVariants.{Allowed, Denied}
use Rattle.sng_book.specs.declared.event.Event.{Event}
use Rattle.sng_book.specs.declared.out.Out.{Out}
use Rattle.sng_book.specs.declared.out.Out.TheVariants.{Send, Wire, Note}
use Rattle.sng_book.specs.declared.row.Row.{Row}
use Rattle.sng_history.specs.Causes.{cause_of}
use Rattle.sng_history.specs.Clients.{Client}
use Rattle.sng_history.specs.Notes.{notes_of}
use Rattle.sng_history.specs.Standing.{is_held, ended, Release, releases_of, released_from, released}
use Rattle.sng_history.specs.Standing.{places_left, unsubscribes}
use Rattle.sng_history.specs.State.{State, around, qos_of, item_asked, asked_by, asked_all}
use Rattle.sng_history.specs.State.{policy_by}
use Rattle.sng_history.specs.Lawful.{fixed_for}
use Rattle.sng_history.specs.Steps.{outs_of, newcomers_for, client_next, clients_next}
use Rattle.sng_history.specs.Good.{Each}
use Rattle.sng_laws.specs.ViewsMessages.{message_at}
use Rattle.sng_laws.specs.ViewsClients.{accepted}
use Rattle.sng_laws.specs.ViewsStanding.{standing_of}
use Rattle.sng_laws.specs.ViewsLink.{qos_upstream, publication, publication_by, items_by}
use Rattle.sng_laws.specs.ViewsLink.{items_in}
use Rattle.sng_laws.specs.ViewsLink.{standing_then, ceased, released_among}
use Rattle.sng_history.proofs.Own.{each_append, each_with}
use Rattle.sng_history.proofs.Kept.{client_id}
use Rattle.sng_promise.proofs.Standing.StandingNotes.{standing_notes, standing_by_notes, standing_next}

-- ---- what a note asks for

qos_same : (q : FrameQos) → qos_of q ≡ qos_upstream q
qos_same qos.AtMostOnce = refl
qos_same qos.AtLeastOnce = refl
qos_same qos.ExactlyOnce = refl
qos_same qos.WithoutSession = refl

by_allowed : (who : Who) (name : Option (List ℕ)) (p : Publish)
    → item_asked who name Allowed p ≡ map item.Publish (publication_by who name p)
by_allowed (who.Client client) (Some name) p =
    ap (λ q. item.Publish (publication (origin.Client client) name q p) ∷ []) (qos_same p.flags.qos)
by_allowed (who.Client client) None p = refl
by_allowed (who.Source source) (Some name) p = refl
by_allowed (who.Source source) None p = refl
by_allowed (who.Address address) name p = refl
by_allowed who.Broker name p = refl

by_denied : (who : Who) (name : Option (List ℕ)) (p : Publish) (rule : Denial)
    → item_asked who name (Denied rule) p ≡ []
by_denied (who.Client client) (Some name) p rule = refl
by_denied (who.Client client) None p rule = refl
by_denied (who.Source source) (Some name) p rule = refl
by_denied (who.Source source) None p rule = refl
by_denied (who.Address address) name p rule = refl
by_denied who.Broker name p rule = refl

publish_shown : (p : Publish) (who : Who) (name : Option (List ℕ)) (o : Outcome)
    → item_asked who name o p ≡ map item.Publish (if is_allowed o then publication_by who name p else [])
publish_shown p who name Allowed = by_allowed who name p
publish_shown p who name (Denied rule) = by_denied who name p rule

subscribe_shown : (p : Option Publish) (whom : Who) (text : Option (List ℕ)) (o : Outcome)
    → asked_by p (note.Subscribe whom text o) ≡ items_by p (note.Subscribe whom text o)
subscribe_shown None whom None o = refl
subscribe_shown None whom (Some text) Allowed = refl
subscribe_shown None whom (Some text) (Denied rule) = refl
subscribe_shown (Some p) whom None o = refl
subscribe_shown (Some p) whom (Some text) Allowed = refl
subscribe_shown (Some p) whom (Some text) (Denied rule) = refl

pub note_shown : (p : Option Publish) (said : Decision) → asked_by p said ≡ items_by p said
note_shown None (note.Publish who name outcome) = refl
note_shown (Some p) (note.Publish who name outcome) =
    publish_shown p who name outcome
    ∙ sym (append-nil (map item.Publish (if is_allowed outcome then publication_by who name p else [])))
note_shown p (note.Subscribe whom text outcome) = subscribe_shown p whom text outcome
note_shown None _ = refl
note_shown (Some p) _ = refl

-- what a row asks for is what its notes allow
pub outs_shown : (p : Option Publish) (outs : List Out) → asked_all p outs ≡ items_in p outs
outs_shown p [] = refl
outs_shown p (Note said ∷ outs) =
    ap (λ first. first ++ asked_all p outs) (note_shown p said)
    ∙ ap (λ rest. items_by p said ++ rest) (outs_shown p outs)
outs_shown p (Send to datagram ∷ outs) = outs_shown p outs
outs_shown p (Wire packet ∷ outs) = outs_shown p outs

-- ---- the filters that stand for nobody any more

abbrev pub ids_of : List Client → List (List ℕ)
ids_of xs = map (λ x. x.id) xs

ids_push : (xs : List Client) (y : Client) → ids_of (xs ++ y ∷ []) ≡ ids_of xs ++ y.id ∷ []
ids_push [] y = refl
ids_push (x ∷ xs) y = ap (λ ids. x.id ∷ ids) (ids_push xs y)

-- a client as it is before the row and after it
record Moves (e : Event) (h : List Row) (outs : List Out) (x y : Client) : Type 0 where
  id : y.id ≡ x.id
  was : x.filters ≡ standing_of x.id h
  now : y.filters ≡ standing_then e h outs x.id

abbrev After : Event → List Row → List Out → Client → Type 0
After e h outs y = y.filters ≡ standing_then e h outs y.id

abbrev texts : List Held → List (List ℕ)
texts held = map (λ g. g.filter) held

texts_if : (g : Held) (b : Bool) (rest : List Held) (more : List (List ℕ)) → texts rest ≡ more
    → texts (if b then g ∷ rest else rest) ≡ (if b then g.filter ∷ more else more)
texts_if g true rest more is = ap (λ t. g.filter ∷ t) is
texts_if g false rest more is = is

texts_kept : (keep : List ℕ → Bool) (held : List Held)
    → texts (filter (λ g. keep g.filter) held) ≡ filter keep (texts held)
texts_kept keep [] = refl
texts_kept keep (g ∷ held) =
    texts_if g (keep g.filter) (filter (λ f. keep f.filter) held) (filter keep (texts held))
    (texts_kept keep held)

ended_are : (e : Event) (h : List Row) (outs : List Out) (x y : Client) → Moves e h outs x y
    → ended x y ≡ ceased e h outs x.id
ended_are e h outs x y moves =
    texts_kept (λ text. not (stands y.filters text)) x.filters
    ∙ (ap (λ held. filter (λ text. not (stands held text)) (texts x.filters)) moves.now
    ∙ ap (λ held. filter (λ text. not (stands (standing_then e h outs x.id) text)) (texts held)) moves.was)

abbrev filters_in : List Release → List (List ℕ)
filters_in rs = map (λ r. r.filter) rs

release_if : (id text : List ℕ) (b : Bool) (rs : List Release) (more : List (List ℕ)) → filters_in rs ≡ more
    → filters_in (if b then rs else record { client = id; filter = text } ∷ rs)
    ≡ (if not b then text ∷ more else more)
release_if id text true rs more is = is
release_if id text false rs more is = ap (λ t. text ∷ t) is

releases_are : (id : List ℕ) (others shown : List ℕ → Bool) (all : List (List ℕ))
    → ((text : List ℕ) → others text ≡ shown text)
    → filters_in (releases_of id others all) ≡ filter (λ text. not (shown text)) all
releases_are id others shown [] same = refl
releases_are id others shown (text ∷ all) same =
    ap (λ b. filters_in (if b then releases_of id others all
    else record { client = id; filter = text } ∷ releases_of id others all))
    (same text)
    ∙ release_if id text (shown text) (releases_of id others all) (filter (λ one. not (shown one)) all)
    (releases_are id others shown all same)

held_before : (e : Event) (h : List Row) (outs : List Out) (es : List Client) (text : List ℕ)
    → Each (After e h outs) es
    → is_held es text ≡ list_any (λ id. stands (standing_then e h outs id) text) (ids_of es)
held_before e h outs [] text each = refl
held_before e h outs (x ∷ es) text each = rw (each.0, held_before e h outs es text each.1) refl

held_behind : (e : Event) (h : List Row) (outs : List Out) (f : Client → Client) (xs : List Client)
    (text : List ℕ)
    → Each (λ x. Moves e h outs x (f x)) xs
    → is_held xs text ≡ list_any (λ id. stands (standing_of id h) text) (ids_of xs)
held_behind e h outs f [] text each = refl
held_behind e h outs f (x ∷ xs) text each = rw (each.0.was, held_behind e h outs f xs text each.1) refl

released_are : (e : Event) (h : List Row) (outs : List Out) (f : Client → Client) (es xs zs : List Client)
    → Each (After e h outs) es
    → Each (λ x. Moves e h outs x (f x)) xs
    → filters_in (released_from es xs (map f xs ++ zs)) ≡ released_among e h outs (ids_of es) (ids_of xs)
released_are e h outs f es [] zs before each = refl
released_are e h outs f es (x ∷ xs) zs before each =
    let y : Client = f x in
    let others : List ℕ → Bool = λ text. is_held es text || is_held xs text in
    let shown : List ℕ → Bool =
    λ text. list_any (λ id. stands (standing_then e h outs id) text) (ids_of es)
    || list_any (λ id. stands (standing_of id h) text)
    (ids_of xs) in
    let after : After e h outs y = each.0.now ∙ ap (standing_then e h outs) (sym each.0.id) in
    let now : Each (After e h outs) (es ++ y ∷ []) =
    each_append (After e h outs) es (y ∷ []) before (after, tt) in
    map-append (λ (r : Release). r.filter) (releases_of x.id others (ended x y))
    (released_from (es ++ y ∷ []) xs (map f xs ++ zs))
    ∙ (ap (λ first. first ++ filters_in (released_from (es ++ y ∷ []) xs (map f xs ++ zs)))
    (releases_are x.id others shown (ended x y)
    (λ text. rw (held_before e h outs es text before, held_behind e h outs f xs text each.1) refl)
    ∙ ap (filter (λ text. not (shown text))) (ended_are e h outs x y each.0))
    ∙ ap (λ rest. filter (λ text. not (shown text)) (ceased e h outs x.id) ++ rest)
    (released_are e h outs f (es ++ y ∷ []) xs zs now each.1
    ∙ ap (λ ids. released_among e h outs ids (ids_of xs))
    (ids_push es y ∙ ap (λ id. ids_of es ++ id ∷ []) each.0.id)))

told_items : (n : ℕ) (rs : List Release)
    → map (λ r. item.Unsubscribe r.filter) (take n rs) ≡ map item.Unsubscribe (take n (filters_in rs))
told_items zero rs = refl
told_items (suc n) [] = refl
told_items (suc n) (r ∷ rs) = ap (λ items. item.Unsubscribe r.filter ∷ items) (told_items n rs)

-- a row moves its clients so
moves_row : (h : List Row) (s : State) (e : Event) (x : Client) → x.filters ≡ standing_of x.id h
    → notes_of x.id (outs_of s e) ≡ fixed_for s (cause_of e) x
    → Moves e h (outs_of s e) x (client_next s (cause_of e) x)
moves_row h s e x shown own =
    let c = cause_of e in
    let m = message_at e in
    record {
      id = client_id (around s c) (fixed_for s c x) x;
      was = shown;
      now = standing_next s e x
          ∙ (ap (standing_notes m x.id (fixed_for s c x)) shown
          ∙ (ap (λ notes. standing_notes m x.id notes (standing_of x.id h)) (sym own)
          ∙ sym (standing_by_notes m x.id (outs_of s e) (standing_of x.id h))));
    }

abbrev pub FiltersShown : List Row → Client → Type 0
FiltersShown h x = x.filters ≡ standing_of x.id h

-- what is told of them, where there is place
pub unsubscribes_are : (h : List Row) (s : State) (e : Event) → Each (FiltersShown h) s.clients
    → Each (λ x. notes_of x.id (outs_of s e) ≡ fixed_for s (cause_of e) x) s.clients
    → ids_of s.clients ≡ accepted h
    → unsubscribes (policy_by (cause_of e) s.policy).limits s.link (released s.clients (clients_next s (cause_of e)))
    ≡ map item.Unsubscribe (take ((policy_by (cause_of e) s.policy).limits.waiting - length s.link.waiting)
    (released_among e h (outs_of s e) [] (accepted h)))
unsubscribes_are h s e shown own order =
    let c = cause_of e in
    let f = client_next s c in
    let moves =
    each_with (FiltersShown h) (λ x. notes_of x.id (outs_of s e) ≡ fixed_for s c x)
    (λ x. Moves e h (outs_of s e) x (f x)) s.clients
    (λ x was is. moves_row h s e x was is) shown own in
    ap (λ all. unsubscribes (policy_by (cause_of e) s.policy).limits s.link (released s.clients all))
    (map-append f s.clients (newcomers_for s c))
    ∙ (told_items (places_left (policy_by (cause_of e) s.policy).limits s.link)
    (released s.clients (map f s.clients ++ map f (newcomers_for s c)))
    ∙ ap (λ all. map item.Unsubscribe
    (take ((policy_by (cause_of e) s.policy).limits.waiting - length s.link.waiting) all))
    (released_are e h (outs_of s e) f [] s.clients (map f (newcomers_for s c)) tt moves
    ∙ ap (released_among e h (outs_of s e) []) order))

-- A filter ends only by a note that ends it, and an end that is dropped is noted.
use Rattle.std.proofs.Common.{◌≡◌, ℕ, Bool, true, false, List, [], ◌∷◌, ◌++◌, refl, ap, sym}
use Rattle.std.proofs.Common.{◌∙◌, subst, if◌then◌else◌}
use Rattle.std.specs.Prelude.{◌&&◌, ◌||◌, not, filter, Option, Some, None}
use Rattle.std.specs.List.{list_any}
use Rattle.std.specs.Str.{bytes_eq}
use Rattle.sng_fan.specs.declared.held.Held.{Held}
use Rattle.sng_fan.specs.Subscriptions.{has_text, stands, without_filter}
use Rattle.sng_frames.specs.declared.messages.subscribe.TopicRequest.{TopicRequest}
use Rattle.sng_book.specs.Denials.{is_allowed}
use Rattle.sng_book.specs.declared.decision.Decision.{Decision}
use Rattle.sng_book.specs.declared.decision.Decision.TheVariants as note
use Rattle.sng_book.specs.declared.outcome.Outcome.{Outcome}
use Rattle.sng_book.specs.declared.outcome.Outcome.TheVariants.{Allowed, Denied}
use Rattle.sng_book.specs.declared.out.Out.{Out}
use Rattle.sng_book.specs.declared.out.Out.TheVariants.{Send, Wire, Note}
use Rattle.sng_history.specs.Causes.{Cause, request_of}
use Rattle.sng_history.specs.Requests.{granted}
use Rattle.sng_history.specs.Clients.{Around, Client, is_author, start_by, entered_by, subscribed}
use Rattle.sng_history.specs.Clients.{unsubscribed, subscribe_of, statement_of, note_by, notes_by}
use Rattle.sng_history.specs.Clients.{id_opened_of}
use Rattle.sng_history.specs.Standing.{Release}
use Rattle.sng_history.specs.Standing.{is_release, drop_note}
use Rattle.sng_history.specs.State.{State, around}
use Rattle.sng_history.specs.Whole.{answer, replied, frames_of, spell, drained_outs}
use Rattle.sng_history.specs.Lawful.{fixed_for}
use Rattle.sng_history.specs.Steps.{client_next}
use Rattle.sng_laws.specs.ViewsLink.{is_outbox, is_outbox_noted}
use Rattle.sng_history.proofs.Own.{same_means}
use Rattle.sng_history.proofs.Steady.{start_lasts, repeated_steady, start_filters, client_filters}
use Rattle.sng_history.proofs.Steady.{handed_steady, received_steady}
use Rattle.sng_history.proofs.Kept.{note_id}
use Rattle.sng_history.proofs.Statements.{stated_keeps}
use Rattle.sng_history.proofs.Holding.{with_stands}
use Rattle.sng_history.proofs.SaysParts.{part_for}
use Rattle.sng_history.proofs.Booleans.{or_right, or_neither}

pub or_first : (a b : Bool) → a ≡ true → (a || b) ≡ true
or_first true b is = refl
or_first false b is = absurd cc

-- ---- what a row notes

pub noted_left : (xs ys : List Out) → is_outbox_noted xs ≡ true → is_outbox_noted (xs ++ ys) ≡ true
noted_left [] ys is = absurd cc
noted_left (Note said ∷ xs) ys is = at (is_outbox said) is (noted_left xs ys)
  where
    at : (b : Bool) → (b || is_outbox_noted xs) ≡ true
        → (is_outbox_noted xs ≡ true → is_outbox_noted (xs ++ ys) ≡ true)
        → (b || is_outbox_noted (xs ++ ys)) ≡ true
    at true is rest = refl
    at false is rest = rest is
noted_left (Send to datagram ∷ xs) ys is = noted_left xs ys is
noted_left (Wire sent ∷ xs) ys is = noted_left xs ys is

pub noted_right : (xs ys : List Out) → is_outbox_noted ys ≡ true → is_outbox_noted (xs ++ ys) ≡ true
noted_right [] ys is = is
noted_right (Note said ∷ xs) ys is =
    or_right (is_outbox said) (is_outbox_noted (xs ++ ys)) (noted_right xs ys is)
noted_right (Send to datagram ∷ xs) ys is = noted_right xs ys is
noted_right (Wire sent ∷ xs) ys is = noted_right xs ys is

-- ---- the notes that end a filter

abbrev ends_with : List ℕ → Option (List ℕ) → Outcome → Bool
ends_with text None o = false
ends_with text (Some gone) o = is_allowed o && bytes_eq text gone

abbrev ends_by : List ℕ → Decision → Bool
ends_by text (note.Unsubscribe whom gone o) = ends_with text gone o
ends_by text (note.End id gone o) = bytes_eq text gone
ends_by text (note.Connect id o) = false
ends_by text (note.Left id) = false
ends_by text (note.Register whom name o) = false
ends_by text (note.Publish whom name o) = false
ends_by text (note.Subscribe whom name o) = false
ends_by text (note.Will whom name o) = false
ends_by text (note.Announce id name) = false
ends_by text (note.Hand id name o) = false
ends_by text (note.Retry id name o) = false
ends_by text (note.Forward whom name o) = false
ends_by text (note.Again whom name o) = false
ends_by text (note.Lost id) = false
ends_by text note.Outbox = false
ends_by text (note.Frame whom o) = false

abbrev ends_in : List ℕ → List Decision → Bool
ends_in text [] = false
ends_in text (said ∷ notes) = ends_by text said || ends_in text notes

-- other filters stay
stays_by : (h : Held) (rest : List Held) (gone text : List ℕ) (one other : Bool) → has_text text h ≡ one
    → has_text gone h ≡ other
    → bytes_eq text gone ≡ false
    → (one ≡ false → stands rest text ≡ true) → stands (if not other then h ∷ rest else rest) text ≡ true
stays_by h rest gone text true true is goes away more =
    absurd (let e : h.filter ≡ text = same_means h.filter text is in
    let bad : true ≡ false = sym (subst (λ t. bytes_eq t gone ≡ true) e goes) ∙ away in cc)
stays_by h rest gone text false true is goes away more = more refl
stays_by h rest gone text true false is goes away more = or_first (has_text text h) (stands rest text) is
stays_by h rest gone text false false is goes away more =
    or_right (has_text text h) (stands rest text) (more refl)

stays : (held : List Held) (gone text : List ℕ) → bytes_eq text gone ≡ false → stands held text ≡ true
    → stands (without_filter held gone) text ≡ true
stays [] gone text away stood = absurd cc
stays (h ∷ held) gone text away stood =
    stays_by h (without_filter held gone) gone text (has_text text h) (has_text gone h) refl refl away
    (λ other. stays held gone text away (sym (ap (λ b. b || stands held text) other) ∙ stood))

stays_subscribed : (r : Option TopicRequest) (filter : Option (List ℕ)) (o : Outcome) (x : Client)
    (text : List ℕ)
    → stands x.filters text ≡ true → stands (subscribed r filter o x).filters text ≡ true
stays_subscribed None filter o x text stood = stood
stays_subscribed (Some r) None o x text stood = stood
stays_subscribed (Some r) (Some filter) Allowed x text stood =
    with_stands x.filters filter text (granted r.flags.qos)
    ∙ or_first (stands x.filters text) (bytes_eq text filter) stood
stays_subscribed (Some r) (Some filter) (Denied rule) x text stood = stood

stays_unsubscribed : (gone : Option (List ℕ)) (o : Outcome) (x : Client) (text : List ℕ)
    → ends_with text gone o ≡ false
    → stands x.filters text ≡ true → stands (unsubscribed gone o x).filters text ≡ true
stays_unsubscribed None o x text other stood = stood
stays_unsubscribed (Some gone) Allowed x text other stood = stays x.filters gone text other stood
stays_unsubscribed (Some gone) (Denied rule) x text other stood = stood

-- no client is let in
abbrev pub NoEntry : Around → Type 0
NoEntry a = (x : Client) → entered_by a.clock a.cause x ≡ x

stays_note : (a : Around) (said : Decision) (x : Client) (text : List ℕ) → NoEntry a
    → ends_by text said ≡ false
    → stands x.filters text ≡ true → stands (note_by a said x).filters text ≡ true
stays_note a (note.Connect id o) x text none other stood = entered (is_allowed o)
  where
    entered : (b : Bool) → stands
        (let y : Client = if b then entered_by a.clock a.cause x else x in y).filters text ≡ true
    entered true = ap (λ y. stands y.filters text) (none x) ∙ stood
    entered false = stood
stays_note a (note.Subscribe whom filter o) x text none other stood =
    stays_subscribed (subscribe_of a.cause) filter o x text stood
stays_note a (note.Unsubscribe whom gone o) x text none other stood =
    stays_unsubscribed gone o x text other stood
stays_note a (note.End id gone o) x text none other stood = stays x.filters gone text other stood
stays_note a (note.Left id) x text none other stood = stood
stays_note a (note.Hand client name o) x text none other stood =
    ap (λ held. stands held text) (handed_steady a name o x).filters ∙ stood
stays_note a (note.Will whom name o) x text none other stood =
    ap (λ held. stands held text) (stated_keeps (statement_of a.cause) o x).filters ∙ stood
stays_note a (note.Register whom name o) x text none other stood = stood
stays_note a (note.Lost id) x text none other stood = stood
stays_note a (note.Publish whom name o) x text none other stood =
    ap (λ held. stands held text) (received_steady (id_opened_of a.cause) o x).filters ∙ stood
stays_note a (note.Announce id name) x text none other stood = stood
stays_note a (note.Retry id name o) x text none other stood =
    ap (λ held. stands held text) (repeated_steady a.clock o x).filters ∙ stood
stays_note a (note.Forward whom name o) x text none other stood = stood
stays_note a (note.Again whom name o) x text none other stood = stood
stays_note a note.Outbox x text none other stood = stood
stays_note a (note.Frame whom o) x text none other stood = stood

stays_notes : (a : Around) (notes : List Decision) (x : Client) (text : List ℕ) → NoEntry a
    → ends_in text notes ≡ false
    → stands x.filters text ≡ true → stands (notes_by a notes x).filters text ≡ true
stays_notes a [] x text none other stood = stood
stays_notes a (said ∷ notes) x text none other stood =
    let both = or_neither (ends_by text said) (ends_in text notes) other in
    stays_notes a notes (note_by a said x) text none both.1 (stays_note a said x text none both.0 stood)

-- so what ended was ended by a note
pub ends_noted : (s : State) (c : Cause) (x : Client) (text : List ℕ) → NoEntry (around s c)
    → stands x.filters text ≡ true
    → stands (client_next s c x).filters text ≡ false → ends_in text (fixed_for s c x) ≡ true
ends_noted s c x text none stood gone = at (ends_in text (fixed_for s c x)) refl
  where
    at : (b : Bool) → ends_in text (fixed_for s c x) ≡ b → b ≡ true
    at true is = refl
    at false is =
        absurd (let kept : stands (client_next s c x).filters text ≡ true =
        ap (λ held. stands held text) (client_filters (around s c) (fixed_for s c x) x)
        ∙ stays_notes (around s c) (fixed_for s c x) (start_by (around s c) x) text none is
        (ap (λ held. stands held text) (start_filters (around s c) x) ∙ stood) in
        let bad : true ≡ false = sym kept ∙ gone in cc)

-- ---- an end that is dropped is noted

drop_noted : (D : List Release) (client text gone : List ℕ) → bytes_eq text gone ≡ true
    → list_any (is_release client text) D ≡ true
    → is_outbox_noted (drop_note D client gone) ≡ true
drop_noted D client text gone same there =
    rw (sym (ap (λ t. list_any (is_release client t) D) (same_means text gone same)) ∙ there) refl

frames_noted : (a : Around) (D : List Release) (x : Client) (said : Decision) (text : List ℕ)
    → ends_by text said ≡ true
    → list_any (is_release x.id text) D ≡ true → is_outbox_noted (frames_of a D x said) ≡ true
frames_noted a D x (note.End id gone o) text ends there = drop_noted D x.id text gone ends there
frames_noted a D x (note.Unsubscribe whom None o) text ends there = absurd cc
frames_noted a D x (note.Unsubscribe whom (Some gone) Allowed) text ends there =
    noted_left (drop_note D x.id gone) (replied a.cause x (Some gone) Allowed)
    (drop_noted D x.id text gone ends there)
frames_noted a D x (note.Unsubscribe whom (Some gone) (Denied rule)) text ends there = absurd cc
frames_noted a D x (note.Connect id o) text ends there = absurd cc
frames_noted a D x (note.Left id) text ends there = absurd cc
frames_noted a D x (note.Register whom name o) text ends there = absurd cc
frames_noted a D x (note.Publish whom name o) text ends there = absurd cc
frames_noted a D x (note.Subscribe whom name o) text ends there = absurd cc
frames_noted a D x (note.Will whom name o) text ends there = absurd cc
frames_noted a D x (note.Announce id name) text ends there = absurd cc
frames_noted a D x (note.Hand id name o) text ends there = absurd cc
frames_noted a D x (note.Retry id name o) text ends there = absurd cc
frames_noted a D x (note.Forward whom name o) text ends there = absurd cc
frames_noted a D x (note.Again whom name o) text ends there = absurd cc
frames_noted a D x (note.Lost id) text ends there = absurd cc
frames_noted a D x note.Outbox text ends there = absurd cc
frames_noted a D x (note.Frame whom o) text ends there = absurd cc

spell_noted : (a : Around) (D : List Release) (x : Client) (notes : List Decision) (text : List ℕ)
    → ends_in text notes ≡ true
    → list_any (is_release x.id text) D ≡ true → is_outbox_noted (spell a D x notes) ≡ true
spell_noted a D x [] text ends there = absurd cc
spell_noted a D x (said ∷ notes) text ends there =
    at (ends_by text said) refl ends
    (λ later. spell_noted a D (note_by a said x) notes text later
    (ap (λ id. list_any (is_release id text) D) (note_id a said x) ∙ there))
  where
    at : (b : Bool) → ends_by text said ≡ b → (b || ends_in text notes) ≡ true
        → (ends_in text notes ≡ true → is_outbox_noted (spell a D (note_by a said x) notes) ≡ true)
        → is_outbox_noted (spell a D x (said ∷ notes)) ≡ true
    at true is ends rest =
        or_right (is_outbox said) (is_outbox_noted
        (frames_of a D x said ++ spell a D (note_by a said x) notes))
        (noted_left (frames_of a D x said) (spell a D (note_by a said x) notes)
        (frames_noted a D x said text is there))
    at false is ends rest =
        or_right (is_outbox said) (is_outbox_noted
        (frames_of a D x said ++ spell a D (note_by a said x) notes))
        (noted_right (frames_of a D x said) (spell a D (note_by a said x) notes) (rest ends))

pub part_noted : (s : State) (c : Cause) (D : List Release) (x : Client) (text : List ℕ)
    → ends_in text (fixed_for s c x) ≡ true
    → list_any (is_release x.id text) D ≡ true → is_outbox_noted (part_for s c D x) ≡ true
part_noted s c D x text ends there =
    let a = around s c in
    let y = start_by a x in
    let notes = fixed_for s c x in
    noted_right (if is_author a.cause x then answer (request_of a.cause) x else [])
    (spell a D y notes ++ drained_outs (notes_by a notes y))
    (noted_left (spell a D y notes) (drained_outs (notes_by a notes y))
    (spell_noted a D (start_by a x) (fixed_for s c x) text ends
    (ap (λ id. list_any (is_release id text) D) (start_lasts a x).id ∙ there)))

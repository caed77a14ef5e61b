-- The laws of the filters that stand for clients.
use Rattle.std.proofs.Common.{◌≡◌, ℕ, Bool, true, false, List, [], ◌∷◌, refl, ap, sym, ◌∙◌, subst}
use Rattle.std.proofs.Common.{if◌then◌else◌}
use Rattle.std.specs.Prelude.{◌&&◌, ◌||◌, not, Option, Some, None}
use Rattle.std.specs.Str.{bytes_eq}
use Rattle.sng_grants.specs.declared.policy.Policy.{Policy}
use Rattle.sng_policy.specs.Grants.{subscribe_grant}
use Rattle.sng_policy.specs.declared.grant.FilterGrant.{FilterGrant}
use Rattle.sng_policy.specs.declared.grant.FilterGrant.TheVariants as on_filter
use Rattle.sng_fan.specs.declared.held.Held.{Held}
use Rattle.sng_fan.specs.Subscriptions.{has_text, stands, without_filter}
use Rattle.sng_frames.specs.declared.messages.subscribe.TopicRequest.{TopicRequest}
use Rattle.sng_book.specs.Denials.{is_allowed}
use Rattle.sng_book.specs.declared.decision.Decision.{Decision}
use Rattle.sng_book.specs.declared.decision.Decision.TheVariants as note
use Rattle.sng_book.specs.declared.outcome.Outcome.TheVariants.{Allowed}
use Rattle.sng_book.specs.declared.out.Out.{Out}
use Rattle.sng_book.specs.declared.out.Out.TheVariants.{Send, Wire, Note}
use Rattle.sng_book.specs.declared.row.Row.{Row}
use Rattle.sng_history.specs.Clients.{Client}
use Rattle.sng_history.specs.State.{opening, state_of}
use Rattle.sng_history.specs.Verdicts.{coverage, filter_outcome}
use Rattle.sng_history.specs.Lawful.{Lawful}
use Rattle.sng_history.specs.Good.{Each, AllCovered}
use Rattle.sng_laws.specs.Views.{last_policy}
use Rattle.sng_laws.specs.ViewsMessages.{Message, message_at, subscribe_in}
use Rattle.sng_laws.specs.ViewsClients.{is_among, speaks_of}
use Rattle.sng_laws.specs.ViewsStanding.{is_clean, joined_by, left_by, standing_by, standing_after}
use Rattle.sng_laws.specs.ViewsStanding.{standing_of}
use Rattle.sng_laws.specs.LawsStanding.{is_text, begins_by}
use Rattle.sng_laws.specs.LawsStanding.{begins_in, StaysEndedBy, StaysEndedBeside}
use Rattle.sng_history.proofs.Own.{same_means}
use Rattle.sng_history.proofs.Holding.{with_stands}
use Rattle.sng_history.proofs.ClientIds.{ids_of}
use Rattle.sng_promise.proofs.Clients.SeenState.{stands as state_stands}
use Rattle.sng_promise.proofs.Standing.StandingState.{FiltersShown, standing_shown}
use Rattle.sng_history.proofs.Booleans.{or_neither}

-- ---- each is allowed, in plain rows

allowed_grant : (client text : List ℕ) (g : FilterGrant) → filter_outcome client text g ≡ Allowed
    → g ≡ on_filter.Allowed
allowed_grant client text on_filter.Allowed is = refl
allowed_grant client text on_filter.Unlisted is = absurd cc
allowed_grant client text (on_filter.Uncovered gap) is = absurd cc

covered_by : (policy : Policy) (client text : List ℕ) (h : Held) (held : List Held) (b : Bool)
    → has_text text h ≡ b → (b || stands held text) ≡ true → AllCovered policy client (h ∷ held)
    → (stands held text ≡ true → coverage policy client text ≡ Allowed)
    → coverage policy client text ≡ Allowed
covered_by policy client text h held true is stood all rest =
    subst (λ t. coverage policy client t ≡ Allowed) (same_means h.filter text is) all.0
covered_by policy client text h held false is stood all rest = rest stood

pub covered_one : (policy : Policy) (client text : List ℕ) (held : List Held) → AllCovered policy client held
    → stands held text ≡ true → coverage policy client text ≡ Allowed
covered_one policy client text [] all stood = absurd cc
covered_one policy client text (h ∷ held) all stood =
    covered_by policy client text h held (has_text text h) refl stood all
    (covered_one policy client text held all.1)

-- of clients that are kept as the rows show
among_covered : (policy : Policy) (h : List Row) (id text : List ℕ) (xs : List Client) (b : Bool)
    → is_among id (ids_of xs) ≡ b → (b ≡ false → standing_of id h ≡ [])
    → Each (λ x. AllCovered policy x.id x.filters) xs → Each (FiltersShown h) xs
    → stands (standing_of id h) text ≡ true → coverage policy id text ≡ Allowed
among_covered policy h id text xs false is none covered shown stood =
    absurd (let bad : false ≡ true = subst (λ held. stands held text ≡ true) (none refl) stood in cc)
among_covered policy h id text [] true is none covered shown stood = absurd cc
among_covered policy h id text (x ∷ xs) true is none covered shown stood =
    at (bytes_eq id x.id) refl is
    (λ later. among_covered policy h id text xs true later (λ bad. absurd cc) covered.1 shown.1 stood)
  where
    at : (same : Bool) → bytes_eq id x.id ≡ same → (same || is_among id (ids_of xs)) ≡ true
        → (is_among id (ids_of xs) ≡ true → coverage policy id text ≡ Allowed)
        → coverage policy id text ≡ Allowed
    at true same is rest =
        let e : id ≡ x.id = same_means id x.id same in
        subst (λ i. coverage policy i text ≡ Allowed) (sym e)
        (covered_one policy x.id text x.filters covered.0
        (subst (λ held. stands held text ≡ true) (ap (λ i. standing_of i h) e ∙ sym shown.0) stood))
    at false same is rest = rest is

pub standing_allowed : (h : List Row) → Lawful opening h → (id text : List ℕ)
    → stands (standing_of id h) text ≡ true → subscribe_grant (last_policy h) id text ≡ on_filter.Allowed
standing_allowed h l id text stood =
    let s = state_of opening h in
    let was = state_stands h l in
    let shown = standing_shown h l in
    let policy = last_policy h in
    allowed_grant id text (subscribe_grant policy id text)
    (among_covered policy h id text s.clients (is_among id (ids_of s.clients)) refl
    (λ none. shown.strangers id (subst (λ ids. is_among id ids ≡ false) was.shown.order none))
    (subst (λ p. Each (λ x. AllCovered p x.id x.filters) s.clients) was.shown.policy was.good.covered)
    shown.filters stood)

-- ---- what ended stays so

less_by : (h : Held) (held : List Held) (gone text : List ℕ) (keep : Bool)
    → (has_text text h || stands held text) ≡ false
    → (stands held text ≡ false → stands (without_filter held gone) text ≡ false)
    → stands (if keep then h ∷ without_filter held gone else without_filter held gone) text ≡ false
less_by h held gone text true is rest =
    let both = or_neither (has_text text h) (stands held text) is in rw (both.0, rest both.1) refl
less_by h held gone text false is rest = rest (or_neither (has_text text h) (stands held text) is).1

less_stands : (held : List Held) (gone text : List ℕ) → stands held text ≡ false
    → stands (without_filter held gone) text ≡ false
less_stands [] gone text is = refl
less_stands (h ∷ held) gone text is =
    less_by h held gone text (not (has_text gone h)) is (less_stands held gone text)

none_if : (b : Bool) (held : List Held) (text : List ℕ) → stands held text ≡ false
    → stands (if b then [] else held) text ≡ false
none_if true held text is = refl
none_if false held text is = is

left_stands : (gone : Option (List ℕ)) (held : List Held) (text : List ℕ) → stands held text ≡ false
    → stands (left_by gone held) text ≡ false
left_stands None held text is = is
left_stands (Some gone) held text is = less_stands held gone text is

either : (b : Bool) (held other : List Held) (text : List ℕ) → stands other text ≡ false
    → stands held text ≡ false → stands (if b then other else held) text ≡ false
either true held other text is was = is
either false held other text is was = was

-- the filter of the SUBSCRIBE is another one
joined_stands : (r : Option TopicRequest) (filter : Option (List ℕ)) (held : List Held) (text : List ℕ)
    → is_text text filter ≡ false → stands held text ≡ false → stands (joined_by r filter held) text ≡ false
joined_stands None filter held text other is = is
joined_stands (Some r) None held text other is = is
joined_stands (Some r) (Some filter) held text other is =
    with_stands held filter text _ ∙ rw is (away filter text (bytes_eq text filter) refl other)
  where
    away : (filter text : List ℕ) (b : Bool) → bytes_eq text filter ≡ b → bytes_eq filter text ≡ false
        → b ≡ false
    away filter text true is other =
        absurd (let e : text ≡ filter = same_means text filter is in let bad : true ≡ false = sym is
        ∙ subst (λ t. bytes_eq t filter ≡ bytes_eq filter t) (sym e) refl ∙ other in cc)
    away filter text false is other = refl

subscribe_stands : (m : Option Message) (text : List ℕ) (filter : Option (List ℕ)) (held : List Held)
    (b : Bool) → (b && is_text text filter) ≡ false → stands held text ≡ false
    → stands (if b then joined_by (subscribe_in m) filter held else held) text ≡ false
subscribe_stands m text filter held true none is = joined_stands (subscribe_in m) filter held text none is
subscribe_stands m text filter held false none is = is

note_ends : (m : Option Message) (id text : List ℕ) (said : Decision) (held : List Held)
    → begins_by id text said ≡ false → stands held text ≡ false
    → stands (standing_by m id said held) text ≡ false
note_ends m id text (note.Connect client outcome) held none is =
    none_if (bytes_eq id client && (is_allowed outcome && is_clean m)) held text is
note_ends m id text (note.Subscribe whom filter outcome) held none is =
    subscribe_stands m text filter held (speaks_of id whom && is_allowed outcome) none is
note_ends m id text (note.Unsubscribe whom filter outcome) held none is =
    either (speaks_of id whom && is_allowed outcome) held (left_by filter held) text
    (left_stands filter held text is) is
note_ends m id text (note.End client filter outcome) held none is =
    either (bytes_eq id client) held (without_filter held filter) text (less_stands held filter text is) is
note_ends m id text _ held none is = is

outs_end : (m : Option Message) (id text : List ℕ) (outs : List Out) (held : List Held)
    → begins_in id text outs ≡ false → stands held text ≡ false
    → stands (standing_after m id outs held) text ≡ false
outs_end m id text [] held none is = is
outs_end m id text (Note said ∷ outs) held none is =
    let both = or_neither (begins_by id text said) (begins_in id text outs) none in
    outs_end m id text outs (standing_by m id said held) both.1 (note_ends m id text said held both.0 is)
outs_end m id text (Send to datagram ∷ outs) held none is = outs_end m id text outs held none is
outs_end m id text (Wire packet ∷ outs) held none is = outs_end m id text outs held none is

pub ended_by : (h : List Row) (row : Row) → StaysEndedBy h row
ended_by h row id text is none = outs_end (message_at row.event) id text row.outs (standing_of id h) none is

-- where no SUBSCRIBE is asked
quiet_note : (m : Option Message) (id text : List ℕ) (said : Decision) (held : List Held)
    → subscribe_in m ≡ None → stands held text ≡ false → stands (standing_by m id said held) text ≡ false
quiet_note m id text (note.Connect client outcome) held quiet is =
    none_if (bytes_eq id client && (is_allowed outcome && is_clean m)) held text is
quiet_note m id text (note.Subscribe whom filter outcome) held quiet is =
    either (speaks_of id whom && is_allowed outcome) held (joined_by (subscribe_in m) filter held) text
    (rw quiet is) is
quiet_note m id text (note.Unsubscribe whom filter outcome) held quiet is =
    either (speaks_of id whom && is_allowed outcome) held (left_by filter held) text
    (left_stands filter held text is) is
quiet_note m id text (note.End client filter outcome) held quiet is =
    either (bytes_eq id client) held (without_filter held filter) text (less_stands held filter text is) is
quiet_note m id text _ held quiet is = is

quiet_outs : (m : Option Message) (id text : List ℕ) (outs : List Out) (held : List Held)
    → subscribe_in m ≡ None → stands held text ≡ false → stands (standing_after m id outs held) text ≡ false
quiet_outs m id text [] held quiet is = is
quiet_outs m id text (Note said ∷ outs) held quiet is =
    quiet_outs m id text outs (standing_by m id said held) quiet (quiet_note m id text said held quiet is)
quiet_outs m id text (Send to datagram ∷ outs) held quiet is = quiet_outs m id text outs held quiet is
quiet_outs m id text (Wire packet ∷ outs) held quiet is = quiet_outs m id text outs held quiet is

pub ended_beside : (h : List Row) (row : Row) → StaysEndedBeside h row
ended_beside h row id text is quiet =
    quiet_outs (message_at row.event) id text row.outs (standing_of id h) quiet is

-- A filter begins to stand for a client just by a SUBSCRIBE from where the client is.
use Rattle.std.proofs.Common.{◌≡◌, ℕ, Bool, true, false, List, [], ◌∷◌, ◌++◌, refl, ap, sym, ◌∙◌, subst, Ok}
use Rattle.std.proofs.Common.{Err}
use Rattle.std.specs.Prelude.{◌||◌, Some, None}
use Rattle.std.specs.Str.{bytes_eq}
use Rattle.std.specs.declared.result.Result.{Result}
use Rattle.sng_fan.specs.Subscriptions.{stands}
use Rattle.sng_frames.specs.Reading.{frame_of}
use Rattle.sng_frames.specs.declared.fault.FrameFault.{FrameFault}
use Rattle.sng_frames.specs.declared.messages.subscribe.TopicRequest.{TopicRequest}
use Rattle.sng_frames.specs.declared.frame.SnFrame.{SnFrame}
use Rattle.sng_frames.specs.declared.frame.SnFrame.TheVariants as frame
use Rattle.sng_book.specs.declared.address.Address.{Address}
use Rattle.sng_book.specs.declared.event.Event.{Event}
use Rattle.sng_book.specs.declared.event.Event.TheVariants.{Datagram, Broker, Up, Down, Take, Replace, Tick}
use Rattle.sng_book.specs.declared.out.Out.{Out}
use Rattle.sng_book.specs.declared.row.Row.{Row}
use Rattle.sng_history.specs.Causes.{ByMessage, ToSubscribe, datagram_cause, cause_of}
use Rattle.sng_history.specs.Clients.{Client, is_here}
use Rattle.sng_history.specs.Notes.{notes_of}
use Rattle.sng_history.specs.State.{State, opening, state_of, is_known}
use Rattle.sng_history.specs.Lawful.{Lawful, fixed_for}
use Rattle.sng_history.specs.Steps.{outs_by, outs_of, newcomers_for}
use Rattle.sng_history.specs.Good.{Each, Good}
use Rattle.sng_laws.specs.ViewsMessages.{message_in, message_at, subscribe_in}
use Rattle.sng_laws.specs.ViewsClients.{is_at, is_among}
use Rattle.sng_laws.specs.ViewsStanding.{standing_after, standing_of}
use Rattle.sng_laws.specs.LawsState.{ClientShown}
use Rattle.sng_laws.specs.LawsStanding.{BySubscribe, BeginsBySubscribe}
use Rattle.sng_history.proofs.Own.{same_means, each_with}
use Rattle.sng_history.proofs.Keeping.{exact_by}
use Rattle.sng_history.proofs.Says.{says}
use Rattle.sng_promise.proofs.Clients.SeenOrder.{known_among}
use Rattle.sng_promise.proofs.Clients.SeenState.{stands as state_stands}
use Rattle.sng_promise.proofs.Standing.StandingNotes.{standing_by_notes}
use Rattle.sng_promise.proofs.Standing.StandingStrangers.{unknown_row}
use Rattle.sng_promise.proofs.Standing.StandingLaws.{ended_beside}

-- ---- a client that is elsewhere

abbrev Unmoved : List Row → List ℕ → Event → List Out → Type 0
Unmoved h id e outs = standing_after (message_at e) id outs (standing_of id h) ≡ standing_of id h

-- none of its notes is in the row
elsewhere_by : (s : State) (from : Address) (r : TopicRequest) (x : Client) (here : Bool)
    → is_here x from ≡ here → here ≡ false
    → fixed_for s (ByMessage from (ToSubscribe r)) x ≡ []
elsewhere_by s from r x true is away = absurd cc
elsewhere_by s from r x false is away = rw is refl

here_same : (h : List Row) (x : Client) (from : Address) → ClientShown h x
    → is_at x.id from h ≡ is_here x from
here_same h x from shown = rw (shown.phase, shown.address) refl

known_quiet : (outs : List Out) (id : List ℕ) (P : Client → Type 0) (xs : List Client) → is_known id xs ≡ true
    → Each P xs
    → ((x : Client) → bytes_eq id x.id ≡ true → P x → notes_of x.id outs ≡ [])
    → notes_of id outs ≡ []
known_quiet outs id P [] known all quiet = absurd cc
known_quiet outs id P (x ∷ xs) known all quiet =
    at (bytes_eq id x.id) refl known (λ later. known_quiet outs id P xs later all.1 quiet)
  where
    at : (b : Bool) → bytes_eq id x.id ≡ b → (b || is_known id xs) ≡ true
        → (is_known id xs ≡ true → notes_of id outs ≡ [])
        → notes_of id outs ≡ []
    at true is known rest = ap (λ i. notes_of i outs) (same_means id x.id is) ∙ quiet x is all.0
    at false is known rest = rest known

each_left : (P : Client → Type 0) (xs ys : List Client) → Each P (xs ++ ys) → Each P xs
each_left P [] ys all = tt
each_left P (x ∷ xs) ys all = (all.0, each_left P xs ys all.1)

-- what the rows show of a client that is known
abbrev Told : List Row → State → List Out → TopicRequest → Address → Client → Type 0
Told h s outs r from x =
    ClientShown h x × (notes_of x.id outs ≡ fixed_for s (ByMessage from (ToSubscribe r)) x)

elsewhere : (h : List Row) (s : State) (from : Address) (r : TopicRequest) (id : List ℕ) → Good s
    → Each (ClientShown h) s.clients
    → is_known id s.clients ≡ true → is_at id from h ≡ false
    → notes_of id (outs_by s (ByMessage from (ToSubscribe r))) ≡ []
elsewhere h s from r id good shown known away =
    let c = ByMessage from (ToSubscribe r) in
    let outs = outs_by s c in
    let Own : Client → Type 0 = λ x. notes_of x.id outs ≡ fixed_for s c x in
    known_quiet outs id (Told h s outs r from) s.clients known
    (each_with (ClientShown h) Own (Told h s outs r from) s.clients (λ x one two. (one, two)) shown
    (each_left Own s.clients (newcomers_for s c) (says s c good.apart).own))
    (λ x is told.
    told.1 ∙ elsewhere_by s from r x (is_here x from) refl
    (sym (here_same h x from told.0) ∙ subst (λ i. is_at i from h ≡ false) (same_means id x.id is) away))

-- ---- each row

unmoved_read : (h : List Row) (s : State) (from : Address) (datagram : List ℕ) (r : TopicRequest)
    (id : List ℕ) (known : Bool)
    → is_known id s.clients ≡ known → frame_of datagram ≡ Ok (frame.Subscribe r)
    → Good s → Each (ClientShown h) s.clients → (is_known id s.clients ≡ false → standing_of id h ≡ [])
    → is_at id from h ≡ false
    → Unmoved h id (Datagram from datagram) (outs_of s (Datagram from datagram))
unmoved_read h s from datagram r id true is read good shown none away =
    let e = Datagram from datagram in
    let quiet : notes_of id (outs_of s e) ≡ [] =
    ap (λ d. notes_of id (outs_by s (datagram_cause from d))) read
    ∙ elsewhere h s from r id good shown is away in
    standing_by_notes (message_at e) id (outs_of s e) (standing_of id h) ∙ (rw quiet refl)
unmoved_read h s from datagram r id false is read good shown none away =
    let e = Datagram from datagram in
    ap (standing_after (message_at e) id (outs_of s e)) (none is)
    ∙ (standing_by_notes (message_at e) id (outs_of s e) [] ∙ (unknown_row s e id is ∙ sym (none is)))

never : (a : Bool) → a ≡ true → a ≡ false → ⊥
never a is is_not = absurd (let bad : true ≡ false = sym is ∙ is_not in cc)

begins_read : (h : List Row) (row : Row) (id text : List ℕ) (from : Address) (datagram : List ℕ)
    (read : Result SnFrame FrameFault)
    → row.event ≡ Datagram from datagram → frame_of datagram ≡ read
    → Lawful opening (row ∷ h) → stands (standing_of id h) text ≡ false
    → stands (standing_of id (row ∷ h)) text ≡ true
    → BySubscribe h row id
begins_read h row id text from datagram (Ok (frame.Subscribe r)) is read l before after =
    record {
      from = from;
      request = r;
      brought = record { datagram = datagram; event = is; reads = read };
      at = there (is_at id from h) refl;
    }
  where
    s : State
    s = state_of opening h

    there : (b : Bool) → is_at id from h ≡ b → b ≡ true
    there true at = refl
    there false at =
        let was = state_stands h l.0 in
        let e = Datagram from datagram in
        let known : is_known id s.clients ≡ false → standing_of id h ≡ [] =
        λ none. was.shown.strangers id
        (sym (ap (is_among id) was.shown.order) ∙ (known_among id s.clients ∙ none)) in
        let outs : row.outs ≡ outs_of s e =
        exact_by s (cause_of row.event) row.outs l.1 ∙ ap (outs_of s) is in
        let same : standing_of id (row ∷ h) ≡ standing_of id h =
        ap (λ d. standing_after (message_at d) id row.outs (standing_of id h)) is
        ∙ (ap (λ o. standing_after (message_at e) id o (standing_of id h)) outs
        ∙ unmoved_read h s from datagram r id
        (is_known id s.clients) refl read was.good was.shown.clients known at) in
        absurd (never (stands (standing_of id (row ∷ h)) text) after
        (ap (λ held. stands held text) same ∙ before))
begins_read h row id text from datagram (Ok (frame.Disconnect None)) is read l before after =
    absurd (never (stands (standing_of id (row ∷ h)) text) after
    (ended_beside h row id text before
    (ap (λ e. subscribe_in (message_at e)) is ∙ ap (λ d. subscribe_in (message_in d)) read)))
begins_read h row id text from datagram (Ok (frame.Disconnect (Some duration))) is read l before after =
    absurd (never (stands (standing_of id (row ∷ h)) text) after
    (ended_beside h row id text before
    (ap (λ e. subscribe_in (message_at e)) is ∙ ap (λ d. subscribe_in (message_in d)) read)))
begins_read h row id text from datagram (Ok message) is read l before after =
    absurd (never (stands (standing_of id (row ∷ h)) text) after
    (ended_beside h row id text before
    (ap (λ e. subscribe_in (message_at e)) is ∙ ap (λ d. subscribe_in (message_in d)) read)))
begins_read h row id text from datagram (Err broke) is read l before after =
    absurd (never (stands (standing_of id (row ∷ h)) text) after
    (ended_beside h row id text before
    (ap (λ e. subscribe_in (message_at e)) is ∙ ap (λ d. subscribe_in (message_in d)) read)))

begins_at : (h : List Row) (row : Row) (id text : List ℕ) (e : Event) → row.event ≡ e
    → Lawful opening (row ∷ h)
    → stands (standing_of id h) text ≡ false → stands (standing_of id (row ∷ h)) text ≡ true
    → BySubscribe h row id
begins_at h row id text (Datagram from datagram) is l before after =
    begins_read h row id text from datagram (frame_of datagram) is refl l before after
begins_at h row id text (Broker sent) is l before after =
    absurd (never (stands (standing_of id (row ∷ h)) text) after
    (ended_beside h row id text before (ap (λ e. subscribe_in (message_at e)) is)))
begins_at h row id text Up is l before after =
    absurd (never (stands (standing_of id (row ∷ h)) text) after
    (ended_beside h row id text before (ap (λ e. subscribe_in (message_at e)) is)))
begins_at h row id text Down is l before after =
    absurd (never (stands (standing_of id (row ∷ h)) text) after
    (ended_beside h row id text before (ap (λ e. subscribe_in (message_at e)) is)))
begins_at h row id text Take is l before after =
    absurd (never (stands (standing_of id (row ∷ h)) text) after
    (ended_beside h row id text before (ap (λ e. subscribe_in (message_at e)) is)))
begins_at h row id text (Replace policy) is l before after =
    absurd (never (stands (standing_of id (row ∷ h)) text) after
    (ended_beside h row id text before (ap (λ e. subscribe_in (message_at e)) is)))
begins_at h row id text (Tick clock) is l before after =
    absurd (never (stands (standing_of id (row ∷ h)) text) after
    (ended_beside h row id text before (ap (λ e. subscribe_in (message_at e)) is)))

pub begins_by_subscribe : (h : List Row) (row : Row) → Lawful opening (row ∷ h) → BeginsBySubscribe h row
begins_by_subscribe h row l id text before after = begins_at h row id text row.event refl l before after

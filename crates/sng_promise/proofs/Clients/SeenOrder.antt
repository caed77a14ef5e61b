-- All clients after a row, and their order, are what the rows show of them.
use Rattle.std.proofs.Common.{◌≡◌, ℕ, Bool, true, false, List, [], ◌∷◌, ◌++◌, map, refl, ap, sym, ◌∙◌, subst}
use Rattle.std.proofs.Common.{if◌then◌else◌, Ok, Err}
use Rattle.std.specs.Prelude.{◌&&◌, ◌||◌, not, Option, Some, None}
use Rattle.std.specs.Str.{bytes_eq}
use Rattle.std.specs.declared.result.Result.{Result}
use Rattle.sng_frames.specs.Reading.{frame_of}
use Rattle.sng_frames.specs.declared.fault.FrameFault.{FrameFault}
use Rattle.sng_frames.specs.declared.messages.connect.Connect.{Connect}
use Rattle.sng_frames.specs.declared.messages.publish.Publish.{Publish}
use Rattle.sng_frames.specs.declared.qos.FrameQos.{FrameQos}
use Rattle.sng_frames.specs.declared.qos.FrameQos.TheVariants as qos
use Rattle.sng_frames.specs.declared.frame.SnFrame.{SnFrame}
use Rattle.sng_frames.specs.declared.frame.SnFrame.TheVariants as frame
use Rattle.sng_book.specs.Denials.{is_allowed}
use Rattle.sng_book.specs.declared.address.Address.{Address}
use Rattle.sng_book.specs.declared.outcome.Outcome.{Outcome}
use Rattle.sng_book.specs.declared.outcome.Outcome.TheVariants.{Allowed, Denied}
use Rattle.sng_book.specs.declared.event.Event.{Event}
use Rattle.sng_book.specs.declared.event.Event.TheVariants.{Datagram, Broker, Up, Down, Take, Replace, Tick}
use Rattle.sng_book.specs.declared.out.Out.{Out}
use Rattle.sng_book.specs.declared.row.Row.{Row}
use Rattle.sng_history.specs.Causes.{Cause, ByConnect, datagram_cause, publish_cause, cause_of}
use Rattle.sng_history.specs.Clients.{Client, blank}
use Rattle.sng_history.specs.Notes.{notes_of}
use Rattle.sng_history.specs.State.{State, around, is_known}
use Rattle.sng_history.specs.Verdicts.{entry}
use Rattle.sng_history.specs.Whole.{Notes, entry_outs}
use Rattle.sng_history.specs.Lawful.{fixed_for}
use Rattle.sng_history.specs.Steps.{outs_by, outs_of, notes_for, newcomers_for, client_next}
use Rattle.sng_history.specs.Good.{Each}
use Rattle.sng_laws.specs.Views.{last_policy, clock_at, is_up}
use Rattle.sng_laws.specs.ViewsMessages.{message_in}
use Rattle.sng_laws.specs.ViewsClients.{is_admitted, is_among, accepted, accepted_in, accepted_by}
use Rattle.sng_laws.specs.ViewsStanding.{standing_of}
use Rattle.sng_laws.specs.ViewsLink.{waiting, pinged}
use Rattle.sng_laws.specs.LawsState.{ClientShown}
use Rattle.sng_history.proofs.Own.{same_self, each_with, each_append, each_mapped}
use Rattle.sng_history.proofs.Kept.{client_id}
use Rattle.sng_promise.proofs.Clients.SeenStrangers.{Unheard}
use Rattle.sng_promise.proofs.Handing.SeenMailed.{Mailed}
use Rattle.sng_promise.proofs.Handing.SeenViews.{InForce}
use Rattle.sng_promise.proofs.Sleepers.SeenSleepers.{Told}
use Rattle.sng_promise.proofs.Clients.SeenRows.{WillShown, Seen, known_row}
use Rattle.sng_promise.proofs.Clients.SeenNewcomers.{new_row}
use Rattle.sng_history.proofs.ClientIds.{ids_of}

-- what is kept is what the rows show, with the clients in the order in which each was accepted first
pub record StateShown (h : List Row) (s : State) : Type 0 where
  pub policy : s.policy ≡ last_policy h
  pub clock : s.clock ≡ clock_at h
  pub up : s.up ≡ is_up h
  pub waits : s.link.waiting ≡ waiting h
  pub pinged : s.link.pinged ≡ pinged h
  pub order : map (λ x. x.id) s.clients ≡ accepted h
  pub clients : Each (ClientShown h) s.clients
  pub mailed : Each (Mailed h) s.clients
  pub willed : Each (WillShown h) s.clients
  -- nothing stands for who was never accepted, and nothing is shown of it
  pub strangers : (id : List ℕ) → is_among id (accepted h) ≡ false → standing_of id h ≡ []
  pub unheard : (id : List ℕ) → is_among id (accepted h) ≡ false → Unheard id h

abbrev NewShown : State → Cause → List Row → List Client → Type 0
NewShown s c rows xs = Each (λ x. Seen rows (client_next s c x)) xs

abbrev NewOwn : State → Cause → List Out → List Client → Type 0
NewOwn s c outs xs = Each (λ x. notes_of x.id outs ≡ fixed_for s c x) xs

-- nothing stands for who is not known, and nothing is shown of it
abbrev pub Unstanding : List Row → State → Type 0
Unstanding h s = (id : List ℕ) → is_known id s.clients ≡ false → (standing_of id h ≡ []) × Unheard id h

entrant_row : (by : ℕ) (h : List Row) (s : State) (from : Address) (datagram : List ℕ) (connect : Connect)
    (outs : List Out) (o : Outcome)
    (known : Bool)
    → frame_of datagram ≡ Ok (frame.Connect connect)
    → InForce (around s (ByConnect from connect)) by h (Datagram from datagram) outs
    → s.clock ≡ clock_at h → entry s connect ≡ o
    → NewOwn s (ByConnect from connect) outs
    (if is_allowed o && not known then blank connect.client_id ∷ [] else [])
    → (known ≡ false → (standing_of connect.client_id h ≡ []) × Unheard connect.client_id h)
    → NewShown s (ByConnect from connect)
    (record { by = by; event = Datagram from datagram; outs = outs } ∷ h)
    (if is_allowed o && not known then blank connect.client_id ∷ [] else [])
entrant_row by h s from datagram connect outs Allowed false read force clock is own none = (
  let both = none refl in new_row by h s from datagram connect outs read force clock is own.0 both.0
      both.1,
  tt,
)
entrant_row by h s from datagram connect outs Allowed true read force clock is own none = tt
entrant_row by h s from datagram connect outs (Denied rule) known read force clock is own none = tt

publish_news : (s : State) (from : Address) (p : Publish) (q : FrameQos)
    → newcomers_for s (publish_cause from p q) ≡ []
publish_news s from p qos.WithoutSession = refl
publish_news s from p qos.AtMostOnce = refl
publish_news s from p qos.AtLeastOnce = refl
publish_news s from p qos.ExactlyOnce = refl

disconnect_news : (s : State) (from : Address) (duration : Option ℕ)
    → newcomers_for s (datagram_cause from (Ok (frame.Disconnect duration))) ≡ []
disconnect_news s from None = refl
disconnect_news s from (Some duration) = refl

none_shown : (s : State) (c : Cause) (rows : List Row) → newcomers_for s c ≡ []
    → NewShown s c rows (newcomers_for s c)
none_shown s c rows none = subst (NewShown s c rows) (sym none) tt

datagram_news : (by : ℕ) (h : List Row) (s : State) (from : Address) (datagram : List ℕ)
    (read : Result SnFrame FrameFault)
    (outs : List Out)
    → frame_of datagram ≡ read → InForce (around s (datagram_cause from read)) by h
    (Datagram from datagram) outs → s.clock ≡ clock_at h
    → Unstanding h s
    → let c = datagram_cause from read in
    NewOwn s c outs (newcomers_for s c)
    → NewShown s c (record { by = by; event = Datagram from datagram; outs = outs } ∷ h) (newcomers_for s c)
datagram_news by h s from datagram (Ok (frame.Connect connect)) outs is force clock none own =
    entrant_row by h s from datagram connect outs (entry s connect)
    (is_known connect.client_id s.clients) is force clock refl own
    (none connect.client_id)
datagram_news by h s from datagram (Ok (frame.Publish p)) outs is force clock none own =
    none_shown s (publish_cause from p p.flags.qos)
    (record { by = by; event = Datagram from datagram; outs = outs } ∷ h)
    (publish_news s from p p.flags.qos)
datagram_news by h s from datagram (Ok (frame.Disconnect duration)) outs is force clock none own =
    none_shown s (datagram_cause from (Ok (frame.Disconnect duration)))
    (record { by = by; event = Datagram from datagram; outs = outs } ∷ h) (disconnect_news s from duration)
datagram_news by h s from datagram (Ok message) outs is force clock none own = tt
datagram_news by h s from datagram (Err broke) outs is force clock none own = tt

event_news : (by : ℕ) (h : List Row) (s : State) (e : Event) (outs : List Out)
    → InForce (around s (cause_of e)) by h e outs
    → s.clock ≡ clock_at h → Unstanding h s
    → let c = cause_of e in
    NewOwn s c outs (newcomers_for s c)
    → NewShown s c (record { by = by; event = e; outs = outs } ∷ h) (newcomers_for s c)
event_news by h s (Datagram from datagram) outs force clock none own =
    datagram_news by h s from datagram (frame_of datagram) outs refl force clock none own
event_news by h s (Broker packet) outs force clock none own = tt
event_news by h s Up outs force clock none own = tt
event_news by h s Down outs force clock none own = tt
event_news by h s Take outs force clock none own = tt
event_news by h s (Replace policy) outs force clock none own = tt
event_news by h s (Tick clock) outs force now none own = tt

-- ---- all clients

pub each_left : (P : Client → Type 0) (xs ys : List Client) → Each P (xs ++ ys) → Each P xs
each_left P [] ys all = tt
each_left P (x ∷ xs) ys all = (all.0, each_left P xs ys all.1)

each_right : (P : Client → Type 0) (xs ys : List Client) → Each P (xs ++ ys) → Each P ys
each_right P [] ys all = all
each_right P (x ∷ xs) ys all = each_right P xs ys all.1

pub clients_row : (by : ℕ) (h : List Row) (s : State) (e : Event) (outs : List Out)
    → InForce (around s (cause_of e)) by h e outs
    → s.clock ≡ clock_at h → Each (Seen h) s.clients
    → Each (Told s (cause_of e) outs) s.clients → Unstanding h s
    → NewOwn s (cause_of e) outs (s.clients ++ newcomers_for s (cause_of e))
    → Each (Seen (record { by = by; event = e; outs = outs } ∷ h))
    (map (client_next s (cause_of e)) (s.clients ++ newcomers_for s (cause_of e)))
clients_row by h s e outs force clock seen told none own =
    let c = cause_of e in
    let rows = record { by = by; event = e; outs = outs } ∷ h in
    let Own : Client → Type 0 = λ x. notes_of x.id outs ≡ fixed_for s c x in
    let Next : Client → Type 0 = λ x. Seen rows (client_next s c x) in
    each_mapped (Seen rows) (client_next s c) (s.clients ++ newcomers_for s c)
    (each_append Next s.clients (newcomers_for s c)
    (each_with (λ x. Seen h x × Told s c outs x) Own Next s.clients
    (λ x both is. known_row by h s e outs x clock force both.0 is both.1)
    (each_with (Seen h) (Told s c outs) (λ x. Seen h x × Told s c outs x) s.clients
    (λ x one two. (one, two)) seen told)
    (each_left Own s.clients (newcomers_for s c) own))
    (event_news by h s e outs force clock none (each_right Own s.clients (newcomers_for s c) own)))

-- ---- their order

ids_next : (s : State) (c : Cause) (xs : List Client) → ids_of (map (client_next s c) xs) ≡ ids_of xs
ids_next s c [] = refl
ids_next s c (x ∷ xs) = rw (client_id (around s c) (fixed_for s c x) x, ids_next s c xs) refl

pub ids_append : (xs ys : List Client) → ids_of (xs ++ ys) ≡ ids_of xs ++ ids_of ys
ids_append [] ys = refl
ids_append (x ∷ xs) ys = ap (λ ids. x.id ∷ ids) (ids_append xs ys)

pub known_among : (id : List ℕ) (xs : List Client) → is_among id (ids_of xs) ≡ is_known id xs
known_among id [] = refl
known_among id (x ∷ xs) = ap (λ b. bytes_eq id x.id || b) (known_among id xs)

one_if : (b : Bool) (id : List ℕ) → ids_of (if b then blank id ∷ [] else []) ≡ (if b then id ∷ [] else [])
one_if true id = refl
one_if false id = refl

entry_admitted : (s : State) (from : Address) (connect : Connect) (n : Notes) (o : Outcome)
    → is_admitted connect.client_id (entry_outs s from connect n o) ≡ is_allowed o
entry_admitted s from connect n Allowed = rw (same_self connect.client_id) refl
entry_admitted s from connect n (Denied rule) = rw (same_self connect.client_id) refl

datagram_order : (s : State) (from : Address) (read : Result SnFrame FrameFault)
    → let c = datagram_cause from read in
    ids_of (newcomers_for s c) ≡ accepted_by (ids_of s.clients) (message_in read) (outs_by s c)
datagram_order s from (Ok (frame.Connect connect)) =
    let id = connect.client_id in
    rw (
      entry_admitted s from connect (notes_for s (ByConnect from connect)) (entry s connect),
      known_among id s.clients,
    )
    (one_if (is_allowed (entry s connect) && not (is_known id s.clients)) id)
datagram_order s from (Ok (frame.Publish p)) = ap ids_of (publish_news s from p p.flags.qos)
datagram_order s from (Ok (frame.Disconnect None)) = refl
datagram_order s from (Ok (frame.Disconnect (Some duration))) = refl
datagram_order s from (Ok message) = refl
datagram_order s from (Err broke) = refl

event_order : (s : State) (e : Event)
    → ids_of (newcomers_for s (cause_of e)) ≡ accepted_in (ids_of s.clients) e (outs_of s e)
event_order s (Datagram from datagram) = datagram_order s from (frame_of datagram)
event_order s (Broker packet) = refl
event_order s Up = refl
event_order s Down = refl
event_order s Take = refl
event_order s (Replace policy) = refl
event_order s (Tick clock) = refl

pub order_row : (s : State) (e : Event) (h : List Row) → ids_of s.clients ≡ accepted h
    → ids_of (map (client_next s (cause_of e)) (s.clients ++ newcomers_for s (cause_of e)))
    ≡ accepted h ++ accepted_in (accepted h) e (outs_of s e)
order_row s e h order =
    let c = cause_of e in
    ids_next s c (s.clients ++ newcomers_for s c) ∙ (ids_append s.clients (newcomers_for s c)
    ∙ subst (λ ids. ids_of s.clients ++ ids_of (newcomers_for s c) ≡ ids ++ accepted_in ids e (outs_of s e))
    order
    (ap (λ ids. ids_of s.clients ++ ids) (event_order s e)))

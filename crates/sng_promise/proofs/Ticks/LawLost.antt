-- A client is lost exactly with a tick by which it was silent for too long, or answered no try.
use Rattle.std.proofs.Common.{◌≡◌, ℕ, Bool, true, false, List, [], ◌∷◌, ◌++◌, map, refl, ap, sym, ◌∙◌}
use Rattle.std.proofs.Common.{if◌then◌else◌}
use Rattle.std.specs.Prelude.{◌&&◌, ◌||◌, not, nat_lt, length, drop, Option, Some, None}
use Rattle.std.specs.Str.{bytes_eq}
use Rattle.sng_queue.specs.Messages.{Message}
use Rattle.sng_outbox.specs.declared.item.Item.{Item}
use Rattle.sng_outbox.specs.declared.item.Publication.{Publication}
use Rattle.sng_frames.specs.Reading.{frame_of}
use Rattle.sng_book.specs.declared.address.Address.{Address}
use Rattle.sng_book.specs.declared.decision.Decision.TheVariants as note
use Rattle.sng_book.specs.declared.outcome.Denial.TheVariants.{Peer}
use Rattle.sng_book.specs.declared.outcome.PeerDenial.TheVariants.{Gone}
use Rattle.sng_book.specs.declared.outcome.Outcome.{Outcome}
use Rattle.sng_book.specs.declared.outcome.Outcome.TheVariants.{Allowed, Denied}
use Rattle.sng_book.specs.declared.event.Event.{Event}
use Rattle.sng_book.specs.declared.event.Event.TheVariants.{Datagram, Broker, Up, Down, Take, Replace, Tick}
use Rattle.sng_book.specs.declared.out.Out.{Out}
use Rattle.sng_book.specs.declared.out.Out.TheVariants.{Send, Wire, Note}
use Rattle.sng_book.specs.declared.row.Row.{Row}
use Rattle.sng_history.specs.Causes.{ByPacket, ByUp, ByDown, ByTake, ByReplace}
use Rattle.sng_history.specs.Causes.{cause_of}
use Rattle.sng_history.specs.State.{State}
use Rattle.sng_history.specs.Steps.{outs_by}
use Rattle.sng_laws.specs.Views.{ticks, greatest}
use Rattle.sng_laws.specs.Views.{last_limits}
use Rattle.sng_laws.specs.ViewsClients.{phase_of, is_among, accepted, address_of}
use Rattle.sng_laws.specs.ViewsHanding.{Opening, Announced, HandedOver, is_at_least_once, progress_of}
use Rattle.sng_laws.specs.ViewsHanding.{waits_for}
use Rattle.sng_laws.specs.ViewsLink.{waiting, is_ping_due, pinged, published_for}
use Rattle.sng_laws.specs.ViewsWills.{will_of}
use Rattle.sng_laws.specs.LawsRules.{judged}
use Rattle.sng_laws.specs.LawsHanding.{Mailing, hand_rules, knows, publish_to, register_to}
use Rattle.sng_laws.specs.LawsRules.{receive_rules}
use Rattle.sng_laws.specs.LawsHanding.{sent_before, handed_one, handed_out, opens, pong_to, handed_awake}
use Rattle.sng_laws.specs.LawsHanding.{mailing, is_awake, gone_answer}
use Rattle.sng_laws.specs.LawsLost.{is_unanswered, announced_again, handed_again, opening_again, again_at}
use Rattle.sng_laws.specs.LawsLost.{again_answer}
use Rattle.sng_laws.specs.ViewsSendings.{Last, last_of}
use Rattle.sng_laws.specs.LawsLost.{is_due_to_be_lost, place_rules, refused_by, will_placed, will_refused}
use Rattle.sng_laws.specs.LawsLost.{ping_noted, tick_parts, tick_answer}
use Rattle.sng_laws.specs.LawsLost.{says_lost, is_lost_in, is_losing}
use Rattle.sng_history.proofs.Own.{same_means}
use Rattle.sng_promise.proofs.Ticks.LawUnlost.{none_lost, datagram_no_tick}

-- ---- a tick

-- outs that lose nobody
lost_both : (id : List ℕ) (xs ys : List Out) → is_lost_in id xs ≡ false
    → is_lost_in id (xs ++ ys) ≡ is_lost_in id ys
lost_both id [] ys none = refl
lost_both id (Note said ∷ xs) ys none =
    lost_said (says_lost id said) (is_lost_in id xs) none (lost_both id xs ys)
  where
    lost_said : (b before : Bool) → (b || before) ≡ false
        → (before ≡ false → is_lost_in id (xs ++ ys) ≡ is_lost_in id ys)
        → (b || is_lost_in id (xs ++ ys)) ≡ is_lost_in id ys
    lost_said true before none rest = absurd cc
    lost_said false before none rest = rest none
lost_both id (Send to datagram ∷ xs) ys none = lost_both id xs ys none
lost_both id (Wire packet ∷ xs) ys none = lost_both id xs ys none

gone_unlost : (id client : List ℕ) (waiting : List Message)
    → is_lost_in id (map (λ m. Note (note.Hand client m.name (Denied (Peer Gone)))) waiting) ≡ false
gone_unlost id client [] = refl
gone_unlost id client (m ∷ more) = gone_unlost id client more

refused_unlost : (id client : List ℕ) (p : Publication) (o : Outcome)
    → is_lost_in id (refused_by client p o) ≡ false
refused_unlost id client p Allowed = refl
refused_unlost id client p (Denied rule) = refl

will_unlost : (h : List Row) (items : List Item) (id client : List ℕ) (ps : List Publication)
    → is_lost_in id (will_refused h items client ps) ≡ false
will_unlost h items id client [] = refl
will_unlost h items id client (p ∷ ps) = refused_unlost id client p (judged (place_rules h items p))

ping_unlost : (h : List Row) (came : ℕ) (items : List Item) (id : List ℕ)
    → is_lost_in id (ping_noted h came items) ≡ false
ping_unlost h came items id =
    by_due (is_ping_due (Tick came) h (pinged h) && not (nat_lt (length items) (last_limits h).waiting))
  where
    by_due : (b : Bool) → is_lost_in id (if b then Note note.Outbox ∷ [] else []) ≡ false
    by_due true = refl
    by_due false = refl

-- what is sent again, or handed over then, loses nobody
sent_unlost : (id : List ℕ) (m : Message) (rest : List Out) → is_lost_in id rest ≡ false
    → is_lost_in id (sent_before m rest) ≡ false
sent_unlost id m rest none = by_qos (is_at_least_once m.qos)
  where
    by_qos : (b : Bool) → is_lost_in id (if b then [] else rest) ≡ false
    by_qos true = refl
    by_qos false = none

handed_unlost : (id : List ℕ) (c : Mailing) (ms : List Message) → is_lost_in id (handed_out c ms) ≡ false
handed_unlost id c [] = refl
handed_unlost id c (m ∷ more) = by_verdict (judged (hand_rules c m.name)) (handed_unlost id c more)
  where
    known : (b : Bool) → is_lost_in id (handed_out c more) ≡ false
        → is_lost_in id
        (if b
        then Note (note.Hand c.id m.name Allowed) ∷ publish_to c m ∷ sent_before m (handed_out c more)
        else Note (note.Announce c.id m.name) ∷ register_to c m.name ∷ []) ≡ false
    known true none = sent_unlost id m (handed_out c more) none
    known false none = refl

    by_verdict : (o : Outcome) → is_lost_in id (handed_out c more) ≡ false
        → is_lost_in id (handed_one c m o (handed_out c more)) ≡ false
    by_verdict (Denied rule) none = none
    by_verdict Allowed none = known (knows c m.name) none

awake_unlost : (id : List ℕ) (awake : Bool) (c : Mailing) (ms : List Message)
    → is_lost_in id (handed_awake awake c ms) ≡ false
awake_unlost id awake c ms =
    lost_both id (handed_out c ms) (if awake && not (opens c ms) then pong_to c.address ∷ [] else [])
    (handed_unlost id c ms)
    ∙ by_awake (awake && not (opens c ms))
  where
    by_awake : (b : Bool) → is_lost_in id (if b then pong_to c.address ∷ [] else []) ≡ false
    by_awake true = refl
    by_awake false = refl

announced_unlost : (id : List ℕ) (awake : Bool) (c : Mailing) (name : List ℕ) (waits : List Message)
    (o : Outcome)
    → is_lost_in id (announced_again awake c name waits o) ≡ false
announced_unlost id awake c name waits Allowed = refl
announced_unlost id awake c name waits (Denied rule) = awake_unlost id awake c (drop 1 waits)

message_unlost : (id : List ℕ) (awake : Bool) (c : Mailing) (last : Last) (m : Message) (waits : List Message)
    (o : Outcome)
    → is_lost_in id (handed_again awake c last m waits o) ≡ false
message_unlost id awake c last m waits Allowed = refl
message_unlost id awake c last m waits (Denied rule) = awake_unlost id awake c waits

opening_unlost : (id : List ℕ) (awake : Bool) (c : Mailing) (last : Last) (waits : List Message)
    (o : Option Opening)
    → is_lost_in id (opening_again awake c last waits o) ≡ false
opening_unlost id awake c last waits None = refl
opening_unlost id awake c last waits (Some (Announced name)) =
    announced_unlost id awake c name waits (judged (receive_rules c.policy c.id name))
opening_unlost id awake c last waits (Some (HandedOver m)) =
    message_unlost id awake c last m waits (judged (receive_rules c.policy c.id m.name))

again_unlost : (h : List Row) (clock : ℕ) (id one : List ℕ) → is_lost_in id (again_answer h clock one) ≡ false
again_unlost h clock id one = by_place (is_unanswered h clock one) (address_of one h)
  where
    by_place : (b : Bool) (place : Option Address)
        → is_lost_in id (if b then again_at h one place else []) ≡ false
    by_place false place = refl
    by_place true None = refl
    by_place true (Some place) =
        opening_unlost id (is_awake (phase_of one h)) (mailing h one place) (last_of one h) (waits_for one h)
        (progress_of one h).unanswered

same_first : (same among due : Bool) → (same ≡ true → due ≡ true)
    → (same || (among && due)) ≡ ((same || among) && due)
same_first true among true is = refl
same_first true among false is = absurd (let e = is refl in cc)
same_first false among due is = refl

other_first : (same among due : Bool) → (same ≡ true → due ≡ false)
    → (among && due) ≡ ((same || among) && due)
other_first true true due is = refl
other_first true false true is = absurd (let e = is refl in cc)
other_first true false false is = refl
other_first false among due is = refl

-- of these just those are lost that are due to be
lost_by : (h : List Row) (came clock : ℕ) (items : List Item) (id one : List ℕ) (ids : List (List ℕ))
    (due : Bool)
    → is_due_to_be_lost h clock one ≡ due
    → ((more : List Item) → is_lost_in id (tick_parts h came clock more ids)
    ≡ (is_among id ids && is_due_to_be_lost h clock id))
    → is_lost_in id (tick_parts h came clock items (one ∷ ids))
    ≡ ((bytes_eq id one || is_among id ids) && is_due_to_be_lost h clock id)
lost_by h came clock items id one ids true is rest =
    let will = published_for one (will_of one h) in
    let more = items ++ will_placed h items will in
    let last = tick_parts h came clock more ids in
    let behind : is_lost_in id (gone_answer h one ++ (will_refused h items one will ++ last))
    ≡ (is_among id ids && is_due_to_be_lost h clock id) =
    lost_both id (gone_answer h one) (will_refused h items one will ++ last)
    (gone_unlost id one (waits_for one h))
    ∙ (lost_both id (will_refused h items one will) last (will_unlost h items id one will) ∙ rest more) in
    rw is
    (ap (λ b. bytes_eq id one || b) behind
    ∙ same_first (bytes_eq id one) (is_among id ids) (is_due_to_be_lost h clock id)
    (λ same. ap (is_due_to_be_lost h clock) (same_means id one same) ∙ is))
lost_by h came clock items id one ids false is rest =
    rw is
    (lost_both id (again_answer h clock one) (tick_parts h came clock items ids) (again_unlost h clock id one)
    ∙ (rest items
    ∙ other_first (bytes_eq id one) (is_among id ids) (is_due_to_be_lost h clock id)
    (λ same. ap (is_due_to_be_lost h clock) (same_means id one same) ∙ is)))

lost_parts : (h : List Row) (came clock : ℕ) (items : List Item) (id : List ℕ) (ids : List (List ℕ))
    → is_lost_in id (tick_parts h came clock items ids) ≡ (is_among id ids && is_due_to_be_lost h clock id)
lost_parts h came clock items id [] = ping_unlost h came items id
lost_parts h came clock items id (one ∷ ids) =
    lost_by h came clock items id one ids (is_due_to_be_lost h clock one) refl
    (λ more. lost_parts h came clock more id ids)

-- who was never accepted is not due to be lost
abbrev pub Unknown : List Row → List ℕ → Type 0
Unknown h id = is_among id (accepted h) ≡ false → phase_of id h ≡ None

none_due : (h : List Row) (clock : ℕ) (id : List ℕ) → phase_of id h ≡ None
    → is_due_to_be_lost h clock id ≡ false
none_due h clock id none = rw none refl

among_all : (h : List Row) (clock : ℕ) (id : List ℕ) (among : Bool) → (among ≡ false → phase_of id h ≡ None)
    → (among && is_due_to_be_lost h clock id) ≡ is_due_to_be_lost h clock id
among_all h clock id true unknown = refl
among_all h clock id false unknown = sym (none_due h clock id (unknown refl))

pub tick_lost : (h : List Row) (came : ℕ) (id : List ℕ) → Unknown h id
    → is_lost_in id (tick_answer h came) ≡ is_losing (Tick came) h id
tick_lost h came id unknown =
    let clock = greatest (came ∷ ticks h) in
    lost_parts h came clock (waiting h) id (accepted h)
    ∙ among_all h clock id (is_among id (accepted h)) unknown

-- ---- each row

pub row_lost : (h : List Row) (s : State) (e : Event) (id : List ℕ) → Unknown h id
    → ((came : ℕ) → e ≡ Tick came → outs_by s (cause_of e) ≡ tick_answer h came)
    → is_lost_in id (outs_by s (cause_of e)) ≡ is_losing e h id
row_lost h s (Tick came) id unknown answer =
    ap (is_lost_in id) (answer came refl) ∙ tick_lost h came id unknown
row_lost h s (Datagram from datagram) id unknown answer =
    none_lost s (cause_of (Datagram from datagram)) id (datagram_no_tick from (frame_of datagram))
row_lost h s (Broker packet) id unknown answer = none_lost s (ByPacket packet) id refl
row_lost h s Up id unknown answer = none_lost s ByUp id refl
row_lost h s Down id unknown answer = none_lost s ByDown id refl
row_lost h s Take id unknown answer = none_lost s ByTake id refl
row_lost h s (Replace policy) id unknown answer = none_lost s (ByReplace policy) id refl

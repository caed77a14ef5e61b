-- What the rows show of the messages for a client, and what waits for it and is open with it, move alike: as
-- a message is settled, as one leaves, and as an id is announced.
use Rattle.std.proofs.Common.{◌≡◌, ℕ, ◌+◌, ◌≤◌, Bool, true, false, List, [], ◌∷◌, ◌++◌, map}
use Rattle.std.proofs.Common.{length, refl, ap, sym, ◌∙◌}
use Rattle.std.proofs.Common.{if◌then◌else◌, arith, length-append}
use Rattle.std.specs.Prelude.{◌||◌, Option, Some, None}
use Rattle.std.specs.Str.{bytes_eq}
use Rattle.std.proofs.lemmas.List.{drop-append-le, take-append-le}
use Rattle.sng_ids.specs.Ids.{Ids, id_for, with_name as with_entry, confirmed}
use Rattle.sng_queue.specs.declared.kind.TopicIdKind.{TopicIdKind}
use Rattle.sng_queue.specs.declared.exchange.Exchange.{Exchange}
use Rattle.sng_queue.specs.declared.exchange.Exchange.TheVariants.{Announcing, Acknowledging}
use Rattle.sng_queue.specs.Exchanges.{first_sending, repeat}
use Rattle.sng_queue.specs.Messages.{Message}
use Rattle.sng_queue.specs.Buffers.{Buffer}
use Rattle.sng_book.specs.declared.outcome.Outcome.{Outcome}
use Rattle.sng_history.specs.Clients.{told as told_id}
use Rattle.sng_history.specs.Handing.{number_after}
use Rattle.sng_laws.specs.ViewsClients.{is_among, with_name, id_told}
use Rattle.sng_laws.specs.ViewsHanding.{Opening, Announced, HandedOver, closes}
use Rattle.sng_laws.specs.LawsState.{sending_shown, exchange_shown}
use Rattle.sng_laws.specs.LawsHanding.{IsFront}
use Rattle.sng_promise.proofs.Names.Marked.{id_marked}
use Rattle.sng_promise.proofs.Names.SeenIds.{Telling, telling_none, telling_announced, telling_confirmed}
use Rattle.sng_promise.proofs.Names.SeenIds.{telling_told, id_stays, among_self}
use Rattle.sng_promise.proofs.Names.SeenIds.{among_more}
use Rattle.sng_laws.specs.ViewsSendings.{Last, sent_first}
use Rattle.sng_book.specs.declared.outcome.Outcome.TheVariants.{Allowed}
use Rattle.sng_queue.specs.declared.kind.TopicIdKind.TheVariants.{Normal}
use Rattle.sng_promise.proofs.Handing.SeenFollows.{Settling, settling_next, number_next, IsFor, View, Follows}
use Rattle.sng_promise.proofs.Handing.SeenFollows.{idle_with}

-- ---- as a message is settled, and as it leaves

abbrev pub come_out : View → List ℕ → Outcome → View
come_out v name o =
    record v {
      progress = record v.progress { settled = v.progress.settled + 1; unanswered = None };
      settled = v.settled ++ (name, o) ∷ [];
    }

pub settled_follows : (due : List Message) (v : View) (ids : Ids) (number : ℕ) (e : Option Exchange)
    (m : Message) (more : List Message)
    (o : Outcome)
    → Follows due v ids number (record { waiting = m ∷ more; exchange = e })
    → Follows due (come_out v m.name o) ids number (idle_with more)
settled_follows due v ids number e m more o f =
    record {
      telling = f.telling;
      settling = settling_next due v.progress.settled v.settled m more o f.settling;
      given = f.given;
      exchange = refl;
      front = tt;
    }

-- a message leaves, by this topic id
abbrev pub left_view : View → Message → Last → View
left_view v m last = record (come_out v m.name Allowed) { last = last }

pub left_follows : (due : List Message) (v : View) (ids : Ids) (number : ℕ) (e : Option Exchange)
    (m : Message) (more : List Message)
    (last : Last)
    → Follows due v ids number (record { waiting = m ∷ more; exchange = e })
    → Follows due (left_view v m last) ids number (idle_with more)
left_follows due v ids number e m more last f = record {
  telling = f.telling;
  settling = settling_next due v.progress.settled v.settled m more Allowed f.settling;
  given = f.given;
  exchange = refl;
  front = tt;
}

abbrev pub sent_view : View → Message → Last → View
sent_view v m last = record v {
  progress =
      record {
        settled = v.progress.settled + 1;
        numbered = v.progress.numbered + 1;
        unanswered = Some (HandedOver m);
      };
  settled = v.settled ++ (m.name, Allowed) ∷ [];
  last = last;
}

-- one at QoS 1 waits for its PUBACK
pub sent_follows : (due : List Message) (v : View) (ids : Ids) (number : ℕ) (e : Option Exchange)
    (m : Message) (more : List Message)
    (kind : TopicIdKind) (topic_id clock : ℕ)
    → Follows due v ids number (record { waiting = m ∷ more; exchange = e })
    → Follows due (sent_view v m (sent_first clock (kind, topic_id))) ids (number_after number)
    (record {
      waiting = more;
      exchange =
          Some (Acknowledging (first_sending topic_id (number_after number) clock) kind m);
    })
sent_follows due v ids number e m more kind topic_id clock f = record {
  telling = f.telling;
  settling = settling_next due v.progress.settled v.settled m more Allowed f.settling;
  given = ap number_after f.given ∙ sym (number_next v.progress.numbered);
  exchange = refl;
  front = tt;
}

-- ---- as an id is announced

abbrev pub announced_view : View → List ℕ → ℕ → View
announced_view v name clock = record v {
  told = with_name (Some name) v.told;
  progress = record v.progress { numbered = v.progress.numbered + 1; unanswered = Some (Announced name) };
  last = sent_first clock (Normal, 0);
}

pub announced_follows : (due : List Message) (v : View) (ids : Ids) (number : ℕ) (m : Message)
    (more : List Message) (clock : ℕ)
    → Follows due v ids number (idle_with (m ∷ more))
    → Follows due (announced_view v m.name clock) (with_entry m.name ids) (number_after number)
    (record {
      waiting = m ∷ more;
      exchange = Some (Announcing (first_sending (id_for m.name ids) (number_after number) clock));
    })
announced_follows due v ids number m more clock f =
    let told : Telling v.told v.known ids = f.telling in
    let id : id_for m.name ids ≡ id_told m.name (with_name (Some m.name) v.told) =
    ap (id_for m.name) told.marks ∙ (id_marked m.name v.told v.known ∙ sym (id_stays m.name v.told)) in
    record {
      telling = telling_announced m.name v.told v.known ids told;
      settling = f.settling;
      given = ap number_after f.given ∙ sym (number_next v.progress.numbered);
      exchange = ap (λ k. Some (Announcing (first_sending k (number_after number) clock))) id;
      front = (among_self m.name v.told, refl);
    }

-- ---- as what is open ends

abbrev pub closed_view : View → View
closed_view v = record v { progress = closes v.progress }

pub closed_follows : (due : List Message) (v : View) (ids : Ids) (number : ℕ) (b : Buffer)
    → Follows due v ids number b
    → Follows due (closed_view v) ids number (record b { exchange = None })
closed_follows due v ids number b f =
    record { telling = f.telling; settling = f.settling; given = f.given; exchange = refl; front = tt }

-- a CONNECT that is accepted
pub entered_follows : (due : List Message) (v : View) (ids : Ids) (number : ℕ) (b : Buffer)
    → Follows due v ids number b
    → Follows due (record (closed_view v) { told = []; known = [] }) [] number (record b { exchange = None })
entered_follows due v ids number b f =
    record { telling = telling_none; settling = f.settling; given = f.given; exchange = refl; front = tt }

-- the client confirms the id that was announced
pub confirmed_follows : (due : List Message) (v : View) (ids : Ids) (number : ℕ) (b : Buffer) (name : List ℕ)
    → is_among name v.told ≡ true
    → Follows due v ids number b
    → Follows due (record (closed_view v) { known = with_name (Some name) v.known })
    (confirmed (id_told name v.told) ids) number
    (record b { exchange = None })
confirmed_follows due v ids number b name among f =
    record {
      telling = telling_confirmed name v.told v.known ids among f.telling;
      settling = f.settling;
      given = f.given;
      exchange = refl;
      front = tt;
    }

-- ---- as an id is told

id_before : (name : List ℕ) (names : List (List ℕ)) (next : List ℕ) → is_among name names ≡ true
    → id_told name (names ++ next ∷ []) ≡ id_told name names
id_before name [] next is = absurd cc
id_before name (one ∷ names) next is = by_first (bytes_eq name one) is (id_before name names next)
  where
    by_first : (b : Bool) → (b || is_among name names) ≡ true
        → (is_among name names ≡ true → id_told name (names ++ next ∷ []) ≡ id_told name names)
        → (if b then 1 else id_told name (names ++ next ∷ []) + 1) ≡ (if b then 1 else id_told name names + 1)
    by_first true among rest = refl
    by_first false among rest = ap (λ id. id + 1) (rest among)

kept_by : (name : List ℕ) (names : List (List ℕ)) (next : List ℕ) (b : Bool) → is_among name names ≡ true
    → id_told name (if b then names else names ++ next ∷ []) ≡ id_told name names
kept_by name names next true is = refl
kept_by name names next false is = id_before name names next is

open_told : (o : Option Opening) (told : List (List ℕ)) (next : List ℕ) (number : ℕ) (last : Last)
    (waiting : List Message)
    → IsFor o told waiting
    → exchange_shown o told number last ≡ exchange_shown o (with_name (Some next) told) number last
open_told None told next number last waiting front = refl
open_told (Some (Announced name)) told next number last waiting front =
    ap (λ k. Some (Announcing (sending_shown k number last)))
    (sym (kept_by name told next (is_among next told) front.0))
open_told (Some (HandedOver m)) told next number last waiting front = refl

for_told : (o : Option Opening) (told : List (List ℕ)) (next : List ℕ) (waiting : List Message)
    → IsFor o told waiting
    → IsFor o (with_name (Some next) told) waiting
for_told None told next waiting front = tt
for_told (Some (Announced name)) told next waiting front = (among_more name next told front.0, front.1)
for_told (Some (HandedOver m)) told next waiting front = tt

pub told_follows : (due : List Message) (v : View) (ids : Ids) (number : ℕ) (b : Buffer) (name : List ℕ)
    → Follows due v ids number b
    → Follows due (record v { told = with_name (Some name) v.told; known = with_name (Some name) v.known })
    (told_id name ids) number b
told_follows due v ids number b name f = record {
  telling = telling_told name v.told v.known ids f.telling;
  settling = f.settling;
  given = f.given;
  exchange = f.exchange ∙ open_told v.progress.unanswered v.told name number v.last b.waiting f.front;
  front = for_told v.progress.unanswered v.told name b.waiting f.front;
}

-- ---- as a message is due

joined_front : (name : List ℕ) (waiting : List Message) (m : Message) → IsFront name waiting
    → IsFront name (waiting ++ m ∷ [])
joined_front name [] m front = absurd front
joined_front name (one ∷ waiting) m front = front

joined_for : (o : Option Opening) (told : List (List ℕ)) (waiting : List Message) (m : Message)
    → IsFor o told waiting
    → IsFor o told (waiting ++ m ∷ [])
joined_for None told waiting m front = tt
joined_for (Some (Announced name)) told waiting m front = (front.0, joined_front name waiting m front.1)
joined_for (Some (HandedOver one)) told waiting m front = tt

pub joined_follows : (due : List Message) (v : View) (ids : Ids) (number : ℕ) (b : Buffer) (m : Message)
    → Follows due v ids number b
    → Follows (due ++ m ∷ []) v ids number (record b { waiting = b.waiting ++ m ∷ [] })
joined_follows due v ids number b m f =
    let s : Settling due v.progress.settled v.settled b.waiting = f.settling in
    let few : v.progress.settled ≤ length due = s.few in
    record {
      telling = f.telling;
      settling = record {
        waits =
            ap (λ waiting. waiting ++ m ∷ []) s.waits
            ∙ sym (drop-append-le v.progress.settled due (m ∷ []) few);
        few = omega (arith, length-append due (m ∷ []));
        names =
            s.names ∙ ap (map (λ one. one.name)) (sym (take-append-le v.progress.settled due (m ∷ []) few));
      };
      given = f.given;
      exchange = f.exchange;
      front = joined_for v.progress.unanswered v.told b.waiting m f.front;
    }

-- ---- as what is open is sent again

abbrev pub repeated_view : View → ℕ → View
repeated_view v clock = record v { last = record v.last { at = clock; tries = v.last.tries + 1 } }

shown_again : (o : Option Opening) (told : List (List ℕ)) (number clock : ℕ) (last : Last)
    → repeat (exchange_shown o told number last) clock
    ≡ exchange_shown o told number (record last { at = clock; tries = last.tries + 1 })
shown_again None told number clock last = refl
shown_again (Some (Announced name)) told number clock last = refl
shown_again (Some (HandedOver m)) told number clock last = refl

pub repeated_follows : (due : List Message) (v : View) (ids : Ids) (number clock : ℕ) (b : Buffer)
    → Follows due v ids number b
    → Follows due (repeated_view v clock) ids number (record b { exchange = repeat b.exchange clock })
repeated_follows due v ids number clock b f = record {
  telling = f.telling;
  settling = f.settling;
  given = f.given;
  exchange =
      ap (λ e. repeat e clock) f.exchange ∙ shown_again v.progress.unanswered v.told number clock v.last;
  front = f.front;
}

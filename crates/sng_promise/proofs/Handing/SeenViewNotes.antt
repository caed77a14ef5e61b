-- What the notes of a row show of the messages for a client is read from the client's own notes.
use Rattle.std.proofs.Common.{◌≡◌, ℕ, ◌+◌, Bool, true, false, List, [], ◌∷◌, ◌++◌, length, refl, ap, sym, ◌∙◌}
use Rattle.std.proofs.Common.{if◌then◌else◌, arith}
use Rattle.std.proofs.Common.{length-append}
use Rattle.std.specs.Prelude.{◌&&◌, slice_get, Option, Some, None, not}
use Rattle.std.specs.Str.{bytes_eq}
use Rattle.std.proofs.lemmas.List.{append-nil, append_assoc}
use Rattle.sng_queue.specs.Messages.{Message}
use Rattle.sng_book.specs.declared.decision.Decision.{Decision}
use Rattle.sng_book.specs.declared.decision.Decision.TheVariants as note
use Rattle.sng_book.specs.declared.decision.Who.{Who}
use Rattle.sng_book.specs.declared.decision.Who.TheVariants as who
use Rattle.sng_book.specs.Denials.{is_allowed}
use Rattle.sng_book.specs.declared.outcome.Outcome.{Outcome}
use Rattle.sng_book.specs.declared.outcome.Outcome.TheVariants.{Allowed, Denied}
use Rattle.sng_book.specs.declared.out.Out.{Out}
use Rattle.sng_book.specs.declared.out.Out.TheVariants.{Send, Wire, Note}
use Rattle.sng_book.specs.declared.row.Row.{Row}
use Rattle.sng_history.specs.Clients.{Around}
use Rattle.sng_history.specs.Clients.{is_turned_away, subscribe_of}
use Rattle.sng_history.specs.Notes.{notes_of, is_of, is_client}
use Rattle.sng_laws.specs.ViewsMessages.{subscribe_in}
use Rattle.sng_laws.specs.ViewsMessages.{Message as Spoken}
use Rattle.sng_laws.specs.ViewsClients.{speaks_of, names_after}
use Rattle.sng_laws.specs.ViewsClients.{names_told}
use Rattle.sng_laws.specs.ViewsClients.{names_by}
use Rattle.sng_laws.specs.ViewsHanding.{Announced, HandedOver, Progress, closes, hand_of}
use Rattle.sng_laws.specs.ViewsHanding.{hands_in, is_refused_at_once}
use Rattle.sng_laws.specs.ViewsHanding.{settlements, settled_of, due_of, progress_by}
use Rattle.sng_laws.specs.ViewsHanding.{progress_after}
use Rattle.sng_laws.specs.ViewsHanding.{is_at_least_once, leaves_by, handed_by}
use Rattle.sng_laws.specs.ViewsHanding.{ends_open, progress_of, knows_after}
use Rattle.sng_laws.specs.ViewsHanding.{names_known}
use Rattle.sng_promise.proofs.Handing.SeenFollows.{View}
use Rattle.sng_promise.proofs.Handing.SeenHandingNotes.{with_hands, view_by, view_notes}
use Rattle.sng_laws.specs.ViewsSendings.{Last, last_by, last_after, last_of}
use Rattle.sng_grants.specs.declared.policy.Policy.{Policy}
use Rattle.sng_frames.specs.declared.messages.subscribe.TopicRequest.{TopicRequest}

-- what the rows show of a client
abbrev pub view_of : List ℕ → List Row → View
view_of id h =
    record {
      told = names_told id h;
      known = names_known id h;
      progress = progress_of id h;
      settled = settled_of id h;
      last = last_of id h;
    }

-- ---- all notes of a row, and those of the client

-- the frame that may be sent again, given the SUBSCRIBE that the row holds
abbrev pub last_outs : Policy → ℕ → Option TopicRequest → List ℕ → List Out → List (List ℕ) → Last → Last
last_outs policy clock r id [] told now = now
last_outs policy clock r id (Note said ∷ outs) told now =
    last_outs policy clock r id outs (names_by r id said told) (last_by policy clock told id said now)
last_outs policy clock r id (Send to datagram ∷ outs) told now = last_outs policy clock r id outs told now
last_outs policy clock r id (Wire packet ∷ outs) told now = last_outs policy clock r id outs told now

pub last_same : (policy : Policy) (clock : ℕ) (m : Option Spoken) (id : List ℕ) (outs : List Out)
    (told : List (List ℕ)) (now : Last)
    → last_after policy clock m id outs told now ≡ last_outs policy clock (subscribe_in m) id outs told now
last_same policy clock m id [] told now = refl
last_same policy clock m id (Note said ∷ outs) told now =
    last_same policy clock m id outs (names_by (subscribe_in m) id said told)
    (last_by policy clock told id said now)
last_same policy clock m id (Send to datagram ∷ outs) told now = last_same policy clock m id outs told now
last_same policy clock m id (Wire packet ∷ outs) told now = last_same policy clock m id outs told now

abbrev pub view_outs : Around → List ℕ → List Message → List Out → View → View
view_outs a id due outs v = record {
  told = names_after (subscribe_of a.cause) id outs v.told;
  known = knows_after (subscribe_of a.cause) id outs v.known;
  progress = progress_after id due outs v.progress;
  settled = v.settled ++ settlements (hands_in id outs);
  last = last_outs a.policy a.clock (subscribe_of a.cause) id outs v.told v.last;
}

-- another's note shows nothing of the client
client_same : (id : List ℕ) (whom : Who) → is_client id whom ≡ speaks_of id whom
client_same id (who.Client client) = refl
client_same id (who.Source source) = refl
client_same id (who.Address address) = refl
client_same id who.Broker = refl

view_other : (a : Around) (id : List ℕ) (due : List Message) (said : Decision) (v : View)
    → is_of id said ≡ false
    → view_by a id due said v ≡ v
view_other a id due (note.Connect client outcome) v other = rw other refl
view_other a id due (note.Left client) v other = rw other refl
view_other a id due (note.Lost client) v other = rw other refl
view_other a id due (note.Retry client name outcome) v other = rw other refl
view_other a id due (note.Register whom name outcome) v other = rw (sym (client_same id whom) ∙ other) refl
view_other a id due (note.Subscribe whom filter outcome) v other = rw (sym (client_same id whom) ∙ other) refl
view_other a id due (note.Announce client name) v other = rw other refl
view_other a id due (note.Hand client name outcome) v other = rw other refl
view_other a id due _ v other = refl

view_note : (a : Around) (id : List ℕ) (due : List Message) (said : Decision) (notes : List Decision)
    (v : View) (b : Bool)
    → is_of id said ≡ b
    → view_notes a id due notes (view_by a id due said v)
    ≡ view_notes a id due ((if b then said ∷ [] else []) ++ notes) v
view_note a id due said notes v true own = refl
view_note a id due said notes v false other =
    ap (view_notes a id due notes) (view_other a id due said v other)

settlements_by : (b : Bool) (hand : List ℕ × Outcome) (xs ys : List (List ℕ × Outcome))
    → (if b then xs ++ ys else hand ∷ (xs ++ ys)) ≡ (if b then xs else hand ∷ xs) ++ ys
settlements_by true hand xs ys = refl
settlements_by false hand xs ys = refl

settlements_append : (xs ys : List (List ℕ × Outcome))
    → settlements (xs ++ ys) ≡ settlements xs ++ settlements ys
settlements_append [] ys = refl
settlements_append (hand ∷ xs) ys =
    ap (λ more. if is_refused_at_once hand.1 then more else hand ∷ more) (settlements_append xs ys)
    ∙ settlements_by (is_refused_at_once hand.1) hand (settlements xs) (settlements ys)

with_both : (hands later before : List (List ℕ × Outcome))
    → before ++ (hands ++ later) ≡ with_hands hands before ++ later
with_both [] later before = refl
with_both (hand ∷ hands) later before = sym (append_assoc before (hand ∷ hands) later)

settled_both : (hands later before : List (List ℕ × Outcome))
    → before ++ settlements (hands ++ later) ≡ with_hands (settlements hands) before ++ settlements later
settled_both hands later before =
    ap (λ more. before ++ more) (settlements_append hands later)
    ∙ with_both (settlements hands) (settlements later) before

pub outs_view : (a : Around) (id : List ℕ) (due : List Message) (outs : List Out) (v : View)
    → view_outs a id due outs v ≡ view_notes a id due (notes_of id outs) v
outs_view a id due [] v =
    ap (λ settled. let w : View = record v { settled = settled } in w) (append-nil v.settled)
outs_view a id due (Note said ∷ outs) v =
    ap (λ settled. let w : View = record (view_outs a id due (Note said ∷ outs) v) { settled = settled } in w)
    (settled_both (hand_of id said) (hands_in id outs) v.settled)
    ∙ (outs_view a id due outs (view_by a id due said v)
    ∙ view_note a id due said (notes_of id outs) v (is_of id said) refl)
outs_view a id due (Send to datagram ∷ outs) v = outs_view a id due outs v
outs_view a id due (Wire packet ∷ outs) v = outs_view a id due outs v

-- ---- how many are settled

settled_more : (b refused : Bool) (name : List ℕ) (o : Outcome) (n : ℕ) → is_refused_at_once o ≡ refused
    → (if b then (if refused then n else n + 1) else n)
    ≡ n + length (settlements (let hands : List (List ℕ × Outcome) = if b then (name, o) ∷ [] else [] in
    hands))
settled_more true true name o n is = rw is (omega arith)
settled_more true false name o n is = rw is refl
settled_more false refused name o n is = omega arith

leaves_more : (m : Option Message) (p : Progress) → (leaves_by m p).settled ≡ p.settled + 1
leaves_more None p = refl
leaves_more (Some m) p = by_level (is_at_least_once m.qos)
  where
    by_level : (b : Bool)
        → (let q : Progress = if b then
        record {
          settled = p.settled + 1;
          numbered = p.numbered + 1;
          unanswered = Some
              (HandedOver m);
        } else record p { settled = p.settled + 1; unanswered = None } in q).settled ≡ p.settled + 1
    by_level true = refl
    by_level false = refl

denied_more : (b : Bool) (p : Progress)
    → (let q : Progress = if b then p else record p { settled = p.settled + 1; unanswered = None } in
    q).settled
    ≡ (if b then p.settled else p.settled + 1)
denied_more true p = refl
denied_more false p = refl

handed_more : (due : List Message) (o : Outcome) (p : Progress)
    → (handed_by due o p).settled ≡ (if is_refused_at_once o then p.settled else p.settled + 1)
handed_more due Allowed p = leaves_more (slice_get due p.settled) p
handed_more due (Denied rule) p = denied_more (is_turned_away rule) p

if_settled : (b : Bool) (p q : Progress) (n : ℕ) → p.settled ≡ n
    → (let r : Progress = if b then p else q in r).settled ≡ (if b then n else q.settled)
if_settled true p q n is = is
if_settled false p q n is = refl

if_same : (b : Bool) (p q : Progress) → p.settled ≡ q.settled
    → (let r : Progress = if b then p else q in r).settled ≡ q.settled
if_same true p q is = is
if_same false p q is = refl

no_more : (n : ℕ) → n ≡ n + 0
no_more n = omega arith

note_settled : (id : List ℕ) (due : List Message) (said : Decision) (p : Progress)
    → (progress_by id due said p).settled ≡ p.settled + length (settlements (hand_of id said))
note_settled id due (note.Connect client outcome) p =
    if_same (bytes_eq id client && is_allowed outcome) (closes p) p refl ∙ no_more p.settled
note_settled id due (note.Left client) p = if_same (bytes_eq id client) (closes p) p refl ∙ no_more p.settled
note_settled id due (note.Lost client) p = if_same (bytes_eq id client) (closes p) p refl ∙ no_more p.settled
note_settled id due (note.Retry client name outcome) p =
    if_same (bytes_eq id client && not (is_allowed outcome)) (closes p) p refl ∙ no_more p.settled
note_settled id due (note.Announce client name) p =
    if_same (bytes_eq id client) (record p { numbered = p.numbered + 1; unanswered = Some (Announced name) })
    p refl ∙ no_more p.settled
note_settled id due (note.Hand client name outcome) p =
    if_settled (bytes_eq id client) (handed_by due outcome p) p
    (if is_refused_at_once outcome then p.settled else p.settled + 1)
    (handed_more due outcome p)
    ∙ settled_more (bytes_eq id client) (is_refused_at_once outcome) name outcome p.settled refl
note_settled id due _ p = no_more p.settled

plus_both : (n : ℕ) (xs ys : List (List ℕ × Outcome)) → n + length xs + length ys ≡ n + length (xs ++ ys)
plus_both n xs ys = omega (arith, length-append xs ys)

outs_settled : (id : List ℕ) (due : List Message) (outs : List Out) (p : Progress)
    → (progress_after id due outs p).settled ≡ p.settled + length (settlements (hands_in id outs))
outs_settled id due [] p = no_more p.settled
outs_settled id due (Note said ∷ outs) p =
    outs_settled id due outs (progress_by id due said p)
    ∙ (ap (λ n. n + length (settlements (hands_in id outs))) (note_settled id due said p)
    ∙ (plus_both p.settled (settlements (hand_of id said)) (settlements (hands_in id outs))
    ∙ ap (λ all. p.settled + length all) (sym (settlements_append (hand_of id said) (hands_in id outs)))))
outs_settled id due (Send to datagram ∷ outs) p = outs_settled id due outs p
outs_settled id due (Wire packet ∷ outs) p = outs_settled id due outs p

-- so many were settled as the progress says
pub settled_count : (id : List ℕ) (h : List Row) → (progress_of id h).settled ≡ length (settled_of id h)
settled_count id [] = refl
settled_count id (row ∷ h) =
    let p = progress_of id h in
    let q : Progress = if ends_open id p h row.event then closes p else p in
    outs_settled id (due_of id (row ∷ h)) row.outs q
    ∙ (ap (λ n. n + length (settlements (hands_in id row.outs)))
    (if_same (ends_open id p h row.event) (closes p) p refl ∙ settled_count id h)
    ∙ sym (length-append (settled_of id h) (settlements (hands_in id row.outs))))

-- A message of the broker as code delivers it is the notes of the step: what is let out for each client is
-- those notes spelled, and what is kept does to the clients what they do.
use Rattle.std.proofs.Common.{◌≡◌, ℕ, suc, Bool, true, false, List, [], ◌∷◌, ◌++◌, map, length, refl, ap, sym}
use Rattle.std.proofs.Common.{◌∙◌}
use Rattle.std.specs.Prelude.{if◌then◌else◌, nat_le, Option, Some, None}
use Rattle.std.specs.List.{flat_map}
use Rattle.std.proofs.lemmas.List.{append-nil, append_assoc}
use Rattle.sng_text.specs.Texts.{is_name}
use Rattle.sng_text.specs.declared.qos.Qos.{Qos}
use Rattle.sng_grants.specs.declared.policy.Policy.{Policy}
use Rattle.sng_fan.specs.Subscriptions.{stands}
use Rattle.sng_queue.specs.Messages.{Message, is_sendable}
use Rattle.sng_queue.specs.declared.limits.TheConstants.{MAX_QUEUED}
use Rattle.mqtt_frames.specs.declared.packet.Publish.{Publish}
use Rattle.mqtt_frames.specs.declared.packet.Packet.TheVariants as packet
use Rattle.sng_book.specs.declared.out.Out.{Out}
use Rattle.sng_history.specs.Arriving.{due_to}
use Rattle.sng_history.specs.Causes.{Cause, ByPacket}
use Rattle.sng_history.specs.Clients.{Client, notes_by}
use Rattle.sng_history.specs.Links.{Wanted}
use Rattle.sng_history.specs.Packets.{Delivers, answer_outs}
use Rattle.sng_history.specs.Outgoing.{is_free, delivered_notes}
use Rattle.sng_history.specs.State.{State, around}
use Rattle.sng_history.specs.Whole.{spell}
use Rattle.sng_history.specs.Lawful.{fixed_for}
use Rattle.sng_history.specs.Steps.{outs_by, client_next, clients_next, next_by}
use Rattle.sng_history.specs.Good.{Each, AtRest, Good}
use Rattle.sng_history.proofs.Own.{each_map}
use Rattle.sng_history.proofs.Hands.{Calm, every_delivered, messages_calm, notes_calm}
use Rattle.sng_history.proofs.SaysParts.{part_for}
use Rattle.sng_history.proofs.Steady.{client_filters}
use Rattle.sng_history.proofs.Endless.{Keeps, Endless, endless_wanted}
use Rattle.sng_sessions.specs.Moving.{moved_at}
use Rattle.sng_sessions.specs.Handed.{delivered}
use Rattle.sng_sessions.specs.declared.handing.Opens.{Opens}
use Rattle.sng_sessions.specs.declared.handing.Opens.TheVariants.{Nothing}
use Rattle.sng_turns.specs.declared.deliver.Incoming.{Incoming}
use Rattle.sng_turns.specs.declared.deliver.Kept.{Kept}
use Rattle.sng_turns.specs.HandingOver.{message_opens, is_open}
use Rattle.sng_turns.specs.Delivering.{incoming, due_at, message_at, kept_opened, due_kept}
use Rattle.sng_turns.specs.Delivering.{deliver_outs, deliver_kept, all_outs, all_kept, keep_all}
use Rattle.sng_core.specs.Refusing.{named_outs, named_kept, packet_outs, packet_link, packet_next}
use Rattle.sng_core.proofs.Plain.{Busy, plain_next, plain_part, plain_moves, plain_row}
use Rattle.sng_core.proofs.DeliveringClient.{joined, kept_by, due_same, due_none, none_handed, due_spelled}
use Rattle.sng_core.proofs.DeliveringClient.{due_moved}
use Rattle.sng_core.proofs.DeliveringBusy.{busy_due}
use Rattle.sng_core.proofs.Found.{moved_behind}

-- ---- each client

abbrev brings : Publish → Cause
brings p = ByPacket (packet.Publish p)

abbrev part_of : State → Publish → Client → List Out
part_of s p x = part_for s (brings p) [] x

busy_next : (s : State) (p : Publish) (x : Client) → AtRest x → Busy (plain_next s (brings p) x)
busy_next s p x rest = busy_due (around s (brings p)) (due_to p x.phase x.filters) x rest

part_plain : (s : State) (p : Publish) (x : Client) → AtRest x → part_of s p x ≡ plain_part s (brings p) [] x
part_plain s p x rest = plain_row s (brings p) [] x (busy_next s p x rest)

next_plain : (s : State) (p : Publish) (x : Client) → AtRest x
    → client_next s (brings p) x ≡ plain_next s (brings p) x
next_plain s p x rest = plain_moves s (brings p) x (busy_next s p x rest)

client_outs : (s : State) (p : Publish) (x : Client) → is_name p.name ≡ true → AtRest x
    → deliver_outs s.policy (incoming s.policy p) x ≡ part_of s p x
client_outs s p x is rest =
    let a = around s (brings p) in
    let i = incoming s.policy p in
    let plain : deliver_outs s.policy i x ≡ plain_part s (brings p) [] x =
    due_spelled a i x (due_at i x) rest
    ∙ ap (λ o. spell a [] (joined o x) (delivered_notes s.policy o x)) (due_same s.policy p x is) in
    plain ∙ sym (part_plain s p x rest)

client_moved : (s : State) (p : Publish) (x : Client) → is_name p.name ≡ true → AtRest x → (at : ℕ)
    → kept_by s.clock (deliver_kept s.policy (incoming s.policy p) at x) x ≡ client_next s (brings p) x
client_moved s p x is rest at =
    let a = around s (brings p) in
    let i = incoming s.policy p in
    let plain : kept_by s.clock (deliver_kept s.policy i at x) x ≡ plain_next s (brings p) x =
    due_moved a at i x (due_at i x) rest
    ∙ ap (λ o. notes_by a (delivered_notes s.policy o x) (joined o x)) (due_same s.policy p x is) in
    plain ∙ sym (next_plain s p x rest)

client_silent : (s : State) (p : Publish) (x : Client) → is_name p.name ≡ false → AtRest x
    → part_of s p x ≡ []
client_silent s p x is rest =
    let a = around s (brings p) in
    part_plain s p x rest
    ∙ (ap (λ o. spell a [] (joined o x) (delivered_notes s.policy o x)) (due_none p x is)
    ∙ ap (spell a [] x) (none_handed s.policy x rest))

client_stays : (s : State) (p : Publish) (x : Client) → is_name p.name ≡ false → AtRest x
    → client_next s (brings p) x ≡ x
client_stays s p x is rest =
    let a = around s (brings p) in
    next_plain s p x rest
    ∙ (ap (λ o. notes_by a (delivered_notes s.policy o x) (joined o x)) (due_none p x is)
    ∙ ap (λ notes. notes_by a notes x) (none_handed s.policy x rest))

-- ---- all clients

all_named : (s : State) (p : Publish) (xs : List Client) → is_name p.name ≡ true → Each AtRest xs
    → all_outs s.policy (incoming s.policy p) xs ≡ flat_map (part_of s p) xs
all_named s p [] is rest = refl
all_named s p (x ∷ xs) is rest =
    ap (λ outs. outs ++ all_outs s.policy (incoming s.policy p) xs) (client_outs s p x is rest.0)
    ∙ ap (λ outs. part_of s p x ++ outs) (all_named s p xs is rest.1)

all_silent : (s : State) (p : Publish) (xs : List Client) → is_name p.name ≡ false → Each AtRest xs
    → flat_map (part_of s p) xs ≡ []
all_silent s p [] is rest = refl
all_silent s p (x ∷ xs) is rest =
    ap (λ outs. outs ++ flat_map (part_of s p) xs) (client_silent s p x is rest.0)
    ∙ all_silent s p xs is rest.1

all_stay : (s : State) (p : Publish) (xs : List Client) → is_name p.name ≡ false → Each AtRest xs
    → map (client_next s (brings p)) xs ≡ xs
all_stay s p [] is rest = refl
all_stay s p (x ∷ xs) is rest =
    ap (λ y. y ∷ map (client_next s (brings p)) xs) (client_stays s p x is rest.0)
    ∙ ap (λ ys. x ∷ ys) (all_stay s p xs is rest.1)

-- ---- what is kept moves just the clients at their places

keep_append : (clock : ℕ) (kept more : List Kept) (xs : List Client)
    → keep_all clock (kept ++ more) xs ≡ keep_all clock more (keep_all clock kept xs)
keep_append clock [] more xs = refl
keep_append clock (k ∷ kept) more xs =
    keep_append clock kept more (moved_at k.place (delivered clock k.message k.opens) xs)

cases_if : (P : List Kept → Type 0) (b : Bool) (one other : List Kept) → P one → P other
    → P (if b then one else other)
cases_if P true one other first second = first
cases_if P false one other first second = second

-- at most one message is kept for a client, at its place
kept_cases : (P : List Kept → Type 0) (policy : Policy) (i : Incoming) (at : ℕ) (x : Client)
    (due : Option Qos) → P []
    → ((m : Message) (o : Opens) → P (record { place = at; message = m; opens = o } ∷ []))
    → P (due_kept policy at i x due)
kept_cases P policy i at x None none one = none
kept_cases P policy i at x (Some qos) none one =
    let m = message_at i qos in
    let o = message_opens policy x.id x.ids 0 m in
    let waits_there : List Kept = record { place = at; message = m; opens = Nothing } ∷ [] in
    let taken = kept_opened at m o in
    let joining = if is_free x then taken else waits_there in
    let fitting = if nat_le MAX_QUEUED (length x.buffer.waiting) then [] else joining in
    cases_if P (is_sendable m.name m.payload) fitting []
    (cases_if P (nat_le MAX_QUEUED (length x.buffer.waiting)) [] joining none
    (cases_if P (is_free x) taken waits_there
    (cases_if P (is_open o) (record { place = at; message = m; opens = o } ∷ []) [] (one m o) none)
    (one m Nothing)))
    none

abbrev MovesThere : ℕ → List Client → Client → List Client → List Kept → Type 0
MovesThere clock before x xs kept =
    keep_all clock kept (before ++ x ∷ xs) ≡ before ++ kept_by clock kept x ∷ xs

kept_there : (clock : ℕ) (policy : Policy) (i : Incoming) (before : List Client) (x : Client)
    (xs : List Client)
    → MovesThere clock before x xs (deliver_kept policy i (length before) x)
kept_there clock policy i before x xs =
    kept_cases (MovesThere clock before x xs) policy i (length before) x (due_at i x) refl
    (λ m o. moved_behind (delivered clock m o) before x xs)

-- what is kept for a client does this to it, wherever it stands
abbrev Does : ℕ → Policy → Incoming → (Client → Client) → Client → Type 0
Does clock policy i f x = (at : ℕ) → kept_by clock (deliver_kept policy i at x) x ≡ f x

length_one : (xs : List Client) (x : Client) → length (xs ++ x ∷ []) ≡ suc (length xs)
length_one [] x = refl
length_one (y ∷ xs) x = ap suc (length_one xs x)

kept_behind : (clock : ℕ) (policy : Policy) (i : Incoming) (f : Client → Client) (before xs : List Client)
    → Each (Does clock policy i f) xs
    → keep_all clock (all_kept policy i (length before) xs) (before ++ xs) ≡ before ++ map f xs
kept_behind clock policy i f before [] each = refl
kept_behind clock policy i f before (x ∷ xs) each =
    let here = deliver_kept policy i (length before) x in
    let at = suc (length before) in
    let first : keep_all clock here (before ++ x ∷ xs) ≡ before ++ f x ∷ xs =
    kept_there clock policy i before x xs ∙ ap (λ y. before ++ y ∷ xs) (each.0 (length before)) in
    let rest = kept_behind clock policy i f (before ++ f x ∷ []) xs each.1 in
    keep_append clock here (all_kept policy i at xs) (before ++ x ∷ xs)
    ∙ (ap (keep_all clock (all_kept policy i at xs)) (first ∙ sym (append_assoc before (f x ∷ []) xs))
    ∙ (ap (λ n. keep_all clock (all_kept policy i n xs) ((before ++ f x ∷ []) ++ xs))
    (sym (length_one before (f x)))
    ∙ (rest ∙ append_assoc before (f x ∷ []) (map f xs))))

-- ---- the row

outs_if : (s : State) (p : Publish) (named : Bool) → Good s → is_name p.name ≡ named
    → named_outs s p ≡ flat_map (part_of s p) s.clients
outs_if s p true good is = rw is (all_named s p s.clients is good.rest)
outs_if s p false good is = rw is (sym (all_silent s p s.clients is good.rest))

-- a message of the broker goes to each client to whom it is due, and to nobody under a text that is no topic
-- name
pub publish_outs : (s : State) (p : Publish) → Good s
    → packet_outs s (Delivers p) ≡ outs_by s (ByPacket (packet.Publish p))
publish_outs s p good =
    ap (λ outs. outs ++ answer_outs s.policy.limits s.up s.link (Delivers p))
    (outs_if s p (is_name p.name) good refl)

clients_if : (s : State) (p : Publish) (named : Bool) → Good s → is_name p.name ≡ named
    → keep_all s.clock (named_kept s p) s.clients ≡ map (client_next s (brings p)) s.clients
clients_if s p true good is =
    let i = incoming s.policy p in
    let does =
    each_map AtRest (Does s.clock s.policy i (client_next s (brings p))) s.clients
    (λ x rest at. client_moved s p x is rest at) good.rest in
    rw is (kept_behind s.clock s.policy i (client_next s (brings p)) [] s.clients does)
clients_if s p false good is = rw is (sym (all_stay s p s.clients is good.rest))

client_keeps : (s : State) (p : Publish) (x : Client) → Keeps x (client_next s (brings p) x)
client_keeps s p x text is =
    let a = around s (brings p) in
    let due = due_to p x.phase x.filters in
    let same : (client_next s (brings p) x).filters ≡ x.filters =
    client_filters a (fixed_for s (brings p) x) x
    ∙ (notes_calm a (delivered_notes s.policy due x) (joined due x)
    (every_delivered (Calm a) s.policy due x (messages_calm a x.id))).filters in
    ap (λ held. stands held text) same ∙ is

-- no subscription ends by it
endless : (s : State) (p : Publish) → Endless s (brings p)
endless s p = (refl, client_keeps s p)

abbrev state_with : State → Publish → List Wanted → List Client → State
state_with s p wanted xs =
    record s { link = record (packet_link s (Delivers p)) { wanted = wanted }; clients = xs }

pub publish_next : (s : State) (p : Publish) → Good s
    → packet_next s (Delivers p) ≡ next_by s (ByPacket (packet.Publish p))
publish_next s p good =
    let f = client_next s (brings p) in
    ap (state_with s p s.link.wanted)
    (clients_if s p (is_name p.name) good refl ∙ sym (ap (map f) (append-nil s.clients)))
    ∙ ap (λ wanted. state_with s p wanted (clients_next s (brings p)))
    (sym (endless_wanted s (brings p) good (endless s p)))

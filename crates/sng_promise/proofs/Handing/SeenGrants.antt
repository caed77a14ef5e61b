-- Which message is due to a client, as the rows show it.
use Rattle.std.proofs.Common.{◌≡◌, ℕ, Bool, true, false, List, [], ◌∷◌, refl, ap, sym, ◌∙◌}
use Rattle.std.proofs.Common.{if◌then◌else◌}
use Rattle.std.specs.Prelude.{◌||◌, ◌&&◌, is_some, Option, Some, None}
use Rattle.sng_text.specs.Texts.{is_name}
use Rattle.sng_text.specs.Matching.{matches}
use Rattle.sng_text.specs.declared.qos.Qos.{Qos}
use Rattle.sng_text.specs.declared.qos.Qos.TheVariants.{AtMostOnce, AtLeastOnce}
use Rattle.mqtt_frames.specs.declared.packet.Publish.{Publish}
use Rattle.sng_states.specs.States.{is_due_messages}
use Rattle.sng_fan.specs.declared.held.Held.{Held}
use Rattle.sng_fan.specs.Greatest.{raised, greatest_from, greatest_qos}
use Rattle.sng_queue.specs.Messages.{Message, message}
use Rattle.sng_book.specs.declared.row.Row.{Row}
use Rattle.sng_history.specs.Arriving.{granted_at, due_to}
use Rattle.sng_history.specs.Clients.{Client}
use Rattle.sng_laws.specs.ViewsClients.{phase_of}
use Rattle.sng_laws.specs.ViewsStanding.{standing_of}
use Rattle.sng_laws.specs.ViewsHanding.{is_at_least_once, is_matched, is_matched_at_one}
use Rattle.sng_laws.specs.ViewsHanding.{qos_due, meant_for}
use Rattle.sng_promise.proofs.Handing.Takes.{awaiting_same}

-- the greatest QoS of some filters, where there are any
abbrev greatest_of : Bool → Bool → Option Qos
greatest_of any at_one = if any then Some (if at_one then AtLeastOnce else AtMostOnce) else None

abbrev is_one : Option Qos → Bool
is_one None = false
is_one (Some q) = is_at_least_once q

greatest_so : (g : Option Qos) → g ≡ greatest_of (is_some g || false) (is_one g || false)
greatest_so None = refl
greatest_so (Some AtMostOnce) = refl
greatest_so (Some AtLeastOnce) = refl

raised_any : (g : Option Qos) (q : Qos) (b any : Bool)
    → (is_some (let o : Option Qos = if b then Some (raised g q) else g in o) || any)
    ≡ (is_some g || (b || any))
raised_any None q true any = refl
raised_any (Some r) q true any = refl
raised_any g q false any = refl

raised_one : (g : Option Qos) (q : Qos) (b one : Bool)
    → (is_one (let o : Option Qos = if b then Some (raised g q) else g in o) || one)
    ≡ (is_one g || ((b && is_at_least_once q) || one))
raised_one None q true one = refl
raised_one (Some AtMostOnce) q true one = refl
raised_one (Some AtLeastOnce) q true one = refl
raised_one g q false one = refl

greatest_by : (g : Option Qos) (held : List Held) (name : List ℕ)
    → greatest_from g held name ≡ greatest_of (is_some g || is_matched held name)
    (is_one g || is_matched_at_one held name)
greatest_by g [] name = greatest_so g
greatest_by g (h ∷ held) name =
    let b = matches h.filter name in
    greatest_by (if b then Some (raised g h.qos) else g) held name
    ∙ (ap (λ any. greatest_of any (is_one (let o : Option Qos = if b then Some (raised g h.qos) else g in o)
    || is_matched_at_one held name))
    (raised_any g h.qos b (is_matched held name))
    ∙ ap (greatest_of (is_some g || (b || is_matched held name)))
    (raised_one g h.qos b (is_matched_at_one held name)))

-- it is due at the lesser of its QoS and the greatest that is granted
granted_by : (p : Publish) (held : List Held) (owes : Option ℕ) (any at_one : Bool) → p.packet_id ≡ owes
    → is_matched_at_one held p.name ≡ at_one
    → granted_at p (greatest_of any at_one)
    ≡ (if any then Some (message p.name p.payload (qos_due held owes p.name) p.retain) else None)
granted_by p held owes false at_one is one = refl
granted_by p held None true at_one is one = rw is refl
granted_by p held (Some packet_id) true true is one = rw (is, one) refl
granted_by p held (Some packet_id) true false is one = rw (is, one) refl

granted_same : (p : Publish) (held : List Held)
    → granted_at p (greatest_qos held p.name)
    ≡ (if is_matched held p.name then Some
    (message p.name p.payload (qos_due held p.packet_id p.name) p.retain) else None)
granted_same p held =
    ap (granted_at p) (greatest_by None held p.name)
    ∙ granted_by p held p.packet_id (is_matched held p.name) (is_matched_at_one held p.name) refl refl

both_if : (n d any : Bool) (m : Message)
    → (let o : Option Message = if n && d then (if any then Some m else None) else None in o)
    ≡ (if n && (d && any) then Some m else None)
both_if true true any m = refl
both_if true false any m = refl
both_if false d any m = refl

pub due_meant : (h : List Row) (x : Client) (p : Publish) → phase_of x.id h ≡ Some x.phase
    → x.filters ≡ standing_of x.id h
    → meant_for x.id p h ≡ due_to p x.phase x.filters
due_meant h x p phase filters =
    sym (ap (λ o. if is_name p.name && is_due_messages x.phase then o else None) (granted_same p x.filters)
    ∙ (both_if (is_name p.name) (is_due_messages x.phase) (is_matched x.filters p.name)
    (message p.name p.payload (qos_due x.filters p.packet_id p.name) p.retain)
    ∙ (rw (phase, awaiting_same x.phase, filters) refl)))

-- Once what may leave of what waits for a client left, nothing waits for it but behind an open exchange.
use Rattle.std.proofs.Common.{◌≡◌, ℕ, Bool, true, false, List, [], ◌∷◌, refl, ap, sym, ◌∙◌, subst}
use Rattle.std.specs.Prelude.{if◌then◌else◌, ◌&&◌, is_some, is_none, Option, Some, None}
use Rattle.sng_text.specs.declared.qos.Qos.{Qos}
use Rattle.sng_text.specs.declared.qos.Qos.TheVariants.{AtMostOnce, AtLeastOnce}
use Rattle.sng_grants.specs.declared.policy.Policy.{Policy}
use Rattle.sng_policy.specs.Grants.{receive_grant}
use Rattle.sng_policy.specs.declared.grant.NameGrant.{NameGrant}
use Rattle.sng_policy.specs.declared.grant.NameGrant.TheVariants as on_name
use Rattle.sng_policy.specs.declared.permission.Permission.TheVariants as permission
use Rattle.sng_states.specs.States.{takes_messages}
use Rattle.sng_ids.specs.Ids.{is_full_for}
use Rattle.sng_queue.specs.declared.exchange.Exchange.{Exchange}
use Rattle.sng_queue.specs.Messages.{Message}
use Rattle.sng_queue.specs.Buffers.{settle}
use Rattle.sng_book.specs.declared.decision.Decision.{Decision}
use Rattle.sng_book.specs.declared.outcome.Denial.{Denial}
use Rattle.sng_book.specs.declared.outcome.Outcome.{Outcome}
use Rattle.sng_book.specs.declared.outcome.Outcome.TheVariants.{Allowed, Denied}
use Rattle.sng_history.specs.Handing.{Known, known_as, number_handed, buffer_by, buffer_handed}
use Rattle.sng_history.specs.Clients.{Around, Client, is_turned_away, denied_hand, notes_by}
use Rattle.sng_history.specs.Verdicts.{name_outcome}
use Rattle.sng_history.specs.Outgoing.{receive, behind, offered, judged_turn, turns, is_free, handed_over}
use Rattle.sng_history.specs.Entering.{served}

-- a client that takes messages and has no exchange open has nothing waiting
abbrev pub Done : Client → Type 0
Done x = (if is_free x then x.buffer.waiting else []) ≡ []

-- the client, where these wait and no exchange is open
abbrev waits : Client → List Message → Client
waits x waiting = record x { buffer = record { waiting = waiting; exchange = None } }

done_if : (b : Bool) → (let none : List Message = if b then [] else [] in none) ≡ []
done_if true = refl
done_if false = refl

open_done : (takes : Bool) (waiting : List Message) → (if takes && false then waiting else []) ≡ []
open_done true waiting = refl
open_done false waiting = refl

-- ---- what the policy forbids is settled

abbrev pub turned : Outcome → Bool
turned Allowed = false
turned (Denied rule) = is_turned_away rule

unturned : (client name : List ℕ) (g : NameGrant)
    → turned (name_outcome permission.Subscribe (Some client) name g) ≡ false
unturned client name on_name.Allowed = refl
unturned client name on_name.Unlisted = refl
unturned client name on_name.Missing = refl

pub denied_settles : (policy : Policy) (client name : List ℕ) (rule : Denial) (x : Client)
    → receive policy client name ≡ Denied rule
    → denied_hand rule x ≡ (let y : Client = record x { buffer = settle x.buffer } in y)
denied_settles policy client name rule x is =
    let away : is_turned_away rule ≡ false =
    sym (ap turned is) ∙ unturned client name (receive_grant policy client name) in
    rw away refl

-- ---- each turn

-- what holds once the rest has its turn
abbrev Rest : Around → List ℕ → List Message → Type 0
Rest a client more = (x : Client) → Done (notes_by a (turns a.policy client x.ids more) (waits x more))

-- the client once the front left under this id
abbrev leaves : Around → Message → List Message → Client → Option Known → Client
leaves a m more x known = record x {
  number = number_handed x.number (Some m);
  buffer = buffer_handed (waits x (m ∷ more)).buffer (Some m) known x.number a.clock;
}

handed_turn : (a : Around) (client : List ℕ) (m : Message) (more : List Message) (x : Client) (q : Qos)
    (known : Known) (number : ℕ) → Rest a client more
    → Done (notes_by a (behind q (turns a.policy client x.ids more))
    (let y : Client = record x {
      number = number;
      buffer = buffer_by q (waits x (m ∷ more)).buffer known x.number a.clock;
    } in y))
handed_turn a client m more x AtMostOnce known number rest = rest (record x { number = number })
handed_turn a client m more x AtLeastOnce known number rest = open_done (takes_messages x.phase) more

offered_turn : (a : Around) (client : List ℕ) (m : Message) (more : List Message) (x : Client)
    (known : Option Known) (full : Bool) → known_as a.policy x.ids m.name ≡ known → Rest a client more
    → Done (notes_by a (offered client m (is_some known) full (turns a.policy client x.ids more))
    (waits x (m ∷ more)))
offered_turn a client m more x (Some known) full is rest =
    subst (λ k. Done (notes_by a (behind m.qos (turns a.policy client x.ids more)) (leaves a m more x k)))
    (sym is) (handed_turn a client m more x m.qos known (number_handed x.number (Some m)) rest)
offered_turn a client m more x None true is rest = rest x
offered_turn a client m more x None false is rest = open_done (takes_messages x.phase) (m ∷ more)

judged : (a : Around) (client : List ℕ) (m : Message) (more : List Message) (x : Client) (o : Outcome)
    → receive a.policy client m.name ≡ o → Rest a client more
    → Done (notes_by a (judged_turn a.policy client x.ids m o (turns a.policy client x.ids more))
    (waits x (m ∷ more)))
judged a client m more x Allowed is rest =
    offered_turn a client m more x (known_as a.policy x.ids m.name) (is_full_for m.name x.ids) refl rest
judged a client m more x (Denied rule) is rest =
    subst (λ y. Done (notes_by a (turns a.policy client x.ids more) y))
    (sym (denied_settles a.policy client m.name rule (waits x (m ∷ more)) is)) (rest x)

turns_done : (a : Around) (client : List ℕ) (waiting : List Message) → Rest a client waiting
turns_done a client [] x = done_if (is_free (waits x []))
turns_done a client (m ∷ more) x =
    judged a client m more x (receive a.policy client m.name) refl (turns_done a client more)

-- ---- all of them

pub nothing_open : (e : Option Exchange) → is_none e ≡ true → e ≡ None
nothing_open None is = refl
nothing_open (Some one) is = absurd cc

pub none_right : (a : Bool) (e : Option Exchange) → (a && is_none e) ≡ true → e ≡ None
none_right true e is = nothing_open e is
none_right false e is = absurd cc

served_by : (a : Around) (x : Client) (free : Bool) → is_free x ≡ free
    → Done (notes_by a (if free then turns a.policy x.id x.ids x.buffer.waiting else []) x)
served_by a x true is =
    let e : x.buffer.exchange ≡ None = none_right (takes_messages x.phase) x.buffer.exchange is in
    subst (λ y. Done (notes_by a (turns a.policy x.id x.ids x.buffer.waiting) y))
    (sym (ap (λ o. let y : Client =
    record x { buffer = record { waiting = x.buffer.waiting; exchange = o } } in
    y) e)) (turns_done a x.id x.buffer.waiting x)
served_by a x false is = rw is refl

pub served_done : (a : Around) (x : Client) → Done (served a x)
served_done a x = served_by a x (is_free x) refl

-- and where nothing waits nothing leaves
pub none_waits : (policy : Policy) (x : Client) → x.buffer.waiting ≡ [] → handed_over policy x ≡ []
none_waits policy x none =
    ap (λ waiting. if is_free x then turns policy x.id x.ids waiting else []) none ∙ none_if (is_free x)
  where
    none_if : (b : Bool) → (let notes : List Decision = if b then [] else [] in notes) ≡ []
    none_if true = refl
    none_if false = refl

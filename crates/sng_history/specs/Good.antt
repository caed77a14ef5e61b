-- What holds of every state between rows that the gateway comes to: its clients are apart, in their ids and
-- where they are, and each is at rest. A history may begin at any state, so no law of rows asks for it.
use Rattle.std.specs.Prelude.{ℕ, ◌≡◌, ◌≤◌, false, not, ◌&&◌, List, [], ◌∷◌, length, if◌then◌else◌, None}
use Rattle.std.specs.Str.{bytes_eq}
use Rattle.sng_grants.specs.declared.policy.Policy.{Policy}
use Rattle.sng_fan.specs.Subscriptions.{IsOneClients}
use Rattle.sng_fan.specs.declared.held.Held.{Held}
use Rattle.sng_states.specs.States.{in_dialogue, has_session, takes_messages}
use Rattle.sng_states.specs.OpenIds.{IsOpenIds}
use Rattle.sng_outbox.specs.Sending.{load}
use Rattle.sng_grants.specs.declared.limits.TheConstants.{MAX_FLIGHT}
use Rattle.sng_queue.specs.Buffers.{nothing}
use Rattle.sng_wills.specs.Wills.{is_closed}
use Rattle.sng_book.specs.declared.address.Address.{Address}
use Rattle.sng_book.specs.declared.outcome.Outcome.TheVariants.{Allowed}
use Rattle.sng_history.specs.declared.limits.TheConstants.{MAX_OPEN_SUBSCRIBES}
use Rattle.sng_history.specs.Clients.{Client, is_here, is_drained}
use Rattle.sng_history.specs.Outgoing.{is_free}
use Rattle.sng_history.specs.Links.{Wanted, open_ids, wants}
use Rattle.sng_history.specs.Standing.{is_held}
use Rattle.sng_history.specs.State.{State}
use Rattle.sng_history.specs.Verdicts.{coverage}

-- something holds of each client
abbrev pub Each : (Client → Type 0) → List Client → Type 0
Each P [] = Unit {0}
Each P (x ∷ xs) = P x × Each P xs

-- none of these clients has the id
abbrev pub Away : List ℕ → List Client → Type 0
Away id xs = Each (λ x. bytes_eq id x.id ≡ false) xs

-- no two clients have one id
abbrev pub Distinct : List Client → Type 0
Distinct [] = Unit {0}
Distinct (x ∷ xs) = Away x.id xs × Distinct xs

-- at no address are both
abbrev pub Apart : Client → Client → Type 0
Apart x y = (from : Address) → (is_here x from && is_here y from) ≡ false

-- no two clients are at one address
abbrev pub OnePlace : List Client → Type 0
OnePlace [] = Unit {0}
OnePlace (x ∷ xs) = Each (Apart x) xs × OnePlace xs

-- all that may be handed over was: what waits for a client that takes messages waits behind an open exchange;
-- one is open only with such a client, and with each that is awake; nothing is kept for one that has no
-- session; and a dialogue is open exactly in its phase
pub record AtRest (x : Client) : Type 0 where
  pub handed : (if is_free x then x.buffer.waiting else []) ≡ []
  pub quiet : (if takes_messages x.phase then None else x.buffer.exchange) ≡ None
  pub busy : is_drained x ≡ false
  pub away : (if has_session x.phase then nothing else x.buffer) ≡ nothing
  pub dialogue : in_dialogue x.phase ≡ not (is_closed x.wills.stage)

-- each of these filters is allowed to the client by the policy
abbrev pub AllCovered : Policy → List ℕ → List Held → Type 0
AllCovered policy client [] = Unit {0}
AllCovered policy client (h ∷ held) =
    (coverage policy client h.filter ≡ Allowed) × AllCovered policy client held

-- no filter is wanted twice
abbrev pub WantedOnce : List Wanted → Type 0
WantedOnce [] = Unit {0}
WantedOnce (w ∷ wanted) = (wants wanted w.filter ≡ false) × WantedOnce wanted

pub record Good (s : State) : Type 0 where
  -- no two clients have one id,
  pub apart : Distinct s.clients
  -- nor are at one address
  pub places : OnePlace s.clients
  -- nothing is left to do for any of them
  pub rest : Each AtRest s.clients
  -- no more publishes at QoS 1 wait or are in flight than any policy allows, and no more SUBSCRIBEs are open
  -- than may be
  pub few : load (record { waiting = s.link.waiting; in_flight = s.link.in_flight }) ≤ MAX_FLIGHT
  pub few_subscribes : length (open_ids s.link.wanted) ≤ MAX_OPEN_SUBSCRIBES
  -- each client's filters stand once, there are no more of them than may be, and the policy in force allows
  -- each
  pub once : Each (λ x. IsOneClients x.filters) s.clients
  pub covered : Each (λ x. AllCovered s.policy x.id x.filters) s.clients
  -- no more of its MsgIds are open than may be, each once
  pub few_open : Each (λ x. IsOpenIds x.unreleased) s.clients
  -- just the filters that stand for somebody are wanted, each once
  pub wanted_once : WantedOnce s.link.wanted
  pub wanted_held : (filter : List ℕ) → wants s.link.wanted filter ≡ is_held s.clients filter

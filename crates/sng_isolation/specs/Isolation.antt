-- What another device can do to a client: nothing, but for what is named here. One step, and two runs.
use Rattle.std.specs.Prelude.{ℕ, ◌≡◌, Bool, true, false, ◌&&◌, not, List, [], ◌∷◌}
use Rattle.std.specs.List.{find, list_any}
use Rattle.std.specs.Str.{bytes_eq}
use Rattle.std.specs.declared.option.Option.{Option}
use Rattle.sng_book.specs.declared.address.Address.{Address}
use Rattle.sng_book.specs.declared.event.Event.TheVariants as event
use Rattle.sng_book.specs.declared.out.Out.{Out}
use Rattle.sng_book.specs.declared.row.Row.{Row}
use Rattle.sng_book.specs.Traces.{is_own, trace_of}
use Rattle.sng_history.specs.Books.{IsBook, LawfulBook}
use Rattle.sng_history.specs.Causes.{Cause, cause_of, ByConnect, ByMessage, BySource, ByBroken, ByPacket, ByUp}
use Rattle.sng_history.specs.Causes.{ByDown, ByTake, ByReplace, ByTick}
use Rattle.sng_history.specs.Clients.{Client, is_here}
use Rattle.sng_history.specs.Packets.{Answer, Delivers, Acknowledges, Grants, Refuses, Confirms, Strange}
use Rattle.sng_history.specs.Packets.{answer_of}
use Rattle.sng_history.specs.State.{State, opening}
use Rattle.sng_isolation.specs.Own.{names, own_of}
use Rattle.sng_isolation.specs.View.{view}
use Rattle.sng_isolation.specs.Trace.{tells, trace}
use Rattle.sng_isolation.specs.Room.{EachHasRoom}

-- ---- one step

-- all that is kept of the client: its state, address, Duration and when it was heard, its topic ids and the
-- MsgId that was given last, its will and the dialogue about it, its filters, what waits for it and what is
-- open with it, and the MsgIds that are open
abbrev pub kept_of : List ℕ → List Client → Option Client
kept_of id xs = find (λ x. bytes_eq id x.id) xs

-- the client is there, and is at the address
abbrev pub is_at_place : List ℕ → Address → Client → Bool
is_at_place id place x = bytes_eq id x.id && is_here x place

abbrev pub is_there : List ℕ → List Client → Address → Bool
is_there id xs place = list_any (is_at_place id place) xs

-- a datagram came from where the client is not, and is no CONNECT of it
pub record IsForeign (id : List ℕ) (before : State) (from : Address) (c : Cause) : Type 0 where
  pub elsewhere : is_there id before.clients from ≡ false
  pub unnamed : names id c ≡ false

-- such a row makes no note of the client, sends nothing to where it is, and leaves all that is kept of it
pub record LeavesAlone (id : List ℕ) (before after : State) (outs : List Out) : Type 0 where
  pub unsaid : list_any (tells id) outs ≡ false
  pub unsent : (place : Address) → is_there id before.clients place ≡ true
      → trace_of id (place ∷ []) outs ≡ []
  pub kept : kept_of id after.clients ≡ kept_of id before.clients

-- after every lawful book
abbrev pub OneStep : Type 0
OneStep =
    (h : List Row) (by : ℕ) (from : Address) (bytes : List ℕ) (outs : List Out) (before after : State)
    (id : List ℕ)
    → (let row : Row = record { by = by; event = event.Datagram from bytes; outs = outs } in
    IsBook opening h before → IsBook opening (row ∷ h) after
    → IsForeign id before from (cause_of row.event) → LeavesAlone id before after outs)

-- ---- two runs

-- the broker refuses a subscription
abbrev pub is_refusal : Answer → Bool
is_refusal (Refuses packet_id) = true
is_refusal (Delivers p) = false
is_refusal (Acknowledges packet_id) = false
is_refusal (Grants packet_id) = false
is_refusal Confirms = false
is_refusal Strange = false

-- it is a CONNECT of another client from one of these addresses
abbrev pub is_stray : List ℕ → List Address → Cause → Bool
is_stray id own (ByConnect from connect) = is_own own from && not (bytes_eq connect.client_id id)
is_stray id own (ByMessage from request) = false
is_stray id own (BySource from p) = false
is_stray id own (ByBroken from rule) = false
is_stray id own (ByPacket p) = false
is_stray id own ByUp = false
is_stray id own ByDown = false
is_stray id own ByTake = false
is_stray id own (ByReplace policy) = false
is_stray id own (ByTick clock) = false

-- the broker's packet refuses a subscription
abbrev pub refuses : Cause → Bool
refuses (ByPacket p) = is_refusal (answer_of p)
refuses (ByConnect from connect) = false
refuses (ByMessage from request) = false
refuses (BySource from p) = false
refuses (ByBroken from rule) = false
refuses ByUp = false
refuses ByDown = false
refuses ByTake = false
refuses (ByReplace policy) = false
refuses (ByTick clock) = false

-- the event neither refuses a subscription nor brings another client to an address of the client
pub record IsHarmless (id : List ℕ) (own : List Address) (c : Cause) : Type 0 where
  pub granted : refuses c ≡ false
  pub straight : is_stray id own c ≡ false

abbrev pub AllHarmless : List ℕ → List Address → List Row → Type 0
AllHarmless id own [] = Unit {0}
AllHarmless id own (row ∷ earlier) = AllHarmless id own earlier × IsHarmless id own (cause_of row.event)

-- two books look the same to the client
pub record LookAlike (id : List ℕ) (h k : List Row) : Type 0 where
  -- it sees the same of their events,
  pub views : view id (own_of id h k) h ≡ view id (own_of id h k) k
  -- among which the broker refuses nothing, and nobody else comes to where it comes from,
  pub harmless : AllHarmless id (own_of id h k) h
  -- and it finds no place full that all share
  pub room : EachHasRoom id h
  pub other_room : EachHasRoom id k

-- then it gets the same
abbrev pub TwoRuns : Type 0
TwoRuns = (h k : List Row) (id : List ℕ) → LawfulBook opening h → LawfulBook opening k → LookAlike id h k
    → trace id (own_of id h k) h ≡ trace id (own_of id h k) k

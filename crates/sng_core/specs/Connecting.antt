-- What a CONNECT lets out and leads to, with no notes and no search.
use Rattle.std.specs.Prelude.{ℕ, zero, suc, ◌+◌, ◌-◌, Bool, ◌&&◌, ◌||◌, not, List, [], ◌∷◌, ◌++◌, length}
use Rattle.std.specs.Prelude.{take, drop, if◌then◌else◌, Option}
use Rattle.std.specs.Prelude.{Some, None}
use Rattle.std.specs.Str.{bytes_eq}
use Rattle.sng_states.specs.States.{has_session}
use Rattle.sng_fan.specs.declared.held.Held.{Held}
use Rattle.sng_wanted.specs.Filters.{without_wanted}
use Rattle.sng_frames.specs.declared.messages.connect.Connect.{Connect}
use Rattle.sng_outbox.specs.declared.item.Item.TheVariants as item
use Rattle.sng_book.specs.declared.address.Address.{Address}
use Rattle.sng_book.specs.declared.decision.Decision.TheVariants as note
use Rattle.sng_book.specs.declared.outcome.Denial.{Denial}
use Rattle.sng_book.specs.declared.outcome.Outcome.{Outcome}
use Rattle.sng_book.specs.declared.outcome.Outcome.TheVariants.{Allowed, Denied}
use Rattle.sng_book.specs.declared.out.Out.{Out}
use Rattle.sng_book.specs.declared.out.Out.TheVariants.{Note}
use Rattle.sng_history.specs.Answers.{code_of, dismissed, connack, welcome}
use Rattle.sng_history.specs.Clients.{Client, same_address}
use Rattle.sng_history.specs.Entering.{heard_at, entered}
use Rattle.sng_history.specs.Links.{Link}
use Rattle.sng_history.specs.Packets.{has_place}
use Rattle.sng_history.specs.Standing.{is_held, places_left}
use Rattle.sng_history.specs.State.{State}
use Rattle.sng_sessions.specs.Standing.{place_at, place_of, client_at}
use Rattle.sng_grants.specs.Limits.{Limits}
use Rattle.sng_grants.specs.declared.policy.Policy.{Policy}
use Rattle.sng_sessions.specs.Handed.{handed_by}
use Rattle.sng_sessions.specs.declared.handing.Opens.TheVariants.{Nothing}
use Rattle.sng_sessions.specs.declared.handing.Handed.{Handed}
use Rattle.sng_turns.specs.HandingOver.{gone_outs, hand_outs, hand_plan}
use Rattle.sng_core.specs.Forms.{at_place, moved_if}

-- as a CONNECT is accepted, the client is dismissed where it was before
abbrev pub moved_outs : Address → Option Client → List Out
moved_outs from None = []
moved_outs from (Some x) =
    if has_session x.phase && not (same_address x.address from) then dismissed x.address ∷ [] else []

-- and another client at the address leaves, and what waits for it is gone
abbrev pub put_out : List ℕ → Option Client → List Out
put_out id None = []
put_out id (Some y) = if bytes_eq id y.id then [] else Note (note.Left y.id) ∷ gone_outs y.id y.buffer.waiting

-- an UNSUBSCRIBE finds no place, so many times
abbrev pub dropped_notes : ℕ → List Out
dropped_notes zero = []
dropped_notes (suc n) = Note note.Outbox ∷ dropped_notes n

-- ---- what a clean session lets go of upstream

-- of a client's filters, in order, those that stand for nobody else
abbrev pub alone_in : (List ℕ → Bool) → List Held → List (List ℕ)
alone_in others [] = []
alone_in others (h ∷ held) = if others h.filter then alone_in others held else h.filter ∷ alone_in others held

-- the filter stands for another client than the one at this place
abbrev pub held_beside : List Client → ℕ → List ℕ → Bool
held_beside xs place text = is_held (take place xs) text || is_held (drop (place + 1) xs) text

abbrev pub alone_at : List Client → Option ℕ → List (List ℕ)
alone_at xs None = []
alone_at xs (Some place) = alone_in (held_beside xs place) (client_at xs place).filters

abbrev pub alone_by : Connect → List Client → List (List ℕ)
alone_by connect xs = if connect.flags.clean then alone_at xs (place_of connect.client_id xs) else []

-- the filter is wanted no more, and the broker is told so where there is place
abbrev pub let_go_one : Limits → Link → List ℕ → Link
let_go_one limits link text = record link {
  waiting = if has_place limits link then link.waiting ++ item.Unsubscribe text ∷ [] else link.waiting;
  wanted = without_wanted link.wanted text;
}

abbrev pub let_go : Limits → Link → List (List ℕ) → Link
let_go limits link [] = link
let_go limits link (text ∷ texts) = let_go limits (let_go_one limits link text) texts

-- ---- a CONNECT with its verdict, and the state after it

-- before its answer
abbrev pub accepted_outs : Address → List ℕ → List Client → ℕ → List Out
accepted_outs from id xs dropped =
    Note (note.Connect id Allowed)
    ∷ (moved_outs from (at_place xs (place_of id xs))
    ++ (put_out id (at_place xs (place_at from xs)) ++ dropped_notes dropped))

-- a clean session drops what waits for the client before the answer, and else it is handed over behind that;
-- in the dialogue about a will it still waits
abbrev pub behind_welcome : Policy → Address → Connect → Client → List Out
behind_welcome policy from connect x =
    if connect.flags.will then [] else hand_outs policy connect.client_id from [] 0 x.number x.buffer.waiting

abbrev pub own_outs : Policy → Address → Connect → Option Client → List Out
own_outs policy from connect None = welcome connect from ∷ []
own_outs policy from connect (Some x) =
    if connect.flags.clean
    then gone_outs connect.client_id x.buffer.waiting ++ welcome connect from ∷ []
    else welcome connect from ∷ behind_welcome policy from connect x

abbrev pub nothing_handed : Handed
nothing_handed = record { settled = 0; opens = Nothing }

abbrev pub own_plan : Policy → Connect → Option Client → Handed
own_plan policy connect None = nothing_handed
own_plan policy connect (Some x) =
    if connect.flags.clean
    then nothing_handed
    else (if connect.flags.will then nothing_handed
    else hand_plan policy connect.client_id [] 0 0 x.buffer.waiting)

abbrev pub refused_outs : Address → List ℕ → Denial → List Out
refused_outs from id rule = Note (note.Connect id (Denied rule)) ∷ connack from (code_of rule) ∷ []

-- how many UNSUBSCRIBEs find no place
abbrev pub dropped_by : State → Connect → ℕ
dropped_by s connect = length (alone_by connect s.clients) - places_left s.policy.limits s.link

-- the client that connects, where it is known
abbrev pub returning : State → Connect → Option Client
returning s connect = at_place s.clients (place_of connect.client_id s.clients)

abbrev pub connect_outs : State → Address → Connect → Outcome → List Out
connect_outs s from connect Allowed =
    accepted_outs from connect.client_id s.clients (dropped_by s connect)
    ++ own_outs s.policy from connect (returning s connect)
connect_outs s from connect (Denied rule) = refused_outs from connect.client_id rule

abbrev pub connect_next : State → Address → Connect → Outcome → State
connect_next s from connect Allowed = record s {
  link = let_go s.policy.limits s.link (alone_by connect s.clients);
  clients =
      moved_if (place_of connect.client_id s.clients)
      (handed_by s.clock (own_plan s.policy connect (returning s connect)))
      (entered s.clock from connect s.clients);
}
connect_next s from connect (Denied rule) =
    record s { clients = moved_if (place_at from s.clients) (heard_at s.clock) s.clients }

-- What is kept of a client's will stays what the rows show of it by notes that state none, and as the client
-- leaves or is let in.
use Rattle.std.proofs.Common.{◌≡◌, ℕ, Bool, true, false, List, [], ◌∷◌, ◌++◌, refl, ap, sym, ◌∙◌, subst}
use Rattle.std.proofs.Common.{if◌then◌else◌}
use Rattle.std.specs.Prelude.{◌&&◌, is_some, Option, Some, None}
use Rattle.std.specs.Option.{option_map}
use Rattle.sng_states.specs.declared.state.ClientState.{ClientState}
use Rattle.sng_states.specs.declared.state.ClientState.TheVariants.{Dialogue, Active, Asleep, Awake}
use Rattle.sng_states.specs.declared.state.ClientState.TheVariants.{Disconnected, Lost}
use Rattle.sng_wills.specs.Wills.{Wills}
use Rattle.sng_wills.specs.declared.will.Stage.{Stage}
use Rattle.sng_wills.specs.declared.will.Stage.TheVariants.{Closed, TopicAwaited, MessageAwaited}
use Rattle.sng_wills.specs.declared.will.StatedTopic.{StatedTopic}
use Rattle.sng_frames.specs.declared.messages.connect.Connect.{Connect}
use Rattle.sng_frames.specs.declared.messages.subscribe.TopicRequest.{TopicRequest}
use Rattle.sng_grants.specs.declared.policy.Policy.{Policy}
use Rattle.sng_book.specs.declared.address.Address.{Address}
use Rattle.sng_book.specs.declared.decision.Decision.{Decision}
use Rattle.sng_book.specs.declared.decision.Decision.TheVariants as note
use Rattle.sng_book.specs.declared.decision.Who.{Who}
use Rattle.sng_book.specs.declared.decision.Who.TheVariants as who
use Rattle.sng_book.specs.declared.outcome.Denial.{Denial}
use Rattle.sng_book.specs.declared.outcome.Outcome.{Outcome}
use Rattle.sng_book.specs.declared.outcome.Outcome.TheVariants.{Allowed, Denied}
use Rattle.sng_book.specs.declared.out.Out.{Out}
use Rattle.sng_book.specs.declared.out.Out.TheVariants.{Send, Wire, Note}
use Rattle.sng_history.specs.Causes.{Statement}
use Rattle.sng_history.specs.Causes.{ByConnect}
use Rattle.sng_history.specs.Clients.{Around, Client, cleaned, opened, id_opened_of, received}
use Rattle.sng_history.specs.Clients.{stated, stated_by, subscribed, unsubscribed, subscribe_of}
use Rattle.sng_history.specs.Clients.{statement_of, without}
use Rattle.sng_history.specs.Clients.{note_by, notes_by}
use Rattle.sng_history.specs.Notes.{notes_of, is_of, is_client}
use Rattle.sng_laws.specs.ViewsMessages.{Message as Spoken, statement_in}
use Rattle.sng_laws.specs.ViewsClients.{speaks_of}
use Rattle.sng_laws.specs.ViewsWills.{Stating, nothing_stated, breaks_off, stating_with, stating_by}
use Rattle.sng_laws.specs.ViewsWills.{stating_after}
use Rattle.sng_laws.specs.ViewsWills.{will_with, stage_shown}
use Rattle.sng_history.proofs.Own.{same_self}
use Rattle.sng_history.proofs.Hands.{Every, OfMessages}
use Rattle.sng_history.proofs.Steady.{Steady, announced_steady, handed_steady, Lasting, received_steady}
use Rattle.sng_promise.proofs.Handing.SeenHandingNotes.{Fits}
use Rattle.sng_states.specs.States.{in_dialogue}

-- what a client stated, read from its own notes
abbrev pub stating_notes : Option Spoken → List ℕ → List Decision → Stating → Stating
stating_notes m id [] now = now
stating_notes m id (said ∷ notes) now = stating_notes m id notes (stating_by m id said now)

client_same : (id : List ℕ) (whom : Who) → is_client id whom ≡ speaks_of id whom
client_same id (who.Client client) = refl
client_same id (who.Source source) = refl
client_same id (who.Address address) = refl
client_same id who.Broker = refl

stating_other : (m : Option Spoken) (id : List ℕ) (said : Decision) (now : Stating) → is_of id said ≡ false
    → stating_by m id said now ≡ now
stating_other m id (note.Connect client outcome) now other = rw other refl
stating_other m id (note.Will whom name outcome) now other = rw (sym (client_same id whom) ∙ other) refl
stating_other m id (note.Left client) now other = rw other refl
stating_other m id (note.Lost client) now other = rw other refl
stating_other m id _ now other = refl

stating_note : (m : Option Spoken) (id : List ℕ) (said : Decision) (notes : List Decision) (now : Stating)
    (b : Bool) → is_of id said ≡ b
    → stating_notes m id notes (stating_by m id said now)
    ≡ stating_notes m id ((if b then said ∷ [] else []) ++ notes) now
stating_note m id said notes now true own = refl
stating_note m id said notes now false other =
    ap (stating_notes m id notes) (stating_other m id said now other)

pub stating_by_notes : (m : Option Spoken) (id : List ℕ) (outs : List Out) (now : Stating)
    → stating_after m id outs now ≡ stating_notes m id (notes_of id outs) now
stating_by_notes m id [] now = refl
stating_by_notes m id (Note said ∷ outs) now =
    stating_by_notes m id outs (stating_by m id said now)
    ∙ stating_note m id said (notes_of id outs) now (is_of id said) refl
stating_by_notes m id (Send to datagram ∷ outs) now = stating_by_notes m id outs now
stating_by_notes m id (Wire packet ∷ outs) now = stating_by_notes m id outs now

-- ---- what holds at each place

-- the will is the last topic with the last message, which is empty where there is no topic; the dialogue
-- awaits what is shown
pub record Willed (phase : ClientState) (wills : Wills) (now : Stating) : Type 0 where
  pub will : wills.will ≡ option_map (will_with now.message) now.topic
  pub stage : wills.stage ≡ stage_shown (Some phase) now.awaited
  pub empty : (if is_some now.topic then [] else now.message) ≡ []

abbrev pub WilledAt : Client → Stating → Type 0
WilledAt x now = Willed x.phase x.wills now

pub willed_steady : (x y : Client) (now : Stating) → Steady x y → WilledAt x now → WilledAt y now
willed_steady x y now same willed =
    subst (λ phase. Willed phase y.wills now) (sym same.phase)
    (subst (λ wills. Willed x.phase wills now) (sym same.wills) willed)

-- how far the dialogue has come depends on whether one is open
abbrev stage_open : Option StatedTopic → Stage
stage_open None = TopicAwaited
stage_open (Some stated) = MessageAwaited stated

stage_by : (phase : ClientState) (awaited : Option StatedTopic)
    → stage_shown (Some phase) awaited ≡ (if in_dialogue phase then stage_open awaited else Closed)
stage_by Dialogue None = refl
stage_by Dialogue (Some stated) = refl
stage_by Active awaited = refl
stage_by Asleep awaited = refl
stage_by Awake awaited = refl
stage_by Disconnected awaited = refl
stage_by Lost awaited = refl

pub willed_lasts : (x y : Client) (now : Stating) → Lasting x y → WilledAt x now → WilledAt y now
willed_lasts x y now same willed = record {
  will = ap (λ wills. wills.will) same.wills ∙ willed.will;
  stage = ap (λ wills. wills.stage) same.wills ∙ (willed.stage
      ∙ (stage_by x.phase now.awaited
      ∙ (ap (λ b. if b then stage_open now.awaited else Closed) (sym same.talks)
      ∙ sym (stage_by y.phase now.awaited))));
  empty = willed.empty;
}

-- a note keeps it so, where the row holds the message of its cause
abbrev pub Keeps : Around → Option Spoken → List ℕ → Decision → Type 0
Keeps a m id said =
    (x : Client) (now : Stating) → WilledAt x now → WilledAt (note_by a said x) (stating_by m id said now)

pub keeps_all : (a : Around) (m : Option Spoken) (id : List ℕ) (notes : List Decision) (x : Client)
    (now : Stating)
    → Every (Keeps a m id) notes → WilledAt x now
    → WilledAt (notes_by a notes x) (stating_notes m id notes now)
keeps_all a m id [] x now every willed = willed
keeps_all a m id (said ∷ notes) x now every willed =
    keeps_all a m id notes (note_by a said x) (stating_by m id said now) every.1 (every.0 x now willed)

-- ---- notes that move nothing of it

-- of what is said here the two clients have the same
record Alike (x y : Client) : Type 0 where
  phase : y.phase ≡ x.phase
  wills : y.wills ≡ x.wills

willed_alike : (x y : Client) (now : Stating) → Alike x y → WilledAt x now → WilledAt y now
willed_alike x y now same willed =
    subst (λ phase. Willed phase y.wills now) (sym same.phase)
    (subst (λ wills. Willed x.phase wills now) (sym same.wills) willed)

subscribed_alike : (r : Option TopicRequest) (text : Option (List ℕ)) (o : Outcome) (x : Client)
    → Alike x (subscribed r text o x)
subscribed_alike None text o x = record { phase = refl; wills = refl }
subscribed_alike (Some r) None o x = record { phase = refl; wills = refl }
subscribed_alike (Some r) (Some text) Allowed x = record { phase = refl; wills = refl }
subscribed_alike (Some r) (Some text) (Denied rule) x = record { phase = refl; wills = refl }

unsubscribed_alike : (text : Option (List ℕ)) (o : Outcome) (x : Client) → Alike x (unsubscribed text o x)
unsubscribed_alike None o x = record { phase = refl; wills = refl }
unsubscribed_alike (Some text) Allowed x = record { phase = refl; wills = refl }
unsubscribed_alike (Some text) (Denied rule) x = record { phase = refl; wills = refl }

stated_denied : (statement : Option Statement) (rule : Denial) (x : Client)
    → Alike x (stated_by statement (Denied rule) x)
stated_denied None rule x = record { phase = refl; wills = refl }
stated_denied (Some statement) rule x = record { phase = refl; wills = refl }

pub keeps_subscribe : (a : Around) (m : Option Spoken) (id : List ℕ) (whom : Who) (text : Option (List ℕ))
    (o : Outcome)
    → Keeps a m id (note.Subscribe whom text o)
keeps_subscribe a m id whom text o x now willed =
    willed_alike x (subscribed (subscribe_of a.cause) text o x) now
    (subscribed_alike (subscribe_of a.cause) text o x) willed

pub keeps_unsubscribe : (a : Around) (m : Option Spoken) (id : List ℕ) (whom : Who) (text : Option (List ℕ))
    (o : Outcome)
    → Keeps a m id (note.Unsubscribe whom text o)
keeps_unsubscribe a m id whom text o x now willed =
    willed_alike x (unsubscribed text o x) now (unsubscribed_alike text o x) willed

pub keeps_end : (a : Around) (m : Option Spoken) (id client text : List ℕ) (o : Outcome)
    → Keeps a m id (note.End client text o)
keeps_end a m id client text o x now willed =
    willed_alike x (without text x) now (record { phase = refl; wills = refl }) willed

pub keeps_register : (a : Around) (m : Option Spoken) (id : List ℕ) (whom : Who) (name : Option (List ℕ))
    (o : Outcome)
    → Keeps a m id (note.Register whom name o)
keeps_register a m id whom name o x now willed =
    record { will = willed.will; stage = willed.stage; empty = willed.empty }

pub keeps_publish : (a : Around) (m : Option Spoken) (id : List ℕ) (whom : Who) (name : Option (List ℕ))
    (o : Outcome)
    → Keeps a m id (note.Publish whom name o)
keeps_publish a m id whom name o x now willed =
    let number = id_opened_of a.cause in
    willed_steady x (received number o x) now (received_steady number o x) willed

pub keeps_messages : (a : Around) (m : Option Spoken) (id client : List ℕ) → OfMessages (Keeps a m id) client
keeps_messages a m id client = record {
  announces =
      λ name x now willed. willed_steady x (note_by a (note.Announce client name) x) now
      (announced_steady a.clock name x) willed;
  hands =
      λ name o x now willed. willed_steady x (note_by a (note.Hand client name o) x) now
      (handed_steady a name o x) willed;
}

pub keeps_again : (a : Around) (m : Option Spoken) (id client name : List ℕ) (o : Outcome)
    → Keeps a m id (note.Retry client name o)
keeps_again a m id client name Allowed x now willed =
    record { will = willed.will; stage = willed.stage; empty = willed.empty }
keeps_again a m id client name (Denied rule) x now willed =
    record { will = willed.will; stage = willed.stage; empty = willed.empty }

-- a statement that is denied, and a will that finds no place
none_stated : (b : Bool) (now after : Stating) → (if b && false then after else now) ≡ now
none_stated true now after = refl
none_stated false now after = refl

pub keeps_denied : (a : Around) (m : Option Spoken) (id : List ℕ) (whom : Who) (name : Option (List ℕ))
    (rule : Denial)
    → Keeps a m id (note.Will whom name (Denied rule))
keeps_denied a m id whom name rule x now willed =
    let y = stated_by (statement_of a.cause) (Denied rule) x in
    subst (WilledAt y) (sym (none_stated (speaks_of id whom) now (stating_with (statement_in m) now)))
    (willed_alike x y now (stated_denied (statement_of a.cause) rule x) willed)

-- ---- the client leaves, or is lost

pub keeps_left : (a : Around) (m : Option Spoken) (id : List ℕ) → Keeps a m id (note.Left id)
keeps_left a m id x now willed =
    rw (same_self id) (record { will = willed.will; stage = refl; empty = willed.empty })

pub keeps_lost : (a : Around) (m : Option Spoken) (id : List ℕ) → Keeps a m id (note.Lost id)
keeps_lost a m id x now willed =
    rw (same_self id) (record { will = willed.will; stage = refl; empty = willed.empty })

-- ---- it is let in

let_in_willed : (clean will : Bool) (x : Client) (now : Stating) → WilledAt x now
    → WilledAt (opened will (cleaned clean x)) (if clean then nothing_stated else breaks_off now)
let_in_willed true true x now willed = record { will = refl; stage = refl; empty = refl }
let_in_willed true false x now willed = record { will = refl; stage = refl; empty = refl }
let_in_willed false true x now willed = record { will = willed.will; stage = refl; empty = willed.empty }
let_in_willed false false x now willed = record { will = willed.will; stage = refl; empty = willed.empty }

pub keeps_connect : (policy : Policy) (clock : ℕ) (from : Address) (connect : Connect) (m : Option Spoken)
    (id : List ℕ) (o : Outcome)
    → Fits (ByConnect from connect) m
    → Keeps (record { policy = policy; clock = clock; cause = ByConnect from connect }) m id
    (note.Connect id o)
keeps_connect policy clock from connect m id (Denied rule) fits x now willed = rw (same_self id) willed
keeps_connect policy clock from connect m id Allowed fits x now willed =
    let y : Client = record x { address = from; ids = []; duration = connect.duration; heard = clock } in
    rw (same_self id, fits.connects)
    (let_in_willed connect.flags.clean connect.flags.will y now
    (record { will = willed.will; stage = willed.stage; empty = willed.empty }))

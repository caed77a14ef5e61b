-- The turns of the worker at the connection to the broker, and what its trail says of them (MQTT 3.1.1, 3.1,
-- 3.2 and 4.8).
use Rattle.std.specs.Prelude.{ℕ, ◌+◌, ◌≡◌, ◌≤◌, ◌<◌, ◌⊎◌, Bool, true, false, not, ◌&&◌, if◌then◌else◌, nat_lt}
use Rattle.std.specs.Prelude.{Option, Some, None, List, [], ◌∷◌, ◌++◌, map}
use Rattle.std.specs.List.{flat_map}
use Rattle.mqtt_frames.specs.declared.packet.Packet.{Packet}
use Rattle.mqtt_frames.specs.Streams.{State, Reading}
use Rattle.sng_book.specs.declared.address.Address.{Address}
use Rattle.sng_book.specs.declared.event.Event.{Event}
use Rattle.sng_book.specs.declared.event.Event.TheVariants.{Up, Broker, Take, Down}
use Rattle.sng_desk.specs.Sights.{Share, Receipt}
use Rattle.sng_desk.specs.declared.trail.Trail.{Trail}
use Rattle.sng_crew.specs.declared.connection.Terms.{Terms}
use Rattle.sng_crew.specs.declared.connection.Call.{Call}
use Rattle.sng_crew.specs.declared.connection.Call.TheVariants.{Opened, NotOpened, NoMore, Quiet, Read, Lost}
use Rattle.sng_crew.specs.declared.connection.Call.TheVariants.{Wrote, NotWritten, Shut}
use Rattle.sng_crew.specs.declared.connection.Opening.{Opening}
use Rattle.sng_crew.specs.declared.connection.Opening.TheVariants.{Made, Missed, NoneLeft}
use Rattle.sng_crew.specs.declared.connection.ReadAnswer.{ReadAnswer}
use Rattle.sng_crew.specs.declared.connection.ReadAnswer.TheVariants.{Nothing, Piece, Gone}
use Rattle.sng_crew.specs.declared.connection.Close.{Close}
use Rattle.sng_crew.specs.declared.connection.Close.TheVariants.{Stays, Breaks, Closes}
use Rattle.sng_crew.specs.declared.connection.Stage.{Stage}
use Rattle.sng_crew.specs.declared.connection.Stage.TheVariants.{Away, Greeting, Open, Fallen}
use Rattle.sng_desk.specs.declared.ending.WorkerFault.{WorkerFault}
use Rattle.sng_desk.specs.declared.ending.WorkerFault.TheVariants.{Device, GaveUp, Refused, BookFull}
use Rattle.sng_desk.specs.declared.ending.WorkerEnd.{WorkerEnd}
use Rattle.sng_desk.specs.declared.ending.Next.{Next}
use Rattle.sng_desk.specs.declared.ending.Next.TheVariants.{On, Over}
use Rattle.sng_desk.specs.Acts.{Act, EndsRefused, Moves, Logs, no_trail, is_taken, events_of, receipts_of}
use Rattle.sng_desk.specs.Acts.{all_taken, sends_of}
use Rattle.sng_desk.specs.Pieces.{Handed, IsLeft}
use Rattle.sng_desk.specs.declared.piece.Piece.{Piece as TrailPiece}
use Rattle.sng_crew.specs.Wires.{wires_of}
use Rattle.sng_crew.specs.Streaming.{accepts, packets_in, broken_in, left_by}

-- what a device's answer is in the list of its calls
abbrev pub opening_call : Opening → Call
opening_call Made = Opened
opening_call Missed = NotOpened
opening_call NoneLeft = NoMore

abbrev pub got_call : ReadAnswer → Call
got_call Nothing = Quiet
got_call (Piece bytes) = Read bytes
got_call Gone = Lost

-- a turn of the worker
pub record Turn : Type 0 where
  -- what the one ask of the connection was answered
  pub asked : Call
  -- there was memory to take the piece
  pub taken : Bool
  -- the events that came of it
  pub acts : List Act
  -- what was written then, piece by piece
  pub written : List (List ℕ)
  -- whether the connection stays
  pub close : Close
  -- the event of its loss
  pub last : List Act

abbrev pub ends_of : Close → List Call
ends_of Stays = []
ends_of Breaks = NotWritten ∷ Shut ∷ []
ends_of Closes = Shut ∷ []

-- the calls of a turn, in order
abbrev pub calls_of : Turn → List Call
calls_of t = t.asked ∷ (map (λ bytes. Wrote bytes) t.written ++ ends_of t.close)

abbrev pub acts_of : Turn → List Act
acts_of t = t.acts ++ t.last

-- what may be asked: a connection where there is none and tries are left, else a piece
abbrev pub may_ask : ℕ → Stage → Call → Bool
may_ask tries (Away n) Opened = nat_lt n tries
may_ask tries (Away n) NotOpened = nat_lt n tries
may_ask tries (Away n) NoMore = nat_lt n tries
may_ask tries (Greeting n) Quiet = true
may_ask tries (Greeting n) (Read bytes) = true
may_ask tries (Greeting n) Lost = true
may_ask tries Open Quiet = true
may_ask tries Open (Read bytes) = true
may_ask tries Open Lost = true
may_ask tries _ _ = false

-- the packets that an answer completes
abbrev pub packets_of : State → Call → Bool → List Packet
packets_of rest (Read bytes) true = packets_in rest bytes
packets_of rest _ _ = []

-- the connection is lost by an answer
abbrev pub broken_of : State → Call → Bool → Bool
broken_of rest (Read bytes) true = broken_in rest bytes
broken_of rest (Read bytes) false = true
broken_of rest Lost _ = true
broken_of rest NotOpened _ = true
broken_of rest _ _ = false

-- what an answer leaves in the stream, which a new connection begins anew
abbrev pub rest_of : State → Call → Bool → State
rest_of rest Opened _ = Reading []
rest_of rest (Read bytes) true = left_by rest bytes
rest_of rest _ _ = rest

-- the packets of an open connection, and then a take, but for a lost one
abbrev pub heard : List Packet → Bool → List Event
heard packets broken = map (λ p. Broker p) packets ++ (if broken then [] else Take ∷ [])

-- the first packet of a connection is its acceptance, and no event but that it is up
abbrev pub greeted : List Packet → Bool → List Event
greeted [] broken = []
greeted (p ∷ packets) broken = if accepts p then Up ∷ heard packets broken else []

abbrev pub events_at : Stage → List Packet → Bool → List Event
events_at Open packets broken = heard packets broken
events_at (Greeting n) packets broken = greeted packets broken
events_at _ packets broken = []

abbrev pub denies : Stage → List Packet → Bool
denies (Greeting n) (p ∷ packets) = not (accepts p)
denies _ packets = false

-- the connection goes on, as far as an answer goes
abbrev pub goes_on : Stage → List Packet → Bool → Bool
goes_on stage packets broken = not broken && not (denies stage packets)

-- the connection was up when its end came
abbrev pub was_up : Stage → List Act → Bool
was_up Open acts = true
was_up (Greeting n) (act ∷ acts) = is_taken act.answer
was_up _ acts = false

abbrev pub is_closing : Close → Bool
is_closing Closes = true
is_closing _ = false

abbrev pub is_staying : Close → Bool
is_staying Stays = true
is_staying _ = false

-- the bytes that a new connection begins with
abbrev pub greeting_of : List ℕ → Call → List ℕ
greeting_of greeting Opened = greeting
greeting_of greeting _ = []

-- the bytes that a turn is to write
abbrev pub owed : List ℕ → Stage → Call → List Receipt → List ℕ
owed greeting (Away n) asked receipts = greeting_of greeting asked
owed greeting _ asked receipts = wires_of receipts

-- All is written, or its beginning up to the failure, or nothing once the connection is closed.
abbrev pub Passed : Close → List (List ℕ) → List ℕ → Type 0
Passed Stays written bytes = flat_map (λ w. w) written ≡ bytes
Passed Breaks written bytes = (left : List ℕ) × (flat_map (λ w. w) written ++ left ≡ bytes)
Passed Closes written bytes = written ≡ []

-- an accepted connection that ends is told
abbrev pub downs : Close → Bool → List Event
downs Stays up = []
downs Breaks up = if up then Down ∷ [] else []
downs Closes up = if up then Down ∷ [] else []

-- what may happen in one turn
pub record Turned (terms : Terms) (stage : Stage) (rest : State) (t : Turn) : Type 0 where
  pub asked : may_ask terms.tries stage t.asked ≡ true
  pub events : events_of t.acts ≡ events_at stage (packets_of rest t.asked t.taken)
      (broken_of rest t.asked t.taken)
  -- the worker closes it before it writes, exactly where an answer ends it or an event was refused
  pub closed : is_closing t.close ≡ not (goes_on stage (packets_of rest t.asked t.taken)
      (broken_of rest t.asked t.taken) && all_taken t.acts)
  pub passed : Passed t.close t.written (owed terms.greeting stage t.asked (receipts_of t.acts))
  pub down : events_of t.last ≡ downs t.close (was_up stage t.acts)

abbrev pub has_some : {X : Type 0} → List X → Bool
has_some [] = false
has_some (x ∷ xs) = true

abbrev pub is_opened : Call → Bool
is_opened Opened = true
is_opened _ = false

-- how a connection stands after a turn that it outlives, opened in it or greeted in it
abbrev pub stage_on : Stage → Bool → Bool → Stage
stage_on (Away n) opened greeting = if opened then Greeting n else Away n
stage_on (Greeting n) opened greeting = if greeting then Open else Greeting n
stage_on stage opened greeting = stage

-- how it stands after a turn that ends it: a try has failed, or a connection that was up is lost, and that
-- was told or refused
abbrev pub stage_off : Stage → Bool → Bool → Stage
stage_off stage true told = if told then Away 0 else Fallen
stage_off (Away n) false told = Away (n + 1)
stage_off (Greeting n) false told = Away (n + 1)
stage_off stage false told = stage

abbrev pub stage_after : Stage → Turn → Stage
stage_after stage t =
    if is_staying t.close then stage_on stage (is_opened t.asked) (has_some t.acts) else stage_off stage
    (was_up stage t.acts) (all_taken t.last)

-- the turns may come one after another, from one stage to another
abbrev pub Turns : Terms → Stage → State → List Turn → Stage → State → Type 0
Turns terms stage rest [] last left = (stage ≡ last) × (rest ≡ left)
Turns terms stage rest (t ∷ turns) last left =
    Turned terms stage rest t × Turns terms (stage_after stage t) (rest_of rest t.asked t.taken) turns last
    left

abbrev pub all_acts : List Turn → List Act
all_acts turns = flat_map acts_of turns

-- What happened since a worker began with this connection, this sink and this share.
pub record Worked {U D : Type 0} (tells : U → Bool) (did : U → List Call) (told : D → Bool) (passed : D
    → List (Address × List ℕ)) (terms : Terms) (up : U) (sink : D) (share : Share) (stage : Stage)
    (rest : State) (now : U) (emptied : D) (trail : Trail) (left : Share) : Type 0 where
  pub turns : List Turn
  pub lawful : Turns terms (Away 0) (Reading []) turns stage rest
  -- the connection's calls are those of the turns
  pub calls : Moves tells did up now (flat_map calls_of turns)
  -- what was passed to the sink is what the receipts let out for clients
  pub sends : Moves told passed sink emptied (sends_of (receipts_of (all_acts turns)))
  -- the trail and the share tell the acts of the turns
  pub logs : Logs (no_trail share.tag) share (all_acts turns) trail left

-- why a worker came to its end
abbrev pub EndsFor : ℕ → Option WorkerFault → Stage → Bool → Bool → Trail → Type 0
EndsFor tries None stage ended stops trail = (ended ≡ true) ⊎ (stops ≡ true)
EndsFor tries (Some GaveUp) stage ended stops trail = stage ≡ Away tries
EndsFor tries (Some Refused) stage ended stops trail = stage ≡ Fallen
EndsFor tries (Some BookFull) stage ended stops trail = EndsRefused trail.refused trail.receipts
EndsFor tries (Some Device) stage ended stops trail = ⊥

-- What happened since a worker began with this connection, this sink, this share and this filing: all is told
-- by its trail, which it has handed off but for the rest of it.
pub record Going {U D F : Type 0} (tells : U → Bool) (did : U → List Call) (told : D → Bool) (passed : D →
    List (Address × List ℕ)) (files : F → Bool) (took : F → List TrailPiece) (terms : Terms) (up : U) (sink :
    D) (share : Share) (filing : F) (stage : Stage) (rest : State) (now : U) (emptied : D) (left : Share)
    (filed : F) (piece : TrailPiece) : Type 0 where
  pub trail : Trail
  pub handed : Handed files took filing share.tag filed piece trail
  pub worked : Worked tells did told passed terms up sink share stage rest now emptied trail left

-- How a worker ended that began with these.
pub record HasEnded {U D F : Type 0} (tells : U → Bool) (did : U → List Call) (told : D → Bool) (passed : D →
    List (Address × List ℕ)) (has_ended : U → Bool) (files : F → Bool) (took : F → List TrailPiece)
    (handed_back : F → Bool) (terms : Terms) (up : U) (sink : D) (share : Share) (filing : F) (may_stop :
    Bool) (end : WorkerEnd U D F) : Type 0 where
  pub stage : Stage
  pub rest : State
  pub going : Going tells did told passed files took terms up sink share filing stage rest end.source
      end.sender end.share end.filing end.rest
  pub fault : EndsFor terms.tries end.fault stage (has_ended end.source) may_stop going.trail
  -- it has handed off all that it could
  pub left_over : IsLeft end.rest (handed_back end.filing)

-- STEPS OF A TURN

-- there is a connection
abbrev pub is_connected : Stage → Bool
is_connected (Greeting n) = true
is_connected Open = true
is_connected _ = false

-- a further try is allowed
abbrev pub may_try : ℕ → Stage → Bool
may_try tries (Away n) = nat_lt n tries
may_try tries _ = false

-- no more tries failed than are allowed
abbrev pub Below : ℕ → Stage → Type 0
Below tries (Away n) = n ≤ tries
Below tries (Greeting n) = n < tries
Below tries _ = Unit {0}

-- a worker that has not given up may try or is connected, unless its last word was refused
abbrev pub IsGoing : ℕ → Stage → Type 0
IsGoing tries (Away n) = n < tries
IsGoing tries _ = Unit {0}

abbrev pub next_stage : Stage → Close → Bool → Bool → Bool → Bool → Stage
next_stage stage close opened greeting up told = if is_staying close then stage_on stage opened greeting else
    stage_off stage up told

-- what a turn says of why it is the last
abbrev pub NextFor : ℕ → Next → Stage → Bool → Bool → Trail → Type 0
NextFor tries On stage ended stops trail = Unit {0}
NextFor tries (Over fault) stage ended stops trail = EndsFor tries fault stage ended stops trail

abbrev pub fails : Bool → List Call
fails true = []
fails false = NotWritten ∷ []

-- these bytes were written, or their beginning up to a failure
pub record Writes {U : Type 0} (tells : U → Bool) (did : U → List Call) (before now : U) (bytes : List ℕ)
    (fine : Bool) : Type 0 where
  pub written : List (List ℕ)
  pub left : List ℕ
  pub calls : Moves tells did before now (map (λ b. Wrote b) written ++ fails fine)
  pub whole : flat_map (λ w. w) written ++ left ≡ bytes
  pub all : fine ≡ true → left ≡ []

-- these bytes were passed, if the connection was to stay, and it was closed where it was not or a write
-- failed
pub record Settled {U : Type 0} (tells : U → Bool) (did : U → List Call) (before now : U) (bytes : List ℕ)
    (stays : Bool) (close : Close) : Type 0 where
  pub written : List (List ℕ)
  pub calls : Moves tells did before now (map (λ b. Wrote b) written ++ ends_of close)
  pub passed : Passed close written bytes
  pub closed : is_closing close ≡ not stays

-- a piece was fed to the stream, if there was memory for it
pub record Took (rest kept : State) (bytes : List ℕ) (came : List Packet) (ended : Bool) : Type 0 where
  pub taken : Bool
  pub packets : came ≡ packets_of rest (Read bytes) taken
  pub broken : ended ≡ broken_of rest (Read bytes) taken
  pub left : kept ≡ rest_of rest (Read bytes) taken

-- the connection was asked once for a piece
pub record Heard {U : Type 0} (tells : U → Bool) (did : U → List Call) (before now : U) (rest kept : State)
    (came : List Packet) (ended : Bool) : Type 0 where
  pub got : ReadAnswer
  pub taken : Bool
  pub calls : Moves tells did before now (got_call got ∷ [])
  pub packets : came ≡ packets_of rest (got_call got) taken
  pub broken : ended ≡ broken_of rest (got_call got) taken
  pub left : kept ≡ rest_of rest (got_call got) taken

-- the desk was asked about what was heard
pub record Answered (stage : Stage) (packets : List Packet) (broken : Bool) (trail : Trail) (share : Share)
    (grown : Trail) (left : Share) (is_up does_stay is_greeted : Bool) : Type 0 where
  pub acts : List Act
  pub events : events_of acts ≡ events_at stage packets broken
  pub logs : Logs trail share acts grown left
  pub up : is_up ≡ was_up stage acts
  pub stays : does_stay ≡ (goes_on stage packets broken && all_taken acts)
  pub greeted : (opened : Bool) → stage_on stage opened is_greeted ≡ stage_on stage opened (has_some acts)

-- one turn was done
pub record Taken {U D : Type 0} (tells : U → Bool) (did : U → List Call) (told : D → Bool) (passed : D
    → List (Address × List ℕ)) (terms : Terms) (up : U) (sink : D) (stage : Stage) (rest : State)
    (trail : Trail) (share : Share) (now : U) (emptied : D) (reached : Stage) (kept : State) (grown : Trail)
    (after : Share) : Type 0 where
  pub turn : Turn
  pub lawful : Turned terms stage rest turn
  pub next : reached ≡ stage_after stage turn
  pub left : kept ≡ rest_of rest turn.asked turn.taken
  pub calls : Moves tells did up now (calls_of turn)
  pub sends : Moves told passed sink emptied (sends_of (receipts_of (acts_of turn)))
  pub logs : Logs trail share (acts_of turn) grown after

-- one turn was done, or none
abbrev pub Went : {U D : Type 0} → (U → Bool) → (U → List Call) → (D → Bool) → (D → List (Address × List ℕ))
    → Terms → U → D → Stage → State → Trail → Share → U → D → Stage → State → Trail → Share → Type 0
Went tells did told passed terms up sink stage rest trail share now emptied reached kept grown after =
    Taken tells did told passed terms up sink stage rest trail share now emptied reached kept grown after
    ⊎ ((now ≡ up) × (emptied ≡ sink) × (reached ≡ stage) × (kept ≡ rest) × (grown ≡ trail) × (after ≡ share))

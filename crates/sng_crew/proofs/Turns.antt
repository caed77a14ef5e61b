-- A turn, put together, and turns one after another.
use Rattle.std.proofs.Common.{ℕ, Bool, true, false, not, ◌&&◌, ◌≡◌, List, [], ◌∷◌, ◌++◌, map, drop, length}
use Rattle.std.proofs.Common.{refl, sym, ◌∙◌, ap, arith}
use Rattle.std.specs.List.{flat_map}
use Rattle.std.proofs.lemmas.List.{map-append}
use Rattle.std.proofs.lemmas.Bool.{false≢true}
use Rattle.mqtt_frames.specs.declared.packet.Packet.{Packet}
use Rattle.sng_book.specs.declared.event.Event.{Event}
use Rattle.sng_book.specs.declared.event.Event.TheVariants.{Up}
use Rattle.sng_desk.specs.Sights.{Share}
use Rattle.sng_desk.specs.Sights.{Receipt}
use Rattle.sng_desk.specs.declared.trail.Trail.{Trail}
use Rattle.sng_crew.specs.declared.connection.Call.{Call}
use Rattle.sng_crew.specs.declared.connection.Call.TheVariants.{NoMore, Wrote}
use Rattle.sng_crew.specs.declared.connection.Opening.{Opening}
use Rattle.sng_crew.specs.declared.connection.Opening.TheVariants.{Made, Missed, NoneLeft}
use Rattle.sng_crew.specs.declared.connection.ReadAnswer.{ReadAnswer}
use Rattle.sng_crew.specs.declared.connection.ReadAnswer.TheVariants.{Nothing, Piece, Gone}
use Rattle.sng_crew.specs.declared.connection.Close.{Close}
use Rattle.sng_crew.specs.declared.connection.Close.TheVariants.{Stays, Breaks, Closes}
use Rattle.sng_crew.specs.declared.connection.Stage.{Stage}
use Rattle.sng_crew.specs.declared.connection.Stage.TheVariants.{Away, Greeting, Open, Fallen}
use Rattle.mqtt_frames.specs.Streams.{State, Reading}
use Rattle.sng_book.specs.declared.address.Address.{Address}
use Rattle.sng_crew.specs.declared.connection.Terms.{Terms}
use Rattle.sng_crew.specs.Streaming.{accepts}
use Rattle.sng_desk.specs.Acts
use Rattle.sng_desk.specs.Acts.{Moves, Act, Acted, Logs, events_of, receipts_of, receipt_in, sends_of}
use Rattle.sng_desk.specs.Acts.{sends_in, all_taken, is_taken}
use Rattle.sng_crew.specs.Wires.{wires_of}
use Rattle.sng_crew.specs.Turning.{Turn, Turned, Turns, Worked, Taken, Answered, Heard, Settled, all_acts}
use Rattle.sng_crew.specs.Turning.{acts_of, calls_of, opening_call, got_call, may_ask, may_try, is_connected}
use Rattle.sng_crew.specs.Turning.{is_opened, owed, greeting_of, was_up, has_some, downs, events_at, goes_on}
use Rattle.sng_crew.specs.Turning.{heard, rest_of, broken_of, packets_of, stage_on, stage_after, next_stage}
use Rattle.sng_crew.specs.Turning.{ends_of}
use Rattle.sng_desk.proofs.Going.{still, moves_on, flat_push, sends_grow, drop_grown}
use Rattle.sng_desk.proofs.Acting.{logs_on, logs_none, taken_on}

turns_on : (terms : Terms) (stage : Stage) (rest : State) (turns : List Turn) (mid : Stage) (left : State)
    (t : Turn) → Turns terms stage rest turns mid left → Turned terms mid left t
    → Turns terms stage rest (turns ++ t ∷ []) (stage_after mid t) (rest_of left t.asked t.taken)
turns_on terms stage rest [] mid left t e lawful = rw (e.0, e.1) (lawful, (refl, refl))
turns_on terms stage rest (u ∷ turns) mid left t e lawful = (
  e.0,
  turns_on terms (stage_after stage u)
      (rest_of rest u.asked u.taken) turns mid left t e.1 lawful,
)

-- a further turn
pub worked_on : {U D : Type 0} (tells : U → Bool) (did : U → List Call) (told : D → Bool) (passed : D
    → List (Address × List ℕ)) (terms : Terms) (up : U) (sink : D) (share : Share)
    (stage : Stage) (rest : State) (now : U) (emptied : D) (trail : Trail) (left : Share)
    (reached : Stage) (kept : State) (later : U) (fuller : D) (grown : Trail) (after : Share)
    → Worked tells did told passed terms up sink share stage rest now emptied trail left
    → Taken tells did told passed terms now emptied stage rest trail left later fuller reached kept grown
    after
    → Worked tells did told passed terms up sink share reached kept later fuller grown after
worked_on tells did told passed terms up sink share stage rest now emptied trail left reached kept later
    fuller grown after w t = record {
      turns = w.turns ++ t.turn ∷ [];
      lawful = rw (t.next, t.left) (turns_on terms (Away 0) (Reading []) w.turns stage rest t.turn w.lawful
          t.lawful);
      calls = rw (flat_push calls_of w.turns t.turn) (moves_on tells did up now later
          (flat_map calls_of w.turns)
          (calls_of t.turn) w.calls t.calls);
      sends = rw (flat_push acts_of w.turns t.turn, sends_grow (all_acts w.turns) (acts_of t.turn))
          (moves_on told passed sink emptied fuller (sends_of (receipts_of (all_acts w.turns)))
          (sends_of (receipts_of (acts_of t.turn))) w.sends t.sends);
      logs = rw (flat_push acts_of w.turns t.turn) (logs_on (Acts.no_trail share.tag) share (all_acts w.turns)
          (acts_of t.turn) trail left grown after w.logs t.logs);
    }

pub worked_none : {U D : Type 0} (tells : U → Bool) (did : U → List Call) (told : D → Bool) (passed : D
    → List (Address × List ℕ)) (terms : Terms) (up : U) (sink : D) (share : Share)
    → Worked tells did told passed terms up sink share (Away 0) (Reading []) up sink (Acts.no_trail share.tag)
    share
worked_none tells did told passed terms up sink share = record {
  turns = [];
  lawful = (refl, refl);
  calls = still tells did up;
  sends = still told passed sink;
  logs = logs_none (Acts.no_trail share.tag) share;
}

-- A CONNECTION THAT IS HEARD

may_hear : (tries : ℕ) (stage : Stage) (got : ReadAnswer) → is_connected stage ≡ true
    → may_ask tries stage (got_call got) ≡ true
may_hear tries (Away n) got e = absurd (false≢true e)
may_hear tries (Greeting n) Nothing e = refl
may_hear tries (Greeting n) (Piece bytes) e = refl
may_hear tries (Greeting n) Gone e = refl
may_hear tries Open Nothing e = refl
may_hear tries Open (Piece bytes) e = refl
may_hear tries Open Gone e = refl
may_hear tries Fallen got e = absurd (false≢true e)

owed_wires : (greeting : List ℕ) (stage : Stage) (asked : Call) (receipts : List Receipt) → is_connected stage
    ≡ true → owed greeting stage asked receipts ≡ wires_of receipts
owed_wires greeting (Away n) asked receipts e = absurd (false≢true e)
owed_wires greeting (Greeting n) asked receipts e = refl
owed_wires greeting Open asked receipts e = refl
owed_wires greeting Fallen asked receipts e = absurd (false≢true e)

not_opened : (got : ReadAnswer) → is_opened (got_call got) ≡ false
not_opened Nothing = refl
not_opened (Piece bytes) = refl
not_opened Gone = refl

pub listened : {U D : Type 0} (tells : U → Bool) (did : U → List Call) (told : D → Bool) (passed : D
    → List (Address × List ℕ)) (terms : Terms) (stage : Stage) (rest kept : State)
    (up heard_up now : U) (sink emptied : D) (trail : Trail) (share : Share) (mid : Trail) (half : Share)
    (grown : Trail) (left : Share)
    (packets : List Packet) (broken is_up does_stay is_greeted was_told : Bool) (from : ℕ) (close : Close)
    (reached : Stage)
    → is_connected stage ≡ true → from ≡ length trail.receipts
    → Heard tells did up heard_up rest kept packets broken
    → Answered stage packets broken trail share mid half is_up does_stay is_greeted
    → Settled tells did heard_up now (wires_of (drop from mid.receipts)) does_stay close
    → Acted (downs close is_up) mid half grown left was_told
    → Moves told passed sink emptied (sends_of (drop from grown.receipts))
    → reached ≡ next_stage stage close false is_greeted is_up was_told
    → Taken tells did told passed terms up sink stage rest trail share now emptied reached kept grown left
listened tells did told passed terms stage rest kept up heard_up now sink emptied trail share mid half grown
    left packets broken is_up does_stay is_greeted was_told from close reached connected start h a s d m r =
    let logs = logs_on trail share a.acts d.acts mid half grown left a.logs d.logs in
    let wires : drop from mid.receipts ≡ receipts_of a.acts = drop_grown trail.receipts (receipts_of a.acts)
    mid.receipts from a.logs.receipts start in
    let sends : drop from grown.receipts ≡ receipts_of (a.acts
    ++ d.acts) = drop_grown trail.receipts (receipts_of (a.acts
    ++ d.acts)) grown.receipts from logs.receipts start in
    record {
      turn = record {
        asked = got_call h.got;
        taken = h.taken;
        acts = a.acts;
        written = s.written;
        close =
            close;
        last = d.acts;
      };
      lawful = record {
        asked = may_hear terms.tries stage h.got connected;
        events = rw (h.packets, h.broken) at a.events;
        closed = s.closed ∙ ap (λ b. not b) (rw (h.packets, h.broken) at a.stays);
        passed = rw (owed_wires terms.greeting stage (got_call h.got) (receipts_of a.acts) connected)
            (rw wires at s.passed);
        down = rw a.up at d.events;
      };
      next = r ∙ (rw (not_opened h.got, a.up, d.fine, a.greeted false) refl);
      left = h.left;
      calls = moves_on tells did up heard_up now (got_call h.got ∷ []) (map (λ b. Wrote b) s.written
          ++ ends_of close) h.calls s.calls;
      sends = rw sends at m;
      logs = logs;
    }

-- A TRY

may_open : (tries : ℕ) (stage : Stage) (opening : Opening) → may_try tries stage ≡ true
    → may_ask tries stage (opening_call opening) ≡ true
may_open tries (Away n) Made e = e
may_open tries (Away n) Missed e = e
may_open tries (Away n) NoneLeft e = e
may_open tries (Greeting n) opening e = absurd (false≢true e)
may_open tries Open opening e = absurd (false≢true e)
may_open tries Fallen opening e = absurd (false≢true e)

no_events : (tries : ℕ) (stage : Stage) (packets : List Packet) (broken : Bool) → may_try tries stage ≡ true
    → [] ≡ events_at stage packets broken
no_events tries (Away n) packets broken e = refl
no_events tries (Greeting n) packets broken e = absurd (false≢true e)
no_events tries Open packets broken e = absurd (false≢true e)
no_events tries Fallen packets broken e = absurd (false≢true e)

on_unless : (b : Bool) → ((not b && true) && true) ≡ not b
on_unless true = refl
on_unless false = refl

goes_unless : (tries : ℕ) (stage : Stage) (packets : List Packet) (broken : Bool) → may_try tries stage ≡ true
    → (goes_on stage packets broken && true) ≡ not broken
goes_unless tries (Away n) packets broken e = on_unless broken
goes_unless tries (Greeting n) packets broken e = absurd (false≢true e)
goes_unless tries Open packets broken e = absurd (false≢true e)
goes_unless tries Fallen packets broken e = absurd (false≢true e)

owed_greeting : (tries : ℕ) (greeting : List ℕ) (stage : Stage) (asked : Call) (receipts : List Receipt)
    → may_try tries stage ≡ true → owed greeting stage asked receipts ≡ greeting_of greeting asked
owed_greeting tries greeting (Away n) asked receipts e = refl
owed_greeting tries greeting (Greeting n) asked receipts e = absurd (false≢true e)
owed_greeting tries greeting Open asked receipts e = absurd (false≢true e)
owed_greeting tries greeting Fallen asked receipts e = absurd (false≢true e)

not_up : (tries : ℕ) (stage : Stage) → may_try tries stage ≡ true → was_up stage [] ≡ false
not_up tries (Away n) e = refl
not_up tries (Greeting n) e = absurd (false≢true e)
not_up tries Open e = absurd (false≢true e)
not_up tries Fallen e = absurd (false≢true e)

no_downs : (close : Close) → [] ≡ downs close false
no_downs Stays = refl
no_downs Breaks = refl
no_downs Closes = refl

pub opened : {U D : Type 0} (tells : U → Bool) (did : U → List Call) (told : D → Bool) (passed : D
    → List (Address × List ℕ)) (terms : Terms) (stage : Stage) (rest kept : State)
    (up mid now : U) (sink : D) (trail : Trail) (share : Share) (opening : Opening) (bytes : List ℕ)
    (stays : Bool) (close : Close) (reached : Stage)
    → may_try terms.tries stage ≡ true → Moves tells did up mid (opening_call opening ∷ [])
    → Settled tells did mid now bytes stays close
    → bytes ≡ greeting_of terms.greeting (opening_call opening) → stays
    ≡ not (broken_of rest (opening_call opening) true) → kept ≡ rest_of rest (opening_call opening) true
    → reached ≡ next_stage stage close (is_opened (opening_call opening)) false false true
    → Taken tells did told passed terms up sink stage rest trail share now sink reached kept trail share
opened tells did told passed terms stage rest kept up mid now sink trail share opening bytes stays close
    reached away m s b t k r =
    let asked = opening_call opening in
    record {
      turn = record { asked = asked; taken = true; acts = []; written = s.written; close = close; last = [] };
      lawful = record {
        asked = may_open terms.tries stage opening away;
        events = no_events terms.tries stage (packets_of rest asked true) (broken_of rest asked true) away;
        closed = s.closed ∙ ap (λ x. not x) (t ∙ sym (goes_unless terms.tries stage
            (packets_of rest asked true) (broken_of rest asked true) away));
        passed = rw (owed_greeting terms.tries terms.greeting stage asked [] away) (rw b at s.passed);
        down = rw (not_up terms.tries stage away) (no_downs close);
      };
      next = r ∙ (rw (not_up terms.tries stage away) refl);
      left = k;
      calls = moves_on tells did up mid now (asked ∷ []) (map (λ b. Wrote b) s.written
          ++ ends_of close) m s.calls;
      sends = still told passed sink;
      logs = logs_none trail share;
    }

away_stays : (tries : ℕ) (stage : Stage) → may_try tries stage ≡ true → stage ≡ stage_on stage false false
away_stays tries (Away n) e = refl
away_stays tries (Greeting n) e = absurd (false≢true e)
away_stays tries Open e = absurd (false≢true e)
away_stays tries Fallen e = absurd (false≢true e)

pub none_left : {U D : Type 0} (tells : U → Bool) (did : U → List Call) (told : D → Bool) (passed : D
    → List (Address × List ℕ)) (terms : Terms) (stage : Stage) (rest : State)
    (up now : U) (sink : D) (trail : Trail) (share : Share) → may_try terms.tries stage ≡ true
    → Moves tells did up now (NoMore ∷ [])
    → Taken tells did told passed terms up sink stage rest trail share now sink stage rest trail share
none_left tells did told passed terms stage rest up now sink trail share away m =
    opened tells did told passed terms stage rest rest up now now sink trail share NoneLeft [] true Stays
    stage away m
    (record { written = []; calls = still tells did now; passed = refl; closed = refl }) refl refl refl
    (away_stays terms.tries stage away)

-- THE FIRST PACKET

and_true : (b : Bool) → b ≡ (b && true)
and_true true = refl
and_true false = refl

first_up : (n : ℕ) (acts more : List Act) → events_of acts ≡ Up ∷ []
    → (all_taken acts ≡ was_up (Greeting n) (acts ++ more)) × (true ≡ has_some (acts ++ more))
first_up n [] more e = absurd (omega (arith, ap (λ (l : List Event). length l) e))
first_up n (act ∷ []) more e = (sym (and_true (is_taken act.answer)), refl)
first_up n (act ∷ other ∷ acts) more e = absurd (omega (arith, ap (λ (l : List Event). length l) e))

greets : (broken up fine : Bool) → (not broken && (up && fine)) ≡ ((not broken && true) && (up && fine))
greets true up fine = refl
greets false up fine = refl

pub greeted_on : (n : ℕ) (packets : List Packet) (p : Packet) (others : List Packet) (broken : Bool)
    (a : Trail) (s : Share) (b : Trail) (t : Share) (c : Trail) (u : Share) (up fine does_stay : Bool)
    → packets ≡ p ∷ others → accepts p ≡ true → Acted (Up ∷ []) a s b t up
    → Acted (heard others broken) b t c u fine → does_stay ≡ (not broken && (up && fine))
    → Answered (Greeting n) packets broken a s c u up does_stay true
greeted_on n packets p others broken a s b t c u up fine does_stay is accepted m k stays =
    let first = first_up n m.acts k.acts m.events in
    rw is (record {
      acts = m.acts ++ k.acts;
      events = rw (accepted, map-append (λ (act : Act). act.event) m.acts k.acts, m.events, k.events) refl;
      logs = logs_on a s m.acts k.acts b t c u m.logs k.logs;
      up = m.fine ∙ first.0;
      stays = stays ∙ greets broken up fine ∙ (rw (accepted, taken_on m.acts k.acts, m.fine, k.fine) refl);
      greeted = λ opened. ap (λ x. stage_on (Greeting n) opened x) first.1;
    })

pub greeted_none : (n : ℕ) (packets : List Packet) (broken : Bool) (trail : Trail) (share : Share) → packets
    ≡ [] → Answered (Greeting n) packets broken trail share trail share false (not broken) false
greeted_none n packets broken trail share none = rw none (record {
  acts = [];
  events = refl;
  logs = logs_none trail share;
  up = refl;
  stays = sym (on_unless broken);
  greeted = λ opened. refl;
})

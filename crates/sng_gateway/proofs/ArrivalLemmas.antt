-- What a piece of the broker's bytes brings, by what the stream answers to it and to an empty piece behind
-- it.
use Rattle.std.proofs.Common.{◌≡◌, ℕ, List, [], ◌∷◌, ◌++◌, Option, Some, None, Result, Ok, Err, refl, sym, ap}
use Rattle.std.proofs.Common.{subst, ◌∙◌, append-nil}
use Rattle.mqtt_frames.specs.declared.fault.StreamFault.{StreamFault}
use Rattle.mqtt_frames.specs.declared.packet.Packet.{Packet}
use Rattle.mqtt_frames.specs.Streams.{End, Rest, Fault, State, Reading, Kept, Failed, read_all, settled_of}
use Rattle.mqtt_frames.specs.Streams.{settled, fed, TakesMemory}
use Rattle.mqtt_frames.proofs.StreamLemmas.{WaitsAt, read_all-waits, read_all-waiting}
use Rattle.sng_gateway.specs.Deeds.{arrival, arrival_by}

-- the fault of an answer
abbrev pub fault_in : Result (List Packet) StreamFault → Option StreamFault
fault_in (Ok packets) = None
fault_in (Err fault) = Some fault

-- what is held behind an answer waits for more
abbrev WaitsIn : State → Type 0
WaitsIn (Reading held) = WaitsAt (Rest held)
WaitsIn (Kept fault) = Unit {0}
WaitsIn Failed = Unit {0}

settled-waits : (packets : List Packet) (end : End) → WaitsAt end → WaitsIn (settled_of packets end).1
settled-waits packets (Rest held) waits = waits
settled-waits [] (Fault fault) waits = tt
settled-waits (packet ∷ packets) (Fault fault) waits = tt

fed-waits : (before : State) (piece : List ℕ) → WaitsIn (fed before piece).1
fed-waits (Reading held) piece =
    settled-waits (read_all (held ++ piece)).packets (read_all (held ++ piece)).ending
    (read_all-waits (held ++ piece))
fed-waits (Kept fault) piece = tt
fed-waits Failed piece = tt

-- no packets are answered by a stream that has failed
settled-reads : (packets given : List Packet) (end : End) (s : State) → settled_of packets end ≡ (Ok given, s)
    → s ≡ Failed → ⊥
settled-reads packets given (Rest held) s is failed =
    let e = ap (λ (p : Result (List Packet) StreamFault × State). p.1) is in cc
settled-reads [] given (Fault fault) s is failed =
    let e = ap (λ (p : Result (List Packet) StreamFault × State). p.0) is in cc
settled-reads (packet ∷ packets) given (Fault fault) s is failed =
    let e = ap (λ (p : Result (List Packet) StreamFault × State). p.1) is in cc

fed-reads : (before : State) (piece : List ℕ) (given : List Packet) (s : State)
    → fed before piece ≡ (Ok given, s) → s ≡ Failed → ⊥
fed-reads (Reading held) piece given s is failed =
    settled-reads (read_all (held ++ piece)).packets given (read_all (held ++ piece)).ending s is failed
fed-reads (Kept fault) piece given s is failed =
    let e = ap (λ (p : Result (List Packet) StreamFault × State). p.0) is in cc
fed-reads Failed piece given s is failed =
    let e = ap (λ (p : Result (List Packet) StreamFault × State). p.0) is in cc

-- an empty piece changes nothing of bytes that wait
fed-nothing : (held : List ℕ) → WaitsIn (Reading held) → fed (Reading held) [] ≡ (Ok [], Reading held)
fed-nothing held waits = ap settled (ap read_all (append-nil held) ∙ read_all-waiting held waits)

-- what an empty piece tells behind packets
asked : (packets : List Packet) (s later : State) (answer : Result (List Packet) StreamFault) → WaitsIn s
    → (s ≡ Failed → ⊥)
    → fed s [] ≡ (answer, later)
    → arrival_by (Ok packets) s ≡ record { packets = packets; fault = fault_in answer; stream = later }
asked packets (Reading held) later answer waits reads is =
    let e : (Ok [], Reading held) ≡ (answer, later) = sym (fed-nothing held waits) ∙ is in
    ap (λ (p : Result (List Packet) StreamFault × State).
    record { packets = packets; fault = fault_in p.0; stream = p.1 }) e
asked packets (Kept fault) later answer waits reads is =
    ap (λ (p : Result (List Packet) StreamFault × State).
    record { packets = packets; fault = fault_in p.0; stream = p.1 }) is
asked packets Failed later answer waits reads is = absurd (reads refl)

-- packets came, and an empty piece behind them is answered so
pub arrival-asked : (before s later : State) (piece : List ℕ) (packets : List Packet)
    (answer : Result (List Packet) StreamFault)
    → fed before piece ≡ (Ok packets, s) → fed s [] ≡ (answer, later)
    → arrival before piece ≡ record { packets = packets; fault = fault_in answer; stream = later }
arrival-asked before s later piece packets answer is next =
    let first : arrival before piece ≡ arrival_by (Ok packets) s =
    ap (λ (p : Result (List Packet) StreamFault × State). arrival_by p.0 p.1) is in
    let state : (fed before piece).1 ≡ s = ap (λ (p : Result (List Packet) StreamFault × State). p.1) is in
    first ∙ asked packets s later answer (subst WaitsIn state (fed-waits before piece))
    (fed-reads before piece packets s is) next

-- a fault came at once
pub arrival-fault : (before later : State) (piece : List ℕ) (fault : StreamFault)
    → fed before piece ≡ (Err fault, later)
    → arrival before piece ≡ record { packets = []; fault = Some fault; stream = later }
arrival-fault before later piece fault is =
    ap (λ (p : Result (List Packet) StreamFault × State). arrival_by p.0 p.1) is

-- an empty piece takes no memory
pub nothing-taken : (s : State) → TakesMemory s [] → ⊥
nothing-taken (Reading held) takes = takes
nothing-taken (Kept fault) takes = takes
nothing-taken Failed takes = takes

-- A piece, and then an empty one.
use Rattle.std.proofs.Common.{◌≡◌, ◌≢◌, List, [], ◌∷◌, length, refl, arith}
use Rattle.std.specs.Prelude.{Err}
use Rattle.mqtt_frames.specs.declared.fault.StreamFault.{StreamFault}
use Rattle.mqtt_frames.specs.declared.fault.StreamFault.TheVariants.{Malformed, NotSupported, TooLong, Failed}
use Rattle.mqtt_frames.specs.declared.fault.StreamFault.TheVariants.{Memory}
use Rattle.mqtt_frames.specs.Streams
use Rattle.mqtt_frames.specs.Streams.{State, Reading, Kept, fed, TakesMemory}

takes_none : (s : State) → TakesMemory s [] → ⊥
takes_none (Reading held) t = t
takes_none (Kept fault) t = t
takes_none Streams.Failed t = t

-- an empty piece takes no memory, so its fault is one of the stream
pub is_told : (s : State) (fault : StreamFault) (now : State) → (fault ≢ Memory → fed s [] ≡ (Err fault, now))
    → (fault ≡ Memory → TakesMemory s []) → fed s [] ≡ (Err fault, now)
is_told s Malformed now e m = e (λ is. absurd cc)
is_told s NotSupported now e m = e (λ is. absurd cc)
is_told s TooLong now e m = e (λ is. absurd cc)
is_told s Failed now e m = e (λ is. absurd cc)
is_told s Memory now e m = absurd (takes_none s (m refl))

pub empty_list : {X : Type 0} (xs : List X) → length xs ≡ 0 → xs ≡ []
empty_list [] e = refl
empty_list (x ∷ xs) e = absurd (omega (arith, e))

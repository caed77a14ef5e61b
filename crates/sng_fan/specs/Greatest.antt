-- The QoS at which a message is for a client: the greatest among its filters that match the name.
use Rattle.std.specs.Prelude.{ℕ, List, [], ◌∷◌, if◌then◌else◌, Some, None}
use Rattle.std.specs.declared.option.Option.{Option}
use Rattle.sng_text.specs.Matching.{matches}
use Rattle.sng_text.specs.declared.qos.Qos.{Qos}
use Rattle.sng_text.specs.declared.qos.Qos.TheVariants.{AtMostOnce, AtLeastOnce}
use Rattle.sng_fan.specs.declared.held.Held.{Held}

-- the greater of two levels of QoS, 0 and 1
abbrev pub greater : Qos → Qos → Qos
greater AtMostOnce b = b
greater AtLeastOnce b = AtLeastOnce

-- the greatest QoS so far, with one more
abbrev pub raised : Option Qos → Qos → Qos
raised None qos = qos
raised (Some greatest) qos = greater greatest qos

-- the greatest QoS among this one and the filters that match the name
abbrev pub greatest_from : Option Qos → List Held → List ℕ → Option Qos
greatest_from greatest [] name = greatest
greatest_from greatest (h ∷ held) name =
    greatest_from (if matches h.filter name then Some (raised greatest h.qos) else greatest) held name

-- the greatest QoS among the filters that match the name, where one matches
abbrev pub greatest_qos : List Held → List ℕ → Option Qos
greatest_qos held name = greatest_from None held name

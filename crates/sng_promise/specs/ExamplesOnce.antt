-- Worked rows of publishes at QoS 2: histories that are lawful, and rows that are not.
use Rattle.std.specs.Prelude.{ℕ, List, [], ◌∷◌}
use Rattle.sng_book.specs.declared.outcome.Outcome.TheVariants.{Allowed}
use Rattle.sng_book.specs.declared.event.Event.TheVariants.{Datagram, Take}
use Rattle.sng_book.specs.declared.out.Out.{Out}
use Rattle.sng_book.specs.declared.out.Out.TheVariants.{Send}
use Rattle.sng_book.specs.declared.row.Row.{Row}
use Rattle.sng_history.specs.State.{State, opening, state_of}
use Rattle.sng_promise.specs.Examples.{row}
use Rattle.sng_promise.specs.ExamplesClients.{home, asks_t1, forward_t1, packet_t1, told_t1}

-- PUBLISH at QoS 2 under the id 1 with the payload `31` and the MsgId 5, the same with DUP, and PUBREC
abbrev pub publish_5 : List ℕ
publish_5 = 0x08 ∷ 0x0c ∷ 0x40 ∷ 0x00 ∷ 0x01 ∷ 0x00 ∷ 0x05 ∷ 0x31 ∷ []

abbrev pub repeat_5 : List ℕ
repeat_5 = 0x08 ∷ 0x0c ∷ 0xc0 ∷ 0x00 ∷ 0x01 ∷ 0x00 ∷ 0x05 ∷ 0x31 ∷ []

abbrev pub received_5 : Out
received_5 = Send home (0x04 ∷ 0x0f ∷ 0x00 ∷ 0x05 ∷ [])

-- PUBREL of the MsgId 5, and PUBCOMP
abbrev pub release_5 : List ℕ
release_5 = 0x04 ∷ 0x10 ∷ 0x00 ∷ 0x05 ∷ []

abbrev pub completed_5 : Out
completed_5 = Send home (0x04 ∷ 0x0e ∷ 0x00 ∷ 0x05 ∷ [])

-- the publish is allowed, and its MsgId is open
abbrev pub opened_5 : List Row
opened_5 = row (Datagram home publish_5) (asks_t1 Allowed ∷ received_5 ∷ []) ∷ told_t1

-- it is sent again and released twice, and leaves once
abbrev pub counted_5 : List Row
counted_5 =
    row Take (forward_t1 Allowed ∷ packet_t1 1 ∷ []) ∷ row (Datagram home release_5) (completed_5 ∷ [])
    ∷ row (Datagram home release_5) (completed_5 ∷ [])
    ∷ row (Datagram home repeat_5) (received_5 ∷ []) ∷ opened_5

-- once its MsgId is released, the next with it is judged again
abbrev pub anew_5 : List Row
anew_5 =
    row (Datagram home publish_5) (asks_t1 Allowed ∷ received_5 ∷ [])
    ∷ row (Datagram home release_5) (completed_5 ∷ []) ∷ opened_5

-- the state in which the MsgId is open
abbrev pub has_open : State
has_open = state_of opening opened_5

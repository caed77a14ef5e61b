-- What the rows show of a client's publishes at QoS 2: which of its MsgIds are open (MQTT-SN 1.2, 5.4.14 and
-- 6.6; MQTT 3.1.1, 4.3.3).
use Rattle.std.specs.Prelude.{ℕ, ◌==◌, Bool, ◌&&◌, not, List, [], ◌∷◌, filter, if◌then◌else◌}
use Rattle.std.specs.Prelude.{Option, Some, None}
use Rattle.std.specs.List.{list_any}
use Rattle.std.specs.Str.{bytes_eq}
use Rattle.sng_book.specs.Denials.{is_allowed}
use Rattle.sng_book.specs.declared.decision.Decision.{Decision}
use Rattle.sng_book.specs.declared.decision.Decision.TheVariants as note
use Rattle.sng_book.specs.declared.out.Out.{Out}
use Rattle.sng_book.specs.declared.out.Out.TheVariants.{Send, Wire, Note}
use Rattle.sng_book.specs.declared.row.Row.{Row}
use Rattle.sng_laws.specs.ViewsMessages.{Message, Releases, message_at, number_opening}
use Rattle.sng_laws.specs.ViewsClients.{speaks_of, is_active, phase_of, address_of, own_message}
use Rattle.sng_laws.specs.ViewsStanding.{is_clean}

-- the MsgId is one of these
abbrev pub is_open : ℕ → List ℕ → Bool
is_open number numbers = list_any (λ one. one == number) numbers

-- a PUBREL of the client closes its MsgId, where the client is active
abbrev pub released_by : Bool → Option Message → List ℕ → List ℕ
released_by active (Some (Releases number)) before =
    if active then filter (λ one. not (one == number)) before else before
released_by active other before = before

-- what is allowed opens its MsgId
abbrev pub opened_by : Option ℕ → List ℕ → List ℕ
opened_by None before = before
opened_by (Some number) before = number ∷ before

-- a PUBLISH at QoS 2 that is allowed opens its MsgId, and a clean CONNECT that is accepted closes all
abbrev pub open_by : Option Message → List ℕ → Decision → List ℕ → List ℕ
open_by m id (note.Connect client outcome) before =
    if bytes_eq id client && (is_allowed outcome && is_clean m) then [] else before
open_by m id (note.Publish whom name outcome) before =
    if speaks_of id whom && is_allowed outcome then opened_by (number_opening m) before else before
open_by m id other before = before

abbrev pub open_after : Option Message → List ℕ → List Out → List ℕ → List ℕ
open_after m id [] before = before
open_after m id (Note said ∷ outs) before = open_after m id outs (open_by m id said before)
open_after m id (Send to datagram ∷ outs) before = open_after m id outs before
open_after m id (Wire packet ∷ outs) before = open_after m id outs before

-- the MsgIds of the client's publishes at QoS 2 that were allowed, the newest first, each as often as it was
-- since it was closed last
abbrev pub open_of : List ℕ → List Row → List ℕ
open_of id [] = []
open_of id (row ∷ earlier) =
    open_after (message_at row.event) id row.outs
    (released_by (is_active (phase_of id earlier))
    (own_message (phase_of id earlier) (address_of id earlier) row.event)
    (open_of id earlier))

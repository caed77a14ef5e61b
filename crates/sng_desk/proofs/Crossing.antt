-- A desk may go to another thread, so one under its lock may be shared among threads. Whoever shares it
-- answers the check by `search (desk_send, crosses, sendable) depth 20`, with `crosses` of
-- `Rattle.std.proofs.Crossing` and `sendable` of `denote.Param.Send`.
use denote.Param.Send.{IsSend, struct_send, recorded_send, view_send, sendable}
use denote.Struct.Declared.{shape}
use Rattle.std.specs.contracts.sync.Arc as Arc
use Rattle.std.specs.contracts.alloc.Global as Heap
use Rattle.std.specs.contracts.impls.GlobalAllocator.TheImpl.{ghosts}
use Rattle.std.proofs.Crossing.{Arc-send}
use Rattle.sng_book.proofs.book.Book.TheSendSync as book
use Rattle.sng_tally.proofs.tally.Tally.TheSendSync as tally
use Rattle.sng_core.proofs.copying.CoreCopy.TheSendSync as copy
use Rattle.sng_core.proofs.Crossing.{core_send}
use Rattle.sng_core.specs.contracts.copying.CoreCopy as CoreCopy
use Rattle.sng_desk.specs.contracts.desk.Desk as Desk
use Rattle.sng_desk.specs.contracts.desk.Desk.TheInside as inside

opened_send : IsSend (Arc.the_row CoreCopy.the_row Heap.the_row ghosts)
opened_send = Arc-send CoreCopy.the_row copy.the_send copy.the_sync

fields_send : IsSend (inside.the_field).row
fields_send = struct_send (shape inside.the_type) (
  search sendable,
  (
    search sendable,
    (opened_send, (core_send, (book.the_send, (tally.the_send, (search sendable, (search sendable, tt)))))),
  ),
)

inside_send : IsSend inside.the_row
inside_send = recorded_send (inside.the_field).row (inside.the_type).D (inside.the_type).to
    (inside.the_type).to_one fields_send

pub desk_send : IsSend Desk.the_row
desk_send = view_send inside.the_row _ _ _ _ inside_send

use denote.Param.Send.{sendable}
use Rattle.std.proofs.Crossing.{crosses}
use Rattle.sng_desk.proofs.Crossing.{desk_send}
use Rattle.sng_serve.proofs.serving.fn.run.scope.Goals as goal

pub start_printer-requires-sync-M : goal.start_printer-requires-sync-M
start_printer-requires-sync-M g c κs within = search (desk_send, crosses, sendable) depth 20

pub start_reception-reception-requires-sync-M : goal.start_reception-reception-requires-sync-M
start_reception-reception-requires-sync-M g c κs within = search (desk_send, crosses, sendable) depth 20

pub start_workers-requires-sync-M : goal.start_workers-requires-sync-M
start_workers-requires-sync-M g c κs within = search (desk_send, crosses, sendable) depth 20

pub start_workers-requires-send-D : goal.start_workers-requires-send-D
start_workers-requires-send-D g c = search (c.requires.1.1.1.1.1.1.1.1.1.0, sendable)

pub start_workers-requires-send-U : goal.start_workers-requires-send-U
start_workers-requires-send-U g c = search (c.requires.1.1.1.1.1.1.1.1.1.1, sendable)

pub start_workers-requires-send-B : goal.start_workers-requires-send-B
start_workers-requires-send-B g c = search (c.requires.1.1.1.1.1.1.1.1.1.2, sendable)

pub start_workers-requires-send-P : goal.start_workers-requires-send-P
start_workers-requires-send-P g c = search (c.requires.1.1.1.1.1.1.1.1.1.3, sendable)

pub start_workers-requires-send-F : goal.start_workers-requires-send-F
start_workers-requires-send-F g c = search (c.requires.1.1.1.1.1.1.1.1.1.4, sendable)

pub start_workers-requires-send-V : goal.start_workers-requires-send-V
start_workers-requires-send-V g c = search (c.requires.1.1.1.1.1.1.1.1.1.5, sendable)

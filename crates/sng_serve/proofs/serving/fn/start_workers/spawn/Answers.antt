use denote.Param.Send.{sendable}
use Rattle.sng_serve.proofs.serving.fn.start_workers.spawn.Goals as goal

pub run_workers-left-requires-send-D : goal.run_workers-left-requires-send-D
run_workers-left-requires-send-D g c = search (c.requires.1.1.1.1.1.1.1.1.1.0, sendable)

pub run_workers-left-requires-send-U : goal.run_workers-left-requires-send-U
run_workers-left-requires-send-U g c = search (c.requires.1.1.1.1.1.1.1.1.1.1, sendable)

pub run_workers-left-requires-send-B : goal.run_workers-left-requires-send-B
run_workers-left-requires-send-B g c = search (c.requires.1.1.1.1.1.1.1.1.1.2, sendable)

pub run_workers-left-requires-send-P : goal.run_workers-left-requires-send-P
run_workers-left-requires-send-P g c = search (c.requires.1.1.1.1.1.1.1.1.1.3, sendable)

pub run_workers-left-requires-send-F : goal.run_workers-left-requires-send-F
run_workers-left-requires-send-F g c = search (c.requires.1.1.1.1.1.1.1.1.1.4, sendable)

pub run_workers-left-requires-send-V : goal.run_workers-left-requires-send-V
run_workers-left-requires-send-V g c = search (c.requires.1.1.1.1.1.1.1.1.1.5, sendable)

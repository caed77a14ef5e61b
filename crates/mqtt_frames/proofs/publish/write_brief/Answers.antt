-- One byte says how many there are.
use Rattle.std.proofs.Common.{rules, append_assoc}
use Rattle.mqtt_frames.proofs.Groups.{remaining_length-last}
use Rattle.mqtt_frames.proofs.publish.write_brief.Goals as goal

pub returns : goal.returns
returns c = rw (remaining_length-last c.args.rest c.requires) (search (rules, append_assoc))

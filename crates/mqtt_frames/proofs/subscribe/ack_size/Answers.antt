use Rattle.std.proofs.Common.{◌≡◌, List, [], ◌∷◌, length, refl}
use Rattle.mqtt_frames.specs.declared.packet.SubscribeCode.{SubscribeCode}
use Rattle.mqtt_frames.specs.Packets.{codes_bytes}
use Rattle.mqtt_frames.proofs.subscribe.ack_size.Goals as goal

length-codes_bytes : (codes : List SubscribeCode) → length (codes_bytes codes) ≡ length codes
length-codes_bytes [] = refl
length-codes_bytes (code ∷ codes) = rw (length-codes_bytes codes) refl

pub returns : goal.returns
returns c = rw (length-codes_bytes c.args.codes.now) c.within.ensures

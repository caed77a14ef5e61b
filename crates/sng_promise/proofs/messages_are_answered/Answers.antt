use Rattle.sng_promise.proofs.Answers.LawDatagrams.{ping_law, leave_law, sleep_law, unsupported_law}
use Rattle.sng_promise.proofs.Answers.LawDatagrams.{broken_law, release_law}
use Rattle.sng_promise.proofs.Answers.LawDatagrams.{packet_law}
use Rattle.sng_promise.proofs.messages_are_answered.Goals as goal

pub returns : goal.returns
returns c = record {
  pings = ping_law;
  releases = release_law;
  leaves = leave_law;
  sleeps = sleep_law;
  unsupported = unsupported_law;
  broken = broken_law;
  packets = packet_law;
}

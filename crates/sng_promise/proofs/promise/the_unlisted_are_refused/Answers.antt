use Rattle.sng_promise.proofs.InForce.PromiseRefuses.{unnoted_refused}
use Rattle.sng_promise.proofs.promise.the_unlisted_are_refused.Goals as goal

pub returns : goal.returns
returns c = record {
  leaves = λ id name stands. absurd (let e = stands in cc);
  publishes = λ id name stands. absurd (let e = stands in cc);
  sources = λ ip name stands. absurd (let e = stands in cc);
  wills = λ id topic stands. absurd (let e = stands in cc);
  hands = λ id name stands. absurd (let e = stands in cc);
  subscribes = λ id text stands. absurd (let e = stands.listed in cc);
  connects = λ id stands. absurd (let e = stands in cc);
  rule = λ id name stands. absurd (let e = stands in cc);
  room = λ id name stands. absurd (let e = stands in cc);
  unnoted = unnoted_refused;
}

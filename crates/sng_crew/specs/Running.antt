-- How each of four kinds of workers ended that ran on a thread of its own.
use Rattle.std.specs.Prelude.{ℕ, Bool, false, List, [], vec_len}
use Rattle.sng_book.specs.declared.address.Address.{Address}
use Rattle.sng_grants.specs.declared.policy.Policy.{Policy}
use Rattle.sng_desk.specs.Sights.{Share, Volume}
use Rattle.sng_desk.specs.Pieces.{CutOut, Waits}
use Rattle.sng_desk.specs.Sources.{datagram_events, tick_events, replace_events}
use Rattle.sng_desk.specs.Working.{HasEnded}
use Rattle.sng_desk.specs.declared.ending.WorkerEnd.{WorkerEnd}
use Rattle.sng_desk.specs.declared.ending.TickerEnd.{TickerEnd}
use Rattle.sng_desk.specs.declared.post.ClockPost.{ClockPost}
use Rattle.sng_desk.specs.declared.piece.Piece.{Piece}
use Rattle.sng_desk.specs.declared.ending.NoSender.{NoSender}

abbrev pub UdpEnded : {D F : Type 0} → (D → Bool) → (D → List (Address × List ℕ)) → (D → ℕ) → (D → Bool)
    → (D → List (Address × List ℕ)) → (F → Bool) → (F → List Piece) → (F → Bool) → D → Share → F → Bool
    → WorkerEnd D NoSender F → Type 0
UdpEnded tells gave failed has_ended passed files took handed_back source share filing may_stop end =
    HasEnded tells (λ d. datagram_events (gave d)) failed has_ended tells passed files took handed_back source
    source share filing may_stop end.source end.source end.share end.filing end.rest end.fault

abbrev pub TickerEnded : {B D F V : Type 0} → (B → Bool) → (B → List ℕ) → (B → ℕ) → (B → Bool) → (D → Bool)
    → (D → List (Address × List ℕ)) → (F → Bool) → (F → List Piece) → (F → Bool) → (V → Bool)
    → (V → List Volume) → (V → Bool) → ClockPost B D F V → Bool → TickerEnd B D F V → Type 0
TickerEnded tells gave failed has_ended told passed files took handed_back volume_files volume_took
    volume_back post may_stop end = HasEnded tells (λ b. tick_events (gave b)) failed has_ended told passed
    files took handed_back post.source post.sender post.share post.filing may_stop end.worker.source
    end.worker.sender end.worker.share end.worker.filing end.worker.rest end.worker.fault
    × CutOut volume_files volume_took post.first post.rows post.volume_filing end.volume_filing
    end.volumes.items
    × Waits (vec_len end.volumes) (volume_back end.volume_filing)

abbrev pub LoaderEnded : {P F : Type 0} → (P → Bool) → (P → List Policy) → (P → ℕ) → (P → Bool) → (F → Bool)
    → (F → List Piece) → (F → Bool) → P → Share → F → Bool → WorkerEnd P NoSender F → Type 0
LoaderEnded tells gave failed has_ended files took handed_back source share filing may_stop end =
    HasEnded tells (λ p. replace_events (gave p)) failed has_ended (λ p. false) (λ p. []) files took
    handed_back source source share filing may_stop end.source end.source end.share end.filing end.rest
    end.fault

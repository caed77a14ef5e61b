use Rattle.std.proofs.Common.{◌≡◌, ℕ, ◌+◌, ◌-◌, List, ◌++◌, length, length-append, drop, ap, sym, subst}
use Rattle.std.proofs.Common.{◌∙◌, arith}
use Rattle.mqtt_frames.specs.declared.header.Header.TheVariants as headers
use Rattle.mqtt_frames.specs.Reading.{body_of}
use Rattle.mqtt_frames.specs.Headers.{header_at}
use Rattle.mqtt_frames.specs.Streams.{read_all, behind_body, Lacks}
use Rattle.mqtt_frames.proofs.PieceLemmas.{is_part, whole-read, lacks_part}
use Rattle.mqtt_frames.proofs.pending.complete.Goals as goal

pub overflow_sub-missing : goal.overflow_sub-missing
overflow_sub-missing c =
    let part =
    is_part c.args.held.now.items c.args.piece.now c.args.kind c.args.start c.args.rest c.requires.waiting
    (sym c.requires.header) c.if-total-gt-MAX_PACKET.false in
    omega (arith, part, c.len-before.ensures)

pub returns-else-is_err-clause-ok : goal.returns-else-is_err-clause-ok
returns-else-is_err-clause-ok c =
    let held = c.args.held.now.items in
    let front = c.split_at.result.0.now in
    let behind = c.split_at.result.1.now in
    let part =
    is_part held c.args.piece.now c.args.kind c.args.start c.args.rest c.requires.waiting
    (sym c.requires.header) c.if-total-gt-MAX_PACKET.false in
    let parts : c.args.piece.now ≡ front ++ behind = c.split_at.ensures.by_index.0 in
    let told : header_at (held ++ (front ++ behind)) ≡ headers.Known c.args.kind c.args.start c.args.rest =
    ap (λ (b : List ℕ). header_at (held ++ b)) (sym parts) ∙ sym c.requires.header in
    let size : length (held ++ front) ≡ c.args.start + c.args.rest =
    omega (arith, length-append held front, c.split_at.ensures.front_len, c.len-before.ensures, part) in
    let read : read_all (held ++ c.args.piece.now)
    ≡ behind_body (body_of c.args.kind (drop c.args.start c.extend_from_slice-2.new.self.items)) behind =
    ap (λ (b : List ℕ). read_all (held ++ b)) parts
    ∙ whole-read held front behind c.args.kind c.args.start c.args.rest told c.if-total-gt-MAX_PACKET.false
    size
    ∙ ap (λ (b : List ℕ). behind_body (body_of c.args.kind (drop c.args.start b)) behind)
    (sym c.in_ok-extend_from_slice-2.ensures.items) in
    rw read c.completed-taken.ensures.ok

pub returns-then-piece-missing-clause-missing : goal.returns-then-piece-missing-clause-missing
returns-then-piece-missing-clause-missing c =
    let held = c.args.held.now.items in
    let piece = c.args.piece.now in
    let missing = c.args.start + c.args.rest - c.len-before.result - length piece in
    let bytes : c.extend_from_slice.new.self.items ≡ held ++ piece =
    c.in_ok-extend_from_slice.ensures.items
    ∙ ap (λ (b : List ℕ). b ++ piece) c.in_ok-reserve_exact.ensures.items in
    let sum : length (held ++ piece) + missing ≡ c.args.start + c.args.rest =
    omega (arith, length-append held piece, c.len-before.ensures, c.if-piece-missing.true) in
    subst (λ (b : List ℕ). Lacks b missing) (sym bytes)
    (lacks_part (held ++ piece) c.args.kind c.args.start c.args.rest missing (sym c.requires.header)
    c.if-total-gt-MAX_PACKET.false sum)

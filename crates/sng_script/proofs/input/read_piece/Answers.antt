use Rattle.std.proofs.Common.{◌≡◌, ◌<◌, ◌+◌, length, take, drop, take-append-drop, append-nil, sym, Err}
use Rattle.std.proofs.Common.{rules}
use Rattle.sng_script.specs.declared.limits.TheConstants.{MAX_LINE}
use Rattle.sng_script.specs.declared.obstacle.Obstacle.TheVariants.{Unreadable}
use Rattle.sng_script.specs.Input.{IsWithinLine}
use Rattle.sng_script.proofs.InputLemmas.{is_front}
use Rattle.sng_script.proofs.input.read_piece.Goals as goal

pub returns-in_err-keep-in-Some-clause-long : goal.returns-in_err-keep-in-Some-clause-long
returns-in_err-keep-in-Some-clause-long g c =
    let shown = c.in-Ok.bytes.now in
    let at = c.in-Some.at in
    let front = take at shown in
    λ is.
    let kept : c.keep.result ≡ Err Unreadable = search rules in
    let within : IsWithinLine front = c.in-Some.ensures.before in
    let long : MAX_LINE < length c.args.text.now.items + length front =
    search (rules, c.keep.ensures.long kept) in (
      front,
      within,
      long,
      is_front _ shown front (drop at shown) c.in-Ok.ensures.front
          (sym (take-append-drop at shown)),
    )

pub returns-in_err-keep-in-None-clause-long : goal.returns-in_err-keep-in-None-clause-long
returns-in_err-keep-in-None-clause-long g c =
    let shown = c.in-Ok.bytes.now in
    λ is.
    let kept : c.keep-in-None.result ≡ Err Unreadable = search rules in
    let within : IsWithinLine shown = c.in-None.ensures.none in
    let long : MAX_LINE < length c.args.text.now.items + length shown =
    search (rules, c.keep-in-None.ensures.long kept) in
    (shown, within, long, is_front _ shown shown _ c.in-Ok.ensures.front (sym (append-nil shown)))

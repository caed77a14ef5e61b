use Rattle.std.proofs.Common.{◌≡◌, ◌==◌, ◌-◌, suc, length, Ok, false, [], ◌∷◌, ◌++◌, ap, sym, ◌∙◌, rules}
use Rattle.std.proofs.Common.{arith}
use Rattle.std.proofs.lemmas.Grind.{common_steps}
use Rattle.toml_parser.specs.Lexical.{skip_blank}
use Rattle.sng_config.specs.declared.place.Place.{Place}
use Rattle.sng_config.specs.Places.{line_at, place_at}
use Rattle.sng_config.specs.Values.{SetAt, set_view}
use Rattle.sng_config.specs.Reading.{entry, entries}
use Rattle.sng_config.proofs.TurnLemmas.{entries-end, entries-more, outcome-utf8}
use Rattle.sng_config.proofs.RefusalLemmas.{refuses}
use Rattle.sng_config.proofs.reading.read.Goals as goal

pub entries-init : goal.entries-init
entries-init c = (
  search rules,
  c.skip_mark-rest.ensures.within,
  suc (length c.args.text.now),
  omega (arith, c.skip_mark-rest.ensures.within),
  rw (c.skip_mark-rest.ensures.rest, c.new-settings.ensures),
)

pub returns-then-is_empty-clause-settled : goal.returns-then-is_empty-clause-settled
returns-then-is_empty-clause-settled c =
    let l = c.entries in
    let text = c.args.text.now in
    let start = skip_blank l.rest.now in
    let m = l.invariant.2 in
    let room = l.invariant.3 in
    let start_is = c.skip_blank-start.ensures.rest in
    let none : length start ≡ 0 = grind (arith, common_steps) in
    outcome-utf8 text c.utf8.text ∙ l.invariant.4
    ∙ entries-end m text l.settings l.rest.now (omega arith) none

pub entries-preserved : goal.entries-preserved
entries-preserved c =
    let l = c.entries in
    let text = c.args.text.now in
    let start = skip_blank l.rest.now in
    let m = l.invariant.2 in
    let room = l.invariant.3 in
    let start_is = c.skip_blank-start.ensures.rest in
    let other : (length start == 0) ≡ false = grind (arith, common_steps) in
    let set = set_view c.in-Ok.setting in
    let read : entry l.settings start ≡ Ok (set, c.in-Ok.after.now) = rw start_is at c.in-Ok.ensures.entry in
    let shorter = c.in-Ok.ensures.shorter in
    let before = c.skip_blank-start.ensures.within in
    let more = entries-more m text l.settings l.rest.now set c.in-Ok.after.now (omega arith) other read in
    let one : SetAt = record { line = line_at text (length text - length start); set = set } in
    let place : c.of-line.result ≡ place_at text (length text - length start) =
    rw (c.as_bytes.ensures.value, start_is) at c.of-line.ensures in
    let pushed : l.settings ++ one ∷ [] ≡ c.push.new.self =
    ap (λ (p : Place). l.settings ++ record { line = p.line; set = set } ∷ []) (sym place)
    ∙ sym c.in_ok-push-in-Ok.ensures.pushed in (
      search rules,
      omega (arith, l.invariant.1),
      m - 1,
      omega arith,
      l.invariant.4 ∙ more ∙ ap (λ settings. entries (m - 1) text settings c.in-Ok.after.now) pushed,
    )

pub returns-in-Err-clause-refused : goal.returns-in-Err-clause-refused
returns-in-Err-clause-refused c =
    let l = c.entries in
    let text = c.args.text.now in
    let m = l.invariant.2 in
    let room = l.invariant.3 in
    let start = c.skip_blank-start.result.now in
    let start_is = c.skip_blank-start.ensures.rest in
    let other : (length start == 0) ≡ false = grind (arith, common_steps) in
    refuses m text l.settings l.rest.now start c.in-Err.stop c.fault_at.result
    (outcome-utf8 text c.utf8.text ∙ l.invariant.4)
    (omega arith) start_is other c.in-Err.ensures.entry c.fault_at.ensures

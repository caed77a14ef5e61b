use Rattle.std.proofs.Common.{sym, ap}
use Rattle.std.specs.Option.{option_map}
use Rattle.sng_history.specs.Links.{Wanted}
use Rattle.sng_wanted.proofs.PlaceLemmas.{at_found, none_found, only_there}
use Rattle.sng_wanted.proofs.wanted.Wanted.opened_by.Goals as goal

pub returns-in_err-place : goal.returns-in_err-place
returns-in_err-place c =
    let none = none_found c.self.inside.filters.entries c.args.packet_id c.in_err-place.ensures in
    rw (c.from_residual.ensures, ← c.self.view_is)
    (sym (ap (λ o. option_map (λ (w : Wanted). w.filter) o) none))

pub returns : goal.returns
returns c =
    let es = c.self.inside.filters.entries in
    let only =
    only_there c.self.inside.filters.entries c.self.inside.places.items c.in_ok-place.place
    c.args.packet_id c.self.invariant.0 c.in_ok-place.ensures in
    rw (← c.self.view_is)
    (sym (at_found c.self.inside.filters.entries c.in_ok-place.place c.args.packet_id _
    (sym c.in_ok-filter.ensures.entry) c.in_ok-place.ensures only))

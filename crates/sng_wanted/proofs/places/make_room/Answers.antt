use Rattle.std.proofs.Common.{ap, ◌∙◌, arith, length}
use Rattle.sng_wanted.specs.Shown.{shown}
use Rattle.sng_wanted.proofs.ShownLemmas.{absent_swept, many_swept, shown_swept}
use Rattle.sng_wanted.specs.Shown.{is_standing}
use Rattle.sng_wanted.proofs.OwedLemmas.{none_owed_first}
use Rattle.sng_wanted.proofs.PlaceLemmas.{once, once_kept}
use Rattle.sng_wanted.proofs.places.make_room.Goals as goal

pub find_places-requires-clause-once : goal.find_places-requires-clause-once
find_places-requires-clause-once c =
    rw c.sweep.ensures.entries (once_kept is_standing c.args.filters.now.entries
    (once c.args.filters.now.entries c.args.places.now.items c.requires.indexed))

pub returns-clause-absent : goal.returns-clause-absent
returns-clause-absent c =
    rw c.sweep.ensures.entries (absent_swept c.args.filters.now.entries c.args.filter.now c.requires.new)

pub returns-clause-place : goal.returns-clause-place
returns-clause-place c =
    let many = ap length c.sweep.ensures.entries ∙ many_swept c.args.filters.now.entries in
    let few = c.requires.few in
    omega (arith, many, few)

pub returns-clause-owed : goal.returns-clause-owed
returns-clause-owed c = none_owed_first c.sweep.new.filters.entries

pub returns-clause-shown : goal.returns-clause-shown
returns-clause-shown c = ap shown c.sweep.ensures.entries ∙ shown_swept c.args.filters.now.entries

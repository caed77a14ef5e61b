use Rattle.std.proofs.Common.{◌≡◌, [], ◌∷◌, ap, ◌∙◌, length, arith}
use Rattle.std.specs.Str.{bytes_eq}
use Rattle.std.proofs.lemmas.List.{length-append}
use Rattle.indexmap.specs.IndexMap.{insert_entry}
use Rattle.sng_wanted.proofs.ShownLemmas.{insert_last, on_ok}
use Rattle.sng_wanted.proofs.places.keep_standing.Goals as goal

pub returns-in-Stands-clause-entries : goal.returns-in-Stands-clause-entries
returns-in-Stands-clause-entries c =
    let put : c.insert.new.self.entries
    ≡ insert_entry bytes_eq c.args.to.now.entries c.args.text c.args.want =
    on_ok c.insert.result _ (c.insert.ensures.succeeds c.requires.room) c.insert.ensures.entries in
    rw c.in-Stands.is (rw c.in-Stands.is at
    (put ∙ insert_last c.args.to.now.entries c.args.text c.args.want c.requires.absent))

pub returns-in-Stands-clause-room : goal.returns-in-Stands-clause-room
returns-in-Stands-clause-room c =
    let put : c.insert.new.self.entries
    ≡ insert_entry bytes_eq c.args.to.now.entries c.args.text c.args.want =
    on_ok c.insert.result _ (c.insert.ensures.succeeds c.requires.room) c.insert.ensures.entries in
    let many =
    ap length (put ∙ insert_last c.args.to.now.entries c.args.text c.args.want c.requires.absent) in
    let longer = length-append c.args.to.now.entries ((c.args.text, c.args.want) ∷ []) in
    let spare = c.insert.ensures.spare in
    omega (arith, many, longer, spare)

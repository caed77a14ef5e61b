-- The request of the client at the place, or of nobody.
use Rattle.std.proofs.Common.{None, Some, sym, ◌∙◌}
use Rattle.sng_core.proofs.Found.{here_within}
use Rattle.sng_core.proofs.RequestRows.{request_row}
use Rattle.sng_core.proofs.parts.Parts.request.Goals as goal

pub returns-in_default-clause-outs : goal.returns-in_default-clause-outs
returns-in_default-clause-outs c =
    c.in_ok-outs.ensures
    ∙ (request_row c.args.self.now c.args.from c.args.request None c.requires.good
    (sym c.in_default.is ∙ c.requires.at)).outs

pub returns-in_default-clause-next : goal.returns-in_default-clause-next
returns-in_default-clause-next c =
    (request_row c.args.self.now c.args.from c.args.request None c.requires.good
    (sym c.in_default.is ∙ c.requires.at)).next

pub returns-clause-outs : goal.returns-clause-outs
returns-clause-outs c =
    c.in_ok-outs-2.ensures.outs
    ∙ (request_row c.args.self.now c.args.from c.args.request (Some c.in-Some.place) c.requires.good
    (sym c.in-Some.is ∙ c.requires.at)).outs

pub returns-clause-next : goal.returns-clause-next
returns-clause-next c =
    c.in_ok-outs-2.ensures.next
    ∙ (request_row c.args.self.now c.args.from c.args.request (Some c.in-Some.place) c.requires.good
    (sym c.in-Some.is ∙ c.requires.at)).next

pub requested-requires : goal.requested-requires
requested-requires c =
    here_within c.args.from c.args.self.now.clients (Some c.in-Some.place) (sym c.in-Some.is ∙ c.requires.at)

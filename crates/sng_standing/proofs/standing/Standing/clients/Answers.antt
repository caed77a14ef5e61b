use Rattle.std.proofs.Common.{subst}
use Rattle.std.proofs.lemmas.Result.{IfOk-weaker}
use Rattle.std.specs.Prelude.{IfOk}
use Rattle.sng_standing.specs.Holders.{AreClients}
use Rattle.sng_standing.proofs.Clients.{are_clients, are_clients_none}
use Rattle.sng_standing.proofs.standing.Standing.clients.Goals as goal

pub returns-in-None : goal.returns-in-None
returns-in-None c =
    subst (λ root. AreClients root c.args.filter.now c.new.result.items) c.self.view_is
    (are_clients_none c.self.inside.root c.text.result.now c.args.filter.now c.new.result.items
    c.in-None.ensures c.text.ensures.value c.new.ensures.items)

pub returns-in-Some : goal.returns-in-Some
returns-in-Some c =
    let root = c.self.inside.root in
    let filter = c.args.filter.now in
    subst (λ tree. IfOk c.clients_of.result (λ list. AreClients tree filter list.items)) c.self.view_is
    (IfOk-weaker c.clients_of.result _ _
    (λ list is. are_clients root c.in-Some.node.now c.text.result.now filter list.items c.in-Some.ensures
    c.text.ensures.value c.clients_of.ensures.ordered is) c.clients_of.ensures.list)

use Rattle.sng_promise.proofs.Names.LawNames.{name_told, names_kept}
use Rattle.sng_promise.proofs.Names.LawNamesSubscribed.{name_subscribed_told}
use Rattle.sng_promise.proofs.Handing.LawAnnouncedRows.{announced_law}
use Rattle.sng_promise.proofs.Names.NamesOnce.{names_once}
use Rattle.sng_promise.proofs.ids_keep_their_names.Goals as goal

pub returns : goal.returns
returns c = record {
  told = name_told;
  subscribed = name_subscribed_told;
  announced = announced_law;
  once = names_once;
  kept = names_kept;
}

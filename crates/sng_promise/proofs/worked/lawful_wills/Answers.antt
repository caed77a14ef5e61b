use Rattle.sng_promise.proofs.Examples.WorkedWills.{refused, published, unpublished}
use Rattle.sng_promise.proofs.worked.lawful_wills.Goals as goal

pub returns : goal.returns
returns c = record { refused = refused; published = published; unpublished = unpublished }

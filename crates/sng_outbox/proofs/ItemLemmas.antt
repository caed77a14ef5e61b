-- What keeping the publishes alone leaves.
use Rattle.std.proofs.Common.{◌≡◌, List, [], ◌∷◌, map, refl, ap}
use Rattle.sng_outbox.specs.declared.item.Item.{Item}
use Rattle.sng_outbox.specs.declared.item.Item.TheVariants.{Publish, Subscribe, Unsubscribe, Acknowledge}
use Rattle.sng_outbox.specs.declared.item.Item.TheVariants.{Ping}
use Rattle.sng_outbox.specs.Sending.{publishes}
use Rattle.sng_outbox.specs.Laws.{publications}

pub kept : (items : List Item) → publishes items ≡ map Publish (publications items)
kept [] = refl
kept (Publish publication ∷ items) = ap (λ l. Publish publication ∷ l) (kept items)
kept (Subscribe text ∷ items) = kept items
kept (Unsubscribe text ∷ items) = kept items
kept (Acknowledge packet_id ∷ items) = kept items
kept (Ping ∷ items) = kept items

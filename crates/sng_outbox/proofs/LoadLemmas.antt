-- How many of the items that wait are publishes of QoS 1.
use Rattle.std.proofs.Common.{◌≡◌, ◌+◌, List, [], ◌∷◌, cond, refl, sym, ◌∙◌, ap, arith}
use Rattle.std.specs.List.{count_by}
use Rattle.std.proofs.lemmas.List.Sums.{sum_by-cons}
use Rattle.sng_outbox.specs.declared.item.Item.{Item}
use Rattle.sng_outbox.specs.declared.item.Item.TheVariants.{Publish, Subscribe, Unsubscribe, Acknowledge}
use Rattle.sng_outbox.specs.declared.item.Item.TheVariants.{Ping}
use Rattle.sng_outbox.specs.Sending.{asks_for_ack, publishes}

counted-cons : (item : Item) (items : List Item)
    → count_by asks_for_ack (item ∷ items) ≡ cond (asks_for_ack item) 1 0 + count_by asks_for_ack items
counted-cons item items = sum_by-cons (λ i. cond (asks_for_ack i) 1 0) item items

-- one less at the front
pub counted-front : (item : Item) (items : List Item)
    → count_by asks_for_ack (item ∷ items) ≡ cond (asks_for_ack item) 1 0 + count_by asks_for_ack items
counted-front = counted-cons

-- the publishes alone have as many
pub counted-publishes : (items : List Item)
    → count_by asks_for_ack (publishes items) ≡ count_by asks_for_ack items
counted-publishes [] = refl
counted-publishes (Publish publication ∷ items) =
    counted-cons (Publish publication) (publishes items)
    ∙ ap (λ n. cond (asks_for_ack (Publish publication)) 1 0 + n) (counted-publishes items)
    ∙ sym (counted-cons (Publish publication) items)
counted-publishes (Subscribe text ∷ items) =
    counted-publishes items ∙ omega (arith, counted-cons (Subscribe text) items)
counted-publishes (Unsubscribe text ∷ items) =
    counted-publishes items ∙ omega (arith, counted-cons (Unsubscribe text) items)
counted-publishes (Acknowledge id ∷ items) =
    counted-publishes items ∙ omega (arith, counted-cons (Acknowledge id) items)
counted-publishes (Ping ∷ items) = counted-publishes items ∙ omega (arith, counted-cons Ping items)

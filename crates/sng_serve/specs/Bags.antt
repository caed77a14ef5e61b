-- How parcels go from the worker to the courier, and back.
use Rattle.std.specs.Prelude.{ℕ, ◌≡◌, List}
use Rattle.sng_serve.specs.declared.courier.Place.{Place}
use Rattle.sng_serve.specs.declared.courier.Bag.{Bag}
use Rattle.sng_book.specs.declared.address.Address.{Address}

-- the bag and the list have changed what they hold, and the courier is there now
pub record Swaps (there : Place) (before : Bag) (given : List (Address × List ℕ)) (now : Bag) (taken : List
    (Address × List ℕ)) : Type 0 where
  pub place : now.place ≡ there
  pub sent : now.sent ≡ before.sent
  pub bag : now.parcels.items ≡ given
  pub list : taken ≡ before.parcels.items

-- nothing has changed
pub record Keeps (before : Bag) (given : List (Address × List ℕ)) (now : Bag) (taken : List (Address × List ℕ)) :
    Type 0 where
  pub bag : now ≡ before
  pub list : taken ≡ given

-- What a hand-over leaves of a client.
use Rattle.std.proofs.Common.{◌≡◌, ℕ, Bool, true, false, refl, if◌then◌else◌}
use Rattle.sng_book.specs.declared.address.Address.{Address}
use Rattle.sng_ids.specs.Ids.{is_full_for}
use Rattle.sng_queue.specs.Messages.{Message}
use Rattle.sng_history.specs.Clients.{Client, announced, is_here}
use Rattle.sng_sessions.specs.Handed.{opened, settled_times, handed_by, pushed, delivered, answered}
use Rattle.sng_sessions.specs.declared.handing.Opens.{Opens}
use Rattle.sng_sessions.specs.declared.handing.Opens.TheVariants.{Nothing, Announcing, Awaiting}
use Rattle.sng_sessions.specs.declared.handing.Handed.{Handed}

-- the move leaves where the client is, how it stands, and what stands for it
pub record Keeps (f : Client → Client) : Type 0 where
  pub address : (x : Client) → (f x).address ≡ x.address
  pub phase : (x : Client) → (f x).phase ≡ x.phase
  pub filters : (x : Client) → (f x).filters ≡ x.filters

pub here-kept : {f : Client → Client} → Keeps f → (from : Address) (x : Client)
    → is_here (f x) from ≡ is_here x from
here-kept k from x = λ i. is_here (record x { address = k.address x i; phase = k.phase x i }) from

pub filters-kept : {f : Client → Client} → Keeps f → (x : Client) → (f x).filters ≡ x.filters
filters-kept k x = k.filters x

opened-keeps : (clock : ℕ) (opens : Opens) → Keeps (opened clock opens)
opened-keeps clock Nothing = record { address = λ x. refl; phase = λ x. refl; filters = λ x. refl }
opened-keeps clock (Announcing name) = record {
  address = λ x. by_address x (is_full_for name x.ids);
  phase = λ x. by_phase x (is_full_for name x.ids);
  filters = λ x. by_filters x (is_full_for name x.ids);
}
  where
    by_address : (x : Client) (b : Bool)
        → (let y : Client = if b then x else announced clock name x in y).address ≡ x.address
    by_address x true = refl
    by_address x false = refl

    by_phase : (x : Client) (b : Bool)
        → (let y : Client = if b then x else announced clock name x in y).phase ≡ x.phase
    by_phase x true = refl
    by_phase x false = refl

    by_filters : (x : Client) (b : Bool)
        → (let y : Client = if b then x else announced clock name x in y).filters ≡ x.filters
    by_filters x true = refl
    by_filters x false = refl
opened-keeps clock (Awaiting kind id) = record { address = λ x. refl; phase = λ x. refl; filters = λ x. refl }

pub handed-keeps : (clock : ℕ) (h : Handed) → Keeps (handed_by clock h)
handed-keeps clock h =
    let k = opened-keeps clock h.opens in record {
      address = λ x. k.address (record x { buffer = settled_times h.settled x.buffer });
      phase = λ x. k.phase (record x { buffer = settled_times h.settled x.buffer });
      filters = λ x. k.filters (record x { buffer = settled_times h.settled x.buffer });
    }

pub delivered-keeps : (clock : ℕ) (m : Message) (opens : Opens) → Keeps (delivered clock m opens)
delivered-keeps clock m opens =
    let k = opened-keeps clock opens in record {
      address = λ x. k.address (record x { buffer = pushed m x.buffer });
      phase = λ x. k.phase (record x { buffer = pushed m x.buffer });
      filters = λ x. k.filters (record x { buffer = pushed m x.buffer });
    }

pub answered-keeps : (clock id : ℕ) → Keeps (answered clock id)
answered-keeps clock id = record { address = λ x. refl; phase = λ x. refl; filters = λ x. refl }

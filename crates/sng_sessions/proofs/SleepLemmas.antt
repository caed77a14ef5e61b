-- Sleep, wake-up and what is sent again leave a client where it is, with what stands for it.
use Rattle.std.proofs.Common.{◌≡◌, ℕ, Bool, true, false, refl, sym}
use Rattle.std.specs.Prelude.{◌&&◌, if◌then◌else◌, is_none, slice_get}
use Rattle.sng_states.specs.States.{has_session, is_due_messages, is_active, is_asleep, is_awake}
use Rattle.sng_states.specs.declared.state.ClientState.{ClientState}
use Rattle.sng_states.specs.declared.state.ClientState.TheVariants.{Dialogue, Active, Asleep, Awake}
use Rattle.sng_states.specs.declared.state.ClientState.TheVariants.{Disconnected, Lost}
use Rattle.sng_book.specs.declared.address.Address.{Address}
use Rattle.sng_history.specs.Clients.{Client, is_here, same_address, asleep, awake, is_drained}
use Rattle.sng_history.specs.Clients.{publish_released}
use Rattle.sng_history.specs.Entering.{heard_at}
use Rattle.sng_sessions.specs.Sleeping.{changed}
use Rattle.sng_sessions.specs.declared.sleeping.Change.{Change}
use Rattle.sng_sessions.specs.declared.sleeping.Change.TheVariants.{Sleeps, Wakes, Drains, Closes, Repeats}
use Rattle.sng_sessions.specs.declared.sleeping.Change.TheVariants.{Receives, Releases}

-- the change leaves where the client is, whether it has a session, and what stands for it
record Leaves (x y : Client) : Type 0 where
  address : y.address ≡ x.address
  session : has_session y.phase ≡ has_session x.phase
  filters : y.filters ≡ x.filters

leaves_if : (b : Bool) (x y z : Client) → (b ≡ true → Leaves x y) → Leaves x z → Leaves x (if b then y else z)
leaves_if true x y z one two = one refl
leaves_if false x y z one two = two

heard_leaves : (clock : ℕ) (x : Client) → Leaves x (heard_at clock x)
heard_leaves clock x = record { address = refl; session = refl; filters = refl }

due_here : (phase : ClientState) → is_due_messages phase ≡ true → has_session phase ≡ true
due_here Active is = refl
due_here Asleep is = refl
due_here Awake is = refl
due_here Dialogue is = absurd cc
due_here Disconnected is = absurd cc
due_here Lost is = absurd cc

asleep_here : (phase : ClientState) → is_asleep phase ≡ true → has_session phase ≡ true
asleep_here Asleep is = refl
asleep_here Active is = absurd cc
asleep_here Awake is = absurd cc
asleep_here Dialogue is = absurd cc
asleep_here Disconnected is = absurd cc
asleep_here Lost is = absurd cc

awake_here : (phase : ClientState) (b : Bool) → (is_awake phase && b) ≡ true → has_session phase ≡ true
awake_here Awake b is = refl
awake_here Active b is = absurd cc
awake_here Asleep b is = absurd cc
awake_here Dialogue b is = absurd cc
awake_here Disconnected b is = absurd cc
awake_here Lost b is = absurd cc

changed_leaves : (clock : ℕ) (change : Change) (x : Client) → Leaves x (changed clock change x)
changed_leaves clock (Sleeps duration) x =
    leaves_if (is_due_messages x.phase) x (asleep duration (heard_at clock x)) (heard_at clock x)
    (λ is. record { address = refl; session = sym (due_here x.phase is); filters = refl })
    (heard_leaves clock x)
changed_leaves clock Wakes x =
    leaves_if (is_asleep x.phase) x (awake (heard_at clock x)) (heard_at clock x)
    (λ is. record { address = refl; session = sym (asleep_here x.phase is); filters = refl })
    (heard_leaves clock x)
changed_leaves clock Drains x =
    leaves_if (is_drained x) x (record x { phase = Asleep }) x
    (λ is. record {
      address = refl;
      session =
          sym (awake_here x.phase (is_none (slice_get x.buffer.waiting 0) && is_none x.buffer.exchange) is);
      filters = refl;
    }) (record { address = refl; session = refl; filters = refl })
changed_leaves clock Closes x = record { address = refl; session = refl; filters = refl }
changed_leaves clock Repeats x = record { address = refl; session = refl; filters = refl }
changed_leaves clock (Receives msg_id) x = record { address = refl; session = refl; filters = refl }
changed_leaves clock (Releases msg_id) x =
    leaves_if (is_active x.phase) x (publish_released msg_id (heard_at clock x)) (heard_at clock x)
    (λ is. record { address = refl; session = refl; filters = refl }) (heard_leaves clock x)

pub changed-here : (clock : ℕ) (change : Change) (from : Address) (x : Client)
    → is_here (changed clock change x) from ≡ is_here x from
changed-here clock change from x =
    let leaves = changed_leaves clock change x in
    λ i. leaves.session i && same_address (leaves.address i) from

pub changed-filters : (clock : ℕ) (change : Change) (x : Client)
    → (changed clock change x).filters ≡ x.filters
changed-filters clock change x = (changed_leaves clock change x).filters

-- The views' tables of the states in which messages come to a client are those of its states.
use Rattle.std.proofs.Common.{◌≡◌, refl}
use Rattle.std.specs.Prelude.{not, Some}
use Rattle.sng_states.specs.declared.state.ClientState.{ClientState}
use Rattle.sng_states.specs.declared.state.ClientState.TheVariants.{Dialogue, Active, Asleep, Awake}
use Rattle.sng_states.specs.declared.state.ClientState.TheVariants.{Disconnected, Lost}
use Rattle.sng_states.specs.States.{has_session, is_due_messages, takes_messages}
use Rattle.sng_laws.specs.ViewsHanding.{is_taking, is_away}
use Rattle.sng_laws.specs.ViewsClients.{is_awaiting}

pub awaiting_same : (phase : ClientState) → is_awaiting (Some phase) ≡ is_due_messages phase
awaiting_same Active = refl
awaiting_same Asleep = refl
awaiting_same Awake = refl
awaiting_same Dialogue = refl
awaiting_same Disconnected = refl
awaiting_same Lost = refl

pub taking_same : (phase : ClientState) → is_taking (Some phase) ≡ takes_messages phase
taking_same Active = refl
taking_same Awake = refl
taking_same Asleep = refl
taking_same Dialogue = refl
taking_same Disconnected = refl
taking_same Lost = refl

pub away_same : (phase : ClientState) → is_away (Some phase) ≡ not (has_session phase)
away_same Disconnected = refl
away_same Lost = refl
away_same Active = refl
away_same Asleep = refl
away_same Awake = refl
away_same Dialogue = refl

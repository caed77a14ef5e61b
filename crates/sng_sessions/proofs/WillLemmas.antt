-- What a client states of its will leaves where it is.
use Rattle.std.proofs.Common.{◌≡◌, ℕ, Bool, true, false, refl, ap}
use Rattle.std.specs.Prelude.{◌&&◌, if◌then◌else◌}
use Rattle.sng_states.specs.States.{has_session}
use Rattle.sng_states.specs.declared.state.ClientState.{ClientState}
use Rattle.sng_states.specs.declared.state.ClientState.TheVariants.{Active}
use Rattle.sng_book.specs.declared.address.Address.{Address}
use Rattle.sng_history.specs.Clients.{Client, is_here, same_address}
use Rattle.sng_sessions.specs.declared.wills.Stating.{Stating}
use Rattle.sng_sessions.specs.declared.wills.Stating.TheVariants.{NoWill, Topic, Message, Deletion, NewTopic}
use Rattle.sng_sessions.specs.declared.wills.Stating.TheVariants.{NewMessage}
use Rattle.sng_sessions.specs.Willing.{phase_stated, stating_at}

over_kept : (phase : ClientState) (b : Bool) → has_session phase ≡ b
    → has_session (if b then Active else phase) ≡ b
over_kept phase true is = refl
over_kept phase false is = is

phase_kept : (stating : Stating) (phase : ClientState)
    → has_session (phase_stated stating phase) ≡ has_session phase
phase_kept NoWill phase = over_kept phase (has_session phase) refl
phase_kept (Message message) phase = over_kept phase (has_session phase) refl
phase_kept (Topic stated) phase = refl
phase_kept Deletion phase = refl
phase_kept (NewTopic stated) phase = refl
phase_kept (NewMessage message) phase = refl

pub stating-here : (clock : ℕ) (stating : Stating) (from : Address) (x : Client)
    → is_here (stating_at clock stating x) from ≡ is_here x from
stating-here clock stating from x = ap (λ b. b && same_address x.address from) (phase_kept stating x.phase)

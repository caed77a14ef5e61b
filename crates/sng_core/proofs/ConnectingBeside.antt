-- Another client at the address of a CONNECT leaves.
use Rattle.std.proofs.Common.{◌≡◌, ℕ, Bool, true, false, [], ◌∷◌}
use Rattle.std.proofs.Common.{refl, ap, sym, ◌∙◌, subst}
use Rattle.std.specs.Prelude.{if◌then◌else◌, Option}
use Rattle.std.specs.Prelude.{Some, None}
use Rattle.std.specs.List.{flat_map}
use Rattle.std.specs.Str.{bytes_eq}
use Rattle.sng_frames.specs.declared.messages.connect.Connect.{Connect}
use Rattle.sng_book.specs.declared.address.Address.{Address}
use Rattle.sng_book.specs.declared.decision.Decision.TheVariants as note
use Rattle.sng_book.specs.declared.outcome.Outcome.TheVariants.{Allowed}
use Rattle.sng_book.specs.declared.out.Out.TheVariants.{Note}
use Rattle.sng_history.specs.Causes.{ByConnect}
use Rattle.sng_history.specs.Clients.{Client, is_here}
use Rattle.sng_history.specs.Entering.{left_at}
use Rattle.sng_history.specs.State.{State, around}
use Rattle.sng_history.specs.Verdicts.{entry}
use Rattle.sng_history.specs.Good.{Each, OnePlace}
use Rattle.sng_history.proofs.SaysParts.{part_for, beside_for}
use Rattle.sng_history.proofs.Hands.{gone_stays}
use Rattle.sng_core.specs.Forms.{place_at, client_at, at_place}
use Rattle.sng_core.specs.Connecting.{put_out}
use Rattle.sng_core.proofs.Found.{found_here, nobody_here, one_outs_at, no_outs_at}
use Rattle.sng_core.proofs.Found.{read_at, within}
use Rattle.sng_core.proofs.Plain.{Busy, plain_next, plain_part, plain_row}
use Rattle.sng_core.proofs.Rows.{gone_spelled}

-- one that is not there is as it was
quiet_next : (s : State) (from : Address) (connect : Connect) (y : Client)
    → bytes_eq connect.client_id y.id ≡ false → entry s connect ≡ Allowed → is_here y from ≡ false
    → plain_next s (ByConnect from connect) y ≡ y
quiet_next s from connect y is may off = rw (is, off, may) refl

quiet_part : (s : State) (from : Address) (connect : Connect) (y : Client)
    → bytes_eq connect.client_id y.id ≡ false → entry s connect ≡ Allowed → is_here y from ≡ false
    → plain_part s (ByConnect from connect) [] y ≡ []
quiet_part s from connect y is may off = rw (is, off, may) refl

beside_quiet : (s : State) (from : Address) (connect : Connect) (y : Client) (same : Bool)
    → bytes_eq connect.client_id y.id ≡ same → entry s connect ≡ Allowed
    → is_here y from ≡ false → Busy y → beside_for s from connect y ≡ []
beside_quiet s from connect y true is may off busy = rw is refl
beside_quiet s from connect y false is may off busy =
    let c = ByConnect from connect in
    ap (λ b. if b then [] else part_for s c [] y) is
    ∙ (plain_row s c [] y (subst Busy (sym (quiet_next s from connect y is may off)) busy)
    ∙ quiet_part s from connect y is may off)

-- and one that is leaves
left_next : (s : State) (from : Address) (connect : Connect) (y : Client)
    → bytes_eq connect.client_id y.id ≡ false → entry s connect ≡ Allowed → is_here y from ≡ true
    → plain_next s (ByConnect from connect) y ≡ left_at s.clock y
left_next s from connect y is may here =
    rw (is, here, may) (gone_stays (around s (ByConnect from connect)) y.id y.buffer.waiting
    (left_at s.clock y) refl)

left_part : (s : State) (from : Address) (connect : Connect) (y : Client)
    → bytes_eq connect.client_id y.id ≡ false → entry s connect ≡ Allowed → is_here y from ≡ true
    → plain_part s (ByConnect from connect) [] y ≡ put_out connect.client_id (Some y)
left_part s from connect y is may here =
    rw (is, here, may) (ap (λ outs. Note (note.Left y.id) ∷ outs)
    (gone_spelled (around s (ByConnect from connect)) y.id y.buffer.waiting (left_at s.clock y)))

beside_is : (s : State) (from : Address) (connect : Connect) (y : Client) (same : Bool)
    → bytes_eq connect.client_id y.id ≡ same → entry s connect ≡ Allowed → is_here y from ≡ true
    → beside_for s from connect y ≡ put_out connect.client_id (Some y)
beside_is s from connect y true is may here = rw is refl
beside_is s from connect y false is may here =
    let c = ByConnect from connect in
    let busy : Busy (left_at s.clock y) = refl in
    ap (λ b. if b then [] else part_for s c [] y) is
    ∙ (plain_row s c [] y (subst Busy (sym (left_next s from connect y is may here)) busy)
    ∙ left_part s from connect y is may here)

pub beside_by : (s : State) (from : Address) (connect : Connect) (place : Option ℕ)
    → entry s connect ≡ Allowed
    → OnePlace s.clients → Each Busy s.clients
    → place_at from s.clients ≡ place
    → flat_map (beside_for s from connect) s.clients
    ≡ put_out connect.client_id (at_place s.clients place)
beside_by s from connect None may places busy at =
    no_outs_at from (beside_for s from connect) s.clients
    (λ y off up. beside_quiet s from connect y (bytes_eq connect.client_id y.id) refl may off up) busy
    (nobody_here from s.clients at)
beside_by s from connect (Some i) may places busy at =
    let x = client_at s.clients i in
    let read = read_at s.clients i (within from s.clients i at) in
    let here = found_here from s.clients i x at read in
    one_outs_at from (beside_for s from connect) s.clients i x
    (λ y off up. beside_quiet s from connect y (bytes_eq connect.client_id y.id) refl may off up) busy places
    read here
    ∙ beside_is s from connect x (bytes_eq connect.client_id x.id) refl may here

-- What waits for the client that connects, and is let out behind its welcome.
use Rattle.std.proofs.Common.{◌≡◌, ℕ, suc, ◌+◌, Bool, true, false, List, [], ◌∷◌, ◌++◌}
use Rattle.std.proofs.Common.{length, refl, ap, sym, ◌∙◌, arith}
use Rattle.std.specs.Prelude.{if◌then◌else◌, ◌||◌, is_some, not, nat_lt, Option}
use Rattle.std.specs.Prelude.{Some, None}
use Rattle.std.specs.List.{flat_map, position_or_len}
use Rattle.std.specs.Str.{bytes_eq}
use Rattle.std.proofs.lemmas.Bool.Decides.{nat_tests}
use Rattle.sng_frames.specs.declared.messages.connect.Connect.{Connect}
use Rattle.sng_book.specs.declared.address.Address.{Address}
use Rattle.sng_book.specs.declared.outcome.Outcome.TheVariants.{Allowed}
use Rattle.sng_book.specs.declared.out.Out.{Out}
use Rattle.sng_history.specs.Causes.{ByConnect}
use Rattle.sng_history.specs.Clients.{Client, Around, let_in}
use Rattle.sng_history.specs.Lawful.{entering_notes}
use Rattle.sng_history.specs.Outgoing.{handed_over, all_gone}
use Rattle.sng_history.specs.State.{State, around, is_known}
use Rattle.sng_history.specs.Verdicts.{entry}
use Rattle.sng_history.specs.Answers.{welcome}
use Rattle.sng_history.specs.Whole.{spell, around_welcome}
use Rattle.sng_history.specs.Good.{Distinct, Good}
use Rattle.sng_history.proofs.Own.{same_means}
use Rattle.sng_history.proofs.SaysParts.{entering_for}
use Rattle.sng_history.proofs.ClientIds.{ids_of}
use Rattle.sng_history.proofs.ClientIds.{length_ids}
use Rattle.sng_core.specs.Forms.{place_of, client_at, at_place}
use Rattle.sng_grants.specs.declared.policy.Policy.{Policy}
use Rattle.sng_turns.specs.HandingOver.{gone_outs, hand_outs}
use Rattle.sng_core.specs.Connecting.{behind_welcome, own_outs}
use Rattle.sng_core.specs.Connecting.{returning}
use Rattle.sng_core.proofs.Found.{read_at}
use Rattle.sng_core.proofs.HandingRows.{free_row, gone_row}
use Rattle.sng_core.proofs.ConnectingKnown.{known_here, unknown_all, Quiet, outs_away, outs_found}
use Rattle.sng_core.proofs.ConnectingReleases.{in_with}

-- ---- a client is known where it has a place

same_tests_by : (n m : ℕ) (b : Bool) → nat_lt n m ≡ b → b ≡ nat_lt (1 + n) (suc m)
same_tests_by n m true is = sym (grind (arith, nat_tests, is))
same_tests_by n m false is = sym (grind (arith, nat_tests, is))

same_tests : (n m : ℕ) → nat_lt n m ≡ nat_lt (1 + n) (suc m)
same_tests n m = same_tests_by n m (nat_lt n m) refl

known_by_test : (id : List ℕ) (y : Client) (ys : List Client) (b : Bool) → bytes_eq id y.id ≡ b
    → is_known id ys ≡ nat_lt (position_or_len (bytes_eq id) (ids_of ys)) (length (ids_of ys))
    → (b || is_known id ys) ≡ nat_lt (if not b then 1 + position_or_len (bytes_eq id) (ids_of ys) else 0)
    (suc (length (ids_of ys)))
known_by_test id y ys true is later = sym (grind (arith, nat_tests))
known_by_test id y ys false is later =
    later ∙ same_tests (position_or_len (bytes_eq id) (ids_of ys)) (length (ids_of ys))

pub known_test : (id : List ℕ) (xs : List Client)
    → is_known id xs ≡ nat_lt (position_or_len (bytes_eq id) (ids_of xs)) (length (ids_of xs))
known_test id [] = refl
known_test id (y ∷ ys) = known_by_test id y ys (bytes_eq id y.id) refl (known_test id ys)

some_if : (b : Bool) (n : ℕ) → is_some (if b then Some n else None) ≡ b
some_if true n = refl
some_if false n = refl

pub known_place : (id : List ℕ) (xs : List Client) → is_known id xs ≡ is_some (place_of id xs)
known_place id xs =
    known_test id xs ∙ sym (some_if (nat_lt (position_or_len (bytes_eq id) (ids_of xs)) (length (ids_of xs)))
    (position_or_len (bytes_eq id) (ids_of xs)))

-- ---- what waits for the one that connects

-- what becomes of it
abbrev own_part : Policy → Address → Connect → Option Client → List Out
own_part policy from connect None = []
own_part policy from connect (Some x) =
    if connect.flags.clean then gone_outs connect.client_id x.buffer.waiting
    else behind_welcome policy from connect x

entering_quiet : (s : State) (from : Address) (connect : Connect)
    → Quiet connect.client_id (entering_for s from connect)
entering_quiet s from connect y off = rw off refl

entering_is : (s : State) (from : Address) (connect : Connect) (x : Client)
    → bytes_eq connect.client_id x.id ≡ true → entry s connect ≡ Allowed
    → entering_for s from connect x
    ≡ spell (around s (ByConnect from connect)) [] (let_in s.clock from connect x)
    (entering_notes s from connect x Allowed)
entering_is s from connect x is may = rw (is, may) refl

part_at : (a : Around) (from : Address) (connect : Connect) (x : Client) (clean will : Bool)
    → connect.client_id ≡ x.id
    → (let y = in_with a.clock from connect x clean will in
    spell a [] y (if clean then all_gone x.id x.buffer.waiting else handed_over a.policy y)
    ≡ (if clean
    then gone_outs connect.client_id x.buffer.waiting
    else (if will then [] else hand_outs a.policy connect.client_id from [] 0 x.number x.buffer.waiting)))
part_at a from connect x true will same =
    sym (ap (λ id. gone_outs id x.buffer.waiting) same
    ∙ gone_row a [] x.id x.buffer.waiting (in_with a.clock from connect x true will))
part_at a from connect x false true same = refl
part_at a from connect x false false same =
    sym (ap (λ id. hand_outs a.policy id from [] 0 x.number x.buffer.waiting) same
    ∙ free_row a [] (in_with a.clock from connect x false false) refl)

part_spelled : (a : Around) (from : Address) (connect : Connect) (x : Client) → connect.client_id ≡ x.id
    → (let y = let_in a.clock from connect x in
    spell a [] y (if connect.flags.clean then all_gone x.id x.buffer.waiting else handed_over a.policy y)
    ≡ own_part a.policy from connect (Some x))
part_spelled a from connect x same = part_at a from connect x connect.flags.clean connect.flags.will same

part_by : (s : State) (from : Address) (connect : Connect) (found : Bool)
    → (let i = position_or_len (bytes_eq connect.client_id) (ids_of s.clients) in
    nat_lt i (length (ids_of s.clients)) ≡ found → Distinct s.clients → entry s connect ≡ Allowed
    → flat_map (entering_for s from connect) s.clients
    ≡ own_part s.policy from connect (at_place s.clients (if found then Some i else None)))
part_by s from connect true is apart may =
    let id = connect.client_id in
    let i = position_or_len (bytes_eq id) (ids_of s.clients) in
    let x = client_at s.clients i in
    let read = read_at s.clients i (ap (λ n. nat_lt i n) (sym (length_ids s.clients)) ∙ is) in
    let here = known_here id s.clients i x refl read in
    outs_found id (entering_for s from connect) s.clients i x (entering_quiet s from connect) apart read here
    ∙ (entering_is s from connect x here may
    ∙ part_spelled (around s (ByConnect from connect)) from connect x (same_means id x.id here))
part_by s from connect false is apart may =
    outs_away connect.client_id (entering_for s from connect) s.clients (entering_quiet s from connect)
    (unknown_all connect.client_id s.clients is)

around_is : (clean : Bool) (dropped behind : List Out) (ack : Out)
    → (if clean then dropped ++ ack ∷ [] else ack ∷ behind)
    ≡ around_welcome clean (if clean then dropped else behind) ack
around_is true dropped behind ack = refl
around_is false dropped behind ack = refl

around_nothing : (clean : Bool) (ack : Out) → ack ∷ [] ≡ around_welcome clean [] ack
around_nothing true ack = refl
around_nothing false ack = refl

answered_by : (policy : Policy) (from : Address) (connect : Connect) (o : Option Client)
    → own_outs policy from connect o
    ≡ around_welcome connect.flags.clean (own_part policy from connect o) (welcome connect from)
answered_by policy from connect None = around_nothing connect.flags.clean (welcome connect from)
answered_by policy from connect (Some x) =
    around_is connect.flags.clean (gone_outs connect.client_id x.buffer.waiting)
    (behind_welcome policy from connect x) (welcome connect from)

pub own_row : (s : State) (from : Address) (connect : Connect) → Good s → entry s connect ≡ Allowed
    → around_welcome connect.flags.clean (flat_map (entering_for s from connect) s.clients)
    (welcome connect from) ≡ own_outs s.policy from connect (returning s connect)
own_row s from connect good may =
    let xs = s.clients in
    ap (λ outs. around_welcome connect.flags.clean outs (welcome connect from))
    (part_by s from connect (nat_lt (position_or_len (bytes_eq connect.client_id) (ids_of xs))
    (length (ids_of xs))) refl good.apart may)
    ∙ sym (answered_by s.policy from connect (returning s connect))

-- No connection is there twice, whatever is done.
use Rattle.std.proofs.Common.{◌≡◌, ℕ, ◌+◌, ◌==◌, ◌≤◌, Bool, true, false, ◌||◌, not, List, [], ◌∷◌, ◌++◌, map}
use Rattle.std.proofs.Common.{filter, if◌then◌else◌, cond, refl, ◌∙◌, ap, arith}
use Rattle.std.specs.List.{count_by, list_any}
use Rattle.std.proofs.lemmas.List.Sums.{sum_by-cons, sum_by_push}
use Rattle.std.proofs.lemmas.Bool.{eqb-true}
use Rattle.std.proofs.lemmas.List.Filters.{sum_by-filter_both}
use Rattle.sng_broker.specs.declared.parts.Peer.{Peer}
use Rattle.sng_broker.specs.Brokers.{is_peer, is_open, identified, EachOnce}

-- fewer are there once some have left
pub once_kept : (keep : Peer → Bool) (peers : List Peer) → EachOnce peers → EachOnce (filter keep peers)
once_kept keep peers once = λ conn.
    omega (
      arith,
      sum_by-filter_both keep (λ x. not (keep x)) (λ _. refl)
          (λ x. cond (is_peer conn x) 1 0) peers,
      once conn,
    )

pub or_false : (a b : Bool) → (a || b) ≡ false → (a ≡ false) × (b ≡ false)
or_false true b is = cc
or_false false b is = (refl, is)

-- one that is not there comes
none_counted : {X : Type 0} (p : X → Bool) (xs : List X) → list_any p xs ≡ false → count_by p xs ≡ 0
none_counted p [] = λ _. refl
none_counted p (x ∷ xs) = λ absent.
    let both = or_false (p x) (list_any p xs) absent in
    let here : cond {A = ℕ} (p x) 1 0 ≡ 0 = rw both.0 refl in
    let later : count_by p xs ≡ 0 = none_counted p xs both.1 in
    let all : count_by p (x ∷ xs) ≡ cond {A = ℕ} (p x) 1 0 + count_by p xs =
    sum_by-cons (λ y. cond (p y) 1 0) x xs in
    all ∙ omega arith

one_more : (peers : List Peer) (conn other : ℕ) (b : Bool) → (conn == other) ≡ b → is_open peers conn ≡ false
    → count_by (is_peer other) peers ≤ 1 → count_by (is_peer other) peers + cond b 1 0 ≤ 1
one_more peers conn other true is absent one =
    let same : conn ≡ other = eqb-true conn other is in
    let none : count_by (is_peer other) peers ≡ 0 = rw (← same) (none_counted (is_peer conn) peers absent) in
    omega arith
one_more peers conn other false is absent one = omega arith

pub once_joined : (peers : List Peer) (conn last : ℕ) → is_open peers conn ≡ false → EachOnce peers
    → EachOnce (peers ++ record { conn = conn; last_id = last } ∷ [])
once_joined peers conn last absent once = λ other.
    rw (sum_by_push (λ x. cond (is_peer other x) 1 0) peers (record { conn = conn; last_id = last }))
    (one_more peers conn other _ refl absent (once other))

counted_changed : (change : Peer → Peer) → ((peer : Peer) → (change peer).conn ≡ peer.conn)
    → (peers : List Peer) (conn : ℕ)
    → count_by (is_peer conn) (map change peers) ≡ count_by (is_peer conn) peers
counted_changed change same [] conn = refl
counted_changed change same (peer ∷ peers) conn =
    let later = counted_changed change same peers conn in
    let here : cond {A = ℕ} (is_peer conn (change peer)) 1 0 ≡ cond (is_peer conn peer) 1 0 =
    ap (λ n. cond (n == conn) 1 0) (same peer) in
    let one : count_by (is_peer conn) (change peer ∷ map change peers)
    ≡ cond {A = ℕ} (is_peer conn (change peer)) 1 0 + count_by (is_peer conn) (map change peers) =
    sum_by-cons (λ x. cond (is_peer conn x) 1 0) (change peer) (map change peers) in
    let other : count_by (is_peer conn) (peer ∷ peers)
    ≡ cond {A = ℕ} (is_peer conn peer) 1 0 + count_by (is_peer conn) peers =
    sum_by-cons (λ x. cond (is_peer conn x) 1 0) peer peers in
    one ∙ omega arith

-- the same connections are there after a change that keeps each
pub once_changed : (change : Peer → Peer) → ((peer : Peer) → (change peer).conn ≡ peer.conn)
    → (peers : List Peer) → EachOnce peers → EachOnce (map change peers)
once_changed change same peers once = λ conn. rw (counted_changed change same peers conn) (once conn)

same_identified : (conn last : ℕ) (peer : Peer) → (identified conn last peer).conn ≡ peer.conn
same_identified conn last peer =
    elim (is_peer conn peer) as (λ b. (if b then record peer { last_id = last } else peer).conn ≡ peer.conn)
    [ true ↦ refl | false ↦ refl ]

pub once_identified : (conn last : ℕ) (peers : List Peer) → EachOnce peers
    → EachOnce (map (identified conn last) peers)
once_identified conn last peers once =
    once_changed (identified conn last) (same_identified conn last) peers once

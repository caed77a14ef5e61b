-- The worked rows of a subscription are lawful, or not, by computation.
use Rattle.std.proofs.Common.{◌≡◌, true, [], ◌∷◌, refl, ap, subst, rules}
use Rattle.std.specs.Str.{is_utf8, IsAscii}
use Rattle.std.proofs.lemmas.Str.{is_utf8-from_IsUtf8, IsUtf8-from_ascii}
use Rattle.sng_book.specs.declared.event.Event.TheVariants.{Datagram, Replace}
use Rattle.sng_book.specs.declared.outcome.Outcome.TheVariants.{Allowed}
use Rattle.sng_history.specs.State.{State, opening}
use Rattle.sng_history.specs.Lawful.{LawfulRow, Lawful}
use Rattle.sng_promise.specs.ExamplesClients.{one_listed, both_listed, home, s1_home, subscribe_ab}
use Rattle.sng_promise.specs.ExamplesClients.{subscribed_ab, subscribes_ab, stands_ab, ends_ab, ended_ab}
use Rattle.sng_promise.specs.ExamplesClients.{holds_ab}
use Rattle.sng_promise.proofs.Examples.WorkedClients.{home_one}
use Rattle.sng_promise.proofs.Examples.WorkedAsks.{inside, inside_is, then, came}

ab_ascii : IsAscii (97 ∷ 47 ∷ 98 ∷ [])
ab_ascii = search rules

pub ab_utf8 : is_utf8 (97 ∷ 47 ∷ 98 ∷ []) ≡ true
ab_utf8 = is_utf8-from_IsUtf8 (97 ∷ 47 ∷ 98 ∷ []) (IsUtf8-from_ascii (97 ∷ 47 ∷ 98 ∷ []) ab_ascii)

pub stands : Lawful opening stands_ab
stands = (
  home_one,
  came (s1_home one_listed) inside (Datagram home subscribe_ab)
      (subscribes_ab Allowed ∷ subscribed_ab ∷ []) inside_is
      (record {
        whole = rw ab_utf8 refl;
        exits = refl;
        clients = (record { fixed = rw (ab_utf8, ab_utf8) refl }, tt);
      }),
)

abbrev pub holding : State
holding = then inside (Datagram home subscribe_ab) (subscribes_ab Allowed ∷ subscribed_ab ∷ [])

pub holding_is : holds_ab ≡ holding
holding_is =
    ap (λ s. then s (Datagram home subscribe_ab) (subscribes_ab Allowed ∷ subscribed_ab ∷ [])) inside_is

pub ended : Lawful opening ended_ab
ended = (
  stands,
  came stands_ab holding (Replace both_listed) (ends_ab ∷ []) holding_is (record {
    whole = refl;
    exits = refl;
    clients = (record { fixed = refl }, tt);
  }),
)

-- a subscription that is not covered any more stays
pub not_kept : LawfulRow holds_ab (Replace both_listed) [] → ⊥
not_kept l =
    let at : LawfulRow holding (Replace both_listed) [] =
    subst (λ s. LawfulRow s (Replace both_listed) []) holding_is l in
    let e = at.clients.0.fixed in cc

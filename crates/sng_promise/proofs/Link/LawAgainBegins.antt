-- What goes out again as a connection begins, with the packets that follow.
use Rattle.std.proofs.Common.{◌≡◌, ℕ, Bool, true, false, List, [], ◌∷◌, ◌++◌, refl, ◌∙◌}
use Rattle.sng_grants.specs.declared.policy.Policy.{Policy}
use Rattle.sng_outbox.specs.declared.in_flight.InFlight.{InFlight}
use Rattle.sng_book.specs.declared.outcome.Outcome.{Outcome}
use Rattle.sng_book.specs.declared.outcome.Outcome.TheVariants.{Allowed, Denied}
use Rattle.sng_book.specs.declared.out.Out.{Out}
use Rattle.sng_book.specs.declared.out.Out.TheVariants.{Send, Wire, Note}
use Rattle.sng_history.specs.Verdicts.{exit}
use Rattle.sng_history.specs.Exits.{agains_of}
use Rattle.sng_history.specs.Exits.{sent_again, resending}
use Rattle.sng_laws.specs.ViewsLink.{Departure, departures, wires_in, sends_in}
use Rattle.sng_laws.specs.ViewsFlight.{agains}
use Rattle.sng_laws.specs.LawsRules.{judged, publish_rules}
use Rattle.sng_laws.specs.LawsReached.{Announced}
use Rattle.sng_laws.specs.LawsFlight.{AllReturn, packets_of}
use Rattle.sng_promise.proofs.Answers.LawRules.{exit_ruled}
use Rattle.sng_promise.proofs.Link.LawLink.{Wires}

-- ---- packets without notes

pub wires_again : (xs ys : List Out) → Wires xs → agains (xs ++ ys) ≡ agains ys
wires_again [] ys are = refl
wires_again (Wire sent ∷ xs) ys are = wires_again xs ys are.1
wires_again (Send to datagram ∷ xs) ys are = absurd are
wires_again (Note said ∷ xs) ys are = absurd are

-- ---- as a connection begins, with the packets that follow

returns_first : (policy : Policy) (sent : InFlight) (flights : List InFlight) (outs more : List Out)
    (o : Outcome)
    → o ≡ judged (publish_rules policy sent.publication.origin sent.publication.name)
    → AllReturn policy flights (agains (outs ++ more))
    → AllReturn policy (sent ∷ flights) (agains ((sent_again sent o ++ outs) ++ more))
returns_first policy sent flights outs more Allowed is rest =
    (record { whom = refl; name = refl; judgement = is; packet = λ allowed. refl }, rest)
returns_first policy sent flights outs more (Denied rule) is rest = (
  record {
    whom = refl;
    name = refl;
    judgement = is;
    packet = λ allowed. absurd (let f : false ≡ true = allowed in cc);
  },
  rest,
)

none_return : (policy : Policy) (ds : List Departure) → ds ≡ [] → AllReturn policy [] ds
none_return policy [] is = tt
none_return policy (d ∷ ds) is = absurd (let e = is in cc)

pub all_return : (policy : Policy) (flights : List InFlight) (more : List Out) → agains more ≡ []
    → AllReturn policy flights (agains (resending flights (agains_of policy flights) ++ more))
all_return policy [] more none = none_return policy (agains more) none
all_return policy (sent ∷ flights) more none =
    returns_first policy sent flights (resending flights (agains_of policy flights)) more
    (exit policy sent.publication.origin sent.publication.name)
    (exit_ruled policy sent.publication.origin sent.publication.name) (all_return policy flights more none)

announced_first : (sent : InFlight) (o : Outcome) (outs more : List Out)
    → ((lets : Bool) → Announced lets (outs ++ more)) → (lets : Bool)
    → Announced lets ((sent_again sent o ++ outs) ++ more)
announced_first sent Allowed outs more rest lets = ((λ is. refl), rest false)
announced_first sent (Denied rule) outs more rest lets = rest false

pub again_announced : (policy : Policy) (flights : List InFlight) (more : List Out) (lets : Bool)
    → ((b : Bool) → Announced b more)
    → Announced lets (resending flights (agains_of policy flights) ++ more)
again_announced policy [] more lets rest = rest lets
again_announced policy (sent ∷ flights) more lets rest =
    announced_first sent (exit policy sent.publication.origin sent.publication.name)
    (resending flights (agains_of policy flights)) more
    (λ b. again_announced policy flights more b rest) lets

departed_first : (sent : InFlight) (o : Outcome) (outs more : List Out)
    → departures ((sent_again sent o ++ outs) ++ more) ≡ departures (outs ++ more)
departed_first sent Allowed outs more = refl
departed_first sent (Denied rule) outs more = refl

pub none_departed : (policy : Policy) (flights : List InFlight) (more : List Out)
    → departures (resending flights (agains_of policy flights) ++ more) ≡ departures more
none_departed policy [] more = refl
none_departed policy (sent ∷ flights) more =
    departed_first sent (exit policy sent.publication.origin sent.publication.name)
    (resending flights (agains_of policy flights)) more
    ∙ none_departed policy flights more

unsent_first : (sent : InFlight) (o : Outcome) (outs more : List Out)
    → sends_in ((sent_again sent o ++ outs) ++ more) ≡ sends_in (outs ++ more)
unsent_first sent Allowed outs more = refl
unsent_first sent (Denied rule) outs more = refl

pub again_unsent : (policy : Policy) (flights : List InFlight) (more : List Out)
    → sends_in (resending flights (agains_of policy flights) ++ more) ≡ sends_in more
again_unsent policy [] more = refl
again_unsent policy (sent ∷ flights) more =
    unsent_first sent (exit policy sent.publication.origin sent.publication.name)
    (resending flights (agains_of policy flights)) more
    ∙ again_unsent policy flights more

wires_first : (sent : InFlight) (o : Outcome) (outs more : List Out) (rest : List (List ℕ))
    → wires_in (outs ++ more) ≡ packets_of (agains (outs ++ more)) ++ rest
    → wires_in ((sent_again sent o ++ outs) ++ more)
    ≡ packets_of (agains ((sent_again sent o ++ outs) ++ more)) ++ rest
wires_first sent Allowed outs more rest is = rw is refl
wires_first sent (Denied rule) outs more rest is = is

-- its packets are those behind its notes, and those that follow
pub again_wires : (policy : Policy) (flights : List InFlight) (more : List Out) → agains more ≡ []
    → let outs =
    resending flights (agains_of policy flights) ++ more in
    wires_in outs ≡ packets_of (agains outs) ++ wires_in more
again_wires policy [] more none = rw none refl
again_wires policy (sent ∷ flights) more none =
    wires_first sent (exit policy sent.publication.origin sent.publication.name)
    (resending flights (agains_of policy flights)) more
    (wires_in more) (again_wires policy flights more none)

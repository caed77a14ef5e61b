-- The worked rows of clients are lawful, or not, by computation.
use Rattle.std.proofs.Common.{◌≡◌, ℕ, true, false, List, [], ◌∷◌, refl, ap, sym, ◌∙◌, subst}
use Rattle.sng_frames.specs.declared.flags.TopicIdType.TheVariants.{Normal}
use Rattle.sng_frames.specs.declared.qos.FrameQos.TheVariants.{AtMostOnce}
use Rattle.sng_frames.specs.declared.messages.connect.Connect.{Connect}
use Rattle.sng_book.specs.declared.address.Address.{Address}
use Rattle.sng_book.specs.declared.event.Event.{Event}
use Rattle.sng_book.specs.declared.out.Out.{Out}
use Rattle.sng_book.specs.declared.decision.Decision.TheVariants.{Frame, Left}
use Rattle.sng_book.specs.declared.decision.Who.TheVariants as who
use Rattle.sng_book.specs.declared.outcome.Denial.TheVariants.{Form}
use Rattle.sng_book.specs.declared.outcome.FormDenial.TheVariants.{NoSession}
use Rattle.sng_book.specs.declared.outcome.Outcome.TheVariants.{Denied}
use Rattle.sng_book.specs.declared.out.Out.TheVariants.{Note}
use Rattle.sng_book.specs.declared.event.Event.TheVariants.{Datagram}
use Rattle.sng_history.specs.Causes.{Cause, ByConnect, cause_of}
use Rattle.sng_history.specs.State.{State, opening, after, state_of}
use Rattle.sng_history.specs.Lawful.{LawfulBy, LawfulRow, Lawful}
use Rattle.sng_history.proofs.ExampleIds.{s1_utf8, s1_chars, s2_utf8, s2_chars}
use Rattle.sng_promise.specs.Examples.{row}
use Rattle.sng_promise.specs.ExamplesClients.{one_listed, both_listed, s1, s2, home, away, connect_s1}
use Rattle.sng_promise.specs.ExamplesClients.{connect_s2, ping_s2, disconnect, lets_in, welcome, bye, s1_home}
use Rattle.sng_promise.specs.ExamplesClients.{not_listed, moves, takes_over, goes, pings, at_home}

pub home_one : Lawful opening (s1_home one_listed)
home_one = (
  (
    (tt, record { whole = refl; exits = refl; clients = tt }),
    record { whole = refl; exits = refl; clients = tt },
  ),
  record {
    whole = rw (s1_utf8, s1_chars) refl;
    exits = rw (s1_utf8, s1_chars) refl;
    clients = rw (s1_utf8, s1_chars) (record { fixed = refl }, tt);
  },
)

pub refused : Lawful opening not_listed
refused = (
  home_one,
  record {
    whole = rw (s1_utf8, s1_chars, s2_utf8, s2_chars) refl;
    exits = rw (s2_utf8, s2_chars) refl;
    clients = rw (s1_utf8, s1_chars, s2_utf8, s2_chars) (record { fixed = refl }, tt);
  },
)

home_both : Lawful opening (s1_home both_listed)
home_both = (
  (
    (tt, record { whole = refl; exits = refl; clients = tt }),
    record { whole = refl; exits = refl; clients = tt },
  ),
  record {
    whole = rw (s1_utf8, s1_chars) refl;
    exits = rw (s1_utf8, s1_chars) refl;
    clients = rw (s1_utf8, s1_chars) (record { fixed = refl }, tt);
  },
)

moved_s1 : Lawful opening (row (Datagram away connect_s1) (lets_in s1 ∷ bye home ∷ welcome away ∷ [])
    ∷ s1_home one_listed)
moved_s1 = (
  home_one,
  record {
    whole = rw (s1_utf8, s1_chars) refl;
    exits = rw (s1_utf8, s1_chars) refl;
    clients = rw (s1_utf8, s1_chars) (record { fixed = refl }, tt);
  },
)

pub moved : Lawful opening moves
moved = (
  moved_s1,
  record {
    whole = rw (s1_utf8, s1_chars) refl;
    exits = rw (s1_utf8, s1_chars) refl;
    clients = rw (s1_utf8, s1_chars) (record { fixed = refl }, tt);
  },
)

both_in : Lawful opening (row (Datagram away connect_s2) (lets_in s2 ∷ welcome away ∷ [])
    ∷ s1_home both_listed)
both_in = (
  home_both,
  record {
    whole = rw (s1_utf8, s1_chars, s2_utf8, s2_chars) refl;
    exits = rw (s2_utf8, s2_chars) refl;
    clients =
        rw (s1_utf8, s1_chars, s2_utf8, s2_chars)
        (record { fixed = refl }, (record { fixed = rw (s2_utf8, s2_chars) refl }, tt));
  },
)

-- the two CONNECTs as messages, and the states to which they lead
abbrev pub hello : List ℕ → Connect
hello id = record {
  flags =
      record { dup = false; qos = AtMostOnce; retain = false; will = false; clean = true; id_type = Normal };
  protocol_id = 1;
  duration = 60;
  client_id = id;
}

pub cause_s1 : (from : Address) → cause_of (Datagram from connect_s1) ≡ ByConnect from (hello s1)
cause_s1 from = rw (s1_utf8, s1_chars) refl

pub cause_s2 : (from : Address) → cause_of (Datagram from connect_s2) ≡ ByConnect from (hello s2)
cause_s2 from = rw (s2_utf8, s2_chars) refl

abbrev one_in : State
one_in =
    after (record opening { policy = both_listed; up = true }) (ByConnect home (hello s1))
    (lets_in s1 ∷ welcome home ∷ [])

abbrev two_in : State
two_in = after one_in (ByConnect away (hello s2)) (lets_in s2 ∷ welcome away ∷ [])

one_is : state_of opening (s1_home both_listed) ≡ one_in
one_is =
    ap (λ c. after (record opening { policy = both_listed; up = true }) c (lets_in s1 ∷ welcome home ∷ []))
    (cause_s1 home)

two_is : state_of opening (row (Datagram away connect_s2) (lets_in s2 ∷ welcome away ∷ [])
    ∷ s1_home both_listed) ≡ two_in
two_is =
    ap (λ s. after s (cause_of (Datagram away connect_s2)) (lets_in s2 ∷ welcome away ∷ [])) one_is
    ∙ ap (λ c. after one_in c (lets_in s2 ∷ welcome away ∷ [])) (cause_s2 away)

pub came : (s t : State) (e : Event) (c : Cause) (outs : List Out) → s ≡ t → cause_of e ≡ c → LawfulBy t c outs
    → LawfulRow s e outs
came s t e c outs state cause l =
    subst (λ t. LawfulBy t (cause_of e) outs) (sym state) (subst (λ c. LawfulBy t c outs) (sym cause) l)

pub taken_over : Lawful opening takes_over
taken_over = (
  both_in,
  came (state_of opening (row (Datagram away connect_s2) (lets_in s2 ∷ welcome away ∷ [])
      ∷ s1_home both_listed)) two_in (Datagram away connect_s1) (ByConnect away (hello s1))
      (lets_in s1 ∷ bye home ∷ Note (Left s2) ∷ welcome away ∷ []) two_is (cause_s1 away)
      (record {
        whole = refl;
        exits = refl;
        clients = (record { fixed = refl }, (record { fixed = refl }, tt));
      }),
)

pub gone : Lawful opening goes
gone = (
  home_one,
  record {
    whole = rw (s1_utf8, s1_chars) refl;
    exits = refl;
    clients = rw (s1_utf8, s1_chars) (record { fixed = refl }, tt);
  },
)

pinged_s2 : Lawful opening (row (Datagram home ping_s2)
    (Note (Frame (who.Client s1) (Denied (Form NoSession))) ∷ bye home ∷ []) ∷ s1_home one_listed)
pinged_s2 = (
  home_one,
  record {
    whole = rw (s1_utf8, s1_chars, s2_utf8, s2_chars) refl;
    exits = rw (s2_utf8, s2_chars) refl;
    clients = rw (s1_utf8, s1_chars, s2_utf8, s2_chars) (record { fixed = refl }, tt);
  },
)

pub pinged : Lawful opening pings
pinged = (
  pinged_s2,
  record {
    whole = rw (s1_utf8, s1_chars, s2_utf8, s2_chars) refl;
    exits = refl;
    clients = rw (s1_utf8, s1_chars, s2_utf8, s2_chars) (record { fixed = refl }, tt);
  },
)

-- ---- rows that may not come while `s1` is at home

-- another client is let in there, and the first is not told to leave
pub not_both : LawfulRow at_home (Datagram home connect_s2) (lets_in s2 ∷ welcome home ∷ []) → ⊥
not_both l = let e = rw (s1_utf8, s1_chars, s2_utf8, s2_chars) at l.clients in let f = e.0.fixed in cc

-- the client comes from elsewhere, and the place where it was is not answered
pub not_unanswered : LawfulRow at_home (Datagram away connect_s1) (lets_in s1 ∷ welcome away ∷ []) → ⊥
not_unanswered l = let e = rw (s1_utf8, s1_chars) at l.whole in cc

-- it takes its leave, and that is not noted
pub not_unnoted_leave : LawfulRow at_home (Datagram home disconnect) (bye home ∷ []) → ⊥
not_unnoted_leave l = let e = rw (s1_utf8, s1_chars) at l.clients in let f = e.0.fixed in cc

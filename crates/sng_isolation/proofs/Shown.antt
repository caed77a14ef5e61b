-- The datagrams of the worked examples, read.
use Rattle.std.proofs.Common.{◌≡◌, true, [], ◌∷◌, refl}
use Rattle.sng_book.specs.declared.event.Event.TheVariants.{Datagram}
use Rattle.sng_history.specs.Causes.{cause_of}
use Rattle.sng_history.proofs.ExampleIds.{s1_utf8, s1_chars, s2_utf8, s2_chars}
use Rattle.sng_isolation.specs.Examples.{s1, home, connect_s2, comes, others_come, first_alone, with_another}
use Rattle.sng_isolation.specs.Isolation.{is_stray, LookAlike}
use Rattle.sng_isolation.specs.Own.{own_of}

pub own_home : own_of s1 comes others_come ≡ home ∷ []
own_home = rw (s1_utf8, s1_chars, s2_utf8, s2_chars) refl

pub strays_home : is_stray s1 (home ∷ []) (cause_of (Datagram home connect_s2)) ≡ true
strays_home = rw (s2_utf8, s2_chars) refl

pub alike : LookAlike s1 first_alone with_another
alike = record {
  views = rw (s1_utf8, s1_chars, s2_utf8, s2_chars) refl;
  harmless = rw (s1_utf8, s1_chars, s2_utf8, s2_chars)
      ((tt, record { granted = refl; straight = refl }), record { granted = refl; straight = refl });
  room = ((tt, refl), refl);
  other_room = (((tt, refl), refl), refl);
}

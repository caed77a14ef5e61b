-- What a client asked for, and what follows where it was allowed.
use Rattle.std.proofs.Common.{◌≡◌, ℕ, ◌<◌, List, ◌++◌, ap, sym, ◌∙◌, length}
use Rattle.std.specs.Prelude.{Option, None}
use Rattle.std.proofs.lemmas.Bool.{lt-ltb}
use Rattle.std.proofs.lemmas.List.{append-nil}
use Rattle.sng_grants.specs.declared.policy.Policy.{Policy}
use Rattle.sng_frames.specs.declared.messages.publish.Publish.{Publish}
use Rattle.sng_outbox.specs.declared.item.Publication.{Publication}
use Rattle.sng_history.specs.State.{State}
use Rattle.sng_history.specs.Clients.{Client}
use Rattle.sng_history.specs.Links.{Link}
use Rattle.sng_core.specs.declared.verdict.Judged.{Judged}
use Rattle.sng_core.specs.Forms.{client_at, register_judged, told_at, register_next, items_of}
use Rattle.sng_core.specs.Receiving.{once_judged, once_asked, once_moved, first_moved, first_next}
use Rattle.sng_sessions.specs.Moving.{moved_at}
use Rattle.sng_core.proofs.Found.{moved_same, read_at}

-- ---- a REGISTER

-- the client that is moved is the one that was judged
pub told_judged : (policy : Policy) (clock : ℕ) (text : List ℕ) (xs : List Client) (place : ℕ) (j : Judged)
    → place < length xs → j ≡ register_judged policy (client_at xs place) text
    → moved_at place (told_at clock j.name j.outcome) xs ≡ moved_at place (register_next policy clock text) xs
told_judged policy clock text xs place j within is =
    let x = client_at xs place in
    moved_same (told_at clock j.name j.outcome) (register_next policy clock text) xs place x
    (read_at xs place (lt-ltb place (length xs) within)) (ap (λ k. told_at clock k.name k.outcome x) is)

-- ---- a PUBLISH at QoS 2

abbrev pub joined_link : Link → Option Publication → Link
joined_link link asked = record link { waiting = link.waiting ++ items_of asked }

-- one that adds nothing
pub joined_none : (link : Link) → link ≡ joined_link link None
joined_none link = λ i. record link { waiting = sym (append-nil link.waiting) i }

-- what joins what waits, and the client that is moved, are those that were judged
pub first_made : (s : State) (p : Publish) (place : ℕ) (j : Judged) (asked : Option Publication)
    (link : Link) (clients : List Client)
    → place < length s.clients → j ≡ once_judged s p (client_at s.clients place)
    → asked ≡ once_asked p (client_at s.clients place) j
    → link ≡ joined_link s.link asked
    → clients ≡ moved_at place (once_moved s.clock p asked) s.clients
    → (let t : State = record s { link = link; clients = clients } in t) ≡ first_next s p place
first_made s p place j asked link clients inside is is_asked at_link at_clients =
    let x = client_at s.clients place in
    let asked_is : asked ≡ once_asked p x (once_judged s p x) = is_asked ∙ ap (once_asked p x) is in
    let moves =
    moved_same (once_moved s.clock p asked) (first_moved s p) s.clients place x
    (read_at s.clients place (lt-ltb place (length s.clients) inside))
    (ap (λ o. once_moved s.clock p o x) asked_is) in
    (λ i. record s {
      link = (at_link ∙ ap (joined_link s.link) asked_is) i;
      clients = (at_clients ∙ moves) i;
    })

-- Each message that is handed over or sent again, or whose name is announced, is judged by the policy in
-- force at that row, and so is each that the policy forbids: a part of what each note stands for.
use Rattle.std.proofs.Common.{ℕ, List, [], ◌∷◌}
use Rattle.sng_grants.specs.declared.policy.Policy.{Policy}
use Rattle.sng_book.specs.declared.decision.Decision.{Decision}
use Rattle.sng_book.specs.declared.decision.Decision.TheVariants as note
use Rattle.sng_book.specs.declared.outcome.Outcome.{Outcome}
use Rattle.sng_book.specs.declared.outcome.Outcome.TheVariants.{Allowed, Denied}
use Rattle.sng_book.specs.declared.out.Out.{Out}
use Rattle.sng_book.specs.declared.out.Out.TheVariants.{Send, Wire, Note}
use Rattle.sng_book.specs.declared.row.Row.{Row}
use Rattle.sng_history.specs.State.{opening}
use Rattle.sng_history.specs.Books.{LawfulBook}
use Rattle.sng_laws.specs.Views.{policy_in_force}
use Rattle.sng_laws.specs.LawsHanding.{IsJudged, AllJudged, EachHandJudged}
use Rattle.sng_laws.specs.LawsPromise.{MayHand, Stands, AllStand, EachStands}
use Rattle.sng_promise.proofs.BookLaws.{book_told}

hand_judged : (policy : Policy) (id name : List ℕ) (o : Outcome) → MayHand policy id name o
    → IsJudged policy (note.Hand id name o)
hand_judged policy id name Allowed may = may
hand_judged policy id name (Denied rule) may = may

said_judged : (policy : Policy) (said : Decision) → Stands policy said → IsJudged policy said
said_judged policy (note.Hand id name outcome) stands = hand_judged policy id name outcome stands
said_judged policy (note.Retry id name outcome) stands = stands
said_judged policy (note.Announce id name) stands = stands
said_judged policy (note.Connect client outcome) stands = tt
said_judged policy (note.Left client) stands = tt
said_judged policy (note.Register whom name outcome) stands = tt
said_judged policy (note.Publish whom name outcome) stands = tt
said_judged policy (note.Subscribe whom text outcome) stands = tt
said_judged policy (note.Unsubscribe whom text outcome) stands = tt
said_judged policy (note.Will whom name outcome) stands = tt
said_judged policy (note.Forward whom name outcome) stands = tt
said_judged policy (note.Again whom name outcome) stands = tt
said_judged policy (note.End client text outcome) stands = tt
said_judged policy (note.Lost client) stands = tt
said_judged policy note.Outbox stands = tt
said_judged policy (note.Frame whom outcome) stands = tt

all_judged : (policy : Policy) (outs : List Out) → AllStand policy outs → AllJudged policy outs
all_judged policy [] all = tt
all_judged policy (Note said ∷ outs) all = (said_judged policy said all.0, all_judged policy outs all.1)
all_judged policy (Send to datagram ∷ outs) all = all_judged policy outs all
all_judged policy (Wire packet ∷ outs) all = all_judged policy outs all

each_judged : (h : List Row) → EachStands h → EachHandJudged h
each_judged [] each = tt
each_judged (row ∷ h) each = (each_judged h each.0, all_judged (policy_in_force (row ∷ h)) row.outs each.1)

pub judged_law : (h : List Row) → LawfulBook opening h → EachHandJudged h
judged_law h book = each_judged h (book_told h book).stands

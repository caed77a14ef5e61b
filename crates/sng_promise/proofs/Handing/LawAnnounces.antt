-- Behind each note that announces a name its REGISTER goes out, and its id stands for the name: the client's
-- part of a row.
use Rattle.std.proofs.Common.{◌≡◌, ℕ, zero, suc, Bool, true, false, List, [], ◌∷◌, ◌++◌, refl, ap, sym, ◌∙◌}
use Rattle.std.proofs.Common.{subst, if◌then◌else◌}
use Rattle.std.specs.Prelude.{slice_get, Option, Some}
use Rattle.std.specs.List.{flat_map}
use Rattle.std.specs.Str.{bytes_eq}
use Rattle.sng_ids.specs.Ids.{id_for}
use Rattle.sng_queue.specs.Messages.{Message}
use Rattle.sng_frames.specs.declared.messages.subscribe.TopicRequest.{TopicRequest}
use Rattle.sng_book.specs.declared.decision.Decision.{Decision}
use Rattle.sng_book.specs.declared.decision.Decision.TheVariants as note
use Rattle.sng_book.specs.declared.out.Out.{Out}
use Rattle.sng_book.specs.declared.out.Out.TheVariants.{Send, Wire, Note}
use Rattle.sng_history.specs.Causes.{request_of}
use Rattle.sng_history.specs.Handing.{number_after}
use Rattle.sng_history.specs.Clients.{Around, Client, subscribe_of, is_author, is_drained, start_by, note_by}
use Rattle.sng_history.specs.Clients.{notes_by}
use Rattle.sng_history.specs.Standing.{Release}
use Rattle.sng_history.specs.Answers.{pong}
use Rattle.sng_history.specs.Whole.{frames_of, spell, answer, drained_outs, part}
use Rattle.sng_history.specs.Good.{Each}
use Rattle.sng_laws.specs.ViewsClients.{admits, with_name, names_by, id_told}
use Rattle.sng_laws.specs.LawsState.{OneMore}
use Rattle.sng_laws.specs.LawsAsks.{told_as}
use Rattle.sng_laws.specs.LawsNames.{IsNext, TellsSo, AllTell}
use Rattle.sng_history.proofs.Own.{same_self, same_means}
use Rattle.sng_history.proofs.Spelled.{About, AllAbout}
use Rattle.sng_history.proofs.Sent.{AllSent, frames_sent, answer_sent}
use Rattle.sng_promise.proofs.Clients.SeenNotes.{admitted_notes, names_notes}
use Rattle.sng_promise.proofs.Handing.SeenFollows.{View}
use Rattle.sng_promise.proofs.Handing.SeenHandingNotes.{view_by, Moved}
use Rattle.sng_promise.proofs.Names.OneToldMessages.{note_more}
use Rattle.sng_promise.proofs.Names.LawNames.{told_names}
use Rattle.sng_history.proofs.Booleans.{or_neither}

-- ---- outs behind outs

next_both : (names : List (List ℕ)) (name : List ℕ) (xs ys : List Out) → IsNext names name xs
    → IsNext names name (xs ++ ys)
next_both names name [] ys is = absurd is
next_both names name (Send to datagram ∷ xs) ys is = is
next_both names name (Note said ∷ xs) ys is = absurd is
next_both names name (Wire packet ∷ xs) ys is = absurd is

so_both : (told : List ℕ → List (List ℕ)) (said : Decision) (xs ys : List Out) → TellsSo told said xs
    → TellsSo told said (xs ++ ys)
so_both told (note.Announce client name) xs ys so = next_both (told client) name xs ys so
so_both told (note.Connect client outcome) xs ys so = tt
so_both told (note.Left client) xs ys so = tt
so_both told (note.Register whom name outcome) xs ys so = tt
so_both told (note.Publish whom name outcome) xs ys so = tt
so_both told (note.Subscribe whom filter outcome) xs ys so = tt
so_both told (note.Unsubscribe whom filter outcome) xs ys so = tt
so_both told (note.Will whom name outcome) xs ys so = tt
so_both told (note.Hand client name outcome) xs ys so = tt
so_both told (note.Retry client name outcome) xs ys so = tt
so_both told (note.Forward whom name outcome) xs ys so = tt
so_both told (note.Again whom name outcome) xs ys so = tt
so_both told (note.End client filter outcome) xs ys so = tt
so_both told (note.Lost client) xs ys so = tt
so_both told note.Outbox xs ys so = tt
so_both told (note.Frame whom outcome) xs ys so = tt

pub tell_both : (told : List ℕ → List (List ℕ)) (xs ys : List Out) → AllTell told xs → AllTell told ys
    → AllTell told (xs ++ ys)
tell_both told [] ys one two = two
tell_both told (Note said ∷ xs) ys one two = (so_both told said xs ys one.0, tell_both told xs ys one.1 two)
tell_both told (Send to datagram ∷ xs) ys one two = tell_both told xs ys one two
tell_both told (Wire packet ∷ xs) ys one two = tell_both told xs ys one two

pub tell_if : (told : List ℕ → List (List ℕ)) (b : Bool) (xs ys : List Out) → AllTell told xs
    → AllTell told ys
    → AllTell told (if b then xs else ys)
tell_if told true xs ys one two = one
tell_if told false xs ys one two = two

pub tell_flat : (told : List ℕ → List (List ℕ)) (f : Client → List Out) (xs : List Client)
    → Each (λ x. AllTell told (f x)) xs
    → AllTell told (flat_map f xs)
tell_flat told f [] each = tt
tell_flat told f (x ∷ xs) each = tell_both told (f x) (flat_map f xs) each.0 (tell_flat told f xs each.1)

-- what is sent alone announces nothing
pub tell_sent : (told : List ℕ → List (List ℕ)) (outs : List Out) → AllSent outs → AllTell told outs
tell_sent told [] sent = tt
tell_sent told (Send to datagram ∷ outs) sent = tell_sent told outs sent
tell_sent told (Note said ∷ outs) sent =
    (subst (λ n. TellsSo told n outs) (sym sent.0) tt, tell_sent told outs sent.1)
tell_sent told (Wire packet ∷ outs) sent = absurd sent

-- ---- an id that stands for a name goes on standing for it

got_more : (names more : List (List ℕ)) (place : ℕ) (name : List ℕ) → slice_get names place ≡ Some name
    → slice_get (names ++ more) place ≡ Some name
got_more [] more place name is = absurd cc
got_more (one ∷ names) more zero name is = is
got_more (one ∷ names) more (suc place) name is = got_more names more place name is

told_more : (names more : List (List ℕ)) (id : ℕ) (name : List ℕ) → told_as id names ≡ Some name
    → told_as id (names ++ more) ≡ Some name
told_more names more zero name is = absurd cc
told_more names more (suc place) name is = got_more names more place name is

stands_behind : (before after : List (List ℕ)) (id : ℕ) (name : List ℕ) → OneMore before after
    → told_as id before ≡ Some name
    → told_as id after ≡ Some name
stands_behind before after id name more is =
    subst (λ names. told_as id names ≡ Some name) (sym more.behind) (told_more before more.more id name is)

stays_told : (r : Option TopicRequest) (id : List ℕ) (notes : List Decision) (names : List (List ℕ)) (k : ℕ)
    (name : List ℕ) → admitted_notes id notes ≡ false → told_as k names ≡ Some name
    → told_as k (names_notes r id notes names) ≡ Some name
stays_told r id [] names k name none is = is
stays_told r id (said ∷ notes) names k name none is =
    let both = or_neither (admits id said) (admitted_notes id notes) none in
    stays_told r id notes (names_by r id said names) k name both.1
    (stands_behind names (names_by r id said names) k name (note_more r id said names both.0) is)

-- ---- the part of a client

-- what is told to the client, once these notes are made of it
abbrev pub Tellings : Around → (List ℕ → List (List ℕ)) → List ℕ → List Decision → View → Type 0
Tellings a told id notes v = told id ≡ names_notes (subscribe_of a.cause) id notes v.told

announced_so : (a : Around) (dropped : List Release) (told : List ℕ → List (List ℕ)) (id client name : List ℕ)
    (notes : List Decision) (v : View) (x : Client)
    → client ≡ id → id_for name x.ids ≡ id_told name v.told → admitted_notes id notes ≡ false
    → told id ≡ names_notes (subscribe_of a.cause) id notes (with_name (Some name) v.told)
    → IsNext (told client) name (frames_of a dropped x (note.Announce client name))
announced_so a dropped told id client name notes v x same is none tells = record {
  topic_id = id_for name x.ids;
  msg_id = number_after x.number;
  register = refl;
  stands = subst (λ k. told_as k (told client) ≡ Some name) (sym is)
      (subst (λ names. told_as (id_told name v.told) names ≡ Some name) (sym (ap told same ∙ tells))
      (stays_told (subscribe_of a.cause) id notes (with_name (Some name) v.told) (id_told name v.told) name
      none
      (told_names name v.told)));
}

-- a note of its own
own_client : (id client name : List ℕ) → About id (note.Announce client name) → client ≡ id
own_client id client name about = same_means client id (sym (about.of client) ∙ same_self client)

said_so : (a : Around) (dropped : List Release) (told : List ℕ → List (List ℕ)) (id : List ℕ)
    (due : List Message) (said : Decision) (notes : List Decision) (v : View) (x : Client)
    → Moved a id due (said ∷ notes) v x → About id said → admitted_notes id notes ≡ false
    → Tellings a told id (said ∷ notes) v
    → TellsSo told said (frames_of a dropped x said)
said_so a dropped told id due (note.Announce client name) notes v x moved about none tells =
    let same = own_client id client name about in
    let own : bytes_eq id client ≡ true = ap (bytes_eq id) same ∙ same_self id in
    announced_so a dropped told id client name notes v x same moved.0.turn.1 none
    (tells ∙ ap (λ b. names_notes (subscribe_of a.cause) id notes
    (if b then with_name (Some name) v.told else v.told)) own)
said_so a dropped told id due (note.Connect client outcome) notes v x moved about none tells = tt
said_so a dropped told id due (note.Left client) notes v x moved about none tells = tt
said_so a dropped told id due (note.Register whom name outcome) notes v x moved about none tells = tt
said_so a dropped told id due (note.Publish whom name outcome) notes v x moved about none tells = tt
said_so a dropped told id due (note.Subscribe whom filter outcome) notes v x moved about none tells = tt
said_so a dropped told id due (note.Unsubscribe whom filter outcome) notes v x moved about none tells = tt
said_so a dropped told id due (note.Will whom name outcome) notes v x moved about none tells = tt
said_so a dropped told id due (note.Hand client name outcome) notes v x moved about none tells = tt
said_so a dropped told id due (note.Retry client name outcome) notes v x moved about none tells = tt
said_so a dropped told id due (note.Forward whom name outcome) notes v x moved about none tells = tt
said_so a dropped told id due (note.Again whom name outcome) notes v x moved about none tells = tt
said_so a dropped told id due (note.End client filter outcome) notes v x moved about none tells = tt
said_so a dropped told id due (note.Lost client) notes v x moved about none tells = tt
said_so a dropped told id due note.Outbox notes v x moved about none tells = tt
said_so a dropped told id due (note.Frame whom outcome) notes v x moved about none tells = tt

pub spell_tells : (a : Around) (dropped : List Release) (told : List ℕ → List (List ℕ)) (id : List ℕ)
    (due : List Message) (notes : List Decision) (v : View) (x : Client)
    → Moved a id due notes v x → AllAbout id notes → admitted_notes id notes ≡ false
    → Tellings a told id notes v
    → AllTell told (spell a dropped x notes)
spell_tells a dropped told id due [] v x moved about none tells = tt
spell_tells a dropped told id due (said ∷ notes) v x moved about none tells =
    let both = or_neither (admits id said) (admitted_notes id notes) none in
    let frames = frames_of a dropped x said in
    let rest = spell a dropped (note_by a said x) notes in (
      so_both told said frames rest
          (said_so a dropped told id due said notes v x moved about.0 both.1 tells),
      tell_both told frames rest (tell_sent told frames (frames_sent a dropped x said))
          (spell_tells a dropped told id due notes (view_by a id due said v) (note_by a said x) moved.1
          about.1
          both.1 tells),
    )

pub part_tells : (a : Around) (dropped : List Release) (told : List ℕ → List (List ℕ)) (id : List ℕ)
    (due : List Message) (notes : List Decision) (v : View) (x : Client)
    → Moved a id due notes v (start_by a x) → AllAbout id notes → admitted_notes id notes ≡ false
    → Tellings a told id notes v
    → AllTell told (part a dropped notes x)
part_tells a dropped told id due notes v x moved about none tells =
    let own = answer (request_of a.cause) x in
    let y = start_by a x in
    let z = notes_by a notes y in
    tell_both told (if is_author a.cause x then own else []) (spell a dropped y notes ++ drained_outs z)
    (tell_if told (is_author a.cause x) own [] (tell_sent told own (answer_sent (request_of a.cause) x)) tt)
    (tell_both told (spell a dropped y notes) (drained_outs z)
    (spell_tells a dropped told id due notes v y moved about none tells)
    (tell_if told (is_drained z) (pong z.address ∷ []) [] tt tt))

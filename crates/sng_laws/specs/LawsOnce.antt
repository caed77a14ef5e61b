-- Each publish of a client at QoS 2 counts once (MQTT-SN 1.2, 5.4.14 and 6.6; MQTT 3.1.1, 4.3.3): what becomes
-- of the first that is allowed, of those before it and of those behind it, until its MsgId is closed.
use Rattle.std.specs.Prelude.{ℕ, ◌≡◌, Bool, true, false, List, [], ◌∷◌, Option, Some}
use Rattle.std.specs.List.{list_any}
use Rattle.sng_text.specs.declared.qos.Qos.TheVariants.{AtLeastOnce}
use Rattle.sng_frames.specs.declared.messages.publish.Publish.{Publish}
use Rattle.sng_outbox.specs.declared.origin.Origin.TheVariants as origin
use Rattle.sng_book.specs.declared.address.Address.{Address}
use Rattle.sng_book.specs.declared.decision.Decision.TheVariants as note
use Rattle.sng_book.specs.declared.decision.Who.TheVariants as who
use Rattle.sng_book.specs.declared.outcome.Denial.{Denial}
use Rattle.sng_book.specs.declared.outcome.Outcome.{Outcome}
use Rattle.sng_book.specs.declared.outcome.Outcome.TheVariants.{Allowed, Denied}
use Rattle.sng_book.specs.declared.out.Out.{Out}
use Rattle.sng_book.specs.declared.out.Out.TheVariants.{Send, Wire, Note}
use Rattle.sng_book.specs.declared.row.Row.{Row}
use Rattle.sng_laws.specs.ViewsMessages.{Message, Releases, message_at}
use Rattle.sng_laws.specs.ViewsLink.{publication, asked_with}
use Rattle.sng_laws.specs.ViewsOpenIds.{is_open, open_of}
use Rattle.sng_laws.specs.LawsAnswers.{code_for}
use Rattle.sng_laws.specs.LawsAsks.{pubrec_to, puback_to}
use Rattle.sng_laws.specs.LawsReached.{type_octet, is_type}

-- no MsgId stands twice: since it was closed last, one publish with it was allowed at most
abbrev pub EachOnce : List ℕ → Type 0
EachOnce [] = Unit {0}
EachOnce (number ∷ numbers) = (is_open number numbers ≡ false) × EachOnce numbers

-- a repeat is answered by PUBREC alone: it asks the broker for nothing, and what is open stays so
pub record IsRepeat (h : List Row) (row : Row) (from : Address) (id : List ℕ) (p : Publish) : Type 0 where
  pub answer : row.outs ≡ pubrec_to from p.msg_id ∷ []
  pub asks : asked_with row.event h row.outs ≡ []
  pub still : open_of id (row ∷ h) ≡ open_of id h

-- the first that is allowed is noted so, and answered by PUBREC: it waits for the broker, at QoS 1, and its
-- MsgId, which was not open, is
pub record IsTaken (h : List Row) (row : Row) (from : Address) (id : List ℕ) (p : Publish) : Type 0 where
  pub name : List ℕ
  pub answer : row.outs
      ≡ Note (note.Publish (who.Client id) (Some name) Allowed) ∷ pubrec_to from p.msg_id ∷ []
  pub asks : asked_with row.event h row.outs ≡ publication (origin.Client id) name AtLeastOnce p ∷ []
  pub fresh : is_open p.msg_id (open_of id h) ≡ false
  pub opens : open_of id (row ∷ h) ≡ p.msg_id ∷ open_of id h

-- one that is denied is noted so, and answered by PUBACK: it asks for nothing, and opens nothing
pub record IsDenied (h : List Row) (row : Row) (from : Address) (id : List ℕ) (p : Publish) (rule : Denial)
    : Type 0 where
  pub name : Option (List ℕ)
  pub answer : row.outs
      ≡ Note (note.Publish (who.Client id) name (Denied rule)) ∷ puback_to from p (code_for rule) ∷ []
  pub asks : asked_with row.event h row.outs ≡ []
  pub still : open_of id (row ∷ h) ≡ open_of id h

-- each publish at QoS 2 of the client at an address is one of these
abbrev pub IsCounted : List Row → Row → Address → List ℕ → Publish → Bool → Outcome → Type 0
IsCounted h row from id p true outcome = IsRepeat h row from id p
IsCounted h row from id p false Allowed = IsTaken h row from id p
IsCounted h row from id p false (Denied rule) = IsDenied h row from id p rule

-- ---- PUBCOMP

abbrev pub is_pubcomp : Out → Bool
is_pubcomp (Send to datagram) = is_type 14 (type_octet datagram)
is_pubcomp (Wire packet) = false
is_pubcomp (Note said) = false

-- the message is a PUBREL
abbrev pub is_release : Option Message → Bool
is_release (Some (Releases number)) = true
is_release other = false

-- PUBCOMP goes out in the row of a PUBREL alone
abbrev pub EachCompletes : List Row → Type 0
EachCompletes [] = Unit {0}
EachCompletes (row ∷ earlier) =
    EachCompletes earlier
    × (list_any is_pubcomp row.outs ≡ true → is_release (message_at row.event) ≡ true)

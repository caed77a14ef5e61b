-- A type and its octet, from one to the other and back.
use Rattle.std.proofs.Common.{◌≡◌, ℕ, ◌==◌, Bool, true, false, List, [], ◌∷◌, Option, Some, None, cond, refl}
use Rattle.std.proofs.Common.{ap, sym, ◌∙◌, find}
use Rattle.std.proofs.lemmas.Bool.{eqb-true}
use Rattle.sng_frames.specs.declared.message_type.MessageType.{MessageType}
use Rattle.sng_frames.specs.declared.message_type.MessageType.TheVariants as types
use Rattle.sng_frames.specs.MessageTypes.{octet_of, all_types, type_of_octet}

-- the octet of a type is that of no other
pub type_of_octet-octet_of : (t : MessageType) → type_of_octet (octet_of t) ≡ Some t
type_of_octet-octet_of types.Connect = refl
type_of_octet-octet_of types.ConnectAck = refl
type_of_octet-octet_of types.WillTopicRequest = refl
type_of_octet-octet_of types.WillTopic = refl
type_of_octet-octet_of types.WillMessageRequest = refl
type_of_octet-octet_of types.WillMessage = refl
type_of_octet-octet_of types.Register = refl
type_of_octet-octet_of types.RegisterAck = refl
type_of_octet-octet_of types.Publish = refl
type_of_octet-octet_of types.PublishAck = refl
type_of_octet-octet_of types.PublishComplete = refl
type_of_octet-octet_of types.PublishReceived = refl
type_of_octet-octet_of types.PublishRelease = refl
type_of_octet-octet_of types.Subscribe = refl
type_of_octet-octet_of types.SubscribeAck = refl
type_of_octet-octet_of types.Unsubscribe = refl
type_of_octet-octet_of types.UnsubscribeAck = refl
type_of_octet-octet_of types.PingRequest = refl
type_of_octet-octet_of types.PingResponse = refl
type_of_octet-octet_of types.Disconnect = refl
type_of_octet-octet_of types.WillTopicUpdate = refl
type_of_octet-octet_of types.WillTopicResponse = refl
type_of_octet-octet_of types.WillMessageUpdate = refl
type_of_octet-octet_of types.WillMessageResponse = refl

found-tail : (octet : ℕ) (b : Bool) (first t : MessageType) (rest : Option MessageType)
    → (octet == octet_of first) ≡ b
    → (rest ≡ Some t → octet ≡ octet_of t) → cond b (Some first) rest ≡ Some t → octet ≡ octet_of t
found-tail octet true first t rest test later is =
    let same : first ≡ t = cc in
    eqb-true octet (octet_of first) test ∙ ap octet_of same
found-tail octet false first t rest test later is = later is

found : (octet : ℕ) (ts : List MessageType) (t : MessageType) → find (λ u. octet == octet_of u) ts ≡ Some t
    → octet ≡ octet_of t
found octet [] t is = cc
found octet (first ∷ ts) t is =
    found-tail octet (octet == octet_of first) first t (find (λ u. octet == octet_of u) ts) refl
    (found octet ts t) is

-- a type that an octet is has that octet
pub octet_of-type_of_octet : (octet : ℕ) (t : MessageType) → type_of_octet octet ≡ Some t → octet ≡ octet_of t
octet_of-type_of_octet octet t is = found octet all_types t is

-- a type's octet is none that is no type
pub octet_of-other : (t : MessageType) (n : ℕ) (b : Bool) → type_of_octet n ≡ None → (octet_of t == n) ≡ b
    → b ≡ false
octet_of-other t n false none test = refl
octet_of-other t n true none test =
    let same : octet_of t ≡ n = eqb-true (octet_of t) n test in
    let equal : Some t ≡ None = sym (type_of_octet-octet_of t) ∙ ap type_of_octet same ∙ none in
    cc

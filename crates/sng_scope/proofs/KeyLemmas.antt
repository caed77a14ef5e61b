-- The keys of a policy: client ids, addresses of four octets, and topic ids that are not reserved.
use Rattle.std.proofs.Common.{◌≡◌, ℕ, Bool, true, false, cond, List, Option, Some, None, ok_or, Ok, Err, IfOk}
use Rattle.std.proofs.Common.{IfSome, All, nat_cmp, refl, sym, subst}
use Rattle.std.proofs.lemmas.Map.Views.{All-keys-insert_entry}
use Rattle.std.specs.BTreeMap.{insert_entry}
use Rattle.std.specs.Map.{keys_of}
use Rattle.sng_text.specs.ClientIds.{is_client_id}
use Rattle.sng_text.specs.Ipv4.{IsAddress, ipv4_of}
use Rattle.sng_text.proofs.Ipv4Lemmas.{ipv4_of-octets}
use Rattle.sng_grants.specs.Topics.{IsTopicId}
use Rattle.sng_scope.specs.Numerals.{topic_id_of}
use Rattle.sng_scope.specs.Policies.{client_of}
use Rattle.sng_scope.specs.declared.fault.PolicyFault.{PolicyFault}
use Rattle.sng_scope.specs.declared.fault.PolicyFault.TheVariants.{BadClientId, BadSource, BadTopicId}
use Rattle.sng_scope.proofs.LawLemmas.{to_decimal}

tested_client : (b : Bool) (text : List ℕ) → is_client_id text ≡ b
    → IfOk (cond b (Ok text) (Err BadClientId)) (λ client. is_client_id client ≡ true)
tested_client true text is = is
tested_client false text is = tt

pub client_of-client : (text : List ℕ) → IfOk (client_of text) (λ client. is_client_id client ≡ true)
client_of-client text = tested_client (is_client_id text) text refl

-- what was found, or the fault
or_fault : {A : Type 0} (o : Option A) (fault : PolicyFault) (P : A → Type 0) → IfSome o P
    → IfOk (ok_or o fault) P
or_fault None fault P h = tt
or_fault (Some a) fault P h = h

some_id : (text : List ℕ) (o : Option ℕ) → topic_id_of text ≡ o → IfSome o IsTopicId
some_id text None is = tt
some_id text (Some id) is = let d = to_decimal text id is in (d.0, d.1)

pub topic_id_of-id : (text : List ℕ) → IfOk (ok_or (topic_id_of text) BadTopicId) IsTopicId
topic_id_of-id text = or_fault (topic_id_of text) BadTopicId IsTopicId (some_id text (topic_id_of text) refl)

pub ipv4_of-address : (text : List ℕ) → IfOk (ok_or (ipv4_of text) BadSource) IsAddress
ipv4_of-address text = or_fault (ipv4_of text) BadSource IsAddress (ipv4_of-octets text)

is_id : (text : List ℕ) (id : ℕ) → topic_id_of text ≡ Some id → IsTopicId id
is_id text id is = let d = to_decimal text id is in (d.0, d.1)

-- one more topic, whose id was read
pub ids_more : (names new : List (ℕ × List ℕ)) (text : List ℕ) (id : ℕ) (topic : List ℕ)
    → new ≡ insert_entry nat_cmp names id topic → topic_id_of text ≡ Some id → All IsTopicId (keys_of names)
    → All IsTopicId (keys_of new)
ids_more names new text id topic put is before =
    subst (λ (es : List (ℕ × List ℕ)). All IsTopicId (keys_of es)) (sym put)
    (All-keys-insert_entry nat_cmp id topic IsTopicId names before (is_id text id is))

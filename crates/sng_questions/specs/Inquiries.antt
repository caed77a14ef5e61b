-- Questions to a policy: the words that are one.
use Rattle.std.specs.Prelude.{ℕ, List, if◌then◌else◌, ok_or, Result, Ok, Err, codes}
use Rattle.std.specs.Str.{bytes_eq}
use Rattle.sng_text.specs.ClientIds.{is_client_id}
use Rattle.sng_text.specs.Ipv4.{ipv4_of}
use Rattle.sng_text.specs.Texts.{is_filter, is_name}
use Rattle.sng_scope.specs.Steps.{◌>>=◌}
use Rattle.sng_questions.specs.declared.inquiry.Action.{Action}
use Rattle.sng_questions.specs.declared.inquiry.Action.TheVariants as actions
use Rattle.sng_questions.specs.declared.inquiry.Inquiry.{Inquiry}
use Rattle.sng_questions.specs.declared.inquiry.Inquiry.TheVariants as inquiries
use Rattle.sng_questions.specs.declared.inquiry.InquiryFault.{InquiryFault}
use Rattle.sng_questions.specs.declared.inquiry.InquiryFault.TheVariants as faults

abbrev pub action_of : List ℕ → Result Action InquiryFault
action_of word =
    if bytes_eq word (codes "publish")
    then Ok actions.Publish
    else (if bytes_eq word (codes "receive")
    then Ok actions.Receive
    else (if bytes_eq word (codes "subscribe") then Ok actions.Subscribe else Err faults.Action))

abbrev pub client_of : List ℕ → Result (List ℕ) InquiryFault
client_of text = if is_client_id text then Ok text else Err faults.Client

abbrev pub name_of : List ℕ → Result (List ℕ) InquiryFault
name_of text = if is_name text then Ok text else Err faults.Name

abbrev pub filter_of : List ℕ → Result (List ℕ) InquiryFault
filter_of text = if is_filter text then Ok text else Err faults.Filter

-- what a client asks by the action
abbrev pub inquiry_by : Action → List ℕ → List ℕ → Result Inquiry InquiryFault
inquiry_by actions.Publish client object = name_of object >>= (λ name. Ok (inquiries.Publish client name))
inquiry_by actions.Receive client object = name_of object >>= (λ name. Ok (inquiries.Receive client name))
inquiry_by actions.Subscribe client object =
    filter_of object >>= (λ filter. Ok (inquiries.Subscribe client filter))

-- the question of `CLIENT ACTION NAME`
abbrev pub client_inquiry : List ℕ → List ℕ → List ℕ → Result Inquiry InquiryFault
client_inquiry client action object = do
  asked ← action_of action
  found ← client_of client
  inquiry_by asked found object

-- what a source asks: it publishes, and nothing else
abbrev pub source_by : Action → List ℕ → List ℕ → Result Inquiry InquiryFault
source_by actions.Publish source name = do
  ip ← ok_or (ipv4_of source) faults.Source
  found ← name_of name
  Ok (inquiries.SourcePublish ip found)
source_by actions.Receive source name = Err faults.Action
source_by actions.Subscribe source name = Err faults.Action

-- the question of `--source IP ACTION NAME`
abbrev pub source_inquiry : List ℕ → List ℕ → List ℕ → Result Inquiry InquiryFault
source_inquiry source action name = action_of action >>= (λ asked. source_by asked source name)

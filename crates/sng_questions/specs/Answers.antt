-- What is printed of a question to a policy, and how the command comes out.
use Rattle.std.specs.Prelude.{ℕ, List, ◌++◌, Result, Ok, Err, codes}
use Rattle.sng_grants.specs.Ends.{in_force}
use Rattle.sng_grants.specs.declared.policy.Policy.{Policy}
use Rattle.sng_scope.specs.declared.fault.PolicyFault.{PolicyFault}
use Rattle.sng_policy.specs.Grants.{publish_grant, receive_grant, source_grant, subscribe_grant}
use Rattle.sng_policy.specs.declared.grant.NameGrant.{NameGrant}
use Rattle.sng_policy.specs.declared.grant.NameGrant.TheVariants as on_name
use Rattle.sng_policy.specs.declared.grant.FilterGrant.{FilterGrant}
use Rattle.sng_policy.specs.declared.grant.FilterGrant.TheVariants as on_filter
use Rattle.sng_book.specs.Printing.{name_text}
use Rattle.sng_script.specs.Refused.{refused_text}
use Rattle.sng_questions.specs.declared.inquiry.Inquiry.{Inquiry}
use Rattle.sng_questions.specs.declared.inquiry.Inquiry.TheVariants as inquiries
use Rattle.sng_questions.specs.declared.ruling.Ruling.{Ruling}
use Rattle.sng_questions.specs.declared.ruling.Ruling.TheVariants.{Allowed, NoScope, UnknownSource}
use Rattle.sng_questions.specs.declared.ruling.Ruling.TheVariants.{MissingPub, MissingSub, Uncovered}
use Rattle.sng_script.specs.declared.status.Status.{Status}
use Rattle.sng_script.specs.declared.status.Status.TheVariants as statuses

-- what is said to a client that asks to publish
abbrev pub publish_ruling : NameGrant → Ruling
publish_ruling on_name.Allowed = Allowed
publish_ruling on_name.Unlisted = NoScope
publish_ruling on_name.Missing = MissingPub

-- to a client that asks to receive
abbrev pub receive_ruling : NameGrant → Ruling
receive_ruling on_name.Allowed = Allowed
receive_ruling on_name.Unlisted = NoScope
receive_ruling on_name.Missing = MissingSub

-- to a source that asks to publish
abbrev pub source_ruling : NameGrant → Ruling
source_ruling on_name.Allowed = Allowed
source_ruling on_name.Unlisted = UnknownSource
source_ruling on_name.Missing = MissingPub

-- to a client that asks to subscribe
abbrev pub subscribe_ruling : FilterGrant → Ruling
subscribe_ruling on_filter.Allowed = Allowed
subscribe_ruling on_filter.Unlisted = NoScope
subscribe_ruling (on_filter.Uncovered gap) = Uncovered gap

-- what the policy says to the question
abbrev pub ruling_of : Policy → Inquiry → Ruling
ruling_of policy (inquiries.Publish client name) = publish_ruling (publish_grant policy client name)
ruling_of policy (inquiries.Receive client name) = receive_ruling (receive_grant policy client name)
ruling_of policy (inquiries.Subscribe client filter) = subscribe_ruling (subscribe_grant policy client filter)
ruling_of policy (inquiries.SourcePublish source name) = source_ruling (source_grant policy source name)

-- the line of a subscription that is denied for this gap
abbrev pub gap_text : List ℕ → List ℕ
gap_text gap = codes "denied Uncovered " ++ (name_text gap ++ codes "\n")

-- the line of what is said, with its line feed
abbrev pub ruling_text : Ruling → List ℕ
ruling_text Allowed = codes "allowed\n"
ruling_text NoScope = codes "denied NoScope\n"
ruling_text UnknownSource = codes "denied UnknownSource\n"
ruling_text MissingPub = codes "denied MissingPub\n"
ruling_text MissingSub = codes "denied MissingSub\n"
ruling_text (Uncovered gap) = gap_text gap

abbrev pub ruling_status : Ruling → Status
ruling_status Allowed = statuses.Done
ruling_status NoScope = statuses.Denied
ruling_status UnknownSource = statuses.Denied
ruling_status MissingPub = statuses.Denied
ruling_status MissingSub = statuses.Denied
ruling_status (Uncovered gap) = statuses.Denied

-- the line for a question to what a text says at a clock
abbrev pub may_text : Result Policy PolicyFault → ℕ → Inquiry → List ℕ
may_text (Ok policy) clock inquiry = ruling_text (ruling_of (in_force clock policy) inquiry)
may_text (Err fault) clock inquiry = refused_text fault

abbrev pub may_status : Result Policy PolicyFault → ℕ → Inquiry → Status
may_status (Ok policy) clock inquiry = ruling_status (ruling_of (in_force clock policy) inquiry)
may_status (Err fault) clock inquiry = statuses.Unreadable

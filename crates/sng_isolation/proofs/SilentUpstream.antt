-- What a packet of the broker lets out beside the notes of clients, and a PINGREQ that finds no place, is
-- nobody's.
use Rattle.std.proofs.Common.{◌≡◌, ℕ, Bool, true, false, List, [], ◌∷◌, ◌++◌, sym, ◌∙◌}
use Rattle.std.proofs.Common.{if◌then◌else◌}
use Rattle.std.specs.Prelude.{Option, Some, None}
use Rattle.sng_grants.specs.Limits.{Limits}
use Rattle.sng_text.specs.Texts.{is_name}
use Rattle.sng_book.specs.declared.address.Address.{Address}
use Rattle.sng_book.specs.declared.decision.Decision.TheVariants as note
use Rattle.sng_book.specs.declared.decision.Who.TheVariants as who
use Rattle.sng_book.specs.declared.outcome.Denial.TheVariants.{Form}
use Rattle.sng_book.specs.declared.outcome.FormDenial.TheVariants.{BadName}
use Rattle.sng_book.specs.declared.outcome.Outcome.TheVariants.{Denied}
use Rattle.sng_book.specs.declared.out.Out.{Out}
use Rattle.sng_book.specs.declared.out.Out.TheVariants.{Note}
use Rattle.sng_book.specs.Traces.{trace_of}
use Rattle.sng_history.specs.Links.{Link}
use Rattle.sng_history.specs.Packets.{Answer, Delivers, Acknowledges, Grants, Refuses, Confirms, Strange}
use Rattle.sng_history.specs.Packets.{answer_outs, has_place, owed, dropped}
use Rattle.sng_history.specs.Ticking.{is_ping_due, ping_dropped}
use Rattle.sng_history.proofs.SaysUpstream.{mute_packet, mute_ping}
use Rattle.sng_isolation.proofs.Silent.{Silent, AllOff, silent_off}
use Rattle.sng_isolation.proofs.Spelling.{both_same}

misnamed_off : (own : List Address) (good : Bool) (outs : List Out) → AllOff own outs
    → AllOff own ((if good then [] else Note (note.Frame who.Broker (Denied (Form BadName))) ∷ []) ++ outs)
misnamed_off own true outs all = all
misnamed_off own false outs all = all

dropped_off : (own : List Address) (room : Bool) (packet_id : Option ℕ) → AllOff own (dropped room packet_id)
dropped_off own room None = tt
dropped_off own true (Some packet_id) = tt
dropped_off own false (Some packet_id) = tt

packet_off : (limits : Limits) (own : List Address) (up : Bool) (link : Link) (a : Answer)
    → AllOff own (answer_outs limits up link a)
packet_off limits own up link (Delivers p) =
    misnamed_off own (is_name p.name) (dropped (has_place limits link) (owed up p))
    (dropped_off own (has_place limits link) (owed up p))
packet_off limits own up link (Acknowledges packet_id) = tt
packet_off limits own up link (Grants packet_id) = tt
packet_off limits own up link (Refuses packet_id) = tt
packet_off limits own up link Confirms = tt
packet_off limits own up link Strange = tt

pub silent_packet : (limits : Limits) (id : List ℕ) (own : List Address) (up : Bool) (link : Link) (a : Answer)
    → Silent id own (answer_outs limits up link a)
silent_packet limits id own up link a =
    silent_off id own (answer_outs limits up link a) (packet_off limits own up link a)
    ((mute_packet limits up link a).notes id)
    (mute_packet limits up link a).exits

ping_off : (own : List Address) (due room : Bool)
    → AllOff own (if due then (if room then [] else Note note.Outbox ∷ []) else [])
ping_off own true true = tt
ping_off own true false = tt
ping_off own false room = tt

pub silent_ping : (limits : Limits) (id : List ℕ) (own : List Address) (up : Bool) (link : Link) (clock : ℕ)
    → Silent id own (ping_dropped limits up link clock)
silent_ping limits id own up link clock =
    silent_off id own (ping_dropped limits up link clock)
    (ping_off own (is_ping_due up link clock) (has_place limits link))
    ((mute_ping limits up link clock).notes id) (mute_ping limits up link clock).exits

-- silent outs behind make no difference
pub behind_same : (id : List ℕ) (own : List Address) (xs ys us vs : List Out)
    → trace_of id own xs ≡ trace_of id own us → Silent id own ys → Silent id own vs
    → trace_of id own (xs ++ ys) ≡ trace_of id own (us ++ vs)
behind_same id own xs ys us vs same one two = both_same id own xs ys us vs same (one ∙ sym two)

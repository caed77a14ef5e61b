-- What a packet of the broker lets out and leads to, and how a filter ends that the broker refuses, with no
-- search.
use Rattle.std.specs.Prelude.{ℕ, List, [], ◌∷◌, ◌++◌, map, if◌then◌else◌, Option, Some, None}
use Rattle.std.specs.List.{flat_map}
use Rattle.sng_wanted.specs.Filters.{without_wanted}
use Rattle.sng_book.specs.declared.decision.Decision.TheVariants as note
use Rattle.sng_book.specs.declared.outcome.Denial.TheVariants.{Peer}
use Rattle.sng_book.specs.declared.outcome.PeerDenial.TheVariants.{BrokerRefused}
use Rattle.sng_book.specs.declared.outcome.Outcome.TheVariants.{Denied}
use Rattle.sng_book.specs.declared.out.Out.{Out}
use Rattle.sng_book.specs.declared.out.Out.TheVariants.{Note}
use Rattle.sng_history.specs.Clients.{Client, without}
use Rattle.sng_history.specs.Links.{Link, Wanted}
use Rattle.sng_history.specs.Packets.{Answer, Delivers, Acknowledges, Grants, Refuses, Confirms, Strange}
use Rattle.sng_history.specs.Packets.{acknowledgements, answered, answer_outs, refused_filter}
use Rattle.sng_history.specs.Standing.{holds}
use Rattle.sng_history.specs.State.{State}
use Rattle.sng_text.specs.Texts.{is_name}
use Rattle.mqtt_frames.specs.declared.packet.Publish.{Publish}
use Rattle.sng_turns.specs.declared.deliver.Kept.{Kept}
use Rattle.sng_turns.specs.Delivering.{incoming, all_outs, all_kept, keep_all}

-- the end of a filter that the broker refuses, of a client for whom it stands
abbrev pub end_note : List ℕ → Client → List Out
end_note filter x =
    if holds filter x then Note (note.End x.id filter (Denied (Peer BrokerRefused))) ∷ [] else []

abbrev pub end_notes : List ℕ → List Client → List Out
end_notes filter xs = flat_map (end_note filter) xs

abbrev pub refused_notes : Option (List ℕ) → List Client → List Out
refused_notes None xs = []
refused_notes (Some filter) xs = end_notes filter xs

-- it stands for nobody any more,
abbrev pub refused_clients : Option (List ℕ) → List Client → List Client
refused_clients None xs = xs
refused_clients (Some filter) xs = map (without filter) xs

-- and is wanted no more
abbrev pub refused_wanted : Option (List ℕ) → List Wanted → List Wanted
refused_wanted None wanted = wanted
refused_wanted (Some filter) wanted = without_wanted wanted filter

-- what a message lets out for each client, and what is kept of it; a text that is no name is nobody's
abbrev pub named_outs : State → Publish → List Out
named_outs s p = if is_name p.name then all_outs s.policy (incoming s.policy p) s.clients else []

abbrev pub named_kept : State → Publish → List Kept
named_kept s p = if is_name p.name then all_kept s.policy (incoming s.policy p) 0 s.clients else []

abbrev pub delivered_outs : State → Answer → List Out
delivered_outs s (Delivers p) = named_outs s p
delivered_outs s (Acknowledges packet_id) = []
delivered_outs s (Grants packet_id) = []
delivered_outs s (Refuses packet_id) = []
delivered_outs s Confirms = []
delivered_outs s Strange = []

abbrev pub delivered_clients : State → Answer → List Client → List Client
delivered_clients s (Delivers p) xs = keep_all s.clock (named_kept s p) xs
delivered_clients s (Acknowledges packet_id) xs = xs
delivered_clients s (Grants packet_id) xs = xs
delivered_clients s (Refuses packet_id) xs = xs
delivered_clients s Confirms xs = xs
delivered_clients s Strange xs = xs

-- what a packet of the broker lets out
abbrev pub packet_outs : State → Answer → List Out
packet_outs s a =
    refused_notes (refused_filter s.link a) s.clients
    ++ (delivered_outs s a ++ answer_outs s.policy.limits s.up s.link a)

-- and the state after it
abbrev pub packet_link : State → Answer → Link
packet_link s a =
    let moved = answered s.link a in
    record moved {
      waiting = s.link.waiting ++ acknowledgements s.policy.limits s.up s.link a;
      wanted = refused_wanted (refused_filter s.link a) moved.wanted;
    }

abbrev pub packet_next : State → Answer → State
packet_next s a =
    record s {
      link = packet_link s a;
      clients = delivered_clients s a (refused_clients (refused_filter s.link a) s.clients);
    }

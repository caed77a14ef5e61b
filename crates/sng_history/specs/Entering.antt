-- The clients as a CONNECT is accepted or denied, said of each by its id and where it is, with no notes; and
-- how what waits for the one that connects is handed over then.
use Rattle.std.specs.Prelude.{ℕ, List, [], ◌∷◌, ◌++◌, map, if◌then◌else◌}
use Rattle.std.specs.Str.{bytes_eq}
use Rattle.sng_frames.specs.declared.messages.connect.Connect.{Connect}
use Rattle.sng_book.specs.declared.address.Address.{Address}
use Rattle.sng_history.specs.Clients.{Client, Around, blank, is_here, let_in, gone, notes_by}
use Rattle.sng_history.specs.Outgoing.{handed_over}
use Rattle.sng_history.specs.State.{is_known}

-- a client is heard
abbrev pub heard_at : ℕ → Client → Client
heard_at clock x = record x { heard = clock }

-- it is heard, and leaves
abbrev pub left_at : ℕ → Client → Client
left_at clock x = gone (heard_at clock x)

-- one of the clients, as a CONNECT is accepted: it is the one that connects, or another one at the address,
-- or neither
abbrev pub entering : ℕ → Address → Connect → Client → Client
entering clock from connect x =
    if bytes_eq connect.client_id x.id then let_in clock from connect x
    else (if is_here x from then left_at clock x else x)

-- who comes last among the clients then, where the one that connects was not known
abbrev pub entering_first : ℕ → Address → Connect → List Client → List Client
entering_first clock from connect xs =
    if is_known connect.client_id xs then [] else let_in clock from connect (blank connect.client_id) ∷ []

-- all clients then
abbrev pub entered : ℕ → Address → Connect → List Client → List Client
entered clock from connect xs = map (entering clock from connect) xs ++ entering_first clock from connect xs

-- what may leave of what waits for the client leaves
abbrev pub served : Around → Client → Client
served a x = notes_by a (handed_over a.policy x) x

-- just the one that connects is served; a clean session has nothing that waits
abbrev pub serving : Around → List ℕ → Client → Client
serving a id x = if bytes_eq id x.id then served a x else x

-- all clients, once the CONNECT that was accepted is answered
abbrev pub welcomed : Around → Address → Connect → List Client → List Client
welcomed a from connect xs = map (serving a connect.client_id) (entered a.clock from connect xs)

-- one of the clients, as a CONNECT is denied: one that is at the address is heard
abbrev pub hearing : ℕ → Address → Client → Client
hearing clock from x = if is_here x from then heard_at clock x else x

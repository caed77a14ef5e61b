-- Which MsgIds of a client are open is what the rows show of them; and nothing but a PUBREL is answered by
-- PUBCOMP.
pub mod OpenLists
pub mod OpenNotes
pub mod OpenShown
pub mod LawCompletes

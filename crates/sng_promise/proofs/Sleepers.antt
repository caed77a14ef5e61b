-- Clients that sleep: what is sent to them, and that they are left alone.
pub mod SeenFramesAnswers
pub mod SeenFrames
pub mod SeenSleepers
pub mod SeenPongsMessages
pub mod SeenPongs
pub mod LawPonged
pub mod QuietNotes
pub mod QuietParts
pub mod SentAway
pub mod SleepersHere
pub mod SleepersParts
pub mod SleepersEntries
pub mod LawSleepers

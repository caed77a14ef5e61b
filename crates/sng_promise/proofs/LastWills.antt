-- The wills of clients: what is stated of them, and what becomes of them.
pub mod SeenWillsKept
pub mod SeenWills
pub mod SeenStatements
pub mod SeenStated
pub mod LawWillAsks
pub mod LawWillDialogue
pub mod LawWills
pub mod LawTickWills

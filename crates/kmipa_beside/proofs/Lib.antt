pub mod DeclaredLemmas
pub mod ReachLemmas
pub mod AuditLemmas
pub mod StatusLemmas
pub mod OwnersLemmas

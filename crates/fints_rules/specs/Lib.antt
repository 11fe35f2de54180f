pub use Rattle.fints_rules_permissions.specs.Permits
pub use Rattle.fints_rules_messages.specs.Messages
pub use Rattle.fints_rules_messages.specs.Read
pub use Rattle.fints_rules_messages.specs.declared.message.JudgeFault.{JudgeFault}
pub use Rattle.fints_rules_messages.specs.declared.message.JudgeFault.TheVariants as JudgeFaults
pub mod SegmentFacts
pub mod Rules
pub mod Facts
pub mod Breaks
pub mod AccountTests
pub mod Judging
pub mod Tallies
pub mod Causes
pub mod Laws
pub mod Leading

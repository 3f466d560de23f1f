pub mod Audit
pub mod AuditText
pub mod Found
pub mod Parts
pub mod Legal

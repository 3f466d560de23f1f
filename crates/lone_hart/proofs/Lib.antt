pub mod Accounts
pub mod Hearings
pub mod ServedPools
pub mod ServedSites
pub mod ServedTeams
pub mod TeamAccounts

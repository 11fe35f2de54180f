pub mod Accounts
pub mod Offers
pub mod Recorded
pub mod Walks

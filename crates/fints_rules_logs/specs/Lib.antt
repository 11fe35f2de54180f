pub mod Forms
pub mod Standing
pub mod Finds
pub mod Scan
pub mod Kept
pub mod Laws

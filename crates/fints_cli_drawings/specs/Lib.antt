pub mod Drawn
pub mod Laws
pub mod Openers
pub mod Picture

pub mod Lines
pub mod LineLaws
pub mod Document
pub mod Entries
pub mod ItemLists

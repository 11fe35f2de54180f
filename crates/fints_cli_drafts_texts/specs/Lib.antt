pub mod DraftText

pub mod LastParts
pub mod OneName
pub mod EntryLaws
pub mod ChoiceLaws

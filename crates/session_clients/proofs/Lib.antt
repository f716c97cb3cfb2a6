pub mod FirstRowLaws
pub mod IdLaws
pub mod MoveLaws
pub mod RowLaws
pub mod KnownLaws
pub mod SpanLaws
pub mod OtherRowLaws

pub mod TableLaws
pub mod MapLaws
pub mod ShownLaws
pub mod SetLaws
pub mod TextLaws
pub mod SizeLaws

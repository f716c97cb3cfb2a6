pub mod BoolLaws
pub mod MemberLaws
pub mod CountLaws

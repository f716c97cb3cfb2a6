pub mod Cookies
pub mod Spelling
pub mod Reading
pub mod Meaning
pub mod Laws

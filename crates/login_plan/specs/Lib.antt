pub mod Logins
pub mod Plans
pub mod Books
pub mod Laws

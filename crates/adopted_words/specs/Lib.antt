pub mod Words
pub mod Rules
pub mod Files
pub mod Choice
pub mod Laws

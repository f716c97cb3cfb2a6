pub mod UnderWay
pub mod Pairs
pub mod Schedules
pub mod Laws

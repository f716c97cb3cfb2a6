mod RequestLaws
mod NumberLists
mod Passing
mod LengthLaws

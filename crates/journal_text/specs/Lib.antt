pub mod Ids
pub mod Laws
pub mod Numerals
pub mod NumeralInside
pub mod Lines
pub mod Reading
pub mod Next
pub mod EntryLaws

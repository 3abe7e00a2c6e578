pub mod Changed
pub mod Totals
pub mod SlotLaws

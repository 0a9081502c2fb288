pub mod Payloads
pub mod Canon
pub mod Storable
pub mod Reading
pub mod Values
pub mod Parts
pub mod Distinct
pub mod ItemLaws

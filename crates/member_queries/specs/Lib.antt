pub mod FirstNames
pub mod Met
pub mod Supers
pub mod Members
pub mod MemberTables
pub mod Diags
pub mod Laws

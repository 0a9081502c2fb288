pub mod Apart
pub mod Equal
pub mod Lists
pub mod Places
pub mod Numbers

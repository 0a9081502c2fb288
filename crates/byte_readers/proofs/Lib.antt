pub mod Loop
pub mod Numbers

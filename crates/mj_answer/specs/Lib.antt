pub mod Codes
pub mod AnswerValues
pub mod Text
pub mod Order

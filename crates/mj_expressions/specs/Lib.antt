pub mod Tokens
pub mod Steps
pub mod Expressions
pub mod ExpressionReading
pub mod Laws

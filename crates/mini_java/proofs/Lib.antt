pub mod Headline
mod TakenRules

mod Counting
mod Filing
mod Refusing
mod Saying

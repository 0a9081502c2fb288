pub mod Told
pub mod Given
pub mod Opened
pub use Rattle.job_table.specs.Closes
pub use Rattle.job_table.specs.Kept
pub use Rattle.job_table.specs.Tables
pub use Rattle.key_states.specs.Closing
pub use Rattle.mark_green.specs.Ensures

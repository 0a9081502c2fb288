pub mod Headline
pub mod Taken
pub use Rattle.driver.specs.Sessions
pub use Rattle.driver.specs.declared.fault.DriveFault
pub use Rattle.driver.specs.declared.reports.Reports
pub use Rattle.providers.specs.AnswerValues
pub use Rattle.providers.specs.Laws

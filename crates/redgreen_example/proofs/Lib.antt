pub mod EchoRuns

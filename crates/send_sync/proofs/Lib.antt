pub mod Results
pub mod Maps

pub mod KeptKeys
pub mod Closing
pub mod Nodes
pub mod KeyStates
pub mod PendingNodes
pub mod Reached
pub mod Rows

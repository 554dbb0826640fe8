pub mod Graphs
mod Examples

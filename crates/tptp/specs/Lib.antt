pub mod Said
pub mod Sketch
pub mod Memory
pub mod Shapes
pub mod Body
pub mod Reads
pub mod Inside
pub mod Promises

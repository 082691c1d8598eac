-- What a node does with its task, over the machine's memory.
pub mod Visit
pub mod Want
pub mod Pick
pub mod Node

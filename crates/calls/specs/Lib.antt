pub mod Bells
pub mod Machine
pub mod Accesses
pub mod Callers
pub mod Stances
pub mod Queues

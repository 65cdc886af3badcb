pub mod Desks
pub mod Offices
pub mod Roles
pub mod Unended

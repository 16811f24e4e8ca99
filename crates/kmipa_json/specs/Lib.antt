pub mod Escapes
pub mod Told

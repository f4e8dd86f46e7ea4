pub mod Adding
pub mod Rules

pub mod Order
pub mod Rules

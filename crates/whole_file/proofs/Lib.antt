pub mod Accepted
pub mod HandedOver

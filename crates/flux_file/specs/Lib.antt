pub mod FluxFile
pub mod Portions

-- Laws of the radial pass.
pub mod Far

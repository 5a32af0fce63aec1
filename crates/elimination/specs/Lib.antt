pub mod Fill
pub mod Laws
pub mod Plans
pub mod Storage

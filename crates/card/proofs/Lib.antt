pub mod InTandem
pub mod Places

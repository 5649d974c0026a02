pub mod IdentityTold

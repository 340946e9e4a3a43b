pub mod InstanceSearch
pub mod SharedTerms
pub mod Contract

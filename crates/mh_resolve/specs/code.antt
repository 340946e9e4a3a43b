pub mod StateInput

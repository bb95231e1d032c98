pub mod ByEdition

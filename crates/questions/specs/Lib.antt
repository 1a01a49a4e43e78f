-- What the contracts cite, here and above.
pub mod Needs
pub mod Survival

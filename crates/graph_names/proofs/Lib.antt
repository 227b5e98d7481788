pub mod Found
pub mod SettingsFound

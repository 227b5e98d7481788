pub mod ConfigLines
pub mod Sections
pub mod ConfigText
pub mod ConfigPrint
pub mod Examples

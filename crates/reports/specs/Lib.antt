pub mod Reports
pub mod ReportTexts

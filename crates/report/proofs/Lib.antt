-- Laws of the report.
pub mod RowLaws
pub mod ReportTellsHolds

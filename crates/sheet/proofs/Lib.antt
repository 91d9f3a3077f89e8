-- Laws of the sheet.
pub mod CodeLaws
pub mod HeldLaws

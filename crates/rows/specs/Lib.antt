-- What one chunk does to a record that is a head and lent tables.
-- To read: Stepped, TableRows, Lending. The rest are laws.
pub mod Stepped
pub mod TableRows
pub mod Lending
pub mod TableRowsLaws
pub mod RowShowLaws
pub mod ShortLaws

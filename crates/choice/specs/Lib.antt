-- A packet filled over head and lent tables.
-- To read: Fill. The rest are laws.
pub mod Fill
pub mod FillLaws

-- `Table` has document 01's proved table.
pub mod Table

-- The contract of a route, and tables in the work buffer.
--
--   Table     a table, written place by place
--   Filling   what a loop that writes a table leaves alone
--   Contract  what every route requires and ensures
pub mod Table
pub mod Filling
pub mod Contract

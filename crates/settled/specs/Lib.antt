pub mod Examples
pub mod WholeCase

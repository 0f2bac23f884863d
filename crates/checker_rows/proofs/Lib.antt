-- Laws of tables as places.
pub mod Leads

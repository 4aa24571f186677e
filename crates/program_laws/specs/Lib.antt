-- What the programs share: what the answers of reading and expansion say of the tables, and what is printed.
pub mod Front
pub mod ReadLaws
pub mod RunLaws
pub mod Printed

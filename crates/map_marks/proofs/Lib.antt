-- Marks: what a map says. Rows: a map is written row after row. Answer: the answer of a call that writes one.
pub mod Marks
pub mod Rows
pub mod Answer

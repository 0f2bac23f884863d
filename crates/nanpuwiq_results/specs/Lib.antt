-- Answers as records whose first part is a code.
pub mod Results

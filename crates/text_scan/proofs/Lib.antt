pub mod SetListSteps
pub mod WholeSteps

pub mod Ranges
pub mod Lists
pub mod Results
pub mod Answers
pub mod Requests

pub mod Steps
pub mod Loads
pub mod Equal
pub mod Resumes

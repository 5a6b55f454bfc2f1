pub mod Steps
pub mod Equal
pub mod Second
pub mod Lives
pub mod Alike
pub mod Resumes

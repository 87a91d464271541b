pub mod Faults
pub mod Faulty
pub mod Courses

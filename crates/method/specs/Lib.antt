pub mod Verdicts
pub mod Plans
pub mod Meaning
pub mod Answers

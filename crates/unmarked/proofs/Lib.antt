-- Stage by stage, that the solve without marks is the solve with its marks forgotten.
mod Forgets
mod Quadratic
mod Eigensystem
mod Candidates
mod Poses
pub mod Forgotten

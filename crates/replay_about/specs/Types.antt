-- The structs that definitions of this crate name: those of the crates below.
pub use Rattle.about.specs.declared.solve_about.AnswerAbout.{AnswerAbout}

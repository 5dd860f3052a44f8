-- What the proofs of several functions use.
mod RootsLent
mod PreviewLaws

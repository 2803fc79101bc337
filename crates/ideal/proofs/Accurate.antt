-- Demand 2: where the statements of specs/Accuracy.antt are proved, but for HandleIsFirstFree (FirstFree.antt). The prover
-- comes to these files before most others, so that a wrong definition is refused in them first (tests/edits/run).
pub use Rattle.ideal.proofs.Checks.{check_is_accurate, long_check_is_no}
pub use Rattle.ideal.proofs.Retrieves.{retrieve_is_accurate}
pub use Rattle.ideal.proofs.Releases.{release_is_accurate}
pub use Rattle.ideal.proofs.Custodies.{chain_is_accurate}
pub use Rattle.ideal.proofs.Handles.{handle_once}

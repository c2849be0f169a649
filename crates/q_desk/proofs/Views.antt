-- When two views are the same.
pub use Rattle.q_session.proofs.Views.{same-view}

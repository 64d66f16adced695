-- What the crates below prove, under the names that these proofs use.
pub use Rattle.lsp_rpc.proofs.Readings.{one_message, one_rule, not_both, message_or_rule}
pub use Rattle.lsp_frame.proofs.Frames.{one_stream, faulty_more, frames_more, frames_first}
pub use Rattle.lsp_frame.proofs.Readings.{some_stream}
pub use Rattle.lsp_frame.proofs.Fronts.{shown_stays}
pub use Rattle.lsp_session.proofs.LawLemmas.{answers_a_request, answers_no_other, answered_once}
pub use Rattle.lsp_docs.proofs.Bindings.{bound-agrees}
pub use Rattle.lsp_log.proofs.OneLog.{one_log, records_come_first}
pub use Rattle.lsp_log.proofs.SomeLog.{some_log}

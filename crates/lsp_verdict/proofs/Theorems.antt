-- What the laws cite, a list for each of their files.
use Rattle.lsp_verdict.proofs.Completing.{complete_means_fault, lack_is_named}
use Rattle.lsp_verdict.proofs.Completing.{some_complete_verdict}
use Rattle.lsp_verdict.proofs.Interleaving.Both.{one_yes}
use Rattle.lsp_verdict.proofs.Interleaving.Stages.{in_each_order}
use Rattle.lsp_verdict.proofs.Logs.{offence_decides, some_final, some_verdict}
use Rattle.lsp_verdict.proofs.Logs.Text.{some_text}
use Rattle.lsp_verdict.proofs.Meanings.{bad_log_has, kept_means_yes, no_names}
use Rattle.lsp_verdict.proofs.Offences.Offending.{all_are_kept, first_listed, kept_are_others}
use Rattle.lsp_verdict.proofs.Offences.Offending.{kept_offend_nowhere, nothing_listed}
use Rattle.lsp_verdict.proofs.Offences.Surveying.{some_survey}
use Rattle.lsp_verdict.proofs.Sessions.{some_session}
use Rattle.lsp_verdict.proofs.Upgrading.{some_upgrade}

pub ruleset complete_laws = (
  complete_means_fault,
  lack_is_named,
  some_complete_verdict,
)

pub ruleset interleaving_laws = (in_each_order, one_yes)

pub ruleset laws = (
  bad_log_has,
  kept_means_yes,
  no_names,
  offence_decides,
  some_final,
  some_session,
  some_text,
  some_upgrade,
  some_verdict,
)

pub ruleset offence_laws = (
  all_are_kept,
  first_listed,
  kept_are_others,
  kept_offend_nowhere,
  nothing_listed,
  some_survey,
)

use Rattle.lsp_verdict.proofs.FormatOne.{format_one_keeps_verdict, format_one_keeps_report}
use Rattle.lsp_verdict.proofs.laws.format_one_keeps_none.Goals as goal

pub returns : goal.returns
returns c = record { verdict = format_one_keeps_verdict; report = format_one_keeps_report }

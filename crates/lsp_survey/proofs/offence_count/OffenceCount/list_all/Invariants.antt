use Rattle.std.specs.Prelude.{take}
use Rattle.std.proofs.Common.{◌≡◌, ◌++◌, List, map, string_bytes}
use Rattle.lsp_survey.specs.Reported.{IsTally, lines_of}
use Rattle.lsp_replay.specs.Common.{Offence, offence_view}
use Rattle.lsp_survey.proofs.offence_count.OffenceCount.list_all.Given as goal

abbrev pub invariant-loop-offence : goal.invariant-loop-offence
invariant-loop-offence l = record {
  tally : (found : List Offence) → IsTally l.fn.self found
      → IsTally l.self (found ++ map offence_view (take l.offence-index l.offences));
  said : string_bytes l.text ≡ string_bytes l.fn.text
      ++ lines_of l.listing (map offence_view (take l.offence-index l.offences));
}

use Rattle.std.specs.List.{flat_map}
use Rattle.std.specs.Prelude.{take}
use Rattle.std.proofs.Common.{◌≡◌, ◌++◌, List, map, string_bytes}
use Rattle.lsp_survey.specs.Reported.{IsTally}
use Rattle.lsp_trail.specs.Common.{Event, numbered, Offence, offence_view, StandsAfter, terms_in}
use Rattle.lsp_origins.specs.Explained.{cause_lines, end_explained, rests_held}
use Rattle.lsp_explain.proofs.run_all.explain_ends.Given as goal

abbrev pub invariant-loop-offence : goal.invariant-loop-offence
invariant-loop-offence l = record {
  tally : (found : List Offence) → IsTally l.fn.tally found
      → IsTally l.tally (found ++ map offence_view (take l.offence-index l.listed));
  said : (before : List Event) → StandsAfter l.past before
      → string_bytes l.text ≡ string_bytes l.fn.text ++ flat_map cause_lines
      (map (end_explained (rests_held l.log) (numbered (terms_in l.past) before))
      (map (λ o. (offence_view o).no) (take l.offence-index l.listed)));
}

use Rattle.std.proofs.Common.{rules, tests, sym, ◌∙◌}
use Rattle.std.specs.Prelude.{◌==◌}
use Rattle.std.specs.List.{slice_split}
use Rattle.std.proofs.lemmas.Iterator.Search.{all_from_yields_List}
use Rattle.std.proofs.lemmas.Iterator.Splits.{YieldsList-from_slice_split}
use Rattle.std.proofs.lemmas.List.Folds.{list_all-map}
use Rattle.lsp_frame.specs.Header.{trimmed, fits_charset}
use Rattle.lsp_frame.proofs.header.parts_fit.Goals as goal

pub returns : goal.returns
returns c =
    all_from_yields_List (λ part. fits_charset (trimmed part)) _ _ c.all.result c.all.ensures.ran
    (YieldsList-from_slice_split _ (λ b. b == 59) c.args.value.now c.split.ensures.rest c.split.ensures.done c.split.ensures.closure (λ x r q k. search (rules, tests)))
    (λ x b q k. search (rules, tests))
    ∙ sym (list_all-map fits_charset trimmed (slice_split (λ b. b == 59) c.args.value.now))

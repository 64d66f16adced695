use Rattle.std.proofs.Common.{◌++◌, ◌∙◌, take, drop, true, refl, sym, ap}
use Rattle.std.proofs.lemmas.List.{take-append-drop}
use Rattle.std.proofs.lemmas.Slice.Eq.{slice_eq-Decides}
use Rattle.std.proofs.lemmas.Bool.Decides.{Decides-eqb}
use Rattle.lsp_frame.specs.Header.{line}
use Rattle.lsp_frame.specs.Reading.{usual_type}
use Rattle.lsp_frame.proofs.header.after_usual_type.Goals as goal

pub returns : goal.returns
returns c =
    let bytes = c.args.bytes.now in
    let stripped = c.in_ok-rest.ensures.cases in
    let same = slice_eq-Decides Decides-eqb (take 57 bytes) (line usual_type) true (sym stripped.0) in
    sym (take-append-drop 57 bytes)
    ∙ ap (λ w. w ++ drop 57 bytes) (same.0 refl)
    ∙ ap (λ w. line usual_type ++ w) (sym stripped.1)

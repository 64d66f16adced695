use Rattle.std.specs.Prelude.{option_map}
use Rattle.std.specs.Str.{chars}
use Rattle.std.proofs.Common.{◌∙◌, None, Some, ap, string_bytes, sym}
use Rattle.lsp_origins.specs.Fits.{suspects_view}
use Rattle.lsp_origins.specs.OtherLines.{edits_in, made_so}
use Rattle.lsp_origins.proofs.OtherLineSteps.{made_on}
use Rattle.lsp_origins.proofs.other_lines.make_all.Goals as goal

pub loop-suspect-preserved : goal.loop-suspect-preserved
loop-suspect-preserved c =
    let all = made_so c.args.by c.args.encoding (chars (string_bytes c.args.text))
    (edits_in (suspects_view c.args.suspects.now)) in
    made_on c.args.by c.args.encoding (chars (string_bytes c.loop-suspect.made)) c.args.suspects.now
    c.loop-suspect.suspect-index c.suspect-item.result all
    (Some (chars (string_bytes c.in-Some.next))) c.loop-suspect-test.true c.suspect-item.is
    c.loop-suspect.invariant
    (sym (ap (option_map (λ s. chars (string_bytes s))) c.in-Some.is) ∙ c.in_ok-next.ensures)

pub returns-in-None : goal.returns-in-None
returns-in-None c =
    let all = made_so c.args.by c.args.encoding (chars (string_bytes c.args.text))
    (edits_in (suspects_view c.args.suspects.now)) in
    sym (made_on c.args.by c.args.encoding (chars (string_bytes c.loop-suspect.made))
    c.args.suspects.now c.loop-suspect.suspect-index c.suspect-item.result all None
    c.loop-suspect-test.true c.suspect-item.is c.loop-suspect.invariant
    (sym (ap (option_map (λ s. chars (string_bytes s))) c.in-None.is) ∙ c.in_ok-next.ensures))

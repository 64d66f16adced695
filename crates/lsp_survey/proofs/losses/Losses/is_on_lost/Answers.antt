use Rattle.std.specs.Prelude.{◌&&◌, ◌||◌, option_map}
use Rattle.std.proofs.Common.{◌∙◌, Bool, ap, sym}
use Rattle.lsp_docs.proofs.Entries.{is_some-mapped}
use Rattle.lsp_docs.specs.Taken.{call_view}
use Rattle.lsp_survey.specs.Notes.{is_noted_lost}
use Rattle.lsp_survey.proofs.Losing.{noted_lost}
use Rattle.lsp_survey.proofs.losses.Losses.is_on_lost.Goals as goal

pub returns : goal.returns
returns c = λ terms before losses.
    let own = c.args.self.now in
    let said = option_map call_view c.args.said in
    ap (λ (b : Bool). b || (own.unsynced && c.is_some.result)) c.in_ok-is_noted.ensures
    ∙ ap (λ (b : Bool). is_noted_lost own.documents.map.entries said || (own.unsynced && b))
    (c.is_some.ensures ∙ sym (is_some-mapped call_view c.args.said))
    ∙ noted_lost terms own before said losses

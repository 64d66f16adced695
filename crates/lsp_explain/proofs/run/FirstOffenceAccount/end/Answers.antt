use Rattle.std.proofs.Common.{◌≡◌, ◌++◌, [], append-nil, string_bytes, subst, sym}
use Rattle.lsp_trail.specs.Common.{heard_events, Terms, verdict_view}
use Rattle.lsp_notes.specs.MessageNotes.{AreNoted}
use Rattle.lsp_notes.specs.Misfits.{AreMisfits, found_kept}
use Rattle.lsp_notes.specs.Notes.{noticed, note_lines, notes_by}
use Rattle.lsp_explain.proofs.Ending.{first_closes}
use Rattle.lsp_origins.proofs.Telling.{stands_at}
use Rattle.lsp_explain.proofs.run.FirstOffenceAccount.end.Goals as goal

pub returns : goal.returns
returns c = record {
  closes = λ terms heard stands stood few.
      let verdict = c.in_ok-verdict.verdict in
      let found = found_kept terms (heard_events heard) in
      first_closes c.args.self.now.completeness terms heard c.args.log.now c.args.end verdict _ _ _
      (c.in_ok-verdict.ensures terms heard stands.trail stands.clean stood few)
      (subst (λ (t : Terms). string_bytes c.push_notes.new.lines
      ≡ string_bytes c.push_ending.new.text ++ note_lines (notes_by (verdict_view verdict)
      (noticed t (heard_events heard) (found ++ [])))) stood.by
      (c.in_ok-push_notes.ensures (heard_events heard) (found ++ [])
      (stands_at _ terms heard stands.trail stood)
      (subst (AreMisfits c.args.self.now.misfits) (sym (append-nil found)) stands.misfits)
      (subst (λ (t : Terms). AreNoted t c.args.self.now.messages (heard_events heard)
      (heard_events heard)) (sym stood.by) stands.messages)));
}

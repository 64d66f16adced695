use Rattle.std.proofs.Common.{◌≡◌, ◌∙◌, ◌++◌, ap, refl, string_bytes, subst, sym}
use Rattle.lsp_trail.specs.Common.{Fate, HasFate, heard_events, Offence, ShowsFault, Terms}
use Rattle.lsp_trail.specs.Common.{verdict_view}
use Rattle.lsp_notes.specs.MessageNotes.{AreNoted}
use Rattle.lsp_notes.specs.Misfits.{found_kept, found_refuted}
use Rattle.lsp_notes.specs.Notes.{noticed, note_lines, notes_by}
use Rattle.lsp_explain.proofs.AccountSteps.{first_told}
use Rattle.lsp_origins.proofs.Telling.{stands_before, told_of}
use Rattle.lsp_explain.proofs.run.FirstOffence.explain.Goals as goal

pub returns : goal.returns
returns c = record {
  asked = refl;
  says = λ terms before h stands seen is.
      let rule = c.args.rule in
      let offence = c.last_offence-offence.result in
      let verdict = c.verdict-verdict.result in
      let found = found_kept terms (heard_events before)
      ++ found_refuted terms (heard_events before) h.note.event rule in
      let has = subst (λ (f : Fate). HasFate terms before h f) is seen.fate in
      let last = c.last_offence-offence.ensures before h seen.stood.counted seen.few seen.is
      seen.noted in
      first_told terms before h c.args.self.now c.args.self.now stands (ShowsFault c.args.seen.now.raw (heard_events before))
      (string_bytes c.args.text.now) _ rule verdict c.in_ok-boxed.boxed _ _
      c.in_ok-boxed.ensures.ok has.0
      (c.verdict-verdict.ensures ∙ ap (λ (x : Offence). x.no) last)
      (told_of terms before h c.args.seen.now rule c.args.tried offence _ _ _ _ _ _
      is last seen
      (c.in_ok-push_offence.ensures terms before h stands.trail))
      (subst (λ (t : Terms). string_bytes c.push_notes.new.lines
      ≡ string_bytes c.push_offence.new.text ++ note_lines (notes_by
      (verdict_view verdict) (noticed t (heard_events before) found))) seen.stood.by
      (c.in_ok-push_notes.ensures (heard_events before) found
      (stands_before _ terms before h rule stands.trail seen.stood has.0)
      (c.in_ok-note_refuted.ensures terms before h _ stands.misfits seen has.0)
      (subst (λ (t : Terms). AreNoted t c.args.self.now.messages (heard_events before)
      (heard_events before)) (sym seen.stood.by) stands.messages)));
}

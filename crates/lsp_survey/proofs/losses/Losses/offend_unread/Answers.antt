use Rattle.std.specs.Prelude.{List, Option, ℕ, ◌||◌, option_and_then}
use Rattle.std.proofs.Common.{◌∙◌, false, None, Some, sym, ap, subst}
use Rattle.std.proofs.Math.Bool.{or-false}
use Rattle.lsp_replay.specs.Common.{breaks_handshake, brought_by, events_of, Ident, kept_of}
use Rattle.lsp_replay.specs.Common.{may_answer, request_id}
use Rattle.lsp_survey.specs.Notes.{Leaves, SetsAny}
use Rattle.lsp_survey.specs.declared.losses.Losses.{Losses}
use Rattle.lsp_survey.specs.declared.notes.note.Notes.{Notes}
use Rattle.lsp_survey.specs.declared.notes.passed.Passed.{Passed}
use Rattle.lsp_verdict.specs.Event.{fault}
use Rattle.lsp_survey.proofs.PassedSteps.{content_passes}
use Rattle.lsp_survey.proofs.losses.Losses.offend_unread.Goals as goal

pub returns : goal.returns
returns c =
    let noted = c.offend_fault-follows.ensures in
    let old = c.args.self.now in
    let mid = c.offend_fault-follows.new.self in
    let side = c.args.side in
    let rule = c.args.rule in
    let read = c.in_ok-asks.ensures in
    let malformed = read.0 in
    let meant = read.2 in (
      malformed,
      read.1,
      λ terms before losses stands. (
        noted.follows terms before losses stands,
        record {
          is_broken = noted.broken (kept_of terms (events_of before)) stands
              ∙ ap (λ b. old.handshake || (breaks_handshake b rule
              || may_answer (kept_of terms (events_of before)) (fault side rule))) meant.asks;
          sides = ap (λ (l : Losses). l.sides) noted.stays;
          passed = content_passes side rule rule malformed old.passed c.note_asked.new.self
              (subst (λ (p : Passed).
              SetsAny side (option_and_then request_id malformed) p c.note_asked.new.self)
              (ap (λ (l : Losses). l.passed) noted.stays)
              (subst (λ (o : Option Ident). SetsAny side o mid.passed c.note_asked.new.self)
              meant.asked c.in_ok-note_asked.ensures));
          unheard = ap (λ (l : Losses). l.unheard) noted.stays ∙ sym (or-false old.unheard);
          unsynced = ap (λ (l : Losses). l.unsynced) noted.stays ∙ sym (or-false old.unsynced);
          noted = subst (λ (w : Notes). Leaves (Some rule) (option_and_then brought_by malformed)
              false None w.map.entries c.note_malformed.new.notes.map.entries)
              (ap (λ (l : Losses). l.documents) noted.stays)
              (subst (λ (brought : Option (List ℕ)). Leaves (Some rule) brought false None
              mid.documents.map.entries c.note_malformed.new.notes.map.entries) meant.brings
              c.in_ok-note_malformed.ensures);
        },
      ),
    )

-- What is said where the verdict on a log is explained, or all that is wrong with it.
use Rattle.std.specs.Prelude.{◌≡◌, ◌||◌, ℕ, List, [], ◌∷◌, ◌++◌, map, take, filter, Bool, false}
use Rattle.std.specs.Prelude.{true, not, is_some, Option, Some, None}
use Rattle.std.specs.List.{AllZip, cons_option, flat_map}
use Rattle.lsp_trail.specs.Common.{bad_log_of, Breach, broken, by_itself, Completeness, content}
use Rattle.lsp_trail.specs.Common.{first_no, first_verdict, Heard, heard_events, IsJudged, IsTrail}
use Rattle.lsp_trail.specs.Common.{notes_of, numbered, Offence, offence_at, offences, Raw, Rests}
use Rattle.lsp_trail.specs.Common.{rule_of, Run, show, summary, Terms, Verdict}
use Rattle.lsp_log.specs.declared.fault.LogCode.{LogCode}
use Rattle.lsp_replay.specs.Telling.{no_of}
use Rattle.lsp_survey.specs.SessionEnds.{all_found, all_verdict, ends_of}
use Rattle.lsp_survey.specs.Lost.{AreLosses}
use Rattle.lsp_survey.specs.Reported.{IsTally}
use Rattle.lsp_facts.specs.Fact.{Fact}
use Rattle.lsp_origins.specs.Explained.{all_closing, cause_lines, is_cause, Explained}
use Rattle.lsp_origins.specs.Explained.{Explains, end_explained, explanation, flaw_at}
use Rattle.lsp_notes.specs.MessageNotes.{AreNoted}
use Rattle.lsp_notes.specs.Misfits.{AreMisfits, found_kept}
use Rattle.lsp_notes.specs.Notes.{note_lines, notes_by, noticed_by}
use Rattle.lsp_trail.specs.Breaches.{breach_at}
use Rattle.lsp_explain.specs.declared.run.FirstOffence.{FirstOffence}
use Rattle.lsp_explain.specs.declared.run_all.AllCauses.{AllCauses}

-- ---- an event that offends

-- what is said about it, and the notes on the messages before it
abbrev pub first_lines : Terms → Breach → Explained → List ℕ
first_lines terms b e =
    cause_lines e ++ note_lines (notes_by e.no
    (noticed_by terms (heard_events b.before) (b ∷ [])))

-- where an event offends, this is said
abbrev pub SaysFirst : Rests → Terms → Option Breach → List ℕ → Type 0
SaysFirst rests terms None out = out ≡ []
SaysFirst rests terms (Some b) out =
    (e : Explained) × Explains rests terms b e × (out ≡ first_lines terms b e)

-- the cause that an event is after these, if it is one
abbrev pub cause_at : Terms → List Heard → Heard → List Breach
cause_at terms before h = filter (is_cause terms) (cons_option (breach_at terms before h) [])

-- of these causes this is said
abbrev pub SaysCauses : Rests → Terms → List Breach → List ℕ → Type 0
SaysCauses rests terms found out =
    (said : List Explained) × AllZip (Explains rests terms) found said
    × (out ≡ flat_map cause_lines said)

-- ---- the end

-- what is said about these ends
abbrev pub ends_said : Terms → List Heard → Rests → List Verdict → List Explained
ends_said terms heard rests ends =
    map (end_explained rests (numbered terms (heard_events heard))) ends

-- the verdict where no event offends
abbrev pub end_verdict : Terms → List Heard → Option (ℕ × LogCode) → List Verdict → Verdict
end_verdict terms heard fault ends =
    first_verdict (map by_itself ends) (bad_log_of fault) (summary terms (heard_events heard))

-- and what explains it
abbrev pub end_explanation : Terms → List Heard → Rests → Option (ℕ × LogCode) → List Fact
    → List Verdict → List ℕ
end_explanation terms heard rests fault flaw ends =
    explanation (map by_itself ends) (take 1 (ends_said terms heard rests ends))
    (bad_log_of fault) flaw (summary terms (heard_events heard))
    ++ note_lines (notes_by (end_verdict terms heard fault ends)
    (noticed_by terms (heard_events heard) []))

-- what is said of the ends, and what closes the explanation
abbrev pub all_end : Terms → List Heard → Rests → Option (ℕ × LogCode) → List Fact → List Verdict
    → List ℕ
all_end terms heard rests fault flaw ends =
    flat_map cause_lines (ends_said terms heard rests ends)
    ++ all_closing (all_found terms heard ends) (bad_log_of fault) flaw
    (summary terms (heard_events heard))

-- ---- where memory may be wanted

-- something may have to be kept of it: nothing of a fault of the frames
abbrev pub may_keep : Raw → Bool
may_keep (broken side rule) = false
may_keep _ = true

-- there is an offence, which follows from no earlier one
abbrev pub has_cause : Option Offence → Bool
has_cause None = false
has_cause (Some o) = not o.follows

-- ---- the runs

-- **the run `explain`**: it explains the first event that offends, and stops there
abbrev pub explain_run : Completeness → Run
explain_run completeness = record {
  says = λ terms rests before h out. SaysFirst rests terms (breach_at terms before h) out;
  wants = λ terms before h. true;
  stops = λ terms before h. is_some (rule_of terms before h);
  ends = λ terms before h outcome.
      (v : Verdict) × (no_of terms before h ≡ Some v) × IsJudged v outcome;
  closes = λ terms heard tail out. out ≡ end_explanation terms heard tail.rests tail.fault
      (flaw_at tail.place tail.line tail.fault) (ends_of completeness terms heard tail);
  finishes = λ terms heard tail.
      IsJudged (end_verdict terms heard tail.fault (ends_of completeness terms heard tail));
}

-- **the run `explain --all`**: it explains each event that offends and follows from no earlier one
abbrev pub all_run : Completeness → Run
all_run completeness = record {
  says = λ terms rests before h out. SaysCauses rests terms (cause_at terms before h) out;
  wants = λ terms before h.
      may_keep h.raw || has_cause (offence_at terms (notes_of before) h.note);
  stops = λ terms before h. false;
  ends = λ terms before h outcome. ⊥;
  closes = λ terms heard tail out. out ≡ all_end terms heard tail.rests tail.fault
      (flaw_at tail.place tail.line tail.fault) (ends_of completeness terms heard tail);
  finishes = λ terms heard tail.
      IsJudged (all_verdict terms heard tail.fault (ends_of completeness terms heard tail));
}

-- ---- what their accounts hold, and what they add

-- **the account of `explain` stands for these events**, none of which offends
pub record FirstStands (a : FirstOffence) (terms : Terms) (heard : List Heard) : Type 0 where
  pub trail : IsTrail terms a.trail (heard_events heard)
  pub misfits : AreMisfits a.misfits (found_kept terms (heard_events heard))
  pub messages : AreNoted terms a.messages (heard_events heard) (heard_events heard)
  pub clean : first_no terms (heard_events heard) ≡ None

-- **that of `explain --all`**, which may offend
pub record AllStands (a : AllCauses) (terms : Terms) (heard : List Heard) : Type 0 where
  pub lost : AreLosses terms a.losses (notes_of heard)
  pub tallied : IsTally a.tally (offences terms (notes_of heard))
  pub trail : IsTrail terms a.trail (heard_events heard)

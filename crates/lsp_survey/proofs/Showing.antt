-- Without the lines of the kept events, what `show --all` writes is the report of every offence.
use Rattle.std.specs.Prelude.{filter}
use Rattle.std.proofs.Common.{◌≡◌, ℕ, List, [], ◌∷◌, ◌++◌, Option, Some, None, inl, inr, refl, sym, ap}
use Rattle.std.proofs.Common.{subst, ◌∙◌, append_assoc, append-nil}
use Rattle.lsp_replay.specs.Common.{Every, Heard, Lines, log_terms, notes_of, Offence, offence_at}
use Rattle.lsp_replay.specs.Common.{offence_lines, Tail, Terms}
use Rattle.lsp_replay.specs.RunLaws.{IsAllSaid, SaysOn}
use Rattle.lsp_survey.specs.Reported.{lines_of}
use Rattle.lsp_survey.specs.SurveyLaws.{LeavesOutLines, Piece, ShowsReport, bytes_of, is_offending}
use Rattle.lsp_survey.specs.SurveyLaws.{kept_line, offending}
use Rattle.lsp_survey.specs.SurveyRun.{report_run, said_by, show_all_run}
use Rattle.lsp_survey.specs.declared.survey.Options.{Options}
use Rattle.lsp_survey.proofs.SurveyRuns.{one_survey_output}
use Rattle.lsp_verdict.specs.declared.completeness.Completeness.TheVariants.{Ignored}
use Rattle.lsp_verdict.specs.declared.outcome.Outcome.{Outcome}

abbrev pub shown : Lines → Options
shown lines = record { completeness = Ignored; listing = Every; lines = Some lines }

abbrev listed : Options
listed = record { completeness = Ignored; listing = Every; lines = None }

-- this is the report of what these bytes show
record Reports (terms : Terms) (tail : Tail) (before hs : List Heard) (out : List ℕ) : Type 0 where
  pub other : List ℕ
  pub says : SaysOn (report_run Ignored Every) terms tail before hs other None
  pub pieces : List Piece
  pub last : List ℕ
  pub out_is : out ≡ bytes_of pieces ++ last
  pub other_is : other ≡ bytes_of (filter is_offending pieces) ++ last

-- one more piece
joined : (here front last left : List ℕ) → left ≡ front ++ last
    → here ++ left ≡ (here ++ front) ++ last
joined here front last left is =
    ap (λ w. here ++ w) is ∙ sym (append_assoc here front last)

module _ (lines : Lines) (terms : Terms) (tail : Tail) (ended : Option Outcome) where
  module _ (before hs : List Heard) (h : Heard) (out said left : List ℕ) (is : out ≡ said ++ left)
      (later : Reports terms tail (before ++ h ∷ []) hs left) where
    -- the event is kept, and shown by its line
    kept : offence_at terms (notes_of before) h.note ≡ None
        → Reports terms tail before (h ∷ hs) out
    kept none = record {
      other = later.other;
      says = inr (
        refl,
        (
          [],
          later.other,
          refl,
          sym (ap (said_by listed before h) none),
          later.says,
        ),
      );
      pieces = kept_line said ∷ later.pieces;
      last = later.last;
      out_is = is ∙ joined said (bytes_of later.pieces) later.last left later.out_is;
      other_is = later.other_is;
    }

    -- it offends
    offends : (o : Offence) → offence_at terms (notes_of before) h.note ≡ Some o
        → said ≡ lines_of Every (o ∷ []) → Reports terms tail before (h ∷ hs) out
    offends o some own =
        let own_lines = offence_lines o in
        let plain : lines_of Every (o ∷ []) ≡ own_lines = append-nil own_lines in
        record {
          other = lines_of Every (o ∷ []) ++ later.other;
          says = inr (
            refl,
            (
              lines_of Every (o ∷ []),
              later.other,
              refl,
              sym (ap (said_by listed before h) some),
              later.says,
            ),
          );
          pieces = offending o ∷ later.pieces;
          last = later.last;
          out_is = is ∙ ap (λ w. w ++ left) (own ∙ plain)
              ∙ joined own_lines (bytes_of later.pieces) later.last left later.out_is;
          other_is = ap (λ w. w ++ later.other) plain
              ∙ joined own_lines (bytes_of (filter is_offending later.pieces)) later.last
              later.other later.other_is;
        }

    by_offence : (o : Option Offence) → offence_at terms (notes_of before) h.note ≡ o
        → said ≡ said_by (shown lines) before h o → Reports terms tail before (h ∷ hs) out
    by_offence None at own = kept at
    by_offence (Some o) at own = offends o at own

  reports : (before hs : List Heard) (out : List ℕ)
      → SaysOn (show_all_run lines) terms tail before hs out ended
      → Reports terms tail before hs out
  reports before [] out says = record {
    other = out;
    says = (says.0, tt);
    pieces = [];
    last = out;
    out_is = refl;
    other_is = refl;
  }
  reports before (h ∷ hs) out (inl p) = absurd (cc p.0)
  reports before (h ∷ hs) out (inr (goes, (said, left, is, own, more))) =
      by_offence before hs h out said left is (reports (before ++ h ∷ []) hs left more)
      (offence_at terms (notes_of before) h.note) refl own

pub shows_report : ShowsReport
shows_report lines limits sizes log out other ended finished p q =
    let r = reports lines (log_terms limits p.format) p.tail ended [] p.heard out p.says in
    let all : IsAllSaid (report_run Ignored Every) limits log r.other None = record {
      format = p.format;
      records = p.records;
      heard = p.heard;
      tail = p.tail;
      told = p.told;
      says = r.says;
    } in
    let same = (one_survey_output listed).one limits sizes log r.other other None finished all q in
    subst (LeavesOutLines out) same.0 (r.pieces, r.last, r.out_is, r.other_is)

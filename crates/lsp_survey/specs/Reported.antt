-- The lines by which all that is wrong with a log is reported.
use Rattle.std.specs.Prelude.{◌≡◌, ℕ, List, [], ◌∷◌, ◌++◌, filter, length, Bool, true, false}
use Rattle.std.specs.Prelude.{Option, Some, None, option_map}
use Rattle.std.specs.List.{flat_map}
use Rattle.lsp_replay.specs.Common.{bad_lines, capped, Causes, Every, first_verdict, Listing}
use Rattle.lsp_replay.specs.Common.{Offence, offence_lines, offence_view, report, Summary}
use Rattle.lsp_survey.specs.declared.offence_count.OffenceCount.{OffenceCount}
use Rattle.lsp_verdict.specs.Survey.{found_line, shown_of}
use Rattle.lsp_verdict.specs.Verdict.{Verdict}

-- whether those that follow from earlier ones are listed too
abbrev pub is_every : Listing → Bool
is_every Causes = false
is_every Every = true

-- ---- its lines

-- the lines of these offences, as far as they are listed
abbrev pub lines_of : Listing → List Offence → List ℕ
lines_of listing found = flat_map offence_lines (shown_of (is_every listing) found)

-- what comes after the lines of the offences
abbrev pub closing : List Offence → Option Verdict → Summary → List ℕ
closing [] bad s = report (first_verdict [] bad s)
closing (o ∷ found) bad s = bad_lines bad ++ found_line (o ∷ found)

-- the first of them: the report of the verdict where nothing is listed, else those of a fault of
-- the log
abbrev pub verdict_lines : List Offence → Option Verdict → Summary → List ℕ
verdict_lines [] bad s = report (first_verdict [] bad s)
verdict_lines (o ∷ found) bad s = bad_lines bad

-- the last of them
abbrev pub count_line : List Offence → List ℕ
count_line [] = []
count_line (o ∷ found) = found_line (o ∷ found)

abbrev pub head_of : List Offence → Option Offence
head_of [] = None
head_of (o ∷ found) = Some o

-- the tally is that of these offences
pub record IsTally (t : OffenceCount) (found : List Offence) : Type 0 where
  pub first : option_map offence_view t.first ≡ head_of found
  pub all : t.found ≡ capped (length found)
  pub following : t.following ≡ capped (length (filter (λ (o : Offence). o.follows) found))

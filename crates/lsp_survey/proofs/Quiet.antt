-- Where `check --all` and `show --all` want no memory, they say nothing.
use Rattle.std.specs.Prelude.{◌||◌, filter, is_some, not}
use Rattle.std.proofs.Common.{◌≡◌, ℕ, Bool, true, false, List, [], ◌∷◌, Option, Some, None, refl}
use Rattle.std.proofs.Common.{◌∙◌}
use Rattle.lsp_replay.specs.JsonRun.{IsQuiet}
use Rattle.lsp_replay.specs.Common.{Causes, Every, Heard, Lines, Listing, notes_of, Offence}
use Rattle.lsp_replay.specs.Common.{offence_at, rule_of, shown_line}
use Rattle.lsp_survey.specs.Lost.{may_lose}
use Rattle.lsp_survey.specs.Reported.{is_every, lines_of}
use Rattle.lsp_survey.specs.SurveyRun.{has_lines, said_by, survey_run}
use Rattle.lsp_survey.specs.declared.survey.Options.{Options}

-- of two that fail together the second fails
second : (a b : Bool) → (a || b) ≡ false → b ≡ false
second true b e = absurd (cc e)
second false b e = e

nothing_shown : (lines : Option Lines) (before : List Heard) (h : Heard)
    → is_some lines ≡ false → shown_line lines before h ≡ []
nothing_shown None before h none = refl
nothing_shown (Some lines) before h none = absurd (cc none)

nothing_listed : (listing : Listing) (o : Offence) → (is_every listing || not o.follows) ≡ false
    → lines_of listing (o ∷ []) ≡ []
nothing_listed Every o none = absurd (cc none)
nothing_listed Causes o none = by_follows o.follows refl
  where
    by_follows : (follows : Bool) → o.follows ≡ follows → lines_of Causes (o ∷ []) ≡ []
    by_follows true is = rw is refl
    by_follows false is = absurd (cc (none, is))

nothing_said : (options : Options) (before : List Heard) (h : Heard) (o : Option Offence)
    → has_lines options o ≡ false → said_by options before h o ≡ []
nothing_said options before h None none = nothing_shown options.lines before h none
nothing_said options before h (Some o) none = nothing_listed options.listing o none

pub survey_quiet : (options : Options) → IsQuiet (survey_run options)
survey_quiet options terms rests before h said wants is =
    is ∙ nothing_said options before h (offence_at terms (notes_of before) h.note)
    (second (may_lose h.raw (rule_of terms before h)) _ wants)

-- Where `explain` and `explain --all` want no memory, they say nothing.
use Rattle.std.specs.Prelude.{◌||◌, filter, if◌then◌else◌, option_map}
use Rattle.std.specs.List.{cons_option}
use Rattle.std.proofs.Common.{◌≡◌, ℕ, Bool, true, false, List, [], ◌∷◌, Option, Some, None, refl}
use Rattle.std.proofs.Common.{ap, subst}
use Rattle.lsp_trail.specs.Common.{Breach, breach, Completeness, Heard, heard_events, notes_of}
use Rattle.lsp_trail.specs.Common.{offence_by, Rests, rule_at, Terms}
use Rattle.lsp_origins.specs.Explained.{Explained, is_cause}
use Rattle.lsp_explain.specs.ExplainRuns.{SaysCauses, all_run, explain_run, has_cause, may_keep}
use Rattle.lsp_explain.specs.NotedRun.{noted_run}
use Rattle.lsp_replay.specs.JsonRun.{IsQuiet}

-- `explain` wants memory for each event
pub explain_quiet : (completeness : Completeness) → IsQuiet (explain_run completeness)
explain_quiet completeness terms rests before h said wants is = absurd (cc wants)

-- and so does `explain --all --notes`
pub noted_quiet : (completeness : Completeness) → IsQuiet (noted_run completeness)
noted_quiet completeness terms rests before h said wants is = absurd (cc wants)

-- of two that fail together the second fails
second : (a b : Bool) → (a || b) ≡ false → b ≡ false
second true b e = absurd (cc e)
second false b e = e

-- an offence that follows is no cause
no_cause : (terms : Terms) (before : List Heard) (h : Heard) (rule : Option ℕ)
    → has_cause (option_map (offence_by terms (notes_of before) h.note) rule) ≡ false
    → filter (is_cause terms) (cons_option (option_map (breach before h) rule) []) ≡ []
no_cause terms before h None none = refl
no_cause terms before h (Some rule) none =
    ap (λ (b : Bool). if b then breach before h rule ∷ [] else []) none

-- of no cause nothing is said
unsaid : (rests : Rests) (terms : Terms) (out : List ℕ) → SaysCauses rests terms [] out → out ≡ []
unsaid rests terms out ([], zip, is) = is
unsaid rests terms out (e ∷ said, zip, is) = absurd zip

pub all_quiet : (completeness : Completeness) → IsQuiet (all_run completeness)
all_quiet completeness terms rests before h said wants is =
    unsaid rests terms said
    (subst (λ (found : List Breach). SaysCauses rests terms found said)
    (no_cause terms before h (rule_at terms (heard_events before) h.note.event)
    (second (may_keep h.raw) _ wants)) is)

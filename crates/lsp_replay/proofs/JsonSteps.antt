-- The steps of an account whose lines are made into objects.
use Rattle.std.specs.Prelude.{replicate, slice_get, suc, unwrap_or, zero}
use Rattle.std.proofs.Common.{◌≡◌, ◌∙◌, ℕ, Some, Bool, true, false, List, [], ◌++◌, ap, append-nil, refl, sym}
use Rattle.lsp_docs.specs.Documents.{Terms}
use Rattle.lsp_frame.specs.Front.{header_front}
use Rattle.lsp_json.specs.Rows.{json_lines}
use Rattle.lsp_replay.specs.JsonRun.{IsQuiet, json_run}
use Rattle.lsp_replay.specs.Run.{Run, Tail}
use Rattle.lsp_replay.specs.Telling.{Closes, Goes, Says, ShowsFault}
use Rattle.lsp_replay.specs.declared.seen.Flow.{Flow}
use Rattle.lsp_replay.specs.declared.seen.Flow.TheVariants.{GoOn, Stop}
use Rattle.lsp_types.specs.declared.side.Side.{Side}
use Rattle.lsp_types.specs.declared.side.Side.TheVariants.{Editor, Server}
use Rattle.lsp_verdict.specs.Event.{Event}
use Rattle.lsp_verdict.specs.Heard.{Heard, Rests, behind_at, rest_of}
use Rattle.lsp_verdict.specs.Verdict.{count_of, is_of}
use Rattle.lsp_verdict.specs.declared.outcome.Outcome.{Outcome}
use Rattle.lsp_verdict.specs.declared.raw.Raw as code
use Rattle.lsp_verdict.specs.declared.raw.Raw.TheVariants.{Content, Broken, Snapshot}

-- no line, no object
no_objects : json_lines [] ≡ []
no_objects = refl

pub nothing_added : (old shown : List ℕ) → shown ≡ [] → old ≡ old ++ json_lines shown
nothing_added old shown none =
    sym (ap (λ (w : List ℕ). old ++ json_lines w) none ∙ ap (λ (w : List ℕ). old ++ w) no_objects
    ∙ append-nil old)

-- each side has these bytes left, and these at hand behind each of so many frames
abbrev alike : List ℕ → ℕ → Rests
alike rest count = record {
  editor = rest;
  server = rest;
  editor_behind = replicate count rest;
  server_behind = replicate count rest;
}

alike_shows : (side : Side) (rest : List ℕ)
    → header_front rest ≡ header_front (rest_of (alike rest 0) side)
alike_shows Editor rest = refl
alike_shows Server rest = refl

last_of_all : (rest : List ℕ) (n : ℕ) → slice_get (replicate (suc n) rest) n ≡ Some rest
last_of_all rest zero = refl
last_of_all rest (suc n) = last_of_all rest n

alike_behind : (side : Side) (before : List Event) (rest : List ℕ)
    → rest ≡ behind_at (alike rest (suc (count_of (is_of side) before))) before side
alike_behind Editor before rest =
    sym (ap (λ o. unwrap_or o []) (last_of_all rest (count_of (is_of Editor) before)))
alike_behind Server before rest =
    sym (ap (λ o. unwrap_or o []) (last_of_all rest (count_of (is_of Server) before)))

-- some log shows each fault
pub some_rests : (raw : code.Raw) (before : List Event)
    → (rests : Rests) × ShowsFault raw before rests
some_rests (Content side bytes behind) before = (
  alike behind.now (suc (count_of (is_of side) before)),
  alike_behind side before behind.now,
)
some_rests (Broken side rule rest) before = (alike rest.now 0, alike_shows side rest.now)
some_rests (Snapshot version uri text) before = (alike [] 0, tt)

-- it stops where the run does
goes_on : (run : Run) (terms : Terms) (before : List Heard) (h : Heard) (Stands More : Type 0)
    (flow : Flow) → More → Goes run terms before h Stands flow
    → Goes (json_run run) terms before h (Stands × More) flow
goes_on run terms before h Stands More GoOn more goes = (goes.0, (goes.1, more))
goes_on run terms before h Stands More (Stop boxed) more goes = goes

-- a text that was empty grew by these lines, and this one by their objects
objects_of : (grown added shown old new : List ℕ) → grown ≡ [] ++ added → shown ≡ grown
    → new ≡ old ++ json_lines shown → new ≡ old ++ json_lines added
objects_of grown added shown old new grew same objects =
    objects ∙ ap (λ w. old ++ json_lines w) (same ∙ grew)

module _ {run : Run} {empty grown shown : List ℕ} (clear : empty ≡ []) (same : shown ≡ grown) where
  -- of an event
  pub json_says : {terms : Terms} {before : List Heard} {h : Heard} {Fits : Rests → Type 0}
      {Stands More : Type 0} {flow : Flow} {old new : List ℕ} → new ≡ old ++ json_lines shown → More
      → Says run terms before h Fits empty grown Stands flow
      → Says (json_run run) terms before h Fits old new (Stands × More) flow
  json_says {terms} {before} {h} {Fits} {Stands} {More} {flow} {old} {new} objects more s = record {
    said = json_lines s.said;
    added = objects_of grown s.said shown old new (s.added ∙ ap (λ w. w ++ s.said) clear) same
        objects;
    is = λ rests fits. (s.said, s.is rests fits, refl);
    goes = goes_on run terms before h Stands More flow more s.goes;
  }

  -- a quiet run wants memory where there are lines
  pub json_wants : {terms : Terms} {before : List Heard} {h : Heard} {Fits : Rests → Type 0}
      {Stands : Type 0} {flow : Flow} → IsQuiet run → (rests : Rests) → Fits rests
      → Says run terms before h Fits empty grown Stands flow → (shown ≡ [] → ⊥)
      → run.wants terms before h ≡ true
  json_wants {terms} {before} {h} quiet rests fits s some =
      by_wants (run.wants terms before h) refl
    where
      by_wants : (wants : Bool) → run.wants terms before h ≡ wants → run.wants terms before h ≡ true
      by_wants true is = is
      by_wants false is = absurd (some (same ∙ s.added ∙ ap (λ w. w ++ s.said) clear
          ∙ quiet terms rests before h s.said is (s.is rests fits)))

  -- of the end
  pub json_closes : {terms : Terms} {heard : List Heard} {Fits : Tail → Type 0}
      {outcome : Outcome} {old new : List ℕ} → new ≡ old ++ json_lines shown
      → Closes run terms heard Fits empty grown outcome
      → Closes (json_run run) terms heard Fits old new outcome
  json_closes {terms} {heard} {Fits} {outcome} {old} {new} objects s = record {
    said = json_lines s.said;
    added = objects_of grown s.said shown old new (s.added ∙ ap (λ w. w ++ s.said) clear) same
        objects;
    is = λ tail fits. let own = s.is tail fits in ((s.said, own.0, refl), own.1);
  }

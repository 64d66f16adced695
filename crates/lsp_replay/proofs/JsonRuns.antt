-- What is known of a run is known of it in JSON.
use Rattle.std.proofs.Common.{◌≡◌, ◌⊎◌, ◌∙◌, ℕ, List, [], ◌∷◌, ◌++◌, ap, inl, inr, refl, sym}
use Rattle.lsp_docs.specs.Documents.{Terms}
use Rattle.lsp_frame.specs.Bounds.{Bounds}
use Rattle.lsp_json.specs.Rows.{json_lines}
use Rattle.lsp_replay.specs.JsonRun.{IsJson, json_run, run_in}
use Rattle.lsp_replay.specs.Run.{EndsAfter, IsPassed, Run, SaysAll, StopsIn}
use Rattle.lsp_replay.specs.RunLaws.{AnswersVerdict, HasOneOutput}
use Rattle.lsp_replay.specs.declared.form.Form.{Form}
use Rattle.lsp_replay.specs.declared.form.Form.TheVariants as forms
use Rattle.lsp_replay.proofs.Outputs.{IsExact, IsTotal, has_one}
use Rattle.lsp_replay.proofs.RunLaws.{answers_verdict}
use Rattle.lsp_verdict.specs.Heard.{Heard, Rests}
use Rattle.lsp_verdict.specs.Outcome.{log_terms}
use Rattle.lsp_verdict.specs.declared.completeness.Completeness.{Completeness}
use Rattle.lsp_verdict.specs.declared.outcome.Outcome.{Outcome}

-- ---- one output

-- the JSON of one thing is one
one_json : {Said : List ℕ → Type 0} → ((a b : List ℕ) → Said a → Said b → a ≡ b)
    → (out other : List ℕ) → IsJson Said out → IsJson Said other → out ≡ other
one_json one out other (a, p, is) (b, q, at) = is ∙ ap json_lines (one a b p q) ∙ sym at

some_json : {Said : List ℕ → Type 0} → (said : List ℕ) × Said said → (out : List ℕ) × IsJson Said out
some_json (said, is) = (json_lines said, (said, is, refl))

json_exact : (run : Run) → IsExact run → IsExact (json_run run)
json_exact run exact = record {
  says = λ terms rests before h. one_json (exact.says terms rests before h);
  closes = λ terms heard tail. one_json (exact.closes terms heard tail);
  ends = exact.ends;
  finishes = exact.finishes;
}

json_total : (run : Run) → IsTotal run → IsTotal (json_run run)
json_total run total = record {
  says = λ terms rests before h. some_json (total.says terms rests before h);
  closes = λ terms heard tail. some_json (total.closes terms heard tail);
  ends = total.ends;
  finishes = total.finishes;
}

-- **a log has one output of such a run in each form**
pub has_one_in : (form : Form) (run : Run) → IsExact run → IsTotal run
    → HasOneOutput (run_in form run)
has_one_in forms.Lines run exact total = has_one run exact total
has_one_in forms.Json run exact total =
    has_one (json_run run) (json_exact run exact) (json_total run total)

-- ---- what is answered

-- what was said as JSON of these events was said of them
plain_said : (run : Run) (terms : Terms) (rests : Rests) (before hs : List Heard) (out : List ℕ)
    → SaysAll (json_run run) terms rests before hs out
    → (said : List ℕ) × SaysAll run terms rests before hs said
plain_said run terms rests before [] out is = ([], refl)
plain_said run terms rests before (h ∷ hs) out (said, left, is, own, goes, later) =
    let rest = plain_said run terms rests (before ++ h ∷ []) hs left later in
    (own.0 ++ rest.0, (own.0, rest.0, refl, own.1, goes, rest.1))

-- a run in JSON ends as the run does
module _ (run : Run) (limits : Bounds) (log out : List ℕ) (outcome : Outcome)
    (p : IsPassed (json_run run) limits log out outcome) where
  abbrev terms : Terms
  terms = log_terms limits p.format

  passed : (said : List ℕ) → StopsIn run terms p.tail.rests p.heard said outcome
      ⊎ EndsAfter run terms p.tail p.heard said outcome → IsPassed run limits log said outcome
  passed said is = record {
    format = p.format;
    records = p.records;
    heard = p.heard;
    tail = p.tail;
    told = p.told;
    is = is;
  }

  plain_passed : (said : List ℕ) × IsPassed run limits log said outcome
  plain_passed = by_end p.is
    where
      by_end : StopsIn (json_run run) terms p.tail.rests p.heard out outcome
          ⊎ EndsAfter (json_run run) terms p.tail p.heard out outcome
          → (said : List ℕ) × IsPassed run limits log said outcome
      by_end (inl s) =
          let front = plain_said run terms p.tail.rests [] s.first s.front s.said in
          let own = s.stop.says in (
            front.0 ++ own.0,
            passed (front.0 ++ own.0) (inl (record {
              first = s.first;
              here = s.here;
              later = s.later;
              are = s.are;
              front = front.0;
              last = own.0;
              is = refl;
              said = front.1;
              stop = record { says = own.1; stops = s.stop.stops; ends = s.stop.ends };
            })),
          )
      by_end (inr e) =
          let front = plain_said run terms p.tail.rests [] p.heard e.front e.said in
          let own = e.closes.0 in (
            front.0 ++ own.0,
            passed (front.0 ++ own.0) (inr (record {
              front = front.0;
              last = own.0;
              is = refl;
              said = front.1;
              closes = (own.1, e.closes.1);
            })),
          )

-- **a run answers the verdict in each form**
pub answers_in : (form : Form) (completeness : Completeness) (run : Run)
    → AnswersVerdict completeness run → AnswersVerdict completeness (run_in form run)
answers_in forms.Lines completeness run answers = answers
answers_in forms.Json completeness run answers =
    answers_verdict completeness (json_run run) (λ limits sizes log out outcome p.
    let plain = plain_passed run limits log out outcome p in
    answers.verdict limits sizes log plain.0 outcome plain.1)

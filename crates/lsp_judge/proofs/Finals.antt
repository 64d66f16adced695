-- The verdict on the records of a judge.
use Rattle.std.proofs.Common.{◌≡◌, ◌<◌, ◌^◌, ℕ, Bool, true, false, List, [], Option, Some, None}
use Rattle.std.proofs.Common.{refl, sym, ap, subst, ◌∙◌, append-nil}
use Rattle.std.specs.Prelude.{IfSome, unwrap_or, option_map}
use Rattle.std.specs.Option.{option_or}
use Rattle.lsp_replay.specs.Common.{as_given, bad_log, bad_log_of, Bounds, completed, Completeness}
use Rattle.lsp_replay.specs.Common.{Counts, Ending, ends_inside, Event, first_end, first_no}
use Rattle.lsp_replay.specs.Common.{Follows, Format, IsFinal, IsFinalBy, IsSession, LogCode}
use Rattle.lsp_replay.specs.Common.{no_next, rest_of, sent_in, summary, summary_view, Terms}
use Rattle.lsp_replay.specs.Common.{terms_of, Who, yes}
use Rattle.lsp_types.specs.declared.side.Side.TheVariants.{Editor, Server}
use Rattle.lsp_session.specs.Incomplete.{incomplete}
use Rattle.lsp_session.specs.State as session
use Rattle.lsp_docs.specs.State as docs
use Rattle.lsp_log.specs.Log.{Record}
use Rattle.lsp_replay.specs.LogEvents.{flaw_of}
use Rattle.lsp_replay.specs.declared.log_events.End.{End}
use Rattle.lsp_replay.specs.declared.log_events.LogEvents.{LogEvents}
use Rattle.lsp_replay.specs.Streams as frames
use Rattle.lsp_judge.specs.Standing.{closed_by, end_by, ends_with, verdict_in, HasHeard}
use Rattle.lsp_judge.specs.Standing.{State, HasOffence, Stands}
use Rattle.lsp_judge.specs.JudgingRun.{completed_by}
use Rattle.lsp_verdict.specs.Placed.{Raw}
use Rattle.lsp_verdict.specs.Verdict.{Verdict}
use Rattle.lsp_verdict.specs.Verdict.{verdict}
use Rattle.lsp_verdict.specs.declared.completeness.Completeness.TheVariants.{Ignored, Required}
use Rattle.lsp_verdict.specs.declared.verdict.Summary as code
use Rattle.lsp_judge.specs.declared.ruling.Ruling.{Ruling}
use Rattle.lsp_verdict.specs.declared.verdict.Who.TheVariants as who
use Rattle.lsp_verdict.proofs.Completing.{completed_other}
use Rattle.lsp_verdict.proofs.Logs.{final_more}
use Rattle.lsp_verdict.proofs.PlacedLemmas.{placed_whole}
use Rattle.lsp_verdict.proofs.Sessions.{same_session}
use Rattle.lsp_verdict.proofs.ExactCounts.{capped_is}
use Rattle.lsp_judge.proofs.Answering.{no_yes}
use Rattle.lsp_judge.proofs.Records.{is_open, offence_in}
use Rattle.lsp_judge.proofs.Rests.{inside_is}

-- ---- a judge that gave a verdict

-- an offence is the verdict
pub offence_final : (limits : Bounds) (format : Format) (rs : List Record) (given v : Verdict)
    (flaw : Option (ℕ × LogCode)) → HasOffence limits format rs given
    → IsFinal limits format rs flaw v → given ≡ as_given v
offence_final limits format rs given v flaw (w, offends, is) final =
    is ∙ ap as_given (final_more limits format rs rs [] flaw w v (sym (append-nil rs)) offends
    final)

pub given_final : (s : State) (rs : List Record) (ruling : Ruling) (given v : Verdict)
    (flaw : Option (ℕ × LogCode)) → s.given ≡ Some ruling → verdict_in ruling ≡ Some given
    → Stands s rs → IsFinal s.limits s.format rs flaw v → given ≡ as_given v
given_final s rs ruling given v flaw e is stands final =
    offence_final s.limits s.format rs given v flaw (offence_in s rs ruling given e is stands) final

-- whether or not the session has to be complete
pub given_by : (completeness : Completeness) (s : State) (rs : List Record) (ruling : Ruling)
    (given v : Verdict) (flaw : Option (ℕ × LogCode)) → s.given ≡ Some ruling
    → verdict_in ruling ≡ Some given → Stands s rs
    → IsFinalBy completeness s.limits s.format rs flaw v → given ≡ as_given v
given_by Ignored s rs ruling given v flaw e is stands final =
    given_final s rs ruling given v flaw e is stands final
given_by Required s rs ruling given v flaw e is stands p =
    let named = given_final s rs ruling given p.plain flaw e is stands p.final in
    named ∙ ap as_given (sym (completed_other p.final.events p.plain
    (λ t same. no_yes ruling _ (is ∙ ap Some (named ∙ ap as_given same)))) ∙ p.says)

-- ---- records of which no event offends

abbrev pub ended : Option (ℕ × LogCode) → Bool → Bool → Ending
ended flaw editor server = record {
  log_fault = flaw;
  editor_rest = editor;
  server_rest = server;
}

-- nothing offends and the log has no fault: the rest decides
by_rest : (terms : Terms) (es : List Event) (editor server : Bool) → first_no terms es ≡ None
    → verdict terms es (ended None editor server)
    ≡ unwrap_or (rest_of es editor server) (yes (summary terms es))
by_rest terms es editor server clean =
    ap (λ o. unwrap_or (option_or o (rest_of es editor server)) (yes (summary terms es))) clean

-- nothing offends: the fault of the log decides
pub by_log : (terms : Terms) (es : List Event) (editor server : Bool) (number : ℕ) (code : LogCode)
    → first_no terms es ≡ None
    → verdict terms es (ended (Some (number, code)) editor server) ≡ bad_log number code
by_log terms es editor server number code clean =
    ap (λ o. unwrap_or (option_or o (Some (bad_log number code))) (yes (summary terms es))) clean

-- the verdict is what is given at the end
ends_plain : (terms : Terms) (es : List Event) (editor server : Bool)
    → unwrap_or (rest_of es editor server) (yes (summary terms es))
    ≡ end_by Ignored terms es editor server
ends_plain terms es true server = refl
ends_plain terms es false true = refl
ends_plain terms es false false = refl

ends_complete : (terms : Terms) (es : List Event) (editor server : Bool)
    → completed es (unwrap_or (rest_of es editor server) (yes (summary terms es)))
    ≡ end_by Required terms es editor server
ends_complete terms es false false = by_lack (incomplete (sent_in es))
  where
    by_lack : (o : Option ℕ)
        → unwrap_or (option_map (λ rule. no_next rule who.Editor es) o) (yes (summary terms es))
        ≡ ends_with terms es (option_map (λ rule. (rule, who.Editor)) o)
    by_lack None = refl
    by_lack (Some rule) = refl
ends_complete terms es _ _ = refl

-- whether or not the session has to be complete
pub by_end : (completeness : Completeness) (terms : Terms) (es : List Event) (editor server : Bool)
    → first_no terms es ≡ None
    → completed_by completeness es (verdict terms es (ended None editor server))
    ≡ end_by completeness terms es editor server
by_end Ignored terms es editor server clean =
    by_rest terms es editor server clean ∙ ends_plain terms es editor server
by_end Required terms es editor server clean =
    ap (completed es) (by_rest terms es editor server clean) ∙ ends_complete terms es editor server

module _ (limits : Bounds) (format : Format) (s : frames.State) (m : session.State) (d : docs.State)
    (c : Counts) (rs : List Record) (raws : List Raw) (events : List Event)
    (stands : frames.Stands limits s rs raws [])
    (has : HasHeard (terms_of limits format) m d c raws events) where
  abbrev terms : Terms
  terms = terms_of limits format

  abbrev editor_inside : Bool
  editor_inside = ends_inside s.editor

  abbrev server_inside : Bool
  server_inside = ends_inside s.server

  clean : first_no terms events ≡ None
  clean = ap (λ (t : Terms). first_no t events) (sym has.by) ∙ has.follows.clean

  here : IsSession limits rs events
  here = (raws, placed_whole limits rs raws [] refl stands.placed, has.read)

  -- the verdict on them
  final_is : (flaw : Option (ℕ × LogCode)) (v : Verdict) → IsFinal limits format rs flaw v
      → v ≡ verdict terms events (ended flaw editor_inside server_inside)
  final_is flaw v final =
      let same = same_session limits rs rs final.events events refl final.session here in
      let editor = inside_is terms limits s rs raws events Editor final.editor stands has.read clean
      final.editor_rest in
      let server = inside_is terms limits s rs raws events Server final.server stands has.read clean
      final.server_rest in
      sym final.says
      ∙ (λ i. verdict terms (same i) (ended flaw ((sym editor) i) ((sym server) i)))

  bad_is : (number : ℕ) (code : LogCode) (v : Verdict)
      → IsFinal limits format rs (Some (number, code)) v → v ≡ bad_log number code
  bad_is number code v final =
      final_is (Some (number, code)) v final
      ∙ by_log terms events editor_inside server_inside number code clean

  -- the fault of the log is given
  pub bad_final : (number : ℕ) (code : LogCode) (v : Verdict) → number < 2 ^ 64
      → IsFinal limits format rs (Some (number, code)) v → bad_log number code ≡ as_given v
  bad_final number code v small final =
      ap (λ n. bad_log n code) (sym (capped_is number small))
      ∙ ap as_given (sym (bad_is number code v final))

  final_end : (completeness : Completeness) (v : Verdict)
      → IsFinalBy completeness limits format rs None v
      → v ≡ end_by completeness terms events editor_inside server_inside
  final_end Ignored v final =
      final_is None v final ∙ by_end Ignored terms events editor_inside server_inside clean
  final_end Required v p =
      let same = same_session limits rs rs p.final.events events refl p.final.session here in
      sym p.says ∙ ap (λ es. completed es p.plain) same
      ∙ ap (completed events) (final_is None p.plain p.final)
      ∙ by_end Required terms events editor_inside server_inside clean

  -- what is given where they end is the verdict
  pub end_final : (completeness : Completeness) (given v : Verdict)
      → given ≡ as_given (end_by completeness d.terms events editor_inside server_inside)
      → IsFinalBy completeness limits format rs None v → given ≡ as_given v
  end_final completeness given v told final =
      told ∙ ap (λ (t : Terms). as_given (end_by completeness t events editor_inside server_inside))
      has.by ∙ ap as_given (sym (final_end completeness v final))

  -- and where the log ends
  pub closed_final : (flaw : Option (ℕ × LogCode)) (given v : Verdict)
      → given ≡ unwrap_or (bad_log_of flaw)
      (as_given (end_by Ignored d.terms events editor_inside server_inside))
      → as_given v ≡ v → IsFinal limits format rs flaw v → given ≡ v
  closed_final None given v told exact final = end_final Ignored given v told final ∙ exact
  closed_final (Some (number, code)) given v told exact final =
      told ∙ sym (bad_is number code v final)

-- ---- a judge that gave none

pub log_final : (s : State) (rs : List Record) (number : ℕ) (code : LogCode) (v : Verdict)
    → s.given ≡ None → number < 2 ^ 64 → Stands s rs
    → IsFinal s.limits s.format rs (Some (number, code)) v → bad_log number code ≡ as_given v
log_final s rs number code v none small stands final =
    let o = is_open s rs none stands in
    bad_final s.limits s.format s.streams s.messages s.documents s.counts rs o.1.past o.0 o.1.stands
    o.1.has number code v small final

pub open_final : (completeness : Completeness) (s : State) (rs : List Record) (given v : Verdict)
    → s.given ≡ None
    → ((events : List Event) → Follows s.messages s.documents s.counts events
    → given ≡ as_given (end_by completeness s.documents.terms events (ends_inside s.streams.editor)
    (ends_inside s.streams.server)))
    → Stands s rs → IsFinalBy completeness s.limits s.format rs None v → given ≡ as_given v
open_final completeness s rs given v none told stands final =
    let o = is_open s rs none stands in
    end_final s.limits s.format s.streams s.messages s.documents s.counts rs o.1.past o.0 o.1.stands
    o.1.has completeness given v (told o.0 o.1.has.follows) final

pub named_end : (ruling : Ruling) (given v : Verdict) → verdict_in ruling ≡ Some given
    → IfSome (verdict_in ruling) (λ said. said ≡ as_given v) → given ≡ as_given v
named_end ruling given v is told =
    let here : IfSome (Some given) (λ said. said ≡ as_given v) =
    subst (λ o. IfSome o (λ said. said ≡ as_given v)) is told in here

-- ---- what is given at the end

-- of a log without a fault
pub sound_closed : (completeness : Completeness) (terms : Terms) (events : List Event)
    (e : LogEvents) (end : End) (given : Verdict) → flaw_of end ≡ None
    → given ≡ as_given (end_by completeness terms events (ends_inside e.streams.editor)
    (ends_inside e.streams.server)) → given ≡ closed_by completeness terms events e end
sound_closed completeness terms events e end given sound is =
    is ∙ sym (ap (λ (f : Option (ℕ × LogCode)). unwrap_or (bad_log_of f) (as_given
    (end_by completeness terms events (ends_inside e.streams.editor)
    (ends_inside e.streams.server)))) sound)

module _ (completeness : Completeness) (terms : Terms) (events : List Event) (editor server : Bool)
    (o : Option (ℕ × Who)) (is : o ≡ first_end completeness events editor server) where
  pub no_ends : (rule : ℕ) (by : Who) (ruling : Ruling) → o ≡ Some (rule, by)
      → verdict_in ruling ≡ Some (as_given (no_next rule by events))
      → IfSome (verdict_in ruling)
      (λ said. said ≡ as_given (end_by completeness terms events editor server))
  no_ends rule by ruling some named = subst (λ w. IfSome w
      (λ said. said ≡ as_given (end_by completeness terms events editor server))) (sym named)
      (ap (λ w. as_given (ends_with terms events w)) (sym some ∙ is))

  pub yes_ends : (s : code.Summary) → o ≡ None
      → yes (summary_view s) ≡ as_given (yes (summary terms events))
      → yes (summary_view s) ≡ as_given (end_by completeness terms events editor server)
  yes_ends s none told = told ∙ ap (λ w. as_given (ends_with terms events w)) (sym none ∙ is)

-- What the verdicts on a log mean.
use Rattle.std.proofs.Common.{◌≡◌, ◌⊎◌, ◌<◌, ℕ, Bool, true, false, List, [], ◌∷◌, length, Option, Some, None, inl, inr, refl, sym, ap, subst, ◌∙◌, arith}
use Rattle.lsp_frame.specs.Bounds.{Bounds, IsInRange}
use Rattle.lsp_frame.specs.Frame.{Breaks, IsStream}
use Rattle.lsp_frame.specs.declared.format.Format.{Format}
use Rattle.lsp_types.specs.declared.side.Side.TheVariants.{Editor, Server}
use Rattle.lsp_docs.specs.Documents.{Terms, terms_of}
use Rattle.lsp_log.specs.declared.fault.LogCode.{LogCode}
use Rattle.lsp_log.specs.Log.{Record, IsLog}
use Rattle.lsp_verdict.specs.Event.{calls, Event, sent_in}
use Rattle.lsp_verdict.specs.Laws.{YesMeansKept, KeptMeansYes, Names, HasRest107, NoNamesTheFirst}
use Rattle.lsp_verdict.specs.Laws.{HasFault, BadLogMeansFault}
use Rattle.lsp_verdict.specs.Given.{as_given}
use Rattle.lsp_verdict.specs.Kept.{NothingOffends, KeepsRules, AreFrames, AreKept}
use Rattle.lsp_verdict.specs.Outcome.{HasRest, is_rest, ending, IsFinal, format_or_one, log_terms}
use Rattle.lsp_verdict.specs.Placed.{IsSession, joined}
use Rattle.lsp_verdict.specs.declared.verdict.Who.{Who}
use Rattle.lsp_verdict.specs.declared.verdict.Who.TheVariants as who
use Rattle.lsp_verdict.specs.Verdict.{Verdict, Summary, yes, no, bad_log, no_next, no_by, first_no, bad_log_of, rest_of, summary}
use Rattle.lsp_verdict.proofs.CallsMade.{calls_accepted, versions_rise, snapshots_agree}
use Rattle.lsp_verdict.proofs.Sessions.{no_fault}
use Rattle.lsp_verdict.proofs.Messages.{admitted, answers_match, keeps_lifecycle}
use Rattle.lsp_verdict.proofs.Verdicts.{nothing_offends, nothing_found, names_first, Why, is_yes, is_refused, yes_where}

-- ---- a stream with nothing left has no fault

frames_of : (limits : Bounds) → IsInRange limits → (bytes contents_rest : List ℕ) → contents_rest ≡ [] → HasRest limits bytes contents_rest → AreFrames limits bytes
frames_of limits sizes bytes left none (contents, None, stream) = (contents, subst (λ (w : List ℕ). IsStream limits bytes contents w None) none stream)
frames_of limits sizes bytes left none (contents, Some rule, stream) =
    absurd (no_fault limits sizes rule (subst (λ (w : List ℕ). Breaks limits w rule) none stream.fault))

nothing_left : (rest : List ℕ) → is_rest rest ≡ false → rest ≡ []
nothing_left [] e = refl
nothing_left (b ∷ bs) e = let same : true ≡ false = e in absurd cc

-- ---- the events

pub keeps_rules : (terms : Terms) (es : List Event) → first_no terms es ≡ None → KeepsRules terms es
keeps_rules terms es none =
    let clean = nothing_offends terms es none in
    record {
      nothing_offends = clean;
      lifecycle = keeps_lifecycle terms es clean;
      responses = answers_match (sent_in es) (admitted terms [] es none);
      versions = versions_rise terms es clean;
      snapshots = snapshots_agree terms (calls es) (calls_accepted terms es none);
    }

no_rests : (es : List Event) (editor server : Bool) → rest_of es editor server ≡ None → (editor ≡ false) × (server ≡ false)
no_rests es true server e = let same : Some (no_next 107 who.Editor es) ≡ None = e in absurd cc
no_rests es false true e = let same : Some (no_next 107 who.Server es) ≡ None = e in absurd cc
no_rests es false false e = (refl, refl)

no_log_fault : (flaw : Option (ℕ × LogCode)) → bad_log_of flaw ≡ None → flaw ≡ None
no_log_fault None e = refl
no_log_fault (Some f) e = let same : Some (bad_log f.0 f.1) ≡ None = e in absurd cc

-- what Yes says of records
pub are_kept : (limits : Bounds) → IsInRange limits → (format : Format) (records : List Record) (flaw : Option (ℕ × LogCode)) (s : Summary) → IsFinal limits format records flaw (yes s) → AreKept limits format records × (flaw ≡ None)
are_kept limits sizes format records flaw s final =
    let is = is_yes (terms_of limits format) final.events (ending flaw final.editor final.server) s final.says in
    let rests = no_rests final.events (is_rest final.editor) (is_rest final.server) is.no_rest in (
      record {
        events = final.events;
        session = final.session;
        editor = frames_of limits sizes (joined Editor records) final.editor (nothing_left final.editor rests.0) final.editor_rest;
        server = frames_of limits sizes (joined Server records) final.server (nothing_left final.server rests.1) final.server_rest;
        keeps = keeps_rules (terms_of limits format) final.events is.none;
      },
      no_log_fault flaw is.no_fault,
    )

pub yes_means_kept : YesMeansKept
yes_means_kept limits sizes log s v =
    let kept = are_kept limits sizes (format_or_one v.format) v.records v.fault s v.final in
    record { format = v.format; records = v.records; is_log = subst (IsLog limits log v.format v.records) kept.1 v.is_log; kept = kept.0 }

-- the verdict on records where nothing offends and both streams are complete frames
pub final_yes : (limits : Bounds) (format : Format) (records : List Record) (events : List Event) → IsSession limits records events → NothingOffends (terms_of limits format) events
    → AreFrames limits (joined Editor records) → AreFrames limits (joined Server records) → IsFinal limits format records None (yes (summary (terms_of limits format) events))
final_yes limits format records events session clean editor server = record {
  events = events;
  editor = [];
  server = [];
  session = session;
  editor_rest = (editor.0, None, editor.1);
  server_rest = (server.0, None, server.1);
  says = yes_where (terms_of limits format) events (ending None [] []) (record { none = nothing_found (terms_of limits format) events clean; no_fault = refl; no_rest = refl });
}

pub kept_means_yes : KeptMeansYes
kept_means_yes limits log format records events is_log session clean editor server =
    record { format = format; records = records; fault = None; is_log = is_log; final = final_yes limits (format_or_one format) records events session clean editor server }

-- ---- No

abbrev IsBadLog : Verdict → Type 0
IsBadLog (bad_log number code) = Unit {0}
IsBadLog _ = ⊥

log_says : (flaw : Option (ℕ × LogCode)) (v : Verdict) → bad_log_of flaw ≡ Some v → IsBadLog v
log_says None v e = let same : None ≡ Some v = e in absurd cc
log_says (Some f) v e = let same : bad_log f.0 f.1 ≡ v = cc e in subst IsBadLog same tt

rest_says : (es : List Event) (editor server : List ℕ) (v : Verdict) → rest_of es (is_rest editor) (is_rest server) ≡ Some v
    → ((0 < length editor) × (v ≡ no_next 107 who.Editor es)) ⊎ ((editor ≡ []) × (0 < length server) × (v ≡ no_next 107 who.Server es))
rest_says es (b ∷ bs) server v e = let same : no_next 107 who.Editor es ≡ v = cc e in inl (omega arith, sym same)
rest_says es [] (b ∷ bs) v e = let same : no_next 107 who.Server es ≡ v = cc e in inr (refl, omega arith, sym same)
rest_says es [] [] v e = let same : None ≡ Some v = e in absurd cc

-- what No says of records
pub final_no : (limits : Bounds) (format : Format) (records : List Record) (flaw : Option (ℕ × LogCode)) (rule : ℕ) (who : Who) (number event : ℕ) → (final : IsFinal limits format records flaw (no rule who number event))
    → Names (terms_of limits format) final.events (no rule who number event) ⊎ HasRest107 limits format records flaw final.events (no rule who number event)
final_no limits format records flaw rule who number event final =
    by_why (is_refused (terms_of limits format) final.events (ending flaw final.editor final.server) (no rule who number event) tt final.says)
  where
    by_why : Why (terms_of limits format) final.events (ending flaw final.editor final.server) (no rule who number event)
        → Names (terms_of limits format) final.events (no rule who number event) ⊎ HasRest107 limits format records flaw final.events (no rule who number event)
    by_why (inl first) = inl (names_first (terms_of limits format) final.events (no rule who number event) first)
    by_why (inr (none, inl found)) = absurd (log_says flaw (no rule who number event) found)
    by_why (inr (none, inr (no_fault, rest))) = inr (record {
      clean = nothing_offends (terms_of limits format) final.events none;
      no_fault = no_log_fault flaw no_fault;
      editor = final.editor;
      server = final.server;
      editor_rest = final.editor_rest;
      server_rest = final.server_rest;
      named = rest_says final.events final.editor final.server (no rule who number event) rest;
    })

pub no_names : NoNamesTheFirst
no_names limits log rule who number event v = record {
  format = v.format;
  records = v.records;
  fault = v.fault;
  events = v.final.events;
  is_log = v.is_log;
  session = v.final.session;
  names = final_no limits (format_or_one v.format) v.records v.fault rule who number event v.final;
}

-- ---- BadLog

abbrev pub IsNo : Verdict → Type 0
IsNo (no rule who number event) = Unit {0}
IsNo _ = ⊥

pub by_says_no : (before : List Event) (e : Event) (rule : ℕ) → IsNo (no_by before e rule)
by_says_no before e rule = tt

pub rest_says_no : (es : List Event) (editor server : Bool) (v : Verdict) → rest_of es editor server ≡ Some v → IsNo v
rest_says_no es true server v e = let same : no_next 107 who.Editor es ≡ v = cc e in subst IsNo same tt
rest_says_no es false true v e = let same : no_next 107 who.Server es ≡ v = cc e in subst IsNo same tt
rest_says_no es false false v e = let same : None ≡ Some v = e in absurd cc

log_has : (flaw : Option (ℕ × LogCode)) (number : ℕ) (code : LogCode) → bad_log_of flaw ≡ Some (bad_log number code) → flaw ≡ Some (number, code)
log_has None number code e = let same : None ≡ Some (bad_log number code) = e in absurd cc
log_has (Some (n, c)) number code e =
    let numbers : n ≡ number = cc e in
    let codes : c ≡ code = cc e in
    ap (λ k. let f : Option (ℕ × LogCode) = Some (k, c) in f) numbers ∙ ap (λ k. let f : Option (ℕ × LogCode) = Some (number, k) in f) codes

pub bad_log_has : BadLogMeansFault
bad_log_has limits log number code v =
    by_why (is_refused (log_terms limits v.format) v.final.events (ending v.fault v.final.editor v.final.server) (bad_log number code) tt v.final.says)
  where
    by_why : Why (log_terms limits v.format) v.final.events (ending v.fault v.final.editor v.final.server) (bad_log number code) → HasFault limits log number code
    by_why (inl first) =
        let n = names_first (log_terms limits v.format) v.final.events (bad_log number code) first in
        absurd (subst IsNo (sym n.is) (by_says_no n.before n.event n.rule))
    by_why (inr (none, inl found)) = record {
      format = v.format;
      records = v.records;
      events = v.final.events;
      is_log = subst (IsLog limits log v.format v.records) (log_has v.fault number code found) v.is_log;
      session = v.final.session;
      clean = nothing_offends (log_terms limits v.format) v.final.events none;
    }
    by_why (inr (none, inr (no_log, rest))) = absurd (rest_says_no v.final.events (is_rest v.final.editor) (is_rest v.final.server) (bad_log number code) rest)

-- ---- a Yes that is given

pub is_yes_given : (v : Verdict) (s : Summary) → yes s ≡ as_given v → (t : Summary) × (v ≡ yes t)
is_yes_given (yes t) s e = (t, refl)
is_yes_given _ s e = absurd cc

-- What is answered on a log and on records means what the verdict on it means.
use Rattle.std.proofs.Common.{◌≡◌, ◌⊎◌, ℕ, List, Option, Some, None, Result, Ok, Err, inl, inr}
use Rattle.std.proofs.Common.{refl, sym, ap, subst, ◌∙◌}
use Rattle.std.specs.Prelude.{IfOk, OnErr, option_map}
use Rattle.std.proofs.lemmas.Option.{same_Some}
use Rattle.std.proofs.lemmas.Result.{IfOk-weaker}
use Rattle.lsp_replay.specs.Common.{as_given, bad_log, Bounds, Completeness, Event, first_no}
use Rattle.lsp_replay.specs.Common.{Format, format_or_one, IsFinal, IsFinalBy, IsInRange, IsSession}
use Rattle.lsp_replay.specs.Common.{IsVerdict, log_terms, LogCode, no, no_by, Summary, summary}
use Rattle.lsp_replay.specs.Common.{terms_of, verdict_view, Who, yes}
use Rattle.lsp_log.specs.Log.{Record}
use Rattle.lsp_types.specs.declared.memory.Memory.{Memory}
use Rattle.lsp_judge.specs.declared.ruling.Ruling.{Ruling}
use Rattle.lsp_judge.specs.declared.ruling.Ruling.TheVariants as rulings
use Rattle.lsp_verdict.specs.declared.verdict.Summary as summaries
use Rattle.lsp_verdict.specs.declared.verdict.Verdict as code
use Rattle.lsp_verdict.specs.declared.verdict.Verdict.TheVariants as verdicts
use Rattle.lsp_verdict.specs.declared.completeness.Completeness.TheVariants.{Ignored, Required}
use Rattle.lsp_judge.specs.Answered.{NamesFirst, NamesRest, NamesShort, NoneOffends, AreClean}
use Rattle.lsp_judge.specs.Answered.{IsClean, SaysYes}
use Rattle.lsp_verdict.specs.Complete.{AreComplete, IsBroughtToEnd, IsCompleteFinal}
use Rattle.lsp_verdict.specs.Complete.{IsCompleteVerdict}
use Rattle.lsp_verdict.specs.Laws.{HasRest107, Names}
use Rattle.lsp_verdict.specs.Kept.{AreKept}
use Rattle.lsp_judge.specs.Judging.{AnswersEnd, KeepsAnswer}
use Rattle.lsp_judge.specs.Standing.{IfRefused, verdict_in, HasOffence, State, Stands, WasRefused}
use Rattle.lsp_judge.specs.Standing.{is_given}
use Rattle.lsp_verdict.specs.Verdict.{Verdict}
use Rattle.lsp_verdict.proofs.Completing.{some_complete_final, are_complete, complete_no}
use Rattle.lsp_verdict.proofs.Completing.{complete_yes, one_complete_verdict}
use Rattle.lsp_verdict.proofs.Logs.{some_final, one_verdict}
use Rattle.lsp_verdict.proofs.Meanings.{are_kept, final_no, final_yes, is_yes_given, kept_means_yes}
use Rattle.lsp_judge.proofs.Records.{is_open, offence_in, clean_session}
use Rattle.lsp_verdict.proofs.Sessions.{some_session}
use Rattle.lsp_verdict.proofs.Verdicts.{names_first, nothing_offends}

-- ---- Yes

pub clean_yes : (limits : Bounds) → IsInRange limits → (given : Verdict) (log : List ℕ)
    → IsVerdict limits log given → (format : Option Format) (events : List Event)
    → IsClean limits log format events → given ≡ yes (summary (log_terms limits format) events)
clean_yes limits sizes given log says format events (records, is_log, c) =
    one_verdict limits sizes log given (yes (summary (log_terms limits format) events)) says
    (kept_means_yes limits log format records events is_log c.session c.clean c.editor c.server)

pub clean_complete : (limits : Bounds) → IsInRange limits → (given : Verdict) (log : List ℕ)
    → IsCompleteVerdict limits log given → (format : Option Format) (events : List Event)
    → IsClean limits log format events → IsBroughtToEnd events
    → given ≡ yes (summary (log_terms limits format) events)
clean_complete limits sizes given log says format events (records, is_log, c) ended =
    let final = complete_yes limits (format_or_one format) records events c.session c.clean c.editor
    c.server ended in
    let whole : IsVerdict limits log final.plain =
    record {
      format = format;
      records = records;
      fault = None;
      is_log = is_log;
      final = final.final;
    } in
    one_complete_verdict limits sizes log given (yes (summary (log_terms limits format) events))
    says (record { plain = final.plain; whole = whole; says = final.says })

-- ---- records

no_given : (v : Verdict) (rule : ℕ) (who : Who) (number event : ℕ)
    → no rule who number event ≡ as_given v → (n : ℕ) × (k : ℕ) × (v ≡ no rule who n k)
no_given (no r w n k) rule who number event e =
    let rules : rule ≡ r = cc e in
    let whose : who ≡ w = cc e in
    (n, k, ap (λ x. no x w n k) (sym rules) ∙ ap (λ x. no rule x n k) (sym whose))
no_given _ rule who number event e = absurd cc

-- an event that offends is no fault of the log
pub no_fault : (limits : Bounds) (format : Format) (rs : List Record) (at : ℕ) (code : LogCode)
    → HasOffence limits format rs (bad_log at code) → ⊥
no_fault limits format rs at code o =
    let n = names_first (terms_of limits format) o.1.events o.0 o.1.offends in
    let same : bad_log at code ≡ as_given (no_by n.before n.event n.rule) = o.2 ∙ ap as_given n.is in
    absurd cc

pub ok_at : {X E : Type 0} (r : Result X E) (x : X) (P : X → Type 0) → r ≡ Ok x → IfOk r P → P x
ok_at r x P e p = subst (λ s. IfOk s P) e p

-- what is answered on records is the verdict on them
abbrev pub Finals : Bounds → Format → List Record → Verdict → Type 0
Finals limits format records given =
    (v : Verdict) → IsFinal limits format records None v → given ≡ as_given v

pub records_kept : (limits : Bounds) → IsInRange limits
    → (format : Format) (records : List Record) (s : Summary) → Finals limits format records (yes s)
    → AreKept limits format records
records_kept limits sizes format records s says =
    let final = some_final limits format records None in
    let t = is_yes_given final.0 s (says final.0 final.1) in
    (are_kept limits sizes format records None t.0
    (subst (IsFinal limits format records None) t.1 final.1)).0

named_by : (limits : Bounds) (format : Format) (records : List Record) (given v : Verdict)
    (events : List Event) → IsSession limits records events → given ≡ as_given v
    → Names (terms_of limits format) events v ⊎ HasRest107 limits format records None events v
    → NamesFirst limits format records given ⊎ NamesRest limits format records given
named_by limits format records given v events session is (inl names) = inl (record {
  events = events;
  session = session;
  verdict = v;
  names = names;
  is = is;
})
named_by limits format records given v events session is (inr rest) = inr (record {
  events = events;
  session = session;
  verdict = v;
  names = rest;
  is = is;
})

pub records_refused : (limits : Bounds) (format : Format) (records : List Record) (rule : ℕ)
    (who : Who) (number event : ℕ) → Finals limits format records (no rule who number event)
    → NamesFirst limits format records (no rule who number event)
    ⊎ NamesRest limits format records (no rule who number event)
records_refused limits format records rule who number event says =
    let final = some_final limits format records None in
    let is = says final.0 final.1 in
    let w = no_given final.0 rule who number event is in
    let last : IsFinal limits format records None (no rule who w.0 w.1) =
    subst (IsFinal limits format records None) w.2 final.1 in
    let given : no rule who number event ≡ as_given (no rule who w.0 w.1) = is ∙ ap as_given w.2 in
    named_by limits format records (no rule who number event) (no rule who w.0 w.1) last.events
    last.session given (final_no limits format records None rule who w.0 w.1 last)

pub records_clean : (limits : Bounds) (format : Format) (records : List Record)
    (events : List Event) (given : Verdict) → AreClean limits format records events
    → Finals limits format records given → SaysYes limits format events given
records_clean limits format records events given c says =
    says (yes (summary (terms_of limits format) events))
    (final_yes limits format records events c.session c.clean c.editor c.server)

pub names_of : (limits : Bounds) (format : Format) (records : List Record) (given : Verdict)
    → HasOffence limits format records given → NamesFirst limits format records given
names_of limits format records given (v, offends, is) =
    record {
      events = offends.events;
      session = offends.session;
      verdict = v;
      names = names_first (terms_of limits format) offends.events v offends.offends;
      is = is;
    }

-- where the session has to be complete
abbrev pub CompleteFinals : Bounds → Format → List Record → Verdict → Type 0
CompleteFinals limits format records given =
    (v : Verdict) → IsCompleteFinal limits format records None v → given ≡ as_given v

pub records_complete : (limits : Bounds) → IsInRange limits
    → (format : Format) (records : List Record) (s : Summary)
    → CompleteFinals limits format records (yes s) → AreComplete limits format records
records_complete limits sizes format records s says =
    let final = some_complete_final limits format records None in
    let t = is_yes_given final.0 s (says final.0 final.1) in
    are_complete limits sizes format records None t.0
    (subst (IsCompleteFinal limits format records None) t.1 final.1)

pub records_short : (limits : Bounds) → IsInRange limits
    → (format : Format) (records : List Record) (rule : ℕ) (who : Who) (number event : ℕ)
    → CompleteFinals limits format records (no rule who number event)
    → (NamesFirst limits format records (no rule who number event)
    ⊎ NamesRest limits format records (no rule who number event))
    ⊎ NamesShort limits format records (no rule who number event)
records_short limits sizes format records rule who number event says =
    let final = some_complete_final limits format records None in
    let is = says final.0 final.1 in
    let w = no_given final.0 rule who number event is in
    let last : IsCompleteFinal limits format records None (no rule who w.0 w.1) =
    subst (IsCompleteFinal limits format records None) w.2 final.1 in
    let given : no rule who number event ≡ as_given (no rule who w.0 w.1) = is ∙ ap as_given w.2 in
    elim (complete_no limits sizes format records None rule who w.0 w.1 last) [
      | inl names ↦ inl (named_by limits format records (no rule who number event)
          (no rule who w.0 w.1) last.final.events last.final.session given names)
      | inr short ↦ inr (record { verdict = no rule who w.0 w.1; short = short; is = given })
    ]

pub records_ended : (limits : Bounds) (format : Format) (records : List Record)
    (events : List Event) (given : Verdict) → AreClean limits format records events
    → IsBroughtToEnd events → CompleteFinals limits format records given
    → SaysYes limits format events given
records_ended limits format records events given c ended says =
    says (yes (summary (terms_of limits format) events))
    (complete_yes limits format records events c.session c.clean c.editor c.server ended)

-- ---- what a judge holds

pub given_names : (s : State) (records : List Record) (ruling : Ruling) (given : Verdict)
    → s.given ≡ Some ruling → verdict_in ruling ≡ Some given → Stands s records
    → NamesFirst s.limits s.format records given
given_names s records ruling given e is stands =
    names_of s.limits s.format records given (offence_in s records ruling given e is stands)

pub open_none : (s : State) (records : List Record) → s.given ≡ None → Stands s records
    → NoneOffends s.limits s.format records
open_none s records none stands =
    λ events session. nothing_offends (terms_of s.limits s.format) events
    (clean_session s.limits s.format s.streams s.messages s.documents s.counts records
    (is_open s records none stands) events session)

-- ---- the records taken

pub as_some : (o : Option Verdict) (v : Verdict) → Some v ≡ option_map as_given o
    → (w : Verdict) × (o ≡ Some w) × (v ≡ as_given w)
as_some None v e = absurd cc
as_some (Some w) v e = (w, refl, same_Some _ _ e)

-- what is answered on records is the No at their first event that offends, if any
abbrev pub FirstNo : Bounds → Format → List Record → Option Verdict → Type 0
FirstNo limits format records given =
    (events : List Event) → IsSession limits records events
    → given ≡ option_map as_given (first_no (terms_of limits format) events)

none_given : (o : Option Verdict) → None ≡ option_map as_given o → o ≡ None
none_given None e = refl
none_given (Some v) e = absurd cc

pub taken_refused : (limits : Bounds) (format : Format) (records : List Record) (given : Verdict)
    → FirstNo limits format records (Some given) → NamesFirst limits format records given
taken_refused limits format records given says =
    let session = some_session limits records in
    let v = as_some (first_no (terms_of limits format) session.0) given
    (says session.0 session.1) in
    names_of limits format records given (
      v.0,
      record {
        events = session.0;
        session = session.1;
        offends = v.1;
      },
      v.2,
    )

pub taken_clean : (limits : Bounds) (format : Format) (records : List Record)
    → FirstNo limits format records None → NoneOffends limits format records
taken_clean limits format records says =
    λ events session. nothing_offends (terms_of limits format) events
    (none_given (first_no (terms_of limits format) events) (says events session))

-- the code's answers
pub taken_no : {E : Type 0} (limits : Bounds) (format : Format) (records : List Record)
    (answer : code.Verdict) (rule number event : ℕ) (who : Who)
    → FirstNo limits format records (Some (verdict_view answer))
    → (let r : Result (Option code.Verdict) E = Ok (Some answer) in r)
    ≡ Ok (Some (verdicts.No rule who number event))
    → NamesFirst limits format records (no rule who number event)
taken_no limits format records answer rule number event who says e =
    let same : answer ≡ verdicts.No rule who number event = cc e in
    taken_refused limits format records (no rule who number event)
    (subst (λ (a : code.Verdict). FirstNo limits format records (Some (verdict_view a))) same
    says)

-- no ruling is Yes
pub no_yes : (ruling : Ruling) (s : Summary) → verdict_in ruling ≡ Some (yes s) → ⊥
no_yes (rulings.No o) s e = absurd cc
no_yes (rulings.BadLog number fault) s e = absurd cc
no_yes rulings.Memory s e = absurd cc

-- ---- what is kept of an answer

-- a judge that gave this ruling gives it again
pub keeps_given : {X : Type 0} (s : State) (Is : X → Verdict → Type 0) (ruling : Ruling)
    (result : Result X Memory) → s.given ≡ Some ruling
    → IfOk result (λ answer. (w : Verdict) × (verdict_in ruling ≡ Some w) × Is answer w)
    → OnErr result (ruling ≡ rulings.Memory) → KeepsAnswer s s Is result
keeps_given s Is ruling (Ok answer) given (w, is, such) err = record {
  limits = refl;
  format = refl;
  repeats = λ v known.
      subst (Is answer) (same_Some w v (sym is ∙ sym (ap is_given given) ∙ known)) such;
  stays = λ v known. refl;
  refused = λ was.
      let none : None ≡ Some w = sym (ap is_given (sym given ∙ was)) ∙ is in
      absurd cc;
  stays_refused = λ was. refl;
  memory = tt;
}
keeps_given s Is ruling (Err memory) given said err = record {
  limits = refl;
  format = refl;
  repeats = λ v known. tt;
  stays = λ v known. refl;
  refused = λ was. refl;
  stays_refused = λ was. refl;
  memory = given ∙ ap Some err;
}

-- a judge that gave nothing has nothing to give again
pub keeps_ungiven : {X : Type 0} (old new : State) (Is : X → Verdict → Type 0)
    (result : Result X Memory) → old.given ≡ None → new.limits ≡ old.limits
    → new.format ≡ old.format → OnErr result (WasRefused new.given)
    → KeepsAnswer old new Is result
keeps_ungiven old new Is result ungiven limits format refused = record {
  limits = limits;
  format = format;
  repeats = λ v known. absurd (not_given v known);
  stays = λ v known. absurd (not_given v known);
  refused = λ was. absurd (not_refused was);
  stays_refused = λ was. absurd (not_refused was);
  memory = refused;
}
  where
    not_given : (v : Verdict) → is_given old.given ≡ Some v → ⊥
    not_given v known =
        let none : None ≡ Some v = sym (ap is_given ungiven) ∙ known in
        cc

    not_refused : WasRefused old.given → ⊥
    not_refused was =
        let none : None ≡ Some rulings.Memory = sym ungiven ∙ was in
        cc

-- memory that was refused for an answer is refused for good
pub refused_on : {X : Type 0} (ruling : Ruling) (result : Result X Memory)
    → OnErr result (ruling ≡ rulings.Memory) → OnErr result (WasRefused (Some ruling))
refused_on ruling (Ok answer) err = tt
refused_on ruling (Err memory) err = ap Some err

-- ---- the end of the records

pub if_refused : (v : Verdict) (P : Type 0) → P → IfRefused v P
if_refused (yes s) P p = tt
if_refused _ P p = p

-- an answer that is the verdict on the records
pub answers_end : (completeness : Completeness) (old new : State)
    (result : Result code.Verdict Memory)
    → IfOk result (λ answer. (records : List Record) (v : Verdict) → Stands old records
    → IsFinalBy completeness old.limits old.format records None v
    → verdict_view answer ≡ as_given v)
    → ((s : summaries.Summary) → result ≡ Ok (verdicts.Yes s) → new ≡ old)
    → IfOk result (λ answer. IfRefused (verdict_view answer)
    (is_given new.given ≡ Some (verdict_view answer)))
    → AnswersEnd completeness old new result
answers_end Ignored old new result verdict unchanged given = record {
  verdict = verdict;
  yes = λ records s stands e. records_kept _ stands.range _ records _
      (λ v. ok_at result _ _ e verdict records v stands);
  no = λ records rule number event who stands e.
      records_refused _ _ records rule who number event
      (λ v. ok_at result _ _ e verdict records v stands);
  kept = λ records events stands clean due. IfOk-weaker result _ _
      (λ answer says. records_clean _ _ records events _ clean (λ v. says records v stands))
      verdict;
  unchanged = unchanged;
  given = given;
}
answers_end Required old new result verdict unchanged given = record {
  verdict = verdict;
  yes = λ records s stands e. records_complete _ stands.range _ records _
      (λ v. ok_at result _ _ e verdict records v stands);
  no = λ records rule number event who stands e.
      records_short _ stands.range _ records rule who number event
      (λ v. ok_at result _ _ e verdict records v stands);
  kept = λ records events stands clean ended. IfOk-weaker result _ _
      (λ answer says. records_ended _ _ records events _ clean ended
      (λ v. says records v stands))
      verdict;
  unchanged = unchanged;
  given = given;
}

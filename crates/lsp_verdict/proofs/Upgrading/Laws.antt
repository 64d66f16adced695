-- What upgrade wrote: it keeps a Yes, and is its own upgrade.
use Rattle.std.proofs.Common.{◌≡◌, ℕ, ◌≤◌, List, [], ◌∷◌, ◌++◌, Option, Some, None, refl, sym, ap, subst, ◌∙◌, append-nil, length, length-append, arith}
use Rattle.std.specs.Prelude.{map, option_map, option_and_then}
use Rattle.std.specs.List.{flat_map, cons_option, AllByRecursion}
use Rattle.std.specs.Option.{option_or}
use Rattle.std.proofs.lemmas.Grind.{flat_map-append}
use Rattle.std.proofs.lemmas.List.{length-take}
use Rattle.lsp_frame.specs.Bounds.{Bounds, IsInRange}
use Rattle.lsp_frame.specs.declared.format.Format.{Format}
use Rattle.lsp_frame.specs.declared.format.Format.TheVariants.{One, Two}
use Rattle.lsp_docs.specs.Calls.{Call}
use Rattle.lsp_docs.specs.Rules.{call_rule, AreAcceptedFrom}
use Rattle.lsp_docs.specs.Snapshots.{unmatched}
use Rattle.lsp_docs.specs.Documents.{Terms, terms_of}
use Rattle.lsp_log.specs.Log.{Record, Fits, spelling, first_line, IsLog}
use Rattle.lsp_log.specs.declared.fault.LogCode.{LogCode}
use Rattle.lsp_log.proofs.OneLog.{written_is_read}
use Rattle.lsp_log.proofs.LogLemmas.{first_len}
use Rattle.lsp_verdict.specs.Event.{call_at, calls, Event, message, fault, snapshot}
use Rattle.lsp_verdict.specs.LookBack.{first_from, each_from}
use Rattle.lsp_verdict.specs.Outcome.{IsFinal, ending, format_or_one}
use Rattle.lsp_verdict.specs.Upgraded.{upgraded, AreAccepted, IsUpgraded, UpgradeKeepsYes, UpgradeStays}
use Rattle.lsp_verdict.specs.Verdict.{Summary, Ending, yes, offence, document_rule, document_of, no_by, no_at, first_no, summary, verdict}
use Rattle.lsp_verdict.proofs.CallsMade.{calls_accepted}
use Rattle.lsp_verdict.proofs.Finding.{map_none}
use Rattle.lsp_verdict.proofs.Logs.{some_final}
use Rattle.lsp_verdict.proofs.LookBackLemmas.{each_of-snoc, or_none_parts}
use Rattle.lsp_verdict.proofs.Meanings.{are_kept}
use Rattle.lsp_verdict.proofs.Messages.{session_rule_none}
use Rattle.lsp_verdict.proofs.Upgrading.MoreKept.{calls_pass, documents_same, unmatched_same}
use Rattle.lsp_verdict.proofs.Upgrading.{accepted_all, same_accepted}
use Rattle.lsp_verdict.proofs.Verdicts.{nothing_offends, nothing_found, is_yes, yes_where}

-- ---- events that are accepted with nothing kept

call_parts : (u : Terms) (made : List Call) (o : Option Call) (rest : List Call) → AreAcceptedFrom u made (cons_option o rest) → (option_and_then (call_rule u made) o ≡ None) × AreAcceptedFrom u (made ++ cons_option o []) rest
call_parts u made None rest from = (refl, subst (λ w. AreAcceptedFrom u w rest) (sym (append-nil made)) from)
call_parts u made (Some c) rest from = from

event_passes : (t u : Terms) (before : List Event) (e : Event) → offence t before e ≡ None → document_rule u before e ≡ None → offence u before e ≡ None
event_passes t u before (message m) none rule = ap (λ o. option_or o (document_rule u before (message m))) (session_rule_none t before m none) ∙ rule
event_passes t u before (fault side rule) none is = absurd cc
event_passes t u before (snapshot uri n text) none rule = rule

events_pass : (t u : Terms) (before es : List Event) → first_from (no_at t) before es ≡ None → AreAcceptedFrom u (calls before) (each_from call_at before es) → first_from (no_at u) before es ≡ None
events_pass t u before [] none from = refl
events_pass t u before (e ∷ after) none from =
    let parts = or_none_parts (no_at t before e) (first_from (no_at t) (before ++ e ∷ []) after) none in
    let clean = map_none (no_by before e) (offence t before e) parts.0 in
    let call = call_parts u (calls before) (call_at before e) (each_from call_at (before ++ e ∷ []) after) from in
    let here : no_at u before e ≡ None = ap (option_map (no_by before e)) (event_passes t u before e clean call.0) in
    let rest = subst (λ w. AreAcceptedFrom u w (each_from call_at (before ++ e ∷ []) after)) (sym (each_of-snoc call_at before e)) call.1 in
    ap (λ o. option_or o (first_from (no_at u) (before ++ e ∷ []) after)) here ∙ events_pass t u (before ++ e ∷ []) after parts.1 rest

module _ (t u : Terms) (same : t.limit ≡ u.limit) (ends : t.line_ends ≡ u.line_ends)
    (none_kept : t.kept ≡ 0) where
  clean_passes : (es : List Event) → first_no t es ≡ None → first_no u es ≡ None
  clean_passes es none = events_pass t u [] es none
      (calls_pass t u same ends none_kept [] (calls es) tt (calls_accepted t es none))

  summary_same : (es : List Event) → first_no t es ≡ None → summary t es ≡ summary u es
  summary_same es none =
      ap (λ (n : ℕ). record (summary t es) {
        unmatched = n;
      }) (unmatched_same t u same ends none_kept (calls es) (calls_accepted t es none))
      ∙ ap (λ d. record (summary t es) { unmatched = unmatched u (calls es); documents = map document_of d }) (documents_same t u same (calls es))

  yes_passes : (es : List Event) (end : Ending) (s : Summary) → verdict t es end ≡ yes s → verdict u es end ≡ yes s
  yes_passes es end s e =
      let is = is_yes t es end s e in
      yes_where u es end (record { none = clean_passes es is.none; no_fault = is.no_fault; no_rest = is.no_rest })
      ∙ ap yes (sym (summary_same es is.none)) ∙ sym (yes_where t es end is) ∙ e

-- ---- in format 2

clean_two : (limits : Bounds) (format : Format) (es : List Event) → first_no (terms_of limits format) es ≡ None → first_no (terms_of limits Two) es ≡ None
clean_two limits One es none =
    clean_passes (terms_of limits One) (terms_of limits Two) refl refl refl es none
clean_two limits Two es none = none

yes_two : (limits : Bounds) (format : Format) (es : List Event) (end : Ending) (s : Summary) → verdict (terms_of limits format) es end ≡ yes s → verdict (terms_of limits Two) es end ≡ yes s
yes_two limits One es end s e =
    yes_passes (terms_of limits One) (terms_of limits Two) refl refl refl es end s e
yes_two limits Two es end s e = e

accepted_two : (limits : Bounds) (format : Format) (records : List Record) → AreAccepted limits format records → AreAccepted limits Two records
accepted_two limits format records keeps = record {
  events = keeps.events;
  session = keeps.session;
  clean = nothing_offends (terms_of limits Two) keeps.events (clean_two limits format keeps.events (nothing_found (terms_of limits format) keeps.events keeps.clean));
}

-- ---- what is written is a log

pub record IsShort (limits : Bounds) (records : List Record) : Type 0 where
  pub fits : AllByRecursion (Fits limits) records
  pub within : length (upgraded records) ≤ limits.log

fits_front : (limits : Bounds) (rs more : List Record) → AllByRecursion (Fits limits) (rs ++ more) → AllByRecursion (Fits limits) rs
fits_front limits [] more all = tt
fits_front limits (r ∷ rs) more all = (all.0, fits_front limits rs more all.1)

-- the first records of a log are no longer in format 2
log_short : (limits : Bounds) → IsInRange limits → (log : List ℕ) (format : Option Format) (accepted later : List Record) (flaw : Option (ℕ × LogCode)) → IsLog limits log format (accepted ++ later) flaw → IsShort limits accepted
log_short limits sizes log (Some format) accepted later flaw (code, has, is) = record {
  fits = fits_front limits accepted later has.begins.fits;
  within = omega (
    arith,
    first_len Two,
    first_len format,
    ap length has.begins.whole,
    length-take limits.log log,
    length-append (first_line Two) (flat_map spelling accepted),
    length-append (first_line format ++ flat_map spelling (accepted ++ later)) has.rest,
    length-append (first_line format) (flat_map spelling (accepted ++ later)),
    ap length (flat_map-append spelling accepted later),
    length-append (flat_map spelling accepted) (flat_map spelling later),
  );
}
log_short limits sizes log None accepted later flaw (none, flawed, missing) = by_none accepted none
  where
    by_none : (rs : List Record) → rs ++ later ≡ [] → IsShort limits rs
    by_none [] e = record { fits = tt; within = omega (arith, first_len Two, sizes.log_low, length-append (first_line Two) []) }
    by_none (r ∷ rs) e = absurd cc

upgraded_log : (limits : Bounds) (records : List Record) → IsShort limits records → IsLog limits (upgraded records) (Some Two) records None
upgraded_log limits records short = written_is_read limits Two records short.fits short.within

-- ---- laws

pub upgrade_stays : UpgradeStays
upgrade_stays limits sizes log out v upgrade =
    let has = upgrade.has in
    let is_log = subst (λ (rs : List Record). IsLog limits log upgrade.whole.format rs upgrade.whole.fault) has.whole upgrade.whole.is_log in
    let again = upgraded_log limits upgrade.accepted (log_short limits sizes log upgrade.whole.format upgrade.accepted has.later upgrade.whole.fault is_log) in
    let final = some_final limits Two upgrade.accepted None in
    let keeps = accepted_two limits (format_or_one upgrade.whole.format) upgrade.accepted has.keeps in
    let made : IsUpgraded limits (upgraded upgrade.accepted) final.0 (upgraded upgrade.accepted) = record {
      whole = record { format = Some Two; records = upgrade.accepted; fault = None; is_log = again; final = final.1 };
      accepted = upgrade.accepted;
      has = accepted_all limits Two upgrade.accepted keeps;
      is = refl;
    } in
    (final.0, subst (λ w. IsUpgraded limits w final.0 w) (sym upgrade.is) made)

pub upgrade_keeps_yes : UpgradeKeepsYes
upgrade_keeps_yes limits sizes log out s upgrade =
    let given = upgrade.whole in
    let format = format_or_one given.format in
    let final = given.final in
    let kept = are_kept limits sizes format given.records given.fault s final in
    let is = is_yes (terms_of limits format) final.events (ending given.fault final.editor final.server) s final.says in
    let keeps : AreAccepted limits format given.records = record { events = final.events; session = final.session; clean = nothing_offends (terms_of limits format) final.events is.none } in
    let all : upgrade.accepted ≡ given.records = same_accepted limits format given.records upgrade.accepted given.records upgrade.has (accepted_all limits format given.records keeps) in
    let is_log = subst (λ (rs : List Record). IsLog limits log given.format rs given.fault) (sym (append-nil given.records)) given.is_log in
    let again = upgraded_log limits given.records (log_short limits sizes log given.format given.records [] given.fault is_log) in
    let says : verdict (terms_of limits Two) final.events (ending None final.editor final.server) ≡ yes s =
    yes_two limits format final.events (ending None final.editor final.server) s
    (subst (λ (f : Option (ℕ × LogCode)). verdict (terms_of limits format) final.events (ending f final.editor final.server) ≡ yes s) kept.1 final.says) in
    let out_is : out ≡ upgraded given.records = upgrade.is ∙ ap upgraded all in
    let last : IsFinal limits Two given.records None (yes s) = record {
      events = final.events;
      editor = final.editor;
      server = final.server;
      session = final.session;
      editor_rest = final.editor_rest;
      server_rest = final.server_rest;
      says = says;
    } in
    (record { format = Some Two; records = given.records; fault = None; is_log = subst (λ w. IsLog limits w (Some Two) given.records None) (sym out_is) again; final = last }, refl)

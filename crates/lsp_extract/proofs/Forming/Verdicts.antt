-- The normal form has the verdict of the log.
use Rattle.std.specs.Option.{option_or}
use Rattle.std.specs.Prelude.{unwrap_or}
use Rattle.std.specs.List.{AllZip, AllByRecursion}
use Rattle.std.proofs.Common.{◌≡◌, ℕ, ◌≤◌, List, [], ◌∷◌, ◌++◌, length, true, false, Option, Some}
use Rattle.std.proofs.Common.{None, refl, sym, ap, subst, ◌∙◌}
use Rattle.std.proofs.lemmas.Bool.{false≢true}
use Rattle.lsp_replay.specs.Common.{bad_log_of, Bounds, broken, content, Event, first_from}
use Rattle.lsp_replay.specs.Common.{first_no, Format, format_or_one, is_rest, IsInRange, IsVerdict}
use Rattle.lsp_replay.specs.Common.{log_terms, LogCode, no_at, no_next, Placed, Reads, rest_of}
use Rattle.lsp_replay.specs.Common.{show, summary, Terms, terms_of, whose, yes}
use Rattle.lsp_verdict.specs.Event.{fault}
use Rattle.lsp_extract.specs.Normal.{form_of, IsNormal, before_fault, is_frame_rule, IsOnEvents}
use Rattle.lsp_extract.specs.Normal.{NormalFormKeepsVerdict}
use Rattle.lsp_verdict.specs.Placed.{Raw}
use Rattle.lsp_verdict.specs.Verdict.{Verdict}
use Rattle.lsp_verdict.proofs.Logs.{offence_decides}
use Rattle.lsp_extract.proofs.Forming.Again.{IsSane, again, placed_sane, log_fits, form_is}
use Rattle.lsp_verdict.proofs.LookBackLemmas.{or_none_parts}
use Rattle.lsp_verdict.proofs.OneEvent.{some_list}

-- ---- an offence before a fault of the frames

-- the events before a fault have the same first offence
pub record Kept (terms : Terms) (before : List Event) (raws : List Raw) (v : Verdict) : Type 0 where
  pub events : List Event
  pub reads : AllZip Reads (before_fault raws) events
  pub first : first_from (no_at terms) before events ≡ Some v

kept_more : (terms : Terms) (before : List Event) (raw : Raw) (e : Event) (raws : List Raw)
    (es : List Event) (v : Verdict) → Reads raw e
    → before_fault (raw ∷ raws) ≡ raw ∷ before_fault raws → (o : Option Verdict)
    → no_at terms before e ≡ o
    → option_or o (first_from (no_at terms) (before ++ e ∷ []) es) ≡ Some v
    → (first_from (no_at terms) (before ++ e ∷ []) es ≡ Some v
    → Kept terms (before ++ e ∷ []) raws v) → Kept terms before (raw ∷ raws) v
kept_more terms before raw e raws es v reads is None none first others =
    let later = others first in
    record {
      events = e ∷ later.events;
      reads = subst (λ (ws : List Raw). AllZip Reads ws (e ∷ later.events)) (sym is)
          (reads, later.reads);
      first = ap (λ (x : Option Verdict). option_or x
          (first_from (no_at terms) (before ++ e ∷ []) later.events)) none ∙ later.first;
    }
kept_more terms before raw e raws es v reads is (Some u) some first others =
    let later = some_list (before_fault raws) in
    record {
      events = e ∷ later.0;
      reads = subst (λ (ws : List Raw). AllZip Reads ws (e ∷ later.0)) (sym is) (reads, later.1);
      first = ap (λ (x : Option Verdict). option_or x
          (first_from (no_at terms) (before ++ e ∷ []) later.0)) some ∙ first;
    }

on_frames : (rule : ℕ) (v w : Verdict) → v ≡ w → is_frame_rule rule ≡ true → IsOnEvents v
    → (IsOnEvents w → is_frame_rule rule ≡ false) → ⊥
on_frames rule v w same is on names = false≢true (sym (names (subst IsOnEvents same on)) ∙ is)

kept_from : (limits : Bounds) (terms : Terms) (before : List Event) (raws : List Raw)
    (events : List Event) (v : Verdict) → IsOnEvents v → AllByRecursion (IsSane limits) raws
    → AllZip Reads raws events → first_from (no_at terms) before events ≡ Some v
    → Kept terms before raws v
kept_from limits terms before [] [] v on sane reads first = absurd cc
kept_from limits terms before (content side bytes ∷ raws) (e ∷ events) v on sane reads first =
    kept_more terms before (content side bytes) e raws events v reads.0 refl (no_at terms before e)
    refl first (λ later. kept_from limits terms (before ++ e ∷ []) raws events v on sane.1
    reads.1 later)
kept_from limits terms before (show n uri t ∷ raws) (e ∷ events) v on sane reads first =
    kept_more terms before (show n uri t) e raws events v reads.0 refl (no_at terms before e) refl
    first (λ later. kept_from limits terms (before ++ e ∷ []) raws events v on sane.1 reads.1
    later)
kept_from limits terms before (broken side rule ∷ raws) (e ∷ events) v on sane reads first =
    let here : first_from (no_at terms) before (fault side rule ∷ events) ≡ Some v =
    subst (λ (x : Event). first_from (no_at terms) before (x ∷ events) ≡ Some v) reads.0
    first in
    absurd (on_frames rule v (no_next rule (whose (fault side rule)) before) (cc here) sane.0 on
    (λ names. names))
kept_from limits terms before _ _ v on sane reads first = absurd reads

-- ---- an offence

no_again : (limits : Bounds) → IsInRange limits
    → (out : List ℕ) (format : Format) (all : List Raw) (events : List Event) (v : Verdict)
    → IsOnEvents v → AllByRecursion (IsSane limits) all → AllZip Reads all events
    → first_no (terms_of limits format) events ≡ Some v → out ≡ form_of format limits.chunk all
    → length out ≤ limits.log → IsVerdict limits out v
no_again limits sizes out format all events v on sane reads first written within =
    let log_of = again limits sizes out format all sane written within in
    let kept = kept_from limits (terms_of limits format) [] all events v on sane reads first in
    let has = log_of.is_log.1 in
    offence_decides limits sizes format out has.rest log_of.records v has.begins (record {
      events = kept.events;
      session = (before_fault all, log_of.placed, kept.reads);
      offends = kept.first;
    })

-- ---- a yes

-- where no event offends, none is a fault of the frames
clean_from : (terms : Terms) (before : List Event) (raws : List Raw) (events : List Event)
    → AllZip Reads raws events → first_from (no_at terms) before events ≡ None
    → before_fault raws ≡ raws
clean_from terms before [] events reads none = refl
clean_from terms before (raw ∷ raws) [] reads none = absurd reads
clean_from terms before (content side bytes ∷ raws) (e ∷ events) reads none =
    ap (λ (rs : List Raw). content side bytes ∷ rs)
    (clean_from terms (before ++ e ∷ []) raws events reads.1
    (or_none_parts (no_at terms before e) (first_from (no_at terms) (before ++ e ∷ []) events)
    none).1)
clean_from terms before (show n uri t ∷ raws) (e ∷ events) reads none =
    ap (λ (rs : List Raw). show n uri t ∷ rs)
    (clean_from terms (before ++ e ∷ []) raws events reads.1
    (or_none_parts (no_at terms before e) (first_from (no_at terms) (before ++ e ∷ []) events)
    none).1)
clean_from terms before (broken side rule ∷ raws) (e ∷ events) reads none =
    let here : first_from (no_at terms) before (fault side rule ∷ events) ≡ None =
    subst (λ (x : Event). first_from (no_at terms) before (x ∷ events) ≡ None) reads.0 none in
    absurd (cc here)

-- the verdict is Yes, where no event offends
yes_with : (terms : Terms) (events : List Event) (o : Option Verdict) → o ≡ None
    → (flaw : Option (ℕ × LogCode)) (editor server : List ℕ) (v : Verdict) → IsOnEvents v
    → unwrap_or (option_or o (option_or (bad_log_of flaw)
    (rest_of events (is_rest editor) (is_rest server)))) (yes (summary terms events)) ≡ v
    → yes (summary terms events) ≡ v
yes_with terms events (Some u) none flaw editor server v on says = absurd (cc none)
yes_with terms events None none (Some flaw) editor server v on says =
    absurd (subst IsOnEvents (sym says) on)
yes_with terms events None none None [] [] v on says = says
yes_with terms events None none None _ _ v on says =
    absurd (false≢true (sym (subst IsOnEvents (sym says) on)))

yes_again : (limits : Bounds) → IsInRange limits
    → (out : List ℕ) (format : Format) (raws : List Raw) (events : List Event) (v : Verdict)
    → AllByRecursion (IsSane limits) raws → AllZip Reads raws events
    → first_no (terms_of limits format) events ≡ None
    → yes (summary (terms_of limits format) events) ≡ v → out ≡ form_of format limits.chunk raws
    → length out ≤ limits.log → IsVerdict limits out v
yes_again limits sizes out format raws events v sane reads none is written within =
    let log_of = again limits sizes out format raws sane written within in
    let same : before_fault raws ≡ raws =
    clean_from (terms_of limits format) [] raws events reads none in
    record {
      format = Some format;
      records = log_of.records;
      fault = None;
      is_log = log_of.is_log;
      final = record {
        events = events;
        editor = [];
        server = [];
        session = (
          raws,
          subst (λ (ws : List Raw). Placed limits log_of.records ws) same
              log_of.placed,
          reads,
        );
        editor_rest = log_of.editor_rest;
        server_rest = log_of.server_rest;
        says = ap (λ (o : Option Verdict). unwrap_or (option_or o None)
            (yes (summary (terms_of limits format) events))) none ∙ is;
      };
    }

-- the verdict is that on the events, by the format of the log
module _ (limits : Bounds) (sizes : IsInRange limits) (log out : List ℕ) (f : Option Verdict)
    (v : Verdict) (d : IsVerdict limits log v) (on : IsOnEvents v)
    (normal : IsNormal limits log out f) (within : length out ≤ limits.log) where
  abbrev format : Format
  format = format_or_one d.format

  abbrev raws : List Raw
  raws = d.final.session.0

  sane : AllByRecursion (IsSane limits) raws
  sane = placed_sane limits [] [] d.records raws
      (log_fits limits log d.format d.records d.fault d.is_log) d.final.session.1

  written : out ≡ form_of format limits.chunk raws
  written = form_is limits sizes log out d.format d.records d.fault raws f d.is_log
      d.final.session.1 normal

  by_offence : (o : Option Verdict) → first_no (terms_of limits format) d.final.events ≡ o
      → IsVerdict limits out v
  by_offence None none =
      yes_again limits sizes out format raws d.final.events v sane d.final.session.2 none
      (yes_with (terms_of limits format) d.final.events
      (first_no (terms_of limits format) d.final.events) none d.fault d.final.editor
      d.final.server v on d.final.says) written within
  by_offence (Some u) some =
      let same : u ≡ v = sym (ap (λ (o : Option Verdict).
      unwrap_or (option_or o (option_or (bad_log_of d.fault)
      (rest_of d.final.events (is_rest d.final.editor) (is_rest d.final.server))))
      (yes (summary (terms_of limits format) d.final.events))) some) ∙ d.final.says in
      no_again limits sizes out format raws d.final.events v on sane d.final.session.2
      (some ∙ ap (λ (w : Verdict). Some w) same) written within

pub normal_form_keeps_verdict : NormalFormKeepsVerdict
normal_form_keeps_verdict limits sizes log out f v d on normal within =
    by_offence limits sizes log out f v d on normal within
    (first_no (log_terms limits d.format) d.final.events) refl

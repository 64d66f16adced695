-- The counts of a verdict on a log are exact.
use Rattle.std.proofs.Common.{◌≡◌, ◌⊎◌, ℕ, ◌+◌, ◌≤◌, ◌<◌, ◌^◌, List, [], ◌∷◌, ◌++◌, Option, Some, None, inl, inr, sym, ap, subst, ◌∙◌, length, length-append, arith}
use Rattle.std.specs.List.{flat_map}
use Rattle.std.proofs.lemmas.List.{length-take}
use Rattle.std.proofs.lemmas.Option.{same_Some}
use Rattle.lsp_frame.specs.Bounds.{Bounds, IsInRange}
use Rattle.lsp_frame.specs.declared.format.Format.{Format}
use Rattle.lsp_docs.specs.Snapshots.{unmatched}
use Rattle.lsp_docs.specs.State.{capped}
use Rattle.lsp_docs.specs.Documents.{Terms}
use Rattle.lsp_types.specs.declared.side.Side.TheVariants.{Editor, Server}
use Rattle.lsp_log.specs.declared.fault.LogCode.{LogCode}
use Rattle.lsp_log.specs.Log.{Record, spelling, with_feed, head_line, head_of, parts_of, first_line, IsLog}
use Rattle.lsp_verdict.specs.declared.verdict.Who.{Who}
use Rattle.lsp_verdict.specs.declared.verdict.Who.TheVariants as who
use Rattle.lsp_verdict.specs.Event.{call_at, calls, Event}
use Rattle.lsp_verdict.specs.Given.{as_given}
use Rattle.lsp_verdict.specs.Laws.{Names, HasRest107}
use Rattle.lsp_verdict.specs.Outcome.{ending, IsVerdict, format_or_one, log_terms}
use Rattle.lsp_verdict.specs.Placed.{Raw, Placed, IsSession}
use Rattle.lsp_verdict.specs.Verdict.{Verdict, Summary, yes, no, bad_log, summary, is_of, is_snapshot, belongs_to, count_of, whose, no_next}
use Rattle.lsp_verdict.proofs.EventCounts.{raws_few, read_one, count_few, unmatched_events}
use Rattle.lsp_verdict.proofs.Meanings.{bad_log_has, final_no}
use Rattle.lsp_verdict.proofs.Verdicts.{is_yes, yes_where}

pub capped_is : (n : ℕ) → n < 2 ^ 64 → capped n ≡ n
capped_is n small = omega (arith, small)

-- ---- records

pub spelling_some : (r : Record) → 1 ≤ length (spelling r)
spelling_some r =
    let line = head_line (head_of r) in
    let parts = flat_map with_feed (parts_of r) in
    omega (arith, length-append (with_feed line) parts, length-append line (10 ∷ []))

pub records_fewer : (rs : List Record) → length rs ≤ length (flat_map spelling rs)
records_fewer [] = omega arith
records_fewer (r ∷ rs) = omega (arith, records_fewer rs, spelling_some r, length-append (spelling r) (flat_map spelling rs))

-- a log has no more events than bytes
pub raws_within : (limits : Bounds) (log : List ℕ) (format : Option Format) (records : List Record) (flaw : Option (ℕ × LogCode)) (raws : List Raw) → IsLog limits log format records flaw → Placed limits records raws → length raws ≤ limits.log
raws_within limits log (Some format) records flaw raws (code, has, is) placed = raws_few limits format log records has.rest raws has.begins placed
raws_within limits log None records flaw raws (none, flawed, missing) placed =
    let nothing : raws ≡ [] = subst (λ (rs : List Record). Placed limits rs raws) none placed in
    omega (arith, ap length nothing)

pub events_within : (limits : Bounds) (log : List ℕ) (format : Option Format) (records : List Record) (flaw : Option (ℕ × LogCode)) (events : List Event) → IsLog limits log format records flaw → IsSession limits records events → length events ≤ limits.log
events_within limits log format records flaw events is_log session = omega (arith, raws_within limits log format records flaw session.0 is_log session.1, read_one session.0 events session.2)

-- ---- verdicts

pub no_exact : (events : List Event) (rule : ℕ) (who : Who) → length events + 1 < 2 ^ 64 → as_given (no_next rule who events) ≡ no_next rule who events
no_exact events rule who small =
    let number = capped_is (count_of (belongs_to who) events + 1) (omega (arith, small, count_few (belongs_to who) events)) in
    let event = capped_is (length events + 1) small in
    ap (λ n. no rule who n (capped (length events + 1))) number ∙ ap (λ n. no rule who (count_of (belongs_to who) events + 1) n) event

names_exact : (terms : Terms) (events : List Event) (v : Verdict) → length events < 2 ^ 64 → Names terms events v → as_given v ≡ v
names_exact terms events v small names =
    let long : length events ≡ length (names.before ++ names.event ∷ names.after) = ap length names.whole in
    let exact = no_exact names.before names.rule (whose names.event) (omega (arith, small, long, length-append names.before (names.event ∷ names.after))) in
    subst (λ w. as_given w ≡ w) (sym names.is) exact

rest_exact : (limits : Bounds) (format : Format) (records : List Record) (flaw : Option (ℕ × LogCode)) (events : List Event) (v : Verdict) → length events + 1 < 2 ^ 64 → HasRest107 limits format records flaw events v → as_given v ≡ v
rest_exact limits format records flaw events v small r = by_side r.named
  where
    by_side : ((0 < length r.editor) × (v ≡ no_next 107 who.Editor events)) ⊎ ((r.editor ≡ []) × (0 < length r.server) × (v ≡ no_next 107 who.Server events)) → as_given v ≡ v
    by_side (inl (some, is)) = subst (λ w. as_given w ≡ w) (sym is) (no_exact events 107 who.Editor small)
    by_side (inr (none, some, is)) = subst (λ w. as_given w ≡ w) (sym is) (no_exact events 107 who.Server small)

sum_exact : (s : Summary) → capped s.editor ≡ s.editor → capped s.server ≡ s.server → capped s.snapshots ≡ s.snapshots → capped s.unmatched ≡ s.unmatched → as_given (yes s) ≡ yes s
sum_exact s e f g h =
    λ i. yes (record s { editor = e i; server = f i; snapshots = g i; unmatched = h i })

-- a yes on few events is given as it is
pub yes_exact : (terms : Terms) (events : List Event) → length events < 2 ^ 64 → as_given (yes (summary terms events)) ≡ yes (summary terms events)
yes_exact terms events small =
    sum_exact (summary terms events)
    (capped_is (count_of (is_of Editor) events) (omega (arith, small, count_few (is_of Editor) events)))
    (capped_is (count_of (is_of Server) events) (omega (arith, small, count_few (is_of Server) events)))
    (capped_is (count_of is_snapshot events) (omega (arith, small, count_few is_snapshot events)))
    (capped_is (unmatched terms (calls events)) (omega (arith, small, unmatched_events terms call_at events)))

-- the record with a fault has a number that a u64 holds
few : (limits : Bounds) → IsInRange limits → (log : List ℕ) (format : Option Format) (records : List Record) (number : ℕ) (code : LogCode) → IsLog limits log format records (Some (number, code)) → number < 2 ^ 64
few limits sizes log (Some format) records number code (None, has, is) = absurd cc
few limits sizes log (Some format) records number code (Some c, has, is) =
    let same : number ≡ length records + 1 = ap (λ (p : ℕ × LogCode). p.0) (same_Some _ _ is) in
    let long = ap length has.begins.whole in
    omega (arith, sizes.log_high, same, long, records_fewer records, length-take limits.log log, length-append (first_line format ++ flat_map spelling records) has.rest, length-append (first_line format) (flat_map spelling records))
few limits sizes log None records number code (none, flawed, missing) =
    let same : number ≡ 0 = ap (λ (p : ℕ × LogCode). p.0) (same_Some _ _ flawed) in
    omega (arith, same)

-- **a verdict on a log is given as it is**
pub exact : (limits : Bounds) → IsInRange limits → (log : List ℕ) (v : Verdict) → IsVerdict limits log v → as_given v ≡ v
exact limits sizes log (yes s) p =
    let events : List Event = p.final.events in
    let small : length events < 2 ^ 64 = omega (arith, sizes.log_high, events_within limits log p.format p.records p.fault events p.is_log p.final.session) in
    let end = ending p.fault p.final.editor p.final.server in
    let terms = log_terms limits p.format in
    let same : yes (summary terms events) ≡ yes s = sym (yes_where terms events end (is_yes terms events end s p.final.says)) ∙ p.final.says in
    subst (λ w. as_given w ≡ w) same (yes_exact terms events small)
exact limits sizes log (no rule who number event) p =
    let within = events_within limits log p.format p.records p.fault p.final.events p.is_log p.final.session in
    elim (final_no limits (format_or_one p.format) p.records p.fault rule who number event p.final) [
      | inl names ↦ names_exact (log_terms limits p.format) p.final.events (no rule who number event) (omega (arith, sizes.log_high, within)) names
      | inr rest ↦ rest_exact limits (format_or_one p.format) p.records p.fault p.final.events (no rule who number event) (omega (arith, sizes.log_high, within)) rest
    ]
exact limits sizes log (bad_log number code) p =
    let has = bad_log_has limits log number code p in
    ap (λ n. bad_log n code) (capped_is number (few limits sizes log has.format has.records number code has.is_log))

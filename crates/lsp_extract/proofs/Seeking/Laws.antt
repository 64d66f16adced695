-- Laws of what is due for one event of a log.
use Rattle.std.specs.Option.{IsSomeAnd}
use Rattle.std.specs.Prelude.{MatchOption}
use Rattle.std.proofs.Common.{◌≡◌, ◌-◌, List, [], Option, Some, None, slice_get, refl, sym, ap}
use Rattle.std.proofs.Common.{subst, ◌∙◌}
use Rattle.std.proofs.lemmas.Slice.Zip.{AllZip-right}
use Rattle.lsp_replay.specs.Common.{Bounds, Event, Placed, Reads}
use Rattle.lsp_log.specs.Log.{Record}
use Rattle.lsp_extract.specs.Event.{content_of, outcome_of, content_at, outcome_at, event_at}
use Rattle.lsp_extract.specs.Event.{SomeEvent, OneEvent, EventIsNumbered}
use Rattle.lsp_verdict.specs.Placed.{Raw}
use Rattle.lsp_verdict.proofs.Below.{one_log, some_log}
use Rattle.lsp_verdict.proofs.PlacedLemmas.{one_placed}
use Rattle.lsp_verdict.proofs.Sessions.{some_placed}

pub some_event : SomeEvent
some_event limits log n =
    let whole = some_log limits log in
    let placed = some_placed limits [] [] whole.1 in (
      content_at (event_at n placed.0),
      outcome_at (event_at n placed.0) whole.2,
      record {
        format = whole.0;
        records = whole.1;
        log_fault = whole.2;
        raws = placed.0;
        is_log = whole.3;
        placed = placed.1;
        written = refl;
        ends = refl;
      },
    )

pub same_raws : (limits : Bounds) (rs us : List Record) (raws others : List Raw) → rs ≡ us
    → Placed limits rs raws → Placed limits us others → raws ≡ others
same_raws limits rs us raws others same p q =
    one_placed limits [] [] us raws others
    (subst (λ (w : List Record). Placed limits w raws) same p) q

pub one_event : OneEvent
one_event limits sizes log n out other a b p q =
    let same = one_log limits sizes log p.format q.format p.records q.records p.log_fault
    q.log_fault p.is_log q.is_log in
    let raws : p.raws ≡ q.raws =
    same_raws limits p.records q.records p.raws q.raws same.1 p.placed q.placed in (
      p.written ∙ ap (λ (rs : List Raw). content_at (event_at n rs)) raws ∙ sym q.written,
      p.ends ∙ (λ i. outcome_at (event_at n (raws i)) (same.2 i)) ∙ sym q.ends,
    )

pub event_is_numbered : EventIsNumbered
event_is_numbered limits sizes log v n event out outcome whole at p =
    let same = one_log limits sizes log p.format whole.format p.records whole.records p.log_fault
    whole.fault p.is_log whole.is_log in
    let session = whole.final.session in
    let raws : p.raws ≡ session.0 =
    same_raws limits p.records whole.records p.raws session.0 same.1 p.placed session.1 in
    let reads = subst (λ (o : Option Event).
    MatchOption o (Unit {0})
    (λ e. IsSomeAnd (slice_get session.0 (n - 1)) (λ raw. Reads raw e))) at
    (AllZip-right Reads session.0 whole.final.events session.2 (n - 1)) in
    by_raw (ap (event_at n) raws) (slice_get session.0 (n - 1)) refl reads
  where
    by_raw : event_at n p.raws ≡ event_at n whole.final.session.0 → (o : Option Raw)
        → slice_get whole.final.session.0 (n - 1) ≡ o → IsSomeAnd o (λ raw. Reads raw event)
        → (raw : Raw) × Reads raw event × (out ≡ content_of raw) × (outcome ≡ outcome_of raw)
    by_raw here None is reads = absurd reads
    by_raw here (Some raw) is reads = (
      raw,
      reads,
      p.written ∙ ap content_at (here ∙ is),
      p.ends ∙ ap (λ (o : Option Raw). outcome_at o p.log_fault) (here ∙ is),
    )

-- When memory may be wanted of an event.
use Rattle.std.proofs.Common.{ℕ, List, Result, Ok, Err, OnErr, sym, subst}
use Rattle.lsp_docs.specs.Documents.{Terms}
use Rattle.lsp_docs.specs.State as docs
use Rattle.lsp_session.specs.State as session
use Rattle.lsp_types.specs.declared.side.Side.{Side}
use Rattle.lsp_replay.specs.Standing.{CanWantMemory}
use Rattle.lsp_replay.specs.Telling.{Comes, kept_before}
use Rattle.lsp_verdict.specs.Heard.{Heard}
use Rattle.lsp_verdict.specs.Placed.{content}
use Rattle.lsp_verdict.specs.declared.counts.Counts.{Counts}

-- what always holds, holds after an error
pub on_err : {T E P : Type 0} (r : Result T E) → P → OnErr r P
on_err (Ok v) p = tt
on_err (Err e) p = p

-- a content is read
module _ {side : Side} {bytes : List ℕ} {terms : Terms} {m : session.State} {d : docs.State}
    {c : Counts} {before : List Heard} {h : Heard} {Stands : Type 0}
    (comes : Comes (content side bytes) terms m d c before h Stands) where
  pub read_wants : CanWantMemory terms (kept_before terms before) h.raw
  read_wants = subst (CanWantMemory terms (kept_before terms before)) (sym comes.raw_is) tt

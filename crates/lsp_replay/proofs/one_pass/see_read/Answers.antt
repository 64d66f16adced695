use Rattle.std.proofs.Common.{inl, inr}
use Rattle.std.proofs.lemmas.Result.{IfOk-weaker, on_err_weaker}
use Rattle.lsp_replay.proofs.Seeing.{comes_still, kept_fate, kept_stood, refused_here, seen_so, tried_here, wants_here}
use Rattle.lsp_replay.proofs.Wanting.{on_err}
use Rattle.lsp_replay.proofs.one_pass.see_read.Goals as goal

pub returns-in-Ok-clause-saw : goal.returns-in-Ok-clause-saw
returns-in-Ok-clause-saw g c =
    IfOk-weaker c.event.result _ _ (λ flow says terms before h comes sound read.
    let kept = c.in-Ok.ensures.ok _ h.note.event comes.stood.holds sound read in
    let stood = kept_stood comes kept c.in-Ok.ensures.terms in
    record {
      stood = stood;
      says = says terms before h comes.stands
          (seen_so comes _ read.spoken (c.call.ensures _ h.note.event read) stood
          (kept_fate comes kept));
    }) c.event.ensures.says

pub returns-in-Ok-clause-memory : goal.returns-in-Ok-clause-memory
returns-in-Ok-clause-memory g c =
    on_err_weaker c.event.result (λ wants terms before h comes sound read.
    let kept = c.in-Ok.ensures.ok _ h.note.event comes.stood.holds sound read in
    inr (wants terms before h comes.stands
    (seen_so comes _ read.spoken (c.call.ensures _ h.note.event read)
    (kept_stood comes kept c.in-Ok.ensures.terms) (kept_fate comes kept))))
    c.event.ensures.memory

pub returns-in_err-rule-in-Err-clause-memory : goal.returns-in_err-rule-in-Err-clause-memory
returns-in_err-rule-in-Err-clause-memory g c =
    on_err c.from_residual.result (λ terms before h comes sound read.
    inl (wants_here comes _ c.in_err-rule-in-Err.ensures.memory
    (c.in-Err.ensures.rule _ h.note.event comes.stood.holds sound read)))

pub returns-in_ok-rule-in-Err-clause-memory : goal.returns-in_ok-rule-in-Err-clause-memory
returns-in_ok-rule-in-Err-clause-memory g c =
    let err = c.in-Err.ensures in
    let is = c.in_ok-rule-in-Err.ensures.rule in
    on_err_weaker c.skip.result (λ wants terms before h comes sound read.
    let holds = comes.stood.holds in
    inr (wants terms before h
    (comes_still comes _ _ _ err.terms (err.err _ h.note.event holds sound read) err.uncounted)
    (refused_here comes _ _ is (err.rule _ h.note.event holds sound read)) read.spoken
    (tried_here comes _ _ _ is (err.tried _ h.note.event holds sound read))))
    c.skip.ensures.memory

pub returns-in_ok-rule-in-Err-clause-saw : goal.returns-in_ok-rule-in-Err-clause-saw
returns-in_ok-rule-in-Err-clause-saw g c =
    let err = c.in-Err.ensures in
    let is = c.in_ok-rule-in-Err.ensures.rule in
    IfOk-weaker c.skip.result _ _ (λ flow saw terms before h comes sound read.
    let holds = comes.stood.holds in
    saw terms before h
    (comes_still comes _ _ _ err.terms (err.err _ h.note.event holds sound read) err.uncounted)
    (refused_here comes _ _ is (err.rule _ h.note.event holds sound read)) read.spoken
    (tried_here comes _ _ _ is (err.tried _ h.note.event holds sound read)))
    c.skip.ensures.saw

use Rattle.std.proofs.Common.{List, ℕ, subst}
use Rattle.lsp_replay.specs.Common.{IsVerdict, verdict_view}
use Rattle.lsp_redact.proofs.check.is_shown.Goals as goal

pub returns : goal.returns
returns c =
    let own = verdict_view c.in_ok-own.own in (
      own,
      subst (λ (w : List ℕ). IsVerdict c.args.limits w own) c.as_bytes.ensures.value
          c.in_ok-own.ensures,
      c.shows.ensures,
    )

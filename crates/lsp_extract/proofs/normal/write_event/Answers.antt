use Rattle.std.proofs.Common.{ℤ, append-nil, refl, rules, subst, sym, w32}
use Rattle.std.proofs.lemmas.Int.{to_z-of_z}
use mir.Val.{SFits}
use Rattle.lsp_frame.specs.Sink.{Wrote}
use Rattle.lsp_log.specs.Log.{shown, spelling}
use Rattle.lsp_extract.proofs.Forming.Forms.{one_counted}
use Rattle.lsp_extract.proofs.normal.write_event.Goals as goal

pub returns-in-Broken : goal.returns-in-Broken
returns-in-Broken g c =
    rw c.in-Broken.is (λ before counted. (refl, (_, refl, c.no_next.ensures before counted)))

pub returns-in_ok-write_snapshot-in-Snapshot : goal.returns-in_ok-write_snapshot-in-Snapshot
returns-in_ok-write_snapshot-in-Snapshot g c =
    let s = c.in-Snapshot in
    let fits : SFits w32 c.in-Snapshot.version = search rules in
    let wrote = subst (λ (v : ℤ). Wrote (g.W.Sink.told c.args.writer.now)
    (g.W.Sink.told c.write_snapshot.new.writer) (spelling (shown v s.uri.now s.text.now)))
    (to_z-of_z w32 s.version fits) c.in_ok-write_snapshot-in-Snapshot.ensures in
    rw c.in-Snapshot.is (λ before counted. (
      refl,
      one_counted _ _ before _ _ refl c.add-in-Snapshot.ensures counted,
      subst (Wrote _ _) (sym (append-nil _)) wrote,
    ))

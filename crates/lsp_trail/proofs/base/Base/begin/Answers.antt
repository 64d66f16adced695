use Rattle.std.proofs.Common.{◌≤◌, ◌∙◌, arith, ap, refl, rules, sym, true≢false, w32}
use Rattle.std.proofs.lemmas.Int.{to_z-of_z}
use mir.Val.{SFits}
use Rattle.lsp_trail.specs.SentEdits.{sents_view, total_size}
use Rattle.lsp_trail.proofs.RoomSteps.{kept_later, total-kept}
use Rattle.lsp_trail.proofs.base.Base.begin.Goals as goal

pub room_beside-self-requires : goal.room_beside-self-requires
room_beside-self-requires c =
    let old = c.args.self.now.sent.items in
    let new = c.drop_until.new.sent.items in
    let kept : total_size (sents_view new) ≤ total_size (sents_view old) =
    total-kept _ old new c.drop_until.ensures in
    let counted = c.args.self.now.counted in
    omega (arith, ap (λ l. total_size (sents_view l)) c.as_slice.ensures.value)

pub returns : goal.returns
returns c =
    let fits : SFits w32 c.args.version = c.ranges.version in
    let since_fits : SFits w32 c.args.self.now.since = search rules in
    let behind = simp to_z-of_z at c.if-version-self.false in
    record {
      stays = λ early. absurd (true≢false (sym early ∙ behind));
      begins = λ h. record {
        since = to_z-of_z w32 c.args.version c.ranges.version;
        text = refl;
        sent = kept_later _ c.args.version c.args.self.now.sent.items c.drop_until.new.sent.items
            (to_z-of_z w32 c.args.version c.ranges.version) c.drop_until.ensures;
      };
    }

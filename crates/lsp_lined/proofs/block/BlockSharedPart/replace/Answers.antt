use Rattle.std.proofs.Common.{◌≤◌, ◌+◌, length, ap, arith}
use Rattle.lsp_lined.proofs.BlockPlaces.{block_text, block_kept}
use Rattle.lsp_lined.proofs.block.BlockSharedPart.replace.Goals as goal

pub invariant_of-self-2 : goal.invariant_of-self-2
invariant_of-self-2 c =
    let done = c.in_ok-replace_shared.ensures in
    let bytes = c.args.self.now in
    let h = block_text c.self.inside bytes c.self.invariant c.self.view_is in
    let room : length bytes + length c.args.inserted.now ≤ 4096 =
    omega (arith, ap length c.as_str.ensures, h.short, c.if-inserted-as_str.false) in
    block_kept c.self.inside (record { text = c.replace_shared.new.shared }) bytes c.args.from
    c.args.to c.args.inserted.now c.in-Some.sums c.self.invariant c.self.view_is c.utf8.inserted
    c.requires.can room c.in-Some.ensures done.text done.places done.sums

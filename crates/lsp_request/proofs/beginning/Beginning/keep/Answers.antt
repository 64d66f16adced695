use Rattle.std.proofs.Common.{rules, ◌≤◌, ◌≡◌, ◌++◌, ◌∙◌, take, ◌+◌, ◌-◌, length, arith, ap, min}
use Rattle.std.proofs.Common.{sym}
use Rattle.std.proofs.lemmas.List.{length-take-le, take-append-le, take_all}
use Rattle.std.proofs.lemmas.Slice.{take-put_mid}
use Rattle.lsp_request.proofs.Fronts.{front_more}
use Rattle.lsp_request.proofs.beginning.Beginning.keep.Goals as goal

-- there is no room
pub returns-then-self-eq32 : goal.returns-then-self-eq32
returns-then-self-eq32 c =
    let old = c.args.self.now in
    let kept = take old.count old.bytes in
    let size : length old.bytes ≡ 32 = search rules in
    let full : old.count ≡ 32 = search rules in
    let long : length kept ≡ 32 =
    length-take-le old.count old.bytes (omega (arith, size, full)) ∙ full in
    sym (take-append-le 32 kept c.args.given.now (omega (arith, long))
    ∙ take_all 32 kept (omega (arith, long)))

pub returns : goal.returns
returns c =
    let old = c.args.self.now in
    let fits : old.count ≤ 32 = search rules in
    let room : old.count ≤ length old.bytes = search rules in
    let written : c.copy_from_slice.new.self ≡ take c.min.result c.args.given.now = search rules in
    let size : length c.copy_from_slice.new.self ≡ c.min.result = search rules in
    let count : c.min.result ≡ min (32 - old.count) (length c.args.given.now) = search rules in
    let end : old.count + c.min.result ≡ old.count + length c.copy_from_slice.new.self = omega (arith, size) in
    take-put_mid old.count _ old.bytes c.copy_from_slice.new.self _ end room
    ∙ ap (λ ys. take old.count old.bytes ++ ys) (written ∙ ap (λ n. take n c.args.given.now) count)
    ∙ front_more (take old.count old.bytes) c.args.given.now old.count 32 (length-take-le old.count old.bytes room) fits

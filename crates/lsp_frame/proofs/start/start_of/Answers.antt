use Rattle.lsp_frame.proofs.Starts.{near_is, none_in_nothing, none_near, none_ahead, unfinished_header, too_long, found, bad_header}
use Rattle.lsp_frame.proofs.PlainHeaders.{near_starts}
use Rattle.std.proofs.Common.{◌≡◌, ◌+◌, arith, length, rules}
use Rattle.lsp_frame.proofs.start.start_of.Goals as goal

pub returns-then-bytes-most : goal.returns-then-bytes-most
returns-then-bytes-most c =
    let is = near_is c.args.limits.now c.args.bytes.now c.min.result c.header-most.result c.min.ensures c.header-most.ensures.value in
    let none = none_near c.args.limits.now c.args.bytes.now _ is c.in_default-find.ensures in
    (unfinished_header c.args.limits.now c.args.bytes.now none (omega arith), none_ahead c.args.limits.now c.args.bytes.now none)

pub returns-in_default-find : goal.returns-in_default-find
returns-in_default-find c =
    let is = near_is c.args.limits.now c.args.bytes.now c.min.result c.header-most.result c.min.ensures c.header-most.ensures.value in
    too_long c.args.limits.now c.args.bytes.now (none_near c.args.limits.now c.args.bytes.now _ is c.in_default-find.ensures) (omega arith)

pub returns-in-Err : goal.returns-in-Err
returns-in-Err c =
    let is = near_is c.args.limits.now c.args.bytes.now c.min.result c.header-most.result c.min.ensures c.header-most.ensures.value in
    let part = found c.args.limits.now c.args.bytes.now _ c.in-Some-find.at is c.in-Some-find.ensures in
    bad_header c.args.limits.now c.args.bytes.now (c.in-Some-find.at + 4) c.in-Err.rule part c.in-Err.ensures

pub returns-in-Ok : goal.returns-in-Ok
returns-in-Ok c =
    let is = near_is c.args.limits.now c.args.bytes.now c.min.result c.header-most.result c.min.ensures c.header-most.ensures.value in
    let part = found c.args.limits.now c.args.bytes.now _ c.in-Some-find.at is c.in-Some-find.ensures in
    record { fits = part.fits; part = part.part; says = c.in-Ok.ensures }

pub returns-in-Some : goal.returns-in-Some
returns-in-Some c = near_starts c.args.limits.now c.args.bytes.now c.min.result c.in-Some.size c.in-Some.ensures

pub returns-in-Some-typed_size : goal.returns-in-Some-typed_size
returns-in-Some-typed_size c = near_starts c.args.limits.now c.args.bytes.now c.min.result c.in-Some-typed_size.size c.in-Some-typed_size.ensures

pub returns-then-is_empty : goal.returns-then-is_empty
returns-then-is_empty c =
    let limits = c.args.limits.now in
    let bytes = c.args.bytes.now in
    let nothing : length bytes ≡ 0 = search (rules, c.is_empty.ensures, c.if-is_empty.true) in
    let none = none_in_nothing limits bytes nothing in
    let low = c.header-most.ensures.range.header_low in
    (unfinished_header limits bytes none (omega (arith, low, nothing)), none_ahead limits bytes none)

use Rattle.std.proofs.Common.{Some, codes, string_bytes, ap, arith}
use Rattle.std.proofs.lemmas.Option.{IfSome_then}
use Rattle.serde_json.specs.Data.{object, string}
use Rattle.serde_json.proofs.Views.{get_member-put}
use Rattle.lsp_outline.proofs.Editing.{members}
use Rattle.lsp_outline.proofs.Negatives.{code_passed}
use Rattle.lsp_outline.proofs.message.MessagePartsGathered.take.Goals as goal

pub returns-in_ok-end-in-jsonrpc : goal.returns-in_ok-end-in-jsonrpc
returns-in_ok-end-in-jsonrpc c =
    let version = string (codes "2.0") in
    (version, c.in_ok-end-in-jsonrpc.ensures c.args.depth, λ ms h. grind (arith, members))

pub returns-in_ok-value-in-method : goal.returns-in_ok-value-in-method
returns-in_ok-value-in-method c =
    let text = string (string_bytes c.in_ok-value-in-method.value) in
    (text, c.in_ok-value-in-method.ensures c.args.depth, λ ms h. grind (arith, members))

pub returns-in_ok-value-in-id : goal.returns-in_ok-value-in-id
returns-in_ok-value-in-id c =
    let read = c.in_ok-value-in-id.ensures in
    (read.0, read.1 c.args.depth, λ ms h. grind (arith, members))

pub returns-in_ok-value-in-params : goal.returns-in_ok-value-in-params
returns-in_ok-value-in-params c =
    let read = c.in_ok-value-in-params.ensures in
    (read.0, read.1, λ ms h. grind (arith, members))

pub returns-in_ok-end-in-result : goal.returns-in_ok-end-in-result
returns-in_ok-end-in-result c =
    let read = c.in_ok-end-in-result.ensures in
    (read.0, read.1, λ ms h. grind (arith, members))

pub returns-in_ok-value-in-error : goal.returns-in_ok-value-in-error
returns-in_ok-value-in-error c =
    let read = c.in_ok-value-in-error.ensures in
    let passed = ap Some (code_passed (object read.0) _ read.2) in (
      object read.0,
      read.1,
      λ ms h. record {
        version = grind (arith, members);
        method = grind (arith, members);
        id = grind (arith, members);
        params = grind (arith, members);
        told = grind (arith, members);
        result = grind (arith, members);
        error = rw (c.in-error.is, get_member-put) passed;
      },
    )

pub returns-in_default : goal.returns-in_default
returns-in_default c =
    IfSome_then c.skipped-in_default.result c.skipped-in_default.ensures
    (λ end read. (read.0, read.1, λ ms h. grind (arith, members)))

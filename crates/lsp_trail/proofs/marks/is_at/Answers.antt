use Rattle.std.proofs.Common.{◌≡◌, ◌∙◌, Some, sym, subst}
use Rattle.std.specs.Prelude.{string_bytes}
use Rattle.std.specs.Map.{lookup}
use Rattle.std.specs.Str.{bytes_eq}
use Rattle.lsp_docs.proofs.Words.{uri_is}
use Rattle.lsp_trail.proofs.marks.is_at.Goals as goal

pub returns-in-Some : goal.returns-in-Some
returns-in-Some c = λ yes.
    let mark = c.in-Some.field-0-1.now in
    let own = sym c.as_str.ensures.value ∙ uri_is _ c.args.uri.now (sym c.eq.ensures ∙ yes) in (
      c.in-Some.key.now,
      mark,
      sym c.in-Some.ensures.entry,
      own,
      subst (λ b. lookup (λ k. bytes_eq b (string_bytes k)) c.args.map.now.entries ≡ Some mark) own
          c.in-Some.ensures.value,
    )

use Rattle.std.proofs.Common.{sym}
use Rattle.std.specs.Prelude.{string_bytes}
use Rattle.std.specs.Str.{bytes_eq}
use Rattle.std.proofs.lemmas.Map.Made.{lookup_key_passes}
use Rattle.lsp_docs.proofs.Words.{uri_is}
use Rattle.lsp_trail.proofs.bases.find.Goals as goal

pub returns-clause-found : goal.returns-clause-found
returns-clause-found c =
    let uri = c.args.uri.now in
    let key = c.in_ok-at.field-0-1.now in (
      key,
      c.in_ok-at.field-0-2.now,
      c.in_ok-at.ensures.entry,
      sym (uri_is uri (string_bytes key) (lookup_key_passes (λ k. bytes_eq uri (string_bytes k))
          c.args.map.now.entries key (sym c.in_ok-at.ensures.key))),
      sym c.in_ok-at.ensures.value,
    )

use Rattle.std.proofs.Common.{◌≡◌, take}
use Rattle.lsp_text.specs.Changes.{edits_of}
use Rattle.lsp_text.specs.Findings.{findings}
use Rattle.lsp_text.proofs.Edits.Applied.{AreMade}
use Rattle.lsp_text.proofs.changes.change_all.Given as goal

abbrev pub invariant-loop-made : goal.invariant-loop-made
invariant-loop-made g l = record {
  made : AreMade l.limit l.encoding (g.S.TextStore.content l.initial.store) l.changes l.made
      (g.S.TextStore.content l.store);
  found : l.found
      ≡ findings l.limit l.encoding (g.S.TextStore.content l.initial.store)
      (edits_of (take l.made l.changes));
}

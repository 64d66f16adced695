use Rattle.std.proofs.Common.{◌∙◌, ap, sym}
use Rattle.std.proofs.lemmas.Iterator.{YieldsList-from_chars}
use Rattle.std.proofs.lemmas.Iterator.Adapters.{option_map_id}
use Rattle.std.proofs.lemmas.Iterator.Consumers.{nth_from_yields_List}
use Rattle.std.specs.Prelude.{slice_get}
use Rattle.std.specs.Str.{chars}
use Rattle.lsp_facts.proofs.part.char_behind.Goals as goal

pub returns : goal.returns
returns c =
    sym (option_map_id c.nth.result)
    ∙ nth_from_yields_List _ _ c.char_count.result c.nth.ensures.ran
    (YieldsList-from_chars c.args.line.now c.utf8.line cc)
    ∙ ap (slice_get (chars c.args.line.now)) c.char_count.ensures

use Rattle.lsp_walk.proofs.Parts.{escape_part}
use Rattle.lsp_walk.proofs.texts.write_escape.Goals as goal

pub returns-clause-part : goal.returns-clause-part
returns-clause-part c =
    let read = c.in_ok-c in
    let wrote = c.write_char-end in
    record {
      text = _;
      part = escape_part c.args.bytes.now c.args.at read.c read.next c.requires.mark.0
          c.requires.mark.1 read.ensures.value read.ensures.passed wrote.ensures.utf8;
      written = wrote.ensures.written;
      within = wrote.ensures.within;
    }

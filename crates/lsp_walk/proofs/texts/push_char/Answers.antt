use Rattle.std.proofs.lemmas.Str.{IsUtf8-encode}
use Rattle.lsp_walk.proofs.texts.push_char.Goals as goal

pub returns-then-c-lt128-clause-utf8 : goal.returns-then-c-lt128-clause-utf8
returns-then-c-lt128-clause-utf8 c = IsUtf8-encode c.args.c c.ranges.c.0

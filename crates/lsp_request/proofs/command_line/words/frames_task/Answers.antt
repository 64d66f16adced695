use Rattle.std.proofs.Common.{◌∙◌, ap, codes, refl}
use Rattle.clap.specs.Matches.{found_of}
use Rattle.clap.proofs.WalkLemmas.{first_value-rows}
use Rattle.lsp_request.specs.Words.{mode_of}
use Rattle.lsp_request.proofs.command_line.words.frames_task.Goals as goal

pub returns : goal.returns
returns c = record { command = refl; arguments = c.mode_of.ensures ∙ ap mode_of (c.get_str.ensures ∙ first_value-rows (found_of c.args.arguments.now) (codes "as")) }

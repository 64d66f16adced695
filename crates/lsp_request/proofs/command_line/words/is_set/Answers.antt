use Rattle.std.proofs.Common.{◌∙◌}
use Rattle.clap.specs.Matches.{found_of}
use Rattle.clap.proofs.WalkLemmas.{one_text-rows}
use Rattle.lsp_request.proofs.command_line.words.is_set.Goals as goal

pub returns : goal.returns
returns c =
    let same = one_text-rows (found_of c.args.arguments.now) c.args.name.now in
    record {
      given = λ e. c.get_flag.ensures.value (same ∙ e);
      refused = λ e. c.get_flag.ensures.other (same ∙ e);
      absent = λ e. c.get_flag.ensures.none (same ∙ e);
    }

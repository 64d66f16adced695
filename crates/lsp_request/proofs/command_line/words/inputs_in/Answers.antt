use Rattle.std.specs.Prelude.{None}
use Rattle.std.proofs.Common.{◌++◌, ◌∙◌, ap, map}
use Rattle.clap.specs.Matches.{found_of}
use Rattle.lsp_request.proofs.Asked.{inputs_are}
use Rattle.lsp_request.proofs.command_line.words.inputs_in.Goals as goal

pub returns-in_default : goal.returns-in_default
returns-in_default c =
    let items = rw c.new-inputs.ensures.items at c.in_ok-push.ensures.items in
    ap (map (λ input. input.now)) items
    ∙ inputs_are (found_of c.args.arguments.now) None c.in_default.ensures

pub returns : goal.returns
returns c =
    let named = c.in-Some.named.now in
    ap (map (λ input. input.now)) (c.in_ok-extend_from_slice.ensures.items
    ∙ ap (λ inputs. inputs ++ named) c.new-inputs.ensures.items)
    ∙ inputs_are (found_of c.args.arguments.now) _ c.in-Some.ensures

use Rattle.clap.specs.Matches.{found_of}
use Rattle.lsp_request.proofs.Asked.{no_number, number_made, number_read}
use Rattle.lsp_request.proofs.command_line.words.number_of.Goals as goal

pub returns-in_err-get_one : goal.returns-in_err-get_one
returns-in_err-get_one c = rw c.from_residual.ensures (no_number (found_of c.args.arguments.now) c.in_err-get_one.ensures.value)

pub returns : goal.returns
returns c =
    let read = number_read (found_of c.args.arguments.now) c.in_ok-get_one.field-0 c.in_ok-get_one.ensures.none c.in_ok-get_one.ensures.value in
    number_made _ c.in_ok-get_one.field-0 c.new.result read c.new.ensures

-- What words may have left out.
use Rattle.std.specs.Prelude.{List, [], ◌∷◌, Option, Some, None, ◌==◌, codes, if◌then◌else◌}
use Rattle.clap.specs.Words.{Text}
use Rattle.lsp_request.specs.Several.{standard_inputs}
use Rattle.lsp_request.specs.declared.command_line.slip.Slip.{Slip}
use Rattle.lsp_request.specs.declared.command_line.slip.Slip.TheVariants.{Command, Uri}
use Rattle.lsp_request.specs.declared.command_line.task.Request.{Request}
use Rattle.lsp_request.specs.declared.command_line.task.Task.{Task}
use Rattle.lsp_request.specs.declared.command_line.task.Task.TheVariants as tasks

-- the word after the program's name, if no other follows
abbrev pub only_word : List Text → Option Text
only_word (program ∷ word ∷ []) = Some word
only_word _ = None

-- the URI whose document a task asks for
abbrev pub uri_of : Task → Option Text
uri_of (tasks.Text number uri extent) = Some uri.now
uri_of _ = None

-- the URI whose document a request asks for, if it reads standard input
abbrev pub uri_alone : Request → Option Text
uri_alone request = if standard_inputs request == 0 then None else uri_of request.task

-- the words that say what may have been left out
abbrev pub slip_text : Slip → Text
slip_text Command = codes "that is a file: did you mean 'lspcheck check FILE'?"
slip_text Uri = codes "the URI is the name of a file: did you mean 'text N URI FILE'?"

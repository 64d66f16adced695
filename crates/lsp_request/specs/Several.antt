-- What is asked and cannot be done, and what is done where there are several inputs.
use Rattle.std.specs.Prelude.{◌&&◌, ℕ, Bool, true, false, Option, Some, None, codes, count_by}
use Rattle.std.specs.Prelude.{length, map, nat_lt, if◌then◌else◌}
use Rattle.std.specs.Borrow.{Bor}
use Rattle.std.specs.List.{list_any}
use Rattle.std.specs.Str.{bytes_eq, chars}
use Rattle.json.specs.Print.{quoted}
use Rattle.clap.specs.Words.{Text}
use Rattle.lsp_request.specs.ShownText.{is_control, shown_text}
use Rattle.lsp_request.specs.declared.command_line.several.Conflict.{Conflict}
use Rattle.lsp_request.specs.declared.command_line.several.Conflict.TheVariants.{ListOfSeveral, InputTwice}
use Rattle.lsp_request.specs.declared.command_line.several.Conflict.TheVariants.{BothTexts, JsonText}
use Rattle.lsp_request.specs.declared.command_line.task.Report.TheVariants as reports
use Rattle.lsp_request.specs.declared.command_line.task.Request.{Request}
use Rattle.lsp_request.specs.declared.command_line.task.Task.{Task}
use Rattle.lsp_request.specs.declared.command_line.task.Task.TheVariants as tasks

-- one input of several is judged by a line with its name
abbrev pub line_task : Task → Bor Text → Task
line_task (tasks.Check completeness report form) name =
    tasks.Check completeness (reports.Line name) form
line_task task name = task

abbrev pub is_several : Request → Bool
is_several request = nat_lt 1 (length request.inputs.items)

-- a list of violations is asked for
abbrev pub is_listing : Task → Bool
is_listing (tasks.Check completeness (reports.Offences listing) form) = true
is_listing task = false

-- one of two texts is asked for
abbrev pub is_text : Task → Bool
is_text (tasks.Compared which) = true
is_text task = false

-- how often standard input is read
abbrev pub standard_inputs : Request → ℕ
standard_inputs request =
    count_by (λ input. bytes_eq input (codes "-")) (map (λ input. input.now) request.inputs.items)

-- what is asked and has no answer: a list of the violations of several logs, standard input twice,
-- both of two texts, or one of them as JSON
abbrev pub conflict_of : Request → Option Conflict
conflict_of request =
    if is_several request && is_listing request.task then Some ListOfSeveral
    else if nat_lt 1 (standard_inputs request) then Some InputTwice
    else if request.both_texts then Some BothTexts
    else if request.json && is_text request.task then Some JsonText
    else None

-- the words that say so
abbrev pub conflict_text : Conflict → Text
conflict_text ListOfSeveral = codes "--all and --every list the violations of one FILE"
conflict_text InputTwice = codes "standard input ('-') can be read only once"
conflict_text BothTexts = codes "the argument '--by-messages' cannot be used with '--in-editor'"
conflict_text JsonText = codes "--json cannot be used with --by-messages or --in-editor"

-- a name with a control character, as JSON text in which each of these is an escape
abbrev pub quoted_name : Text → Option Text
quoted_name name =
    if list_any is_control (chars name) then Some (shown_text (quoted name)) else None

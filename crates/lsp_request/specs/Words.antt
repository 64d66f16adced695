-- What the words of a command line ask for, read off what `clap` finds in them.
use Rattle.std.specs.Prelude.{◌≡◌, ◌⊎◌, ◌<◌, ◌^◌, ◌&&◌, ℕ, Bool, true, false, List, [], ◌∷◌, map, Option, Some, None, MatchOption, codes, if◌then◌else◌}
use Rattle.std.specs.Borrow.{Bor}
use Rattle.std.specs.Str.{bytes_eq}
use Rattle.std.specs.Str.Parse.{IsNumeral, digits_value, without_leading_plus}
use Rattle.std.specs.Int.NonZero.{non_zero_u64_get}
use Rattle.std.specs.declared.num.NonZeroU64.{NonZeroU64}
use Rattle.clap.specs.Words.{App, HasKind, Row, Text, all_of, fault_of, first_of, kind_of, one_of}
use Rattle.clap.specs.Words.{rows_of, subcommand_of}
use Rattle.clap.specs.Matches.{found_of}
use Rattle.clap.specs.declared.error.Error.{Error}
use Rattle.clap.specs.declared.error.kind.ErrorKind.TheVariants.{MissingSubcommand}
use Rattle.clap.specs.declared.parser.matches.ArgMatches.{ArgMatches}
use Rattle.lsp_replay.specs.Common.{Bounds, Canonical, Causes, Completeness, Every, Kinds, Lengths}
use Rattle.lsp_replay.specs.Common.{LineEnds, Lines, Listing, Mode}
use Rattle.lsp_types.specs.declared.line_ends.LineEnds.TheVariants as ends
use Rattle.lsp_frame.specs.Bounds.{ignoring_line_ends, profile}
use Rattle.lsp_verdict.specs.declared.completeness.Completeness.TheVariants.{Ignored, Required}
use Rattle.lsp_verdict.specs.declared.lines.Lines.TheVariants.{Short, Long}
use Rattle.lsp_facts.specs.declared.two_texts.ComparedText.{ComparedText}
use Rattle.lsp_facts.specs.declared.two_texts.ComparedText.TheVariants.{ByMessages, InEditor}
use Rattle.lsp_replay.specs.declared.form.Form.{Form}
use Rattle.lsp_replay.specs.declared.form.Form.TheVariants as forms
use Rattle.lsp_request.specs.declared.command_line.task.Explanation.{Explanation}
use Rattle.lsp_request.specs.declared.command_line.task.Explanation.TheVariants as explanations
use Rattle.lsp_request.specs.declared.command_line.task.Extent.{Extent}
use Rattle.lsp_request.specs.declared.command_line.task.Extent.TheVariants as extents
use Rattle.lsp_request.specs.declared.command_line.task.Report.{Report}
use Rattle.lsp_request.specs.declared.command_line.task.Report.TheVariants as reports
use Rattle.lsp_request.specs.declared.command_line.task.Request.{Request}
use Rattle.lsp_request.specs.declared.command_line.task.Rewrite.TheVariants as rewrites
use Rattle.lsp_request.specs.declared.command_line.task.Task.{Task}
use Rattle.lsp_request.specs.declared.command_line.task.Task.TheVariants as tasks

-- what was found of a command's arguments and options
abbrev pub rows_in : ArgMatches → List Row
rows_in arguments = rows_of (found_of arguments)

-- the file of this name; `-` names none, but standard input
abbrev pub file_of : Text → Option Text
file_of name = if bytes_eq name (codes "-") then None else Some name

-- what is to be read: what is named, or standard input
abbrev pub inputs_of : Option (List Text) → List Text
inputs_of None = codes "-" ∷ []
inputs_of (Some named) = named

-- the mode of a name
abbrev pub mode_named : List ℕ → Mode
mode_named name =
    if bytes_eq name (codes "canonical") then Canonical
    else if bytes_eq name (codes "kinds") then Kinds
    else Lengths

abbrev pub mode_of : Option (List ℕ) → Mode
mode_of (Some name) = mode_named name
mode_of None = Lengths

abbrev pub completeness_of : Bool → Completeness
completeness_of true = Required
completeness_of false = Ignored

-- an option with this value is set, or is not; one without a value is not
pub record IsFlag (value : Option (List ℕ)) (set : Bool) : Type 0 where
  pub given : value ≡ Some (codes "true") → set ≡ true
  pub refused : value ≡ Some (codes "false") → set ≡ false
  pub absent : value ≡ None → set ≡ false

-- which offences are listed, where any but the first are: all that follow from none, or every one
abbrev pub listing_of : Bool → Bool → Option Listing
listing_of all every = if every then Some Every else if all then Some Causes else None

-- which report is written: that of the verdict, or a list of these offences
abbrev pub report_of : Option Listing → Report
report_of None = reports.Verdict
report_of (Some listing) = reports.Offences listing

-- which of two texts that differ is written, where one is
abbrev pub compared_of : Bool → Bool → Option ComparedText
compared_of by_messages in_editor =
    if by_messages then Some ByMessages else if in_editor then Some InEditor else None

-- what is explained: the verdict, or all that is wrong, with the notes or without
abbrev pub explanation_of : Bool → Bool → Explanation
explanation_of all notes =
    if all then (if notes then explanations.AllWithNotes else explanations.All)
    else explanations.Verdict

abbrev pub lines_of : Bool → Lines
lines_of true = Long
lines_of false = Short

abbrev pub line_ends_of : Bool → LineEnds
line_ends_of true = ends.Ignored
line_ends_of false = ends.Exact

-- the limits of a run where line ends count, and where they do not
abbrev pub limits_by : LineEnds → Bounds
limits_by ends.Exact = profile
limits_by ends.Ignored = ignoring_line_ends profile

abbrev pub extent_of : Bool → Extent
extent_of true = extents.All
extent_of false = extents.First

abbrev pub form_of : Bool → Form
form_of true = forms.Json
form_of false = forms.Lines

-- all of a session is followed where the option for that is set
abbrev pub AsksExtent : List Row → Extent → Type 0
AsksExtent rows extent =
    (set : Bool) × IsFlag (one_of (codes "all") rows) set × (extent ≡ extent_of set)

-- JSON is written where the option for that is set
abbrev pub AsksForm : List Row → Form → Type 0
AsksForm rows form = (set : Bool) × IsFlag (one_of (codes "json") rows) set × (form ≡ form_of set)

-- the session must be complete where the option for that is set, and offences are listed where an
-- option for these is set; no words ask for the line of one of several sessions
pub record AsksCheck (rows : List Row) (completeness : Completeness) (report : Report) (form : Form)
    : Type 0 where
  pub complete : Bool
  pub all : Bool
  pub every : Bool
  pub complete_is : IsFlag (one_of (codes "complete") rows) complete
  pub all_is : IsFlag (one_of (codes "all") rows) all
  pub every_is : IsFlag (one_of (codes "every") rows) every
  pub completeness_is : completeness ≡ completeness_of complete
  pub report_is : report ≡ report_of (listing_of all every)
  pub form_is : AsksForm rows form

-- this one of two texts is written, or none, as the options for these are set
abbrev pub AsksCompared : List Row → Option ComparedText → Type 0
AsksCompared rows text =
    (by_messages : Bool) × (in_editor : Bool) × IsFlag (one_of (codes "by-messages") rows) by_messages
    × IsFlag (one_of (codes "in-editor") rows) in_editor × (text ≡ compared_of by_messages in_editor)

-- all that is wrong is explained where the option for that is set, and with the notes where the one
-- for these is set too
abbrev pub AsksExplanation : List Row → Explanation → Type 0
AsksExplanation rows explanation =
    (all : Bool) × (notes : Bool) × IsFlag (one_of (codes "all") rows) all
    × IsFlag (one_of (codes "notes") rows) notes × (explanation ≡ explanation_of all notes)

-- no text is; the session must be complete where the option for that is set
pub record AsksExplain (rows : List Row) (completeness : Completeness) (explanation : Explanation)
    (form : Form) : Type 0 where
  pub complete : Bool
  pub no_text : AsksCompared rows None
  pub complete_is : IsFlag (one_of (codes "complete") rows) complete
  pub completeness_is : completeness ≡ completeness_of complete
  pub explanation_is : AsksExplanation rows explanation
  pub form_is : AsksForm rows form

-- the lines are long where the option for these is set
pub record AsksShow (rows : List Row) (lines : Lines) (extent : Extent) (form : Form) : Type 0 where
  pub long : Bool
  pub long_is : IsFlag (one_of (codes "long") rows) long
  pub lines_is : lines ≡ lines_of long
  pub extent_is : AsksExtent rows extent
  pub form_is : AsksForm rows form

-- line ends do not count where the option for that is set
abbrev pub AsksLineEnds : List Row → LineEnds → Type 0
AsksLineEnds rows asked =
    (set : Bool) × IsFlag (one_of (codes "ignore-line-ends") rows) set × (asked ≡ line_ends_of set)

-- both texts that differ are asked for, where only one can be written
abbrev pub AsksBoth : List Row → Bool → Type 0
AsksBoth rows both =
    (by_messages : Bool) × (in_editor : Bool) × IsFlag (one_of (codes "by-messages") rows) by_messages
    × IsFlag (one_of (codes "in-editor") rows) in_editor × (both ≡ by_messages && in_editor)

-- the words give this number, which 64 bits hold, and not 0
pub record GivesNumber (rows : List Row) (number : ℕ) : Type 0 where
  pub digits : Text
  pub given : one_of (codes "number") rows ≡ Some digits
  pub numeral : IsNumeral 10 (without_leading_plus digits)
  pub value : number ≡ digits_value 10 (without_leading_plus digits)
  pub some : 0 < number
  pub fits : number < 2 ^ 64

-- the number that the words give, where they give one
abbrev pub NumberIn : List Row → Option NonZeroU64 → Type 0
NumberIn rows result =
    MatchOption result ((n : ℕ) → GivesNumber rows n → ⊥) (λ n. GivesNumber rows (non_zero_u64_get n))

-- the words give the number and the URI
pub record AsksText (rows : List Row) (number : NonZeroU64) (uri : Bor Text) (extent : Extent)
    : Type 0 where
  pub number_is : GivesNumber rows (non_zero_u64_get number)
  pub uri_is : first_of (codes "uri") rows ≡ Some uri.now
  pub extent_is : AsksExtent rows extent

-- the command of a task
abbrev pub command_of : Task → Text
command_of (tasks.Check completeness report form) = codes "check"
command_of (tasks.Explain completeness explanation form) = codes "explain"
command_of (tasks.Compared which) = codes "explain"
command_of (tasks.Show lines extent form) = codes "show"
command_of (tasks.Text number uri extent) = codes "text"
command_of (tasks.Event number) = codes "event"
command_of (tasks.Rewrite rewrites.Normal) = codes "normal"
command_of (tasks.Rewrite rewrites.Upgrade) = codes "upgrade"
command_of (tasks.Rewrite rewrites.Redact) = codes "redact"
command_of (tasks.Frames mode) = codes "frames"

-- the arguments and options of a task
abbrev pub HasArguments : List Row → Task → Type 0
HasArguments rows (tasks.Check completeness report form) = AsksCheck rows completeness report form
HasArguments rows (tasks.Explain completeness explanation form) =
    AsksExplain rows completeness explanation form
HasArguments rows (tasks.Compared which) = AsksCompared rows (Some which)
HasArguments rows (tasks.Show lines extent form) = AsksShow rows lines extent form
HasArguments rows (tasks.Text number uri extent) = AsksText rows number uri extent
HasArguments rows (tasks.Event number) = GivesNumber rows (non_zero_u64_get number)
HasArguments rows (tasks.Rewrite rewrite) = Unit {0}
HasArguments rows (tasks.Frames mode) = mode ≡ mode_of (first_of (codes "as") rows)

-- **the command of this name asks for the task**, with what was found of its arguments and options
pub record HasTask (name : Text) (rows : List Row) (task : Task) : Type 0 where
  pub command : name ≡ command_of task
  pub arguments : HasArguments rows task

-- the task that the command of a name asks for, where it asks for one
abbrev pub TaskIn : Text → List Row → Option Task → Type 0
TaskIn name rows result =
    MatchOption result ((task : Task) → HasTask name rows task → ⊥) (HasTask name rows)

-- a command of this name asks for the request: its task, what is to be read, whether no progress is
-- to be shown, whether a Yes must rest on a snapshot that was compared, whether both texts that
-- differ are to be written, whether line ends count, and whether JSON is to be written
pub record AsksOf (name : Text) (rows : List Row) (request : Request) : Type 0 where
  pub task : HasTask name rows request.task
  pub inputs : map (λ input. input.now) request.inputs.items
      ≡ inputs_of (all_of (codes "file") rows)
  pub quiet : IsFlag (one_of (codes "quiet") rows) request.quiet
  pub compared : IsFlag (one_of (codes "compared") rows) request.compared
  pub both_texts : AsksBoth rows request.both_texts
  pub line_ends : AsksLineEnds rows request.line_ends
  pub json : IsFlag (one_of (codes "json") rows) request.json

abbrev pub AsksFor : Option (Text × List Row) → Request → Type 0
AsksFor None request = ⊥
AsksFor (Some p) request = AsksOf p.0 p.1 request

-- the request that a command asks for, where it asks for one
abbrev pub RequestIn : Option (Text × List Row) → Option Request → Type 0
RequestIn found result =
    MatchOption result ((request : Request) → AsksFor found request → ⊥) (AsksFor found)

-- **what the words ask for**: `clap` takes them, and the command that it finds asks for the request
pub record Asks (app : App) (words : List Text) (request : Request) : Type 0 where
  pub taken : fault_of app words ≡ []
  pub found : AsksFor (subcommand_of app words) request

-- **how words are refused**: as `clap` refuses them; or what it finds asks for nothing, and a
-- command is required
abbrev pub Refuses : App → List Text → Error → Type 0
Refuses app words error =
    HasKind (fault_of app words) error
    ⊎ ((kind_of error ≡ MissingSubcommand)
    × ((request : Request) → AsksFor (subcommand_of app words) request → ⊥))

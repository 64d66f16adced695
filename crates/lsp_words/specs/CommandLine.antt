-- The command line: the commands of the program, with their arguments and options, by which `clap`
-- reads words.
use Rattle.std.specs.Prelude.{◌≡◌, List, [], ◌∷◌, ◌++◌, Some, true, false, codes}
use Rattle.std.specs.Borrow.{Bor}
use Rattle.clap.specs.Words.{App, Rule, Shape, Text, new_rule, rule_of}
use Rattle.clap.specs.Simple.{new_shape}
use Rattle.clap.specs.Walk.{texts}
use Rattle.clap.specs.declared.builder.arg.Arg.{Arg}
use Rattle.clap.specs.declared.builder.action.ArgAction.TheVariants.{Append, SetTrue}
use Rattle.clap.specs.declared.builder.value_parser.ValueParser.TheVariants.{Names, Unsigned}

-- ---- arguments and options

-- words are read by this rule for the argument, which only its own command has
abbrev pub IsArg : Rule → Arg → Type 0
IsArg rule arg = (rule_of arg ≡ rule) × (arg.global ≡ false)

-- an option that is set or not, as `--all`
abbrev pub flag : Text → Rule
flag name = record (new_rule name) { long = Some name; action = Some SetTrue }

-- whether no progress is shown
abbrev pub quiet : Rule
quiet = flag (codes "quiet")

-- whether JSON is written
abbrev pub json : Rule
json = flag (codes "json")

-- whether line ends do not count
abbrev pub ignore_line_ends : Rule
ignore_line_ends = flag (codes "ignore-line-ends")

-- an argument that may be left out
abbrev pub argument : Text → Rule
argument name = record (new_rule name) { value_names = 1 }

-- the file to read
abbrev pub file : Rule
file = argument (codes "file")

-- the files to read, of which there may be several
abbrev pub files : Rule
files = record file { action = Some Append }

-- the number of a message or an event: one that a log can have
abbrev pub number : Rule
number = record (argument (codes "number")) {
  required = true;
  parser = Some (Unsigned 1 1099511627776);
}

-- the URI of a document
abbrev pub uri : Rule
uri = record (argument (codes "uri")) { required = true }

-- the names that `--as` takes, where they lie in memory
abbrev pub Modes : Type 0
Modes = Bor (List (Bor Text))

-- what to write for each frame of a stream
abbrev pub mode : Modes → Rule
mode modes = record (argument (codes "as")) {
  long = Some (codes "as");
  parser = Some (Names modes);
  defaults = codes "lengths" ∷ [];
}

-- ---- commands

-- a command with these arguments and options
abbrev pub command : Text → List Rule → Shape
command name rules = record (new_shape name) { rules = rules }

-- `check` with the first of its options alone
abbrev pub check_options : Shape
check_options = command (codes "check")
    (flag (codes "complete") ∷ flag (codes "all") ∷ flag (codes "every")
    ∷ flag (codes "compared") ∷ [])

abbrev pub check : Shape
check = command (codes "check")
    (check_options.rules ++ ignore_line_ends ∷ json ∷ quiet ∷ files ∷ [])

-- `explain` with the options that say what is explained
abbrev pub explained_options : Shape
explained_options = command (codes "explain")
    (flag (codes "complete") ∷ flag (codes "all") ∷ flag (codes "notes") ∷ [])

-- the same with those on the two texts
abbrev pub explain_options : Shape
explain_options = command (codes "explain")
    (explained_options.rules ++ ignore_line_ends ∷ flag (codes "by-messages")
    ∷ flag (codes "in-editor") ∷ [])

abbrev pub explain : Shape
explain = command (codes "explain") (explain_options.rules ++ json ∷ quiet ∷ file ∷ [])

-- `show` with its own options alone
abbrev pub show_options : Shape
show_options = command (codes "show") (flag (codes "all") ∷ flag (codes "long") ∷ [])

abbrev pub show : Shape
show = command (codes "show") (show_options.rules ++ json ∷ quiet ∷ file ∷ [])

-- `text` with its own arguments and options alone
abbrev pub text_options : Shape
text_options = command (codes "text") (number ∷ uri ∷ flag (codes "all") ∷ [])

abbrev pub text : Shape
text = command (codes "text") (text_options.rules ++ quiet ∷ file ∷ [])

abbrev pub event : Shape
event = command (codes "event") (number ∷ quiet ∷ file ∷ [])

abbrev pub normal : Shape
normal = command (codes "normal") (quiet ∷ file ∷ [])

abbrev pub upgrade : Shape
upgrade = command (codes "upgrade") (quiet ∷ file ∷ [])

abbrev pub redact : Shape
redact = command (codes "redact") (ignore_line_ends ∷ quiet ∷ file ∷ [])

abbrev pub frames : Modes → Shape
frames modes = command (codes "frames") (mode modes ∷ quiet ∷ file ∷ [])

-- the program asks for one of its commands
abbrev pub program : Shape
program = record (new_shape (codes "lspcheck")) {
  is_leaf = false;
  has_version = true;
  arg_required_else_help = true;
  subcommand_required = true;
}

abbrev pub command_line : Modes → App
command_line modes = record {
  top = program;
  subs = check ∷ explain ∷ show ∷ text ∷ event ∷ normal ∷ upgrade ∷ redact ∷ frames modes ∷ [];
}

-- the names that `--as` takes
abbrev pub AreModes : Modes → Type 0
AreModes modes = texts modes.now ≡ codes "lengths" ∷ codes "canonical" ∷ codes "kinds" ∷ []

-- **the command line of the program**, wherever the names of the modes lie in memory
abbrev pub IsCommandLine : App → Type 0
IsCommandLine app = (modes : Modes) × AreModes modes × (app ≡ command_line modes)

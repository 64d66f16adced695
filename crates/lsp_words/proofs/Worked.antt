-- Words that were worked out by hand: what `clap` finds in them by the command line, and what they
-- ask for.
use Rattle.std.proofs.Common.{◌≡◌, List, [], ◌∷◌, Option, Some, None, codes, option_map, refl}
use Rattle.clap.specs.Words.{App, Row, Text, all_of, fault_of, one_of, subcommand_of}
use Rattle.clap.specs.declared.error.kind.ErrorKind.TheVariants as kind
use Rattle.clap.proofs.OnLiterals.{clap_on_literals}
use Rattle.lsp_words.specs.CommandLine.{command_line}
use Rattle.lsp_words.proofs.Line.{some_modes}

abbrev line : App
line = command_line some_modes

-- the command, and the text that one of its arguments or options has
abbrev found : List Text → Text → Option (Text × Option Text)
found words name = option_map (λ (p : Text × List Row). (p.0, one_of name p.1)) (subcommand_of line words)

-- `lspcheck check --all a.log`
abbrev checked : List Text
checked = codes "lspcheck" ∷ codes "check" ∷ codes "--all" ∷ codes "a.log" ∷ []

checked_taken : fault_of line checked ≡ []
unfolding clap_on_literals
checked_taken = refl

checked_all : found checked (codes "all") ≡ Some (codes "check", Some (codes "true"))
unfolding clap_on_literals
checked_all = refl

checked_complete : found checked (codes "complete") ≡ Some (codes "check", Some (codes "false"))
unfolding clap_on_literals
checked_complete = refl

checked_file : found checked (codes "file") ≡ Some (codes "check", Some (codes "a.log"))
unfolding clap_on_literals
checked_file = refl

-- line ends count, where nothing is said of them
checked_ends : found checked (codes "ignore-line-ends") ≡ Some (codes "check", Some (codes "false"))
unfolding clap_on_literals
checked_ends = refl

-- `lspcheck check a.log --complete b.log`: both files
abbrev judged : List Text
judged = codes "lspcheck" ∷ codes "check" ∷ codes "a.log" ∷ codes "--complete" ∷ codes "b.log" ∷ []

judged_taken : fault_of line judged ≡ []
unfolding clap_on_literals
judged_taken = refl

judged_complete : found judged (codes "complete") ≡ Some (codes "check", Some (codes "true"))
unfolding clap_on_literals
judged_complete = refl

judged_files : option_map (λ (p : Text × List Row). all_of (codes "file") p.1)
    (subcommand_of line judged) ≡ Some (Some (codes "a.log" ∷ codes "b.log" ∷ []))
unfolding clap_on_literals
judged_files = refl

-- `lspcheck explain --ignore-line-ends a.log`
abbrev explained : List Text
explained = codes "lspcheck" ∷ codes "explain" ∷ codes "--ignore-line-ends" ∷ codes "a.log" ∷ []

explained_ends : found explained (codes "ignore-line-ends")
    ≡ Some (codes "explain", Some (codes "true"))
unfolding clap_on_literals
explained_ends = refl

-- `lspcheck explain --in-editor a.log`
abbrev recorded : List Text
recorded = codes "lspcheck" ∷ codes "explain" ∷ codes "--in-editor" ∷ codes "a.log" ∷ []

recorded_text : found recorded (codes "in-editor") ≡ Some (codes "explain", Some (codes "true"))
unfolding clap_on_literals
recorded_text = refl

made_text : found recorded (codes "by-messages") ≡ Some (codes "explain", Some (codes "false"))
unfolding clap_on_literals
made_text = refl

-- `lspcheck text 12 u`: standard input
abbrev texted : List Text
texted = codes "lspcheck" ∷ codes "text" ∷ codes "12" ∷ codes "u" ∷ []

texted_taken : fault_of line texted ≡ []
unfolding clap_on_literals
texted_taken = refl

texted_number : found texted (codes "number") ≡ Some (codes "text", Some (codes "12"))
unfolding clap_on_literals
texted_number = refl

texted_file : found texted (codes "file") ≡ Some (codes "text", None)
unfolding clap_on_literals
texted_file = refl

-- `lspcheck text 12 u --all`
texted_all : found (codes "lspcheck" ∷ codes "text" ∷ codes "12" ∷ codes "u" ∷ codes "--all" ∷ [])
    (codes "all") ≡ Some (codes "text", Some (codes "true"))
unfolding clap_on_literals
texted_all = refl

-- no option says whether line ends count
texted_ends : found texted (codes "ignore-line-ends") ≡ Some (codes "text", None)
unfolding clap_on_literals
texted_ends = refl

-- `lspcheck frames -`: by lengths, where nothing is said
abbrev framed : List Text
framed = codes "lspcheck" ∷ codes "frames" ∷ codes "-" ∷ []

framed_taken : fault_of line framed ≡ []
unfolding clap_on_literals
framed_taken = refl

framed_as : found framed (codes "as") ≡ Some (codes "frames", Some (codes "lengths"))
unfolding clap_on_literals
framed_as = refl

-- a number that no log has, an option of another command, a second file, no command
too_low : fault_of line (codes "lspcheck" ∷ codes "event" ∷ codes "0" ∷ []) ≡ kind.ValueValidation ∷ []
unfolding clap_on_literals
too_low = refl

unknown_option : fault_of line (codes "lspcheck" ∷ codes "normal" ∷ codes "--all" ∷ []) ≡ kind.UnknownArgument ∷ []
unfolding clap_on_literals
unknown_option = refl

second_file : fault_of line (codes "lspcheck" ∷ codes "show" ∷ codes "a.log" ∷ codes "b.log" ∷ [])
    ≡ kind.UnknownArgument ∷ []
unfolding clap_on_literals
second_file = refl

no_command : fault_of line (codes "lspcheck" ∷ []) ≡ kind.DisplayHelpOnMissingArgumentOrSubcommand ∷ []
unfolding clap_on_literals
no_command = refl

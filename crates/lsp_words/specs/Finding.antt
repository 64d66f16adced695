-- What `clap` finds in words by the command line.
use Rattle.std.specs.Prelude.{◌≡◌, List, []}
use Rattle.clap.specs.Words.{App, Text, fault_of, subcommand_of, subcommand_rows_of}
use Rattle.clap.specs.declared.parser.matches.ArgMatches.{ArgMatches}

-- **what is found in the words**: `clap` takes them, and finds this command, with these of its
-- arguments and options
pub record Finds (app : App) (words : List Text) (found : ArgMatches) : Type 0 where
  pub taken : fault_of app words ≡ []
  pub command : subcommand_rows_of found ≡ subcommand_of app words

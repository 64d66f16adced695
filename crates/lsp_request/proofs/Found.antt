-- The command that is found in words, and what is found of its arguments.
use Rattle.std.proofs.Common.{◌≡◌, List, Option, Some, None, option_map}
use Rattle.std.specs.Box.{box_value}
use Rattle.clap.specs.Words.{Row, Text, rows_of, subcommand_name_of, subcommand_rows_of}
use Rattle.clap.specs.Matches.{found_of}
use Rattle.clap.specs.declared.parser.matches.ArgMatches.{ArgMatches}
use Rattle.clap.specs.declared.parser.matches.ArgMatches.TheViews.{out-ArgMatches, out-SubCommand}

abbrev with_rows : {X : Type 0} → (X → Text) → (X → List Row) → X → Text × List Row
with_rows f g x = (f x, g x)

both_of : {X : Type 0} (o : Option X) (f : X → Text) (g : X → List Row) (name : Text) (rows : List Row) → Some name ≡ option_map f o → Some rows ≡ option_map (λ (p : Text × List Row). p.1) (option_map (with_rows f g) o)
    → option_map (with_rows f g) o ≡ Some (name, rows)
both_of None f g name rows a b = absurd cc
both_of (Some x) f g name rows a b = cc (a, b)

-- its name and its rows are told apart
pub subcommand_is : (m : ArgMatches) (name : Text) (rows : List Row) → Some name ≡ subcommand_name_of m → Some rows ≡ option_map (λ (p : Text × List Row). p.1) (subcommand_rows_of m) → subcommand_rows_of m ≡ Some (name, rows)
subcommand_is m name rows a b =
    both_of (out-ArgMatches m).subcommand (λ b. (out-SubCommand (box_value b)).name.now) (λ b. rows_of (found_of (out-SubCommand (box_value b)).matches)) name rows a b

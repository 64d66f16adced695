use Rattle.std.proofs.Common.{◌≡◌, ◌∙◌, List, Option, Some, None, ℕ, codes, refl, sym}
use Rattle.std.specs.Int.NonZero.{non_zero_u64_get}
use Rattle.clap.specs.Matches.{found_of}
use Rattle.clap.proofs.WalkLemmas.{first_value-rows}
use Rattle.lsp_request.specs.Words.{rows_in}
use Rattle.lsp_request.proofs.Asked.{no_text}
use Rattle.lsp_request.proofs.command_line.words.text_task.Goals as goal

pub returns-in_err-number : goal.returns-in_err-number
returns-in_err-number c =
    rw c.from_residual.ensures (no_text (rows_in c.args.arguments.now)
    (λ number uri extent asked. c.in_err-number.ensures (non_zero_u64_get number) asked.number_is))

pub returns-in_err-uri : goal.returns-in_err-uri
returns-in_err-uri c =
    rw c.from_residual-in_err-uri.ensures (no_text (rows_in c.args.arguments.now)
    (λ number uri extent asked.
    let bad : ◌≡◌ {A = Option (List ℕ)} None (Some uri.now) = c.in_err-uri.ensures
    ∙ first_value-rows (found_of c.args.arguments.now) (codes "uri") ∙ asked.uri_is in
    absurd cc))

pub returns : goal.returns
returns c = record {
  command = refl;
  arguments = record {
    number_is = c.in_ok-number.ensures;
    uri_is = sym (first_value-rows (found_of c.args.arguments.now) (codes "uri"))
        ∙ sym c.in_ok-uri.ensures;
    extent_is = (c.is_set-all.result, c.is_set-all.ensures, c.extent_of.ensures);
  };
}

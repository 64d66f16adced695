use Rattle.std.specs.Prelude.{option_map, string_bytes}
use Rattle.std.specs.List.{find}
use Rattle.std.specs.Option.{option_or}
use Rattle.std.proofs.Common.{◌∙◌, ap, sym}
use Rattle.std.proofs.lemmas.List.{map-append}
use Rattle.lsp_trail.specs.Common.{last_openings, on_view, OnDocument, ons_view}
use Rattle.lsp_notes.specs.Spellings.{IsSought, is_other, similar_words}
use Rattle.lsp_notes.proofs.OtherSpellings.{made_in_parts, of_either}
use Rattle.lsp_notes.proofs.spellings.words_on.Goals as goal

pub returns : goal.returns
returns c = λ before made stands opened others.
    let terms = c.args.docs.now.terms in
    let uri = c.args.uri.now in
    let first = c.last_opened.result.0.now in
    let second = c.last_opened.result.1.now in
    let spelling = c.as_slice.result.now in
    let make = λ (on : OnDocument). similar_words uri on.uri in
    let test = is_other terms before uri spelling in
    let is : IsSought before _ = record {
      made = made;
      stands = stands;
      others = others;
      opened = opened;
    } in
    ap (option_map string_bytes) c.or.ensures
    ∙ of_either string_bytes c.in_ok-earlier.earlier c.in_ok-later.later
    ∙ (λ i. option_or (c.in_ok-earlier.ensures before is i) (c.in_ok-later.ensures before is i))
    ∙ sym (made_in_parts make test (ons_view first) (ons_view second))
    ∙ ap (λ ons. option_map make (find test ons)) (sym (map-append on_view first second)
    ∙ c.last_opened.ensures terms before opened)
    ∙ ap (λ b. option_map make (find (is_other terms before uri b) (last_openings terms before)))
    (c.as_slice.ensures.value ∙ c.in_ok-spelling.ensures)

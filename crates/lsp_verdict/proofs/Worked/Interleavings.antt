-- Worked sessions whose two sides' events meet in different orders.
use Rattle.std.proofs.Common.{◌≡◌, ◌∷◌, [], List, ◌++◌, refl}
use Rattle.std.specs.Prelude.{codes, true, false}
use Rattle.std.specs.Float.Numeral.{scan_numeral}
use Rattle.std.specs.Str.{chars}
use Rattle.json.specs.Json.{value}
use Rattle.json.specs.Lex.{punctuate, lex}
use Rattle.json.specs.Text.{content}
use Rattle.json.specs.Word.{word, after_number}
use Rattle.serde_json.specs.Read.{number_of}
use Rattle.lsp_types.specs.declared.side.Side.TheVariants.{Editor, Server}
use Rattle.lsp_verdict.specs.Event.{Event, sent_in}
use Rattle.lsp_verdict.specs.Interleaving.{AreInterleavings, IsRead, first_result, is_order_rule, own}
use Rattle.lsp_verdict.specs.Verdict.{no}
use Rattle.lsp_verdict.specs.declared.verdict.Who.TheVariants as who
use Rattle.lsp_verdict.proofs.Worked.Templates.{A, A1, ERR, I, I1, N1, OPEN, REQ, RES, START, T, judged}

abbrev asked_first : List Event
asked_first = START ++ REQ ∷ OPEN (codes "1") (codes "ab") ∷ T 1 (codes "ab") ∷ RES (codes "7") ∷ []

abbrev answered_early : List Event
answered_early = START ++ REQ ∷ RES (codes "7") ∷ OPEN (codes "1") (codes "ab") ∷ T 1 (codes "ab") ∷ []

abbrev answered_before : List Event
answered_before = I1 ∷ A1 ∷ RES (codes "7") ∷ N1 ∷ REQ ∷ OPEN (codes "1") (codes "ab") ∷ T 1 (codes "ab") ∷ []

of_the_editor : own Editor asked_first ≡ I1 ∷ N1 ∷ REQ ∷ OPEN (codes "1") (codes "ab") ∷ T 1 (codes "ab") ∷ []
unfolding value punctuate lex content word after_number number_of scan_numeral chars
of_the_editor = refl

of_the_server : own Server asked_first ≡ A1 ∷ RES (codes "7") ∷ []
unfolding value punctuate lex content word after_number number_of scan_numeral chars
of_the_server = refl

interleaved : AreInterleavings asked_first answered_early
unfolding value punctuate lex content word after_number number_of scan_numeral chars
interleaved = record { editor = refl; server = refl }

both_kept : judged asked_first ≡ judged answered_early
unfolding value punctuate lex content word after_number number_of scan_numeral chars
both_kept = refl

interleaved_too : AreInterleavings asked_first answered_before
unfolding value punctuate lex content word after_number number_of scan_numeral chars
interleaved_too = record { editor = refl; server = refl }

refused : judged answered_before ≡ no 301 who.Server 2 3
unfolding value punctuate lex content word after_number number_of scan_numeral chars
refused = refl

-- `initialized` before the answer to `initialize`, and behind it
abbrev started_early : List Event
started_early = I1 ∷ N1 ∷ A1 ∷ []

interleaved_start : AreInterleavings START started_early
unfolding value punctuate lex content word after_number number_of scan_numeral chars
interleaved_start = record { editor = refl; server = refl }

refused_start : judged started_early ≡ no 402 who.Editor 2 2
unfolding value punctuate lex content word after_number number_of scan_numeral chars
refused_start = refl

opening_is_read : IsRead (OPEN (codes "1") (codes "ab"))
unfolding value punctuate lex content word after_number number_of scan_numeral chars
opening_is_read = refl

-- an error is no result
second_answer : first_result (sent_in (I1 ∷ ERR (codes "1") (codes "-32603") ∷ I (codes "2") ∷ A (codes "2") (codes "{}") ∷ [])) ≡ first_result (sent_in (A (codes "2") (codes "{}") ∷ []))
unfolding value punctuate lex content word after_number number_of scan_numeral chars
second_answer = refl

order_rules : is_order_rule 301 ∷ is_order_rule 302 ∷ is_order_rule 401 ∷ is_order_rule 412 ∷ [] ≡ true ∷ true ∷ true ∷ true ∷ []
order_rules = refl

other_rules : is_order_rule 209 ∷ is_order_rule 300 ∷ is_order_rule 303 ∷ is_order_rule 400 ∷ is_order_rule 413 ∷ is_order_rule 501 ∷ is_order_rule 601 ∷ [] ≡ false ∷ false ∷ false ∷ false ∷ false ∷ false ∷ false ∷ []
other_rules = refl

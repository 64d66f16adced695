use Rattle.std.proofs.Common.{◌≡◌, ◌++◌, ◌∷◌, [], List, ℕ, ap, map, sym, map-id, ◌∙◌}
use Rattle.std.proofs.Common.{append_assoc, append-nil}
use Rattle.std.specs.Prelude.{encode_utf8, encode_utf8_all}
use Rattle.std.proofs.lemmas.Iterator.{YieldsList-from_chars}
use Rattle.std.proofs.lemmas.Iterator.Consumers.{YieldsList-end}
use Rattle.std.proofs.lemmas.List.{map-append}
use Rattle.lsp_redact.specs.Characters.{character_of, text_of, written_character, written_text}
use Rattle.lsp_redact.proofs.characters.shown_text.Goals as goal

encodes-push : (cs : List ℕ) (c : ℕ)
    → encode_utf8_all (cs ++ c ∷ []) ≡ encode_utf8_all cs ++ encode_utf8 c
encodes-push [] c = append-nil (encode_utf8 c)
encodes-push (d ∷ cs) c =
    ap (λ (t : List ℕ). encode_utf8 d ++ t) (encodes-push cs c)
    ∙ sym (append_assoc (encode_utf8 d) (encode_utf8_all cs) (encode_utf8 c))

pub loop-character-preserved : goal.loop-character-preserved
loop-character-preserved c =
    let apart = c.args.apart in
    let cs = c.loop-character.yielded in
    let own = character_of apart c.in-Some.character in
    c.in_ok-push.ensures.bytes
    ∙ (λ i. c.loop-character.invariant i ++ encode_utf8 (c.shown_as.ensures i))
    ∙ sym (encodes-push (map written_character (text_of apart cs)) (written_character own))
    ∙ ap encode_utf8_all (sym (map-append written_character (text_of apart cs) (own ∷ [])))
    ∙ ap written_text (sym (map-append (character_of apart) cs (c.in-Some.character ∷ [])))

pub returns : goal.returns
returns c =
    let t = YieldsList-end (YieldsList-from_chars c.args.text.now c.utf8.text cc)
    c.loop-character.yielded _ c.loop-character.yielded_by _ _ c.in-None.is c.next.ensures.steps in
    c.loop-character.invariant
    ∙ ap (λ cs. written_text (text_of c.args.apart cs)) (sym (map-id c.loop-character.yielded) ∙ t.0)

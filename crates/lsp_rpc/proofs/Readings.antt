-- Each content is one message or breaks one least rule.
use Rattle.std.proofs.Common.{◌≡◌, ◌⊎◌, ◌||◌, ℕ, ℤ, List, Bool, true, false, not, Option, Some, None, is_some, option_map, option_and_then, if◌then◌else◌, inl, inr, refl, sym, subst, ◌∙◌}
use Rattle.std.specs.Str.{is_utf8}
use Rattle.std.proofs.lemmas.Str.{IsUtf8-from_is_utf8, is_utf8-from_IsUtf8}
use Rattle.serde_json.specs.Data.{Data}
use Rattle.serde_json.specs.Find.{as_str}
use Rattle.serde_json.specs.Read.{read}
use Rattle.lsp_rpc.specs.Ident.{Ident}
use Rattle.lsp_rpc.specs.Message.{Message, response, result, error}
use Rattle.lsp_rpc.specs.Shape.{as_id}
use Rattle.lsp_rpc.specs.Reading.{Parts, parts_of, method_is_string, is_response, code_of, error_is_good, broken_rule, message_in, IsMessage, IsJson, Reads, BreaksRule}
use Rattle.lsp_rpc.specs.Laws.{OneMessage, OneRule, NotBoth, MessageOrRule}

one_value : (content : List ℕ) (d e : Data) → IsJson content d → IsJson content e → d ≡ e
one_value content d e first second = let same = sym first.1 ∙ second.1 in cc

message_at : (d : Data) (m n : Message) → IsMessage d m → IsMessage d n → m ≡ n
message_at d m n first second = let same = sym first.made ∙ second.made in cc

pub one_message : OneMessage
one_message content m n (d, json, is) (e, json', is') =
    message_at e m n (subst (λ (x : Data). IsMessage x m) (one_value content d e json json') is) is'

rule_at : (d : Data) (r s : ℕ) → broken_rule d ≡ Some r → broken_rule d ≡ Some s → r ≡ s
rule_at d r s first second = let same = sym first ∙ second in cc

pub one_rule : OneRule
one_rule content r s (inl (d, json, breaks)) (inl (e, json', breaks')) =
    rule_at e r s (subst (λ (x : Data). broken_rule x ≡ Some r) (one_value content d e json json') breaks) breaks'
one_rule content r s (inl (d, json, breaks)) (inr (is, none)) = absurd (none d json)
one_rule content r s (inr (is, none)) (inl (d, json, breaks)) = absurd (none d json)
one_rule content r s (inr (is, none)) (inr (is', none')) = is ∙ sym is'

breaks_none : (d : Data) (r : ℕ) → broken_rule d ≡ None → broken_rule d ≡ Some r → ⊥
breaks_none d r keeps breaks = let same = sym keeps ∙ breaks in cc

pub not_both : NotBoth
not_both content m r (d, json, is) (inl (e, json', breaks)) =
    breaks_none e r (subst (λ (x : Data). broken_rule x ≡ None) (one_value content d e json json') is.keeps_rules) breaks
not_both content m r (d, json, is) (inr (rule, none)) = none d json

-- ---- a value that keeps the rules is a message

keeps : (broken : Bool) (rule : ℕ) (rest : Option ℕ) → (if broken then Some rule else rest) ≡ None → (broken ≡ false) × (rest ≡ None)
keeps false rule rest h = (refl, h)
keeps true rule rest h = cc

named : (f : List ℕ → Message) (o : Option (List ℕ)) → not (is_some o) ≡ false → (m : Message) × (option_map f o ≡ Some m)
named f None h = cc
named f (Some s) h = (f s, refl)

coded : (i : Option Ident) (o : Option ℤ) → not (is_some o) ≡ false → (m : Message) × (option_map (response i) (option_map error o) ≡ Some m)
coded i None h = cc
coded i (Some k) h = (response i (error k), refl)

made : (version method id params value failure : Option Data) →
    let p : Parts = record { version = version; method = method; id = id; params = params; result = value; error = failure } in
    not (method_is_string p) ≡ false → not (is_some method || is_response p) ≡ false → not (error_is_good p) ≡ false
    → (m : Message) × (message_in p ≡ Some m)
made v (Some d) id params value failure name answers good = named _ (as_str d) name
made v None id params (Some x) failure name answers good = (response (option_and_then as_id id) (result x), refl)
made v None id params None (Some e) name answers good = coded (option_and_then as_id id) (code_of e) good
made v None (Some i) params None None name answers good = cc
made v None None params None None name answers good = cc

is_made : (d : Data) → broken_rule d ≡ None → (m : Message) × IsMessage d m
is_made d kept =
    let object = keeps _ 202 _ kept in
    let version = keeps _ 203 _ object.1 in
    let method = keeps _ 204 _ version.1 in
    let id = keeps _ 205 _ method.1 in
    let params = keeps _ 206 _ id.1 in
    let answers = keeps _ 207 _ params.1 in
    let good = keeps _ 208 _ answers.1 in
    let p = parts_of d in
    let found = made p.version p.method p.id p.params p.result p.error method.0 answers.0 good.0 in
    (found.0, record { keeps_rules = kept; made = found.1 })

value_or_rule : (content : List ℕ) (d : Data) (o : Option ℕ) → IsJson content d → broken_rule d ≡ o
    → ((m : Message) × Reads content m) ⊎ ((r : ℕ) × BreaksRule content r)
value_or_rule content d None json is = let found = is_made d is in inl (found.0, (d, json, found.1))
value_or_rule content d (Some r) json is = inr (r, inl (d, json, is))

text_or_rule : (content : List ℕ) (utf8 : Bool) (o : Option Data) → is_utf8 content ≡ utf8 → read content ≡ o
    → ((m : Message) × Reads content m) ⊎ ((r : ℕ) × BreaksRule content r)
text_or_rule content true (Some d) utf8 is = value_or_rule content d (broken_rule d) (IsUtf8-from_is_utf8 content utf8, is) refl
text_or_rule content true None utf8 is = inr (201, inr (refl, λ d json. none_some d (sym is ∙ json.1)))
  where
    none_some : (d : Data) → None ≡ Some d → ⊥
    none_some d h = cc
text_or_rule content false o utf8 is = inr (201, inr (refl, λ d json. apart (sym (is_utf8-from_IsUtf8 content json.0) ∙ utf8)))
  where
    apart : true ≡ false → ⊥
    apart h = cc

pub message_or_rule : MessageOrRule
message_or_rule content = text_or_rule content (is_utf8 content) (read content) refl refl

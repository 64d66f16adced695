-- What stands for a content that is refused, as the code makes it.
use Rattle.std.proofs.Common.{◌≡◌, ℕ, Bool, true, false, List, [], ◌∷◌, ◌++◌, Option, Some, refl}
use Rattle.std.proofs.Common.{sym, ap, subst, ◌∙◌, ◌==◌, inl, inr, append-nil, if◌then◌else◌}
use Rattle.std.proofs.Common.{true≢false}
use Rattle.std.proofs.lemmas.Map.Views.{exact_unsigned_eq}
use Rattle.std.specs.List.{AllByRecursion, flat_map}
use Rattle.std.specs.Prelude.{not, option_and_then}
use Rattle.serde_json.specs.Data.{Data}
use Rattle.serde_json.specs.Written.{compact_text, has_float}
use Rattle.lsp_rpc.specs.Message as spoken
use Rattle.lsp_replay.specs.Common.{BreaksRule, broken, content, Event, is_object, IsRefusal}
use Rattle.lsp_replay.specs.Common.{Message, message, message_in, parts_of, show, Side, snapshot}
use Rattle.lsp_replay.specs.Common.{spelling}
use Rattle.lsp_rpc.specs.Params.{IsRefused}
use Rattle.lsp_rpc.specs.Reading.{Reads, broken_rule, least_broken}
use Rattle.lsp_rpc.specs.Reading.{rules_on}
use Rattle.lsp_types.specs.declared.fault.Fault.{Fault}
use Rattle.lsp_types.specs.declared.fault.Fault.TheVariants.{Rule}
use Rattle.lsp_types.specs.declared.rules.TheConstants as rules
use Rattle.lsp_verdict.specs.Event.{fault}
use Rattle.lsp_verdict.specs.Given.{raw_view}
use Rattle.lsp_verdict.specs.Placed as placed
use Rattle.lsp_verdict.specs.Placed.{ReadsAs}
use Rattle.lsp_verdict.specs.declared.raw.Raw as code
use Rattle.lsp_verdict.specs.declared.raw.Raw.TheVariants as raws
use Rattle.lsp_verdict.proofs.Below.{not_both}
use Rattle.lsp_redact.specs.Records.{content_records}
use Rattle.lsp_redact.specs.Redacting.{IsBroken, IsFaultOf}
use Rattle.lsp_redact.specs.Broken.{bare_data, bare_of, broken_content, left_of, refused_text}
use Rattle.lsp_redact.specs.Broken as spec

-- ---- rules 201 to 208 are not 209

not_209 : (rule : ℕ) → (rule == rules.BAD_METHOD_PARAMS) ≡ false
    → rule ≡ rules.BAD_METHOD_PARAMS → ⊥
not_209 rule differs is =
    true≢false (sym (ap (λ (r : ℕ). r == rules.BAD_METHOD_PARAMS) is) ∙ differs)

same_rule : (a b : ℕ) → (let o : Option ℕ = Some a in o) ≡ Some b → a ≡ b
same_rule a b h = cc

-- the least of these rules is one of them
least_of : (P : ℕ → Type 0) (rs : List (ℕ × Bool)) → AllByRecursion (λ (r : ℕ × Bool). P r.0) rs
    → (rule : ℕ) → least_broken rs ≡ Some rule → P rule
least_of P [] all rule h = absurd (cc h)
least_of P (r ∷ rs) all rule h = by_test (λ more. least_of P rs all.1 rule more) r.1 h
  where
    by_test : (least_broken rs ≡ Some rule → P rule) → (b : Bool)
        → (if b then Some r.0 else least_broken rs) ≡ Some rule → P rule
    by_test rest true is = subst P (same_rule r.0 rule is) all.0
    by_test rest false is = rest is

value_below : (d : Data) (rule : ℕ) → broken_rule d ≡ Some rule → rule ≡ rules.BAD_METHOD_PARAMS → ⊥
value_below d rule h =
    least_of (λ r. r ≡ rules.BAD_METHOD_PARAMS → ⊥)
    ((rules.MESSAGE_NOT_OBJECT, not (is_object d)) ∷ rules_on (parts_of d)) (
      not_209 202 refl,
      (
        not_209 203 refl,
        (
          not_209 204 refl,
          (not_209 205 refl, (not_209 206 refl, (not_209 207 refl, (not_209 208 refl, tt)))),
        ),
      ),
    ) rule h

below : (bytes : List ℕ) (rule : ℕ) → BreaksRule bytes rule → rule ≡ rules.BAD_METHOD_PARAMS → ⊥
below bytes rule (inl (d, json, least)) same = value_below d rule least same
below bytes rule (inr (is, none)) same = not_209 201 refl (sym is ∙ same)

-- another rule does not pass the test
differs : (rule : ℕ) → (rule ≡ rules.BAD_METHOD_PARAMS → ⊥) → (rule == rules.BAD_METHOD_PARAMS) ≡ false
differs rule other = by_test (rule == rules.BAD_METHOD_PARAMS) refl
  where
    by_test : (t : Bool) → (rule == rules.BAD_METHOD_PARAMS) ≡ t → t ≡ false
    by_test false e = refl
    by_test true e = absurd (other (exact_unsigned_eq rule rules.BAD_METHOD_PARAMS e))

-- ---- what is written

-- of a rule of 201 to 208
pub content_left : (bytes : List ℕ) (rule : ℕ) (text : List ℕ)
    → (rule ≡ rules.BAD_METHOD_PARAMS → ⊥) → text ≡ broken_content rule
    → text ≡ refused_text (left_of bytes rule)
content_left bytes rule text other is = rw (differs rule other) is

bare_plain : (m : Message) → has_float (bare_data (bare_of m)) ≡ false
bare_plain (spoken.request id method params) = refl
bare_plain (spoken.notification method params) = refl
bare_plain (spoken.response id reply) = refl

bare_text : (m : Message) → compact_text (bare_data (bare_of m)) ≡ refused_text (bare_of m)
bare_text (spoken.request id method params) = refl
bare_text (spoken.notification method params) = refl
bare_text (spoken.response id reply) = refl

-- of a call whose params are bad
pub call_left : (m : Message) (value : Data) (text : List ℕ) → value ≡ bare_data (bare_of m)
    → (has_float value ≡ false → text ≡ compact_text value) → text ≡ refused_text (bare_of m)
call_left m value text is made =
    made (ap has_float is ∙ bare_plain m) ∙ ap compact_text is ∙ bare_text m

-- of bad params
pub params_left : (bytes : List ℕ) (rule : ℕ) (text : List ℕ) (m : Message)
    → rule ≡ rules.BAD_METHOD_PARAMS → Reads bytes m
    → text ≡ refused_text (bare_of m) → text ≡ refused_text (left_of bytes rule)
params_left bytes rule text m is (d, json, reads) made =
    let heard : spec.spoken bytes ≡ Some m =
    ap (λ (o : Option Data). option_and_then (λ x. message_in (parts_of x)) o) json.1
    ∙ reads.made in
    rw (ap (λ (r : ℕ). r == rules.BAD_METHOD_PARAMS) is, heard) made

-- a content that is no message does not have bad params
pub never_both : (side : Side) (bytes : List ℕ) (rule : ℕ) (f : Fault) (r : ℕ) (text : List ℕ)
    → rule ≡ rules.BAD_METHOD_PARAMS → IsRefused side bytes rule → f ≡ Rule r → IsRefusal bytes f
    → text ≡ refused_text (left_of bytes rule)
never_both side bytes rule f r text is (inl lesser) kind refusal =
    absurd (below bytes rule lesser is)
never_both side bytes rule f r text is (inr (same, bad)) kind refusal =
    absurd (not_both bytes bad.of r bad.reads (subst (IsRefusal bytes) kind refusal))

-- ---- what is added for it

-- of what is no content nothing is
pub broken_none : (most : ℕ) (raw : code.Raw) (event : Event) (rule : ℕ) (text : List ℕ)
    → ((side : _) (bytes behind : _) → raw ≡ raws.Content side bytes behind → ⊥)
    → placed.Reads (raw_view raw) event
    → IsBroken most (raw_view raw) event rule text text
broken_none most (raws.Content side bytes behind) event rule text not reads =
    absurd (not side bytes behind refl)
broken_none most (raws.Broken side r rest) event rule text not reads =
    subst (λ (e : Event). IsBroken most (broken side r) e rule text text) (sym reads)
    (sym (append-nil text))
broken_none most (raws.Snapshot number uri body) event rule text not reads =
    subst (λ (e : Event). IsBroken most (show number uri.now body.now) e rule text text) (sym reads) tt

-- of a content records are
pub broken_some : (most : ℕ) (side : Side) (bytes : List ℕ) (event : Event) (rule : ℕ)
    (text before after : List ℕ) → ReadsAs side bytes event → IsFaultOf rule event
    → ((by : Side) → IsRefused by bytes rule → text ≡ refused_text (left_of bytes rule))
    → after ≡ before ++ flat_map spelling (content_records most side text)
    → IsBroken most (content side bytes) event rule before after
broken_some most side bytes (message m) rule text before after reads of left is = tt
broken_some most side bytes (fault by own) rule text before after reads of left is =
    is ∙ ap (λ (rs : List _). before ++ flat_map spelling rs)
    (ap (content_records most side)
    (left side (subst (IsRefused side bytes) (of by own refl) reads.1))
    ∙ sym (append-nil (content_records most side (refused_text (left_of bytes rule)))))
broken_some most side bytes (snapshot uri number body) rule text before after reads of left is =
    absurd reads

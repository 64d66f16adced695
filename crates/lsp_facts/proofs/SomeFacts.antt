-- Facts on each event that offends.
use Rattle.std.proofs.Common.{◌≡◌, ℕ, List, [], ◌∷◌, refl, sym, ap, ◌∙◌, Bool, true, false, Option}
use Rattle.std.proofs.Common.{Some, None, inl, inr, ◌≤◌, ◌++◌, Result, Ok, Err, arith, true≢false}
use Rattle.std.specs.Prelude.{codes, decimal, if◌then◌else◌, is_none, option_and_then, ℤ, int_lt}
use Rattle.std.specs.Prelude.{nat_lt, not, unwrap_or}
use Rattle.std.specs.Str.{is_utf8}
use Rattle.std.proofs.lemmas.Str.{IsUtf8-from_is_utf8, is_utf8-from_IsUtf8}
use Rattle.std.specs.List.{list_any}
use Rattle.std.proofs.lemmas.Bool.Decides.{nat_tests}
use Rattle.lsp_replay.specs.Common.{applied, BreaksRule, Call, call_at, call_rule, calls}
use Rattle.lsp_replay.specs.Common.{change_rule, changes, closes, compared, differs, Edit, Encoding}
use Rattle.lsp_replay.specs.Common.{encoding, error, Event, held, LineEnds, Message, message}
use Rattle.lsp_replay.specs.Common.{message_in, notification, offence, opens, outline, parts_of}
use Rattle.lsp_replay.specs.Common.{request, response, Rests, result, saves, Sent, sent_in, shows}
use Rattle.lsp_replay.specs.Common.{snapshot, SyncKind, Terms, text_rule, uri_of, Utf16, Version}
use Rattle.lsp_replay.specs.Common.{versioned, versions_of, waiting, Who, words_of}
use Rattle.lsp_rpc.proofs.OutlineWords.{words_by_outline}
use Rattle.lsp_rpc.specs.Reading.{IsJson, Reads}
use Rattle.lsp_verdict.specs.Report.{line, who_name}
use Rattle.lsp_verdict.specs.Event.{fault}
use Rattle.lsp_verdict.specs.Placed.{Raw}
use Rattle.serde_json.specs.Data.{Data}
use Rattle.serde_json.specs.Read.{read}
use Rattle.lsp_text.proofs.Differing.Differences.{one_difference}
use Rattle.lsp_docs.specs.Calls.{Text}
use Rattle.lsp_docs.specs.Snapshots.{kept as versions_kept}
use Rattle.lsp_docs.specs.Rules.{fits_kind, rule_of}
use Rattle.lsp_facts.specs.declared.earlier.Earlier.{Earlier}
use Rattle.lsp_facts.specs.Fact.{message_event, content_message, value_message, Fact}
use Rattle.lsp_facts.specs.EventFacts.{id_in, session_facts, fault_facts, AreCallFacts, AreFactsBy}
use Rattle.lsp_facts.specs.EventFacts.{AreFacts}
use Rattle.lsp_facts.specs.DocumentFacts.{head_facts, kept_fact, kind_facts, opening_facts}
use Rattle.lsp_facts.specs.DocumentFacts.{difference_facts, editor_key, ends_facts, AreApart}
use Rattle.lsp_facts.specs.DocumentFacts.{AreDetails, AreDocumentFacts, AreOfRule}
use Rattle.lsp_facts.specs.TwoTexts.{TwoTexts, is_of_texts, texts_of}
use Rattle.lsp_facts.proofs.DocumentRules.{IsOther, breaks_call, same_number, version_breaks}
use Rattle.lsp_facts.proofs.FailingChanges.{some_failing}
use Rattle.lsp_facts.proofs.TextsDiffer.{found_differ, none_found}

-- ---- a message that was heard has the id and the line of the message

pub id_in-outline : (m : Message) → id_in m ≡ id_in (outline m)
id_in-outline (response id (result value)) = refl
id_in-outline _ = refl

module _ (event : ℕ) (by : Who) (number : ℕ) where
  abbrev with_words : List ℕ → List ℕ
  with_words words =
      line (codes "event" ∷ decimal event ∷ who_name by ∷ decimal number ∷ words ∷ [])

  -- the line of a message that was heard without its params and, in some cases, without the value
  -- of its result
  pub same_line : (m said : Message) → outline m ≡ outline said
      → message_event event by number m ≡ message_event event by number said
  same_line m said same =
      ap with_words (words_by_outline m ∙ ap words_of same ∙ sym (words_by_outline said))

-- ---- the message that a content is, if it is one

-- what is read of a content, where it is text
abbrev named : Bool → Option Data → Option Message
named text value = if text then option_and_then value_message value else None

-- a value under its least rule
abbrev kept : Data → Option ℕ → Option Message
kept d rule = if is_none rule then message_in (parts_of d) else None

of_value : (bytes : List ℕ) (d : Data) → IsJson bytes d → content_message bytes ≡ value_message d
of_value bytes d json =
    ap (λ (b : Bool). named b (read bytes)) (is_utf8-from_IsUtf8 bytes json.0) ∙ ap (named true) json.1

-- **a content that is a message is named by it**
pub message_named : (bytes : List ℕ) (m : Message) → Reads bytes m → content_message bytes ≡ Some m
message_named bytes m (d, json, is) =
    of_value bytes d json ∙ ap (kept d) is.keeps_rules ∙ is.made

-- **one that breaks a rule is not**
pub none_named : (bytes : List ℕ) (rule : ℕ) → BreaksRule bytes rule → content_message bytes ≡ None
none_named bytes rule (inl (d, json, breaks)) = of_value bytes d json ∙ ap (kept d) breaks
none_named bytes rule (inr (is, none)) = by_text (is_utf8 bytes) (read bytes) refl refl
  where
    by_text : (text : Bool) (value : Option Data) → is_utf8 bytes ≡ text → read bytes ≡ value
        → named text value ≡ None
    by_text true (Some d) utf8 reads = absurd (none d (IsUtf8-from_is_utf8 bytes utf8, reads))
    by_text _ _ utf8 reads = refl

-- ---- texts that differ

pub some_apart : (ends : LineEnds) (enc : Encoding) (was_equal : Bool) (t u : Text) (key : List ℕ)
    → IsOther ends t u → (facts : List Fact) × AreApart ends enc was_equal t u key facts
some_apart ends enc was_equal t u key differ =
    let a = compared ends t in
    let b = compared ends u in
    elim (one_difference a b) [
      | inl same ↦ absurd (differ same.0)
      | inr at ↦ (
        difference_facts enc a b key at.0 ++ ends_facts was_equal t u,
        record {
          place = difference_facts enc a b key at.0;
          at = (at.0, at.1.first, refl);
          are = refl;
        },
      )
    ]

-- ---- by what was called

module _ (terms : Terms) (rule : ℕ) (other : is_of_texts rule ≡ false) (ks ws : List Version) where
  -- 702 compares two texts
  no_refusal : (b : Bool) → (if b then Some 702 else None) ≡ Some rule → ⊥
  no_refusal b e = true≢false (ap is_of_texts (sym (version_breaks b rule e).0) ∙ other)

  module _ (enc : Encoding) (kind : SyncKind) (uri : List ℕ) (number : ℤ) (cs : List Edit) where
    abbrev Some_of : Option Version → Type 0
    Some_of h = (facts : List Fact)
        × AreOfRule terms.limit h ks (changes enc kind uri number cs) rule facts

    by_text : (v : Version) (r : Result Text ℕ) → applied terms.limit enc v.text cs ≡ r
        → text_rule terms.line_ends ws number r ≡ Some rule → Some_of (Some v)
    by_text v (Err own) is e =
        let failing = some_failing terms.limit enc rule v.text cs
        (is ∙ ap (λ (n : ℕ). let r : Result Text ℕ = Err n in r) (same_number own rule e)) in
        (failing.0, inr (inr failing.1))
    by_text v (Ok t) is e =
        absurd (no_refusal (list_any (differs terms.line_ends (versioned number t)) ws) e)

    by_rows : (v : Version) (b c : Bool)
        → (if b then Some 603 else (if c then Some 604 else (if true
        then text_rule terms.line_ends ws number (applied terms.limit enc v.text cs) else None)))
        ≡ Some rule → Some_of (Some v)
    by_rows v true c e = ([], inl (sym (same_number 603 rule e), refl))
    by_rows v false true e =
        (kind_facts terms.limit enc kind v.text cs, inr (inl (sym (same_number 604 rule e), refl)))
    by_rows v false false e = by_text v (applied terms.limit enc v.text cs) refl e

    some_of_change : (h : Option Version)
        → change_rule terms ws enc kind number cs h ≡ Some rule → Some_of h
    some_of_change None e = ([], refl)
    some_of_change (Some v) e = by_rows v (not (int_lt v.number number)) (not (fits_kind kind cs)) e

  some_of_rule : (h : Option Version) (call : Call) → rule_of terms h ks ws call ≡ Some rule
      → (facts : List Fact) × AreOfRule terms.limit h ks call rule facts
  some_of_rule h (opens uri number text) e = (opening_facts terms.limit text rule, refl)
  some_of_rule h (changes enc kind uri number edits) e =
      some_of_change enc kind uri number edits h e
  some_of_rule h (shows uri number text) e = (kept_fact ks, refl)
  some_of_rule h _ e = ([], refl)

module _ (terms : Terms) (enc : Encoding) (before : List Call) (rule : ℕ) (call : Call)
    (e : call_rule terms before call ≡ Some rule) where
  some_details : (was_equal : Bool) (texts : Option TwoTexts)
      → texts_of terms before call rule ≡ texts
      → (facts : List Fact) × AreDetails terms enc before call rule was_equal texts facts
  some_details was_equal (Some texts) is =
      some_apart terms.line_ends enc was_equal texts.by_messages texts.in_editor (editor_key call)
      (found_differ terms before call rule e texts is)
  some_details was_equal None is =
      some_of_rule terms rule (none_found terms before call rule e is)
      (versions_kept terms (uri_of call) before) (versions_of (uri_of call) (waiting terms before))
      (held terms (uri_of call) before) call e

  pub some_facts_of : (earlier : Earlier)
      → (facts : List Fact) × AreDocumentFacts terms enc before call rule earlier facts
  some_facts_of earlier =
      let details = some_details earlier.was_equal (texts_of terms before call rule) refl in (
        head_facts earlier.set_by (held terms (uri_of call) before) call ++ details.0,
        record { details = details.0; says = details.1; are = refl },
      )

-- ---- any event

module _ (terms : Terms) (kept : List Event) (rule : ℕ) (earlier : Earlier) where
  some_call_facts : (said : Option Call) → option_and_then (call_rule terms (calls kept)) said ≡ Some rule → (facts : List Fact) × AreCallFacts terms kept rule said earlier facts
  some_call_facts None e = absurd (cc)
  some_call_facts (Some call) e =
      some_facts_of terms (unwrap_or (encoding (sent_in kept)) Utf16) (calls kept) rule call e
      earlier

  some_message_facts : (m : Sent) → offence terms kept (message m) ≡ Some rule → (b : Bool) → nat_lt rule 601 ≡ b → (facts : List Fact) × AreFactsBy b terms kept m rule earlier facts
  some_message_facts m e true below = (session_facts rule (sent_in kept) m, refl)
  some_message_facts m e false below =
      let least : 601 ≤ rule = grind (arith, nat_tests) in
      let broken = breaks_call terms kept m rule least e in
      some_call_facts (call_at kept (message m)) (ap (option_and_then (call_rule terms (calls kept))) broken.says ∙ broken.breaks)

  -- there are facts on each event that offends
  pub some_facts : (rests : Rests) (before : List Event) (raw : Raw) (event : Event) → offence terms kept event ≡ Some rule → (facts : List Fact) × AreFacts rests before terms kept raw event rule earlier facts
  some_facts rests before raw (fault side number) e = (fault_facts rests before rule raw, refl)
  some_facts rests before raw (message m) e = some_message_facts m e (nat_lt rule 601) refl
  some_facts rests before raw (snapshot uri number text) e = some_call_facts (call_at kept (snapshot uri number text)) e

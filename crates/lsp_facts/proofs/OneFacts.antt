-- The facts on an event are the same, however they are found.
use Rattle.std.proofs.Common.{◌≡◌, ◌⊎◌, ◌+◌, ◌<◌, ◌≤◌, ℕ, zero, suc, Bool, true, false, cond, List, [], ◌∷◌, ◌++◌, take, Option, Some, None, Result, Ok, Err, inl, inr, refl, sym, ap, subst, ◌∙◌, arith}
use Rattle.std.specs.Prelude.{nat_lt, slice_get, unwrap_or}
use Rattle.std.proofs.lemmas.Bool.{cases_lt}
use Rattle.std.proofs.lemmas.Bool.Decides.{nat_tests}
use Rattle.std.proofs.lemmas.Option.{same_Some}
use Rattle.lsp_replay.specs.Common.{applied, Call, call_at, calls, changes, closes, compared, Edit}
use Rattle.lsp_replay.specs.Common.{Encoding, encoding, Event, held, LiesInside, LineEnds, message}
use Rattle.lsp_replay.specs.Common.{opens, Rests, saves, Sent, sent_in, shows, snapshot, Span}
use Rattle.lsp_replay.specs.Common.{SyncKind, Terms, units, uri_of, Utf16, Utf8, Version}
use Rattle.lsp_text.specs.Edits.{limited}
use Rattle.lsp_text.specs.Sizes.{IsSizeWith}
use Rattle.lsp_text.proofs.Differing.Differences.{one_place}
use Rattle.lsp_text.proofs.Differing.InsideCharacter.{positions_lie_inside}
use Rattle.lsp_docs.specs.Calls.{Text}
use Rattle.lsp_docs.specs.Snapshots.{kept as versions_kept}
use Rattle.lsp_facts.specs.DocumentFacts.{falls_inside, fits_fact, head_facts, line_length}
use Rattle.lsp_facts.specs.DocumentFacts.{first_length, stray, difference_facts, ends_facts}
use Rattle.lsp_facts.specs.DocumentFacts.{IsStray, IsTooLong, IsLongWithLine, IsReason, IsRefused}
use Rattle.lsp_facts.specs.DocumentFacts.{IsFailing, AreApart, AreOfDifference, AreOfChange}
use Rattle.lsp_facts.specs.DocumentFacts.{AreDetails, AreDocumentFacts, AreOfRule, edges, editor_key}
use Rattle.lsp_facts.specs.DocumentFacts.{kind_facts}
use Rattle.lsp_facts.specs.TwoTexts.{TwoTexts, texts_of}
use Rattle.lsp_verdict.specs.Event.{fault}
use Rattle.lsp_verdict.specs.Placed.{Raw}
use Rattle.lsp_facts.specs.EventFacts.{AreCallFacts, AreFactsBy, AreFacts}
use Rattle.lsp_facts.specs.Fact.{Fact, would_have, may_have, counts_in, fails}
use Rattle.lsp_facts.specs.declared.earlier.Earlier.{Earlier}
use Rattle.lsp_facts.proofs.FailingChanges.{failing_rule}
use Rattle.lsp_facts.proofs.MadeChanges.{fails_there}

same_text : (t u : Text) → (let r : Result Text ℕ = Ok t in r) ≡ Ok u → t ≡ u
same_text t u e = cc

-- of one of two, where both cannot be
either : {A B A' B' R : Type 0} → (A → A' → R) → (A → B' → ⊥) → (A' → B → ⊥) → (B → B' → R) → A ⊎ B → A' ⊎ B' → R
either one apart across other (inl p) (inl q) = one p q
either one apart across other (inl p) (inr q) = absurd (apart p q)
either one apart across other (inr p) (inl q) = absurd (across q p)
either one apart across other (inr p) (inr q) = other p q

-- ---- texts that differ

one_difference : (enc : Encoding) (t u : Text) (key : List ℕ) (f g : List Fact)
    → AreOfDifference enc t u key f → AreOfDifference enc t u key g → f ≡ g
one_difference enc t u key f g p q =
    p.2 ∙ ap (difference_facts enc t u key) (one_place t u p.0 q.0 p.1 q.1) ∙ sym q.2

one_apart : (ends : LineEnds) (enc : Encoding) (was_equal : Bool) (t u : Text) (key : List ℕ)
    (f g : List Fact) → AreApart ends enc was_equal t u key f → AreApart ends enc was_equal t u key g
    → f ≡ g
one_apart ends enc was_equal t u key f g p q =
    p.are
    ∙ ap (λ (l : List Fact). l ++ ends_facts was_equal t u)
    (one_difference enc (compared ends t) (compared ends u) key p.place q.place p.at q.at)
    ∙ sym q.are

-- ---- a change that a rule refuses

within : (limit : ℕ) (t : Text) → units Utf8 t ≤ limit → limited limit t ≡ Ok t
within limit t le = let fits : nat_lt limit (units Utf8 t) ≡ false = grind (arith, nat_tests) in ap (λ b. cond b (Err 607) (Ok t)) fits

one_size : (enc : Encoding) (t : Text) (span : Option Span) (x : Text) (m n : ℕ) → IsSizeWith enc t span x m → IsSizeWith enc t span x n → m ≡ n
one_size enc t span x m n p q =
    let first : limited (m + n) p.made ≡ Ok p.made = within (m + n) p.made (omega (arith, p.size)) in
    let second : limited (m + n) q.made ≡ Ok q.made = within (m + n) q.made (omega (arith, q.size)) in
    let same : p.made ≡ q.made = same_text p.made q.made (sym first ∙ sym (p.change (m + n)) ∙ q.change (m + n) ∙ second) in
    p.size ∙ ap (units Utf8) same ∙ sym q.size

module _ (limit : ℕ) (enc : Encoding) (t : Text) where
  one_stray : (span : Option Span) (f g : List Fact) → IsStray enc t span f → IsStray enc t span g → f ≡ g
  one_stray span f g p q =
      let spans : p.of ≡ q.of = same_Some p.of q.of (sym p.there ∙ q.there) in
      let at : LiesInside enc t (stray enc t q.of) p.char = subst (λ s. LiesInside enc t (stray enc t s) p.char) spans p.lies in
      p.are
      ∙ ap (λ s. line_length enc t (stray enc t s) ++ falls_inside p.char ∷ fits_fact
      (edges t (stray enc t s))) spans
      ∙ ap (λ c. line_length enc t (stray enc t q.of) ++ falls_inside c ∷ fits_fact
      (edges t (stray enc t q.of))) (positions_lie_inside.once enc t (stray enc t q.of) p.char q.char at q.lies)
      ∙ sym q.are

  one_too_long : (edit : Edit) (f g : List Fact) → IsTooLong limit enc t edit f → IsTooLong limit enc t edit g → f ≡ g
  one_too_long edit f g p q = p.are ∙ ap (λ n. would_have n ∷ may_have limit ∷ []) (one_size enc t edit.span edit.text p.size q.size p.would q.would) ∙ sym q.are

  one_long : (edit : Edit) (f g : List Fact) → IsLongWithLine limit enc t edit f → IsLongWithLine limit enc t edit g → f ≡ g
  one_long edit f g p q = p.are ∙ ap (λ l. first_length enc t edit.span ++ l) (one_too_long edit p.sizes q.sizes p.long q.long) ∙ sym q.are

  one_reason : (edit : Edit) (rule : ℕ) (f g : List Fact) → IsReason limit enc t edit rule f → IsReason limit enc t edit rule g → f ≡ g
  one_reason edit rule f g p q =
      either (λ a b. one_stray edit.span f g a.1 b.1) (λ a b. not_605 g a.0 b) (λ a b. not_605 f a.0 b)
      (λ c d. either (λ a b. a.1 ∙ sym b.1) (λ a b. absurd (omega (arith, a.0, b.0))) (λ a b. absurd (omega (arith, a.0, b.0))) (λ a b. one_long edit f g a.1 b.1) c d) p q
    where
      not_605 : (h : List Fact) → rule ≡ 605 → ((rule ≡ 606) × (h ≡ first_length enc t edit.span)) ⊎ ((rule ≡ 607) × IsLongWithLine limit enc t edit h) → ⊥
      not_605 h is (inl a) = absurd (omega (arith, is, a.0))
      not_605 h is (inr a) = absurd (omega (arith, is, a.0))

  one_refused : (n : ℕ) (edit : Edit) (rule : ℕ) (f g : List Fact) → IsRefused limit enc t n edit rule f → IsRefused limit enc t n edit rule g → f ≡ g
  one_refused n edit rule f g p q = p.are ∙ ap (λ l. counts_in enc ∷ fails (n + 1) edit.span ∷ l) (one_reason edit rule p.reason q.reason p.says q.says) ∙ sym q.are

-- ---- the first that fails

take_front : (n m : ℕ) (cs : List Edit) → n < m → take n (take m cs) ≡ take n cs
take_front n zero cs lt = absurd (omega arith)
take_front zero (suc m) [] lt = refl
take_front (suc n) (suc m) (c ∷ cs) lt = ap (λ l. c ∷ l) (take_front n m cs (omega arith))
take_front _ (suc m) _ lt = refl

front_has : (n m : ℕ) (cs : List Edit) → n < m → slice_get (take m cs) n ≡ slice_get cs n
front_has n zero cs lt = absurd (omega arith)
front_has n (suc m) [] lt = refl
front_has zero (suc m) (c ∷ cs) lt = refl
front_has (suc n) (suc m) (c ∷ cs) lt = front_has n m cs (omega arith)

module _ (limit : ℕ) (enc : Encoding) (t : Text) (cs : List Edit) (rule : ℕ) (f g : List Fact) where
  none_before : (h k : List Fact) (p : IsFailing limit enc t cs rule h) (q : IsFailing limit enc t cs rule k) → p.n < q.n → ⊥
  none_before h k p q lt =
      let fails : applied limit enc t (take q.n cs) ≡ Err rule =
      fails_there limit enc t (take q.n cs) p.n p.text p.edit rule (ap (applied limit enc t) (take_front p.n q.n cs lt) ∙ p.made) (front_has p.n q.n cs lt ∙ p.here) p.failed in
      let both : (let r : Result Text ℕ = Err rule in r) ≡ Ok q.text = sym fails ∙ q.made in
      absurd (cc)

  same_place : (p : IsFailing limit enc t cs rule f) (q : IsFailing limit enc t cs rule g) → p.n ≡ q.n
  same_place p q =
      elim (cases_lt p.n q.n) [
        | inl lt ↦ absurd (none_before f g p q lt)
        | inr le ↦ elim (cases_lt q.n p.n) [ inl lt ↦ absurd (none_before g f q p lt) | inr ge ↦ omega arith ]
      ]

  one_failing : IsFailing limit enc t cs rule f → IsFailing limit enc t cs rule g → f ≡ g
  one_failing p q =
      let at = same_place p q in
      let texts : p.text ≡ q.text = same_text p.text q.text (sym p.made ∙ ap (λ n. applied limit enc t (take n cs)) at ∙ q.made) in
      let edits : p.edit ≡ q.edit = same_Some p.edit q.edit (sym p.here ∙ ap (slice_get cs) at ∙ q.here) in
      one_refused limit enc q.text q.n q.edit rule f g
      (subst (λ n. IsRefused limit enc q.text n q.edit rule f) at (subst (λ e. IsRefused limit enc q.text p.n e rule f) edits (subst (λ u. IsRefused limit enc u p.n p.edit rule f) texts p.refused))) q.refused

-- ---- by what was called

module _ (limit : ℕ) (enc : Encoding) (kind : SyncKind) (t : Text) (cs : List Edit) (rule : ℕ) where
  one_of_change : (f g : List Fact) → AreOfChange limit enc kind t cs rule f
      → AreOfChange limit enc kind t cs rule g → f ≡ g
  one_of_change f g p q =
      either (λ a b. a.1 ∙ sym b.1) (λ a b. absurd (omega (arith, a.0, later g b)))
      (λ a b. absurd (omega (arith, a.0, later f b)))
      (λ c d. either (λ a b. a.1 ∙ sym b.1) (λ a b. absurd (omega (arith, a.0, (by g b).0)))
      (λ a b. absurd (omega (arith, a.0, (by f b).0)))
      (λ a b. one_failing limit enc t cs rule f g a b) c d) p q
    where
      by : (h : List Fact) → IsFailing limit enc t cs rule h → (605 ≤ rule) × (rule ≤ 607)
      by h a = failing_rule limit enc t cs rule h a

      later : (h : List Fact) → ((rule ≡ 604) × (h ≡ kind_facts limit enc kind t cs))
          ⊎ IsFailing limit enc t cs rule h → 604 ≤ rule
      later h (inl a) = omega (arith, a.0)
      later h (inr a) = let own = by h a in omega (arith, own.0)

one_of_rule : (limit : ℕ) (h : Option Version) (ks : List Version) (call : Call) (rule : ℕ)
    (f g : List Fact) → AreOfRule limit h ks call rule f → AreOfRule limit h ks call rule g → f ≡ g
one_of_rule limit h ks (opens uri number text) rule f g p q = p ∙ sym q
one_of_rule limit (Some v) ks (changes enc kind uri number cs) rule f g p q =
    one_of_change limit enc kind v.text cs rule f g p q
one_of_rule limit _ ks _ rule f g p q = p ∙ sym q

module _ (terms : Terms) (enc : Encoding) (before : List Call) (call : Call) (rule : ℕ) where
  one_details : (was_equal : Bool) (texts : Option TwoTexts) (f g : List Fact)
      → AreDetails terms enc before call rule was_equal texts f
      → AreDetails terms enc before call rule was_equal texts g → f ≡ g
  one_details was_equal (Some texts) f g p q =
      one_apart terms.line_ends enc was_equal texts.by_messages texts.in_editor (editor_key call)
      f g p q
  one_details was_equal None f g p q =
      one_of_rule terms.limit (held terms (uri_of call) before)
      (versions_kept terms (uri_of call) before) call rule f g p q

  pub one_facts_of : (earlier : Earlier) (f g : List Fact)
      → AreDocumentFacts terms enc before call rule earlier f
      → AreDocumentFacts terms enc before call rule earlier g → f ≡ g
  one_facts_of earlier f g p q =
      p.are
      ∙ ap (λ l. head_facts earlier.set_by (held terms (uri_of call) before) call ++ l)
      (one_details earlier.was_equal (texts_of terms before call rule) p.details q.details p.says
      q.says)
      ∙ sym q.are

-- ---- any event

module _ (terms : Terms) (kept : List Event) (rule : ℕ) (earlier : Earlier)
    (f g : List Fact) where
  one_call_facts : (said : Option Call) → AreCallFacts terms kept rule said earlier f → AreCallFacts terms kept rule said earlier g → f ≡ g
  one_call_facts None p q = p ∙ sym q
  one_call_facts (Some call) p q =
      one_facts_of terms (unwrap_or (encoding (sent_in kept)) Utf16) (calls kept) call rule earlier
      f g p q

  one_message_facts : (m : Sent) (b : Bool) → AreFactsBy b terms kept m rule earlier f
      → AreFactsBy b terms kept m rule earlier g → f ≡ g
  one_message_facts m true p q = p ∙ sym q
  one_message_facts m false p q = one_call_facts (call_at kept (message m)) p q

  pub one_facts : (rests : Rests) (before : List Event) (raw : Raw) (event : Event)
      → AreFacts rests before terms kept raw event rule earlier f
      → AreFacts rests before terms kept raw event rule earlier g → f ≡ g
  one_facts rests before raw (fault side number) p q = p ∙ sym q
  one_facts rests before raw (message m) p q = one_message_facts m (nat_lt rule 601) p q
  one_facts rests before raw (snapshot uri number text) p q = one_call_facts (call_at kept (snapshot uri number text)) p q

-- A change that a rule refuses, and the facts on it.
use Rattle.std.proofs.Common.{◌≡◌, ℕ, List, ◌∷◌, refl, sym, ap, ◌∙◌, Bool, true, false, Option}
use Rattle.std.proofs.Common.{Some, None, inl, inr, ◌+◌, ◌≤◌, suc, cond, ◌++◌, take, Result, [], Ok}
use Rattle.std.proofs.Common.{Err, subst, arith}
use Rattle.std.specs.Prelude.{ℤ, nat_lt, is_some, slice_get}
use Rattle.lsp_replay.specs.Common.{applied, changed, Edit, Encoding, LiesInside, Span, units, Utf8}
use Rattle.lsp_text.specs.Edits.{splice, limited, spliced, and_then}
use Rattle.lsp_text.specs.Places.{place_of}
use Rattle.lsp_text.proofs.Differing.InsideCharacter.{positions_lie_inside}
use Rattle.lsp_docs.specs.Calls.{Text}
use Rattle.lsp_facts.specs.Fact.{Fact, would_have, may_have, counts_in, fails}
use Rattle.lsp_facts.specs.DocumentFacts.{falls_inside, fits_fact, first_length, line_length, edges}
use Rattle.lsp_facts.specs.DocumentFacts.{stray, IsReason, IsFailing}
use Rattle.lsp_facts.proofs.MadeChanges.{first_stray, second_stray}

same_rule : (a b : ℕ) → (let r : Result Text ℕ = Err a in r) ≡ Err b → a ≡ b
same_rule a b e = cc

-- ---- the rule is 605, 606 or 607

module _ (limit : ℕ) (enc : Encoding) (t : Text) where
  pub reason_rule : (edit : Edit) (rule : ℕ) (f : List Fact) → IsReason limit enc t edit rule f → (605 ≤ rule) × (rule ≤ 607)
  reason_rule edit rule f (inl p) = (omega (arith, p.0), omega (arith, p.0))
  reason_rule edit rule f (inr (inl p)) = (omega (arith, p.0), omega (arith, p.0))
  reason_rule edit rule f (inr (inr p)) = (omega (arith, p.0), omega (arith, p.0))

-- ---- why a change is refused

module _ (limit : ℕ) (enc : Encoding) (t : Text) (sent : Option ℤ) (x : Text) (rule : ℕ) where
  abbrev HasReason : Option Span → Type 0
  HasReason span = (facts : List Fact) × IsReason limit enc t (record { span = span; range_length = sent; text = x }) rule facts

  -- the text that it would make is over the limit
  too_long : (span : Option Span) (made : Text) → ((l : ℕ) → changed enc t span x l ≡ limited l made) → limited limit made ≡ Err rule → HasReason span
  too_long span made would e = by_test (nat_lt limit (units Utf8 made)) e
    where
      by_test : (b : Bool) → (let r : Result Text ℕ = cond b (Err 607) (Ok made) in r) ≡ Err rule → HasReason span
      by_test false h = absurd (cc)
      by_test true h =
          let sizes : List Fact = would_have (units Utf8 made) ∷ may_have limit ∷ [] in (
            first_length enc t span ++ sizes,
            inr (inr (sym (same_rule 607 rule h), record { sizes = sizes; long = record { size = units Utf8 made; would = record { made = made; change = would; size = refl }; are = refl }; are = refl })),
          )

  -- one of its positions lies inside a character
  inside : (span : Span) → rule ≡ 605 → (c : ℕ) → LiesInside enc t (stray enc t span) c → HasReason (Some span)
  inside span is c lies = (line_length enc t (stray enc t span) ++ falls_inside c ∷ fits_fact (edges t (stray enc t span)), inl (is, record { of = span; there = refl; char = c; lies = lies; are = refl }))

  -- both are places
  between : (span : Span) (a b : ℕ) → place_of enc t span.first ≡ Some a → place_of enc t span.second ≡ Some b → (r : Bool) → nat_lt b a ≡ r
      → (let o : Result Text ℕ = cond r (Err 606) (limited limit (splice t a b x)) in o) ≡ Err rule → HasReason (Some span)
  between span a b first second true reversed e = (first_length enc t (Some span), inr (inl (sym (same_rule 606 rule e), refl)))
  between span a b first second false reversed e =
      too_long (Some span) (splice t a b x)
      (λ l. ap (λ o. spliced t o (place_of enc t span.second) x l) first ∙ ap (λ o. spliced t (Some a) o x l) second ∙ ap (λ r. cond r (Err 606) (limited l (splice t a b x))) reversed) e

  by_places : (span : Span) (o p : Option ℕ) → place_of enc t span.first ≡ o → place_of enc t span.second ≡ p → spliced t o p x limit ≡ Err rule → HasReason (Some span)
  by_places span None p first second e =
      let at = (positions_lie_inside.inside enc t span.first).0 first in
      inside span (sym (same_rule 605 rule e)) at.0 (subst (λ q. LiesInside enc t q at.0) (first_stray enc t span at.0 at.1) at.1)
  by_places span (Some a) None first second e =
      let at = (positions_lie_inside.inside enc t span.second).0 second in
      inside span (sym (same_rule 605 rule e)) at.0 (subst (λ q. LiesInside enc t q at.0) (second_stray enc t span (ap is_some first)) at.1)
  by_places span (Some a) (Some b) first second e = between span a b first second (nat_lt b a) refl e

  some_reason : (span : Option Span) → changed enc t span x limit ≡ Err rule → HasReason span
  some_reason None e = too_long None x (λ l. refl) e
  some_reason (Some span) e = by_places span (place_of enc t span.first) (place_of enc t span.second) refl refl e

-- the first of the changes that fails
record FailsAt (limit : ℕ) (enc : Encoding) (t : Text) (cs : List Edit) (rule : ℕ) : Type 0 where
  pub n : ℕ
  pub text : Text
  pub made : applied limit enc t (take n cs) ≡ Ok text
  pub edit : Edit
  pub here : slice_get cs n ≡ Some edit
  pub failed : changed enc text edit.span edit.text limit ≡ Err rule

module _ (limit : ℕ) (enc : Encoding) (rule : ℕ) where
  fails_at : (t : Text) (cs : List Edit) → applied limit enc t cs ≡ Err rule → FailsAt limit enc t cs rule
  fails_at t [] e = absurd (cc)
  fails_at t (c ∷ cs) e = by_first (λ u h. fails_at u cs h) (changed enc t c.span c.text limit) refl e
    where
      by_first : ((u : Text) → applied limit enc u cs ≡ Err rule → FailsAt limit enc u cs rule) → (r : Result Text ℕ) → changed enc t c.span c.text limit ≡ r → and_then r (λ u. applied limit enc u cs) ≡ Err rule → FailsAt limit enc t (c ∷ cs) rule
      by_first later (Err own) first h = record { n = 0; text = t; made = refl; edit = c; here = refl; failed = first ∙ h }
      by_first later (Ok u) first h =
          let rest = later u h in
          record { n = suc rest.n; text = rest.text; made = ap (λ r. and_then r (λ v. applied limit enc v (take rest.n cs))) first ∙ rest.made; edit = rest.edit; here = rest.here; failed = rest.failed }

  pub some_failing : (t : Text) (cs : List Edit) → applied limit enc t cs ≡ Err rule → (facts : List Fact) × IsFailing limit enc t cs rule facts
  some_failing t cs e =
      let at = fails_at t cs e in
      let reason = some_reason limit enc at.text at.edit.range_length at.edit.text rule at.edit.span at.failed in (
        counts_in enc ∷ fails (at.n + 1) at.edit.span ∷ reason.0,
        record { n = at.n; text = at.text; made = at.made; edit = at.edit; here = at.here; failed = at.failed; refused = record { reason = reason.0; says = reason.1; are = refl } },
      )

module _ (limit : ℕ) (enc : Encoding) (t : Text) (cs : List Edit) (rule : ℕ) where
  -- its rule
  pub failing_rule : (f : List Fact) → IsFailing limit enc t cs rule f → (605 ≤ rule) × (rule ≤ 607)
  failing_rule f p = reason_rule limit enc p.text p.edit rule p.refused.reason p.refused.says

  pub fails_by : applied limit enc t cs ≡ Err rule → (605 ≤ rule) × (rule ≤ 607)
  fails_by e = let failing = some_failing limit enc rule t cs e in
      failing_rule failing.0 failing.1

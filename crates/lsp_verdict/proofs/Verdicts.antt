-- What a verdict says of the events and the end of a session.
use Rattle.std.proofs.Common.{◌≡◌, ◌⊎◌, ℕ, Bool, true, false, List, [], ◌∷◌, ◌++◌, Option, Some, None, inl, inr, refl, sym, ap, subst, ◌∙◌, append_assoc}
use Rattle.std.specs.Prelude.{option_map, unwrap_or}
use Rattle.std.specs.Option.{option_or}
use Rattle.lsp_docs.specs.Documents.{Terms}
use Rattle.lsp_log.specs.declared.fault.LogCode.{LogCode}
use Rattle.lsp_verdict.specs.Event.{Event}
use Rattle.lsp_verdict.specs.Laws.{Names}
use Rattle.lsp_verdict.specs.Kept.{NothingOffends}
use Rattle.lsp_verdict.specs.declared.verdict.Who.TheVariants as who
use Rattle.lsp_verdict.specs.Verdict.{Verdict, Summary, Ending, yes, no, bad_log, offence, no_next, no_by, no_at, first_no, bad_log_of, rest_of, refusal, summary, verdict}
use Rattle.lsp_verdict.proofs.Finding.{found, nothing_from, nothing_at, or_cases, map_none}
use Rattle.lsp_verdict.proofs.Finding.{map_some}
use Rattle.lsp_verdict.proofs.LookBackLemmas.{or_none_parts, first_of-more, first_of-snoc}

-- ---- nothing offends

pub nothing_offends : (terms : Terms) (es : List Event) → first_no terms es ≡ None → NothingOffends terms es
nothing_offends terms es none before after e cut = map_none (no_by before e) (offence terms before e) (nothing_at (no_at terms) es before after e none cut)

pub nothing_found : (terms : Terms) (es : List Event) → NothingOffends terms es → first_no terms es ≡ None
nothing_found terms es clean = nothing_from (no_at terms) [] es (λ before after e cut. ap (option_map (no_by before e)) (clean before after e cut))

-- the first that offends
pub names_first : (terms : Terms) (es : List Event) (v : Verdict) → first_no terms es ≡ Some v → Names terms es v
names_first terms es v e =
    let f = found (no_at terms) [] es v e in
    let o = map_some (no_by f.front f.here) (offence terms f.front f.here) v f.at in
    record { before = f.front; event = f.here; after = f.after; rule = o.0; whole = f.whole; offends = o.1; first = nothing_offends terms f.front f.none; is = sym o.2 }

-- ---- refusals are no Yes

abbrev pub IsRefusal : Verdict → Type 0
IsRefusal (yes s) = ⊥
IsRefusal _ = Unit {0}

by_refuses : (before : List Event) (e : Event) (rule : ℕ) → IsRefusal (no_by before e rule)
by_refuses before e rule = tt

first_refuses : (terms : Terms) (es : List Event) (v : Verdict) → first_no terms es ≡ Some v → IsRefusal v
first_refuses terms es v e = let n = names_first terms es v e in subst IsRefusal (sym n.is) (by_refuses n.before n.event n.rule)

bad_log_refuses : (f : Option (ℕ × LogCode)) (v : Verdict) → bad_log_of f ≡ Some v → IsRefusal v
bad_log_refuses None v e = let same : None ≡ Some v = e in absurd cc
bad_log_refuses (Some f) v e = let same : bad_log f.0 f.1 ≡ v = cc e in subst IsRefusal same tt

rest_refuses : (es : List Event) (editor server : Bool) (v : Verdict) → rest_of es editor server ≡ Some v → IsRefusal v
rest_refuses es true server v e = let same : no_next 107 who.Editor es ≡ v = cc e in subst IsRefusal same tt
rest_refuses es false true v e = let same : no_next 107 who.Server es ≡ v = cc e in subst IsRefusal same tt
rest_refuses es false false v e = let same : None ≡ Some v = e in absurd cc

-- why a session is refused
abbrev pub Why : Terms → List Event → Ending → Verdict → Type 0
Why terms es end v = (first_no terms es ≡ Some v) ⊎ ((first_no terms es ≡ None) × ((bad_log_of end.log_fault ≡ Some v) ⊎ ((bad_log_of end.log_fault ≡ None) × (rest_of es end.editor_rest end.server_rest ≡ Some v))))

pub why : (terms : Terms) (es : List Event) (end : Ending) (v : Verdict) → refusal terms es end ≡ Some v → Why terms es end v
why terms es end v e = elim (or_cases (first_no terms es) _ v e) [
  | inl first ↦ inl first
  | inr other ↦ inr (other.0, or_cases (bad_log_of end.log_fault) _ v other.1)
]

why_refuses : (terms : Terms) (es : List Event) (end : Ending) (v : Verdict) → Why terms es end v → IsRefusal v
why_refuses terms es end v (inl first) = first_refuses terms es v first
why_refuses terms es end v (inr (none, inl log)) = bad_log_refuses end.log_fault v log
why_refuses terms es end v (inr (none, inr (no_log, rest))) = rest_refuses es end.editor_rest end.server_rest v rest

yes_only : (o : Option Verdict) (s t : Summary) → ((v : Verdict) → o ≡ Some v → IsRefusal v) → unwrap_or o (yes t) ≡ yes s → o ≡ None
yes_only None s t refuses e = refl
yes_only (Some v) s t refuses e = absurd (subst IsRefusal e (refuses v refl))

refused : (o : Option Verdict) (v : Verdict) (t : Summary) → IsRefusal v → unwrap_or o (yes t) ≡ v → o ≡ Some v
refused None v t is e = absurd (subst IsRefusal (sym e) is)
refused (Some w) v t is e = ap Some e

-- ---- the parts of a verdict

-- Yes: nothing offends, the log has no fault, and no rest stands
pub record IsYes (terms : Terms) (es : List Event) (end : Ending) : Type 0 where
  pub none : first_no terms es ≡ None
  pub no_fault : bad_log_of end.log_fault ≡ None
  pub no_rest : rest_of es end.editor_rest end.server_rest ≡ None

pub is_yes : (terms : Terms) (es : List Event) (end : Ending) (s : Summary) → verdict terms es end ≡ yes s → IsYes terms es end
is_yes terms es end s e =
    let none = yes_only (refusal terms es end) s (summary terms es) (λ v is. why_refuses terms es end v (why terms es end v is)) e in
    let first = or_none_parts (first_no terms es) _ none in
    let rest = or_none_parts (bad_log_of end.log_fault) _ first.1 in
    record { none = first.0; no_fault = rest.0; no_rest = rest.1 }

pub is_refused : (terms : Terms) (es : List Event) (end : Ending) (v : Verdict) → IsRefusal v → verdict terms es end ≡ v → Why terms es end v
is_refused terms es end v is e = why terms es end v (refused (refusal terms es end) v (summary terms es) is e)

-- and where nothing refuses, it is Yes
pub yes_where : (terms : Terms) (es : List Event) (end : Ending) → IsYes terms es end → verdict terms es end ≡ yes (summary terms es)
yes_where terms es end is =
    λ i. unwrap_or (option_or (is.none i) (option_or (is.no_fault i) (is.no_rest i))) (yes (summary terms es))

-- the verdict at the event that comes next
pub no_found : (terms : Terms) (events later extra : List Event) (event : Event) (v : Verdict) → first_no terms (events ++ later) ≡ None → no_at terms (events ++ later) event ≡ Some v → first_no terms (events ++ (later ++ event ∷ extra)) ≡ Some v
no_found terms events later extra event v clean is =
    ap (first_no terms) (sym (append_assoc events later (event ∷ extra)) ∙ sym (append_assoc (events ++ later) (event ∷ []) extra))
    ∙ first_of-more (no_at terms) ((events ++ later) ++ event ∷ []) extra v
    (first_of-snoc (no_at terms) (events ++ later) event ∙ ap (λ o. option_or o (no_at terms (events ++ later) event)) clean ∙ is)

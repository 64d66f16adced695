-- What is known once events were heard: they are few, and what is held is the result of all of them
-- where none offends.
use Rattle.std.specs.Borrow.{Bor}
use Rattle.std.specs.Option.{option_or}
use Rattle.std.specs.Prelude.{option_map}
use Rattle.std.proofs.Common.{◌≡◌, ◌+◌, ◌<◌, ◌^◌, ℕ, List, [], ◌∷◌, ◌++◌, length, Option, None}
use Rattle.std.proofs.Common.{sym, ap, subst, ◌∙◌, refl, arith}
use Rattle.std.proofs.lemmas.List.{length-map}
use Rattle.lsp_docs.specs.State as docs
use Rattle.lsp_docs.specs.Documents.{Terms}
use Rattle.lsp_docs.specs.declared.tried.Tried.{Tried}
use Rattle.lsp_session.specs.State as session
use Rattle.lsp_lined.specs.Counted.{Counted}
use Rattle.lsp_replay.specs.Standing.{Follows, Holds}
use Rattle.lsp_replay.specs.Telling.{HasFate, Stood, no_of, rule_of}
use Rattle.lsp_replay.specs.declared.seen.Fate.{Fate}
use Rattle.lsp_replay.specs.declared.seen.Fate.TheVariants as fates
use Rattle.lsp_replay.proofs.Seeing.{events-push}
use Rattle.lsp_verdict.specs.Heard.{Heard, heard_events, notes_of}
use Rattle.lsp_verdict.specs.Offences.{Noted}
use Rattle.lsp_verdict.specs.Verdict.{first_no, no_at, no_by, offence}
use Rattle.lsp_verdict.specs.declared.counts.Counts.{Counts}
use Rattle.lsp_verdict.proofs.LookBackLemmas.{first_of-snoc}
use Rattle.lsp_verdict.proofs.Offences.Offending.{all_are_kept}

pub few_events : (heard : List Heard) → length heard < 2 ^ 63
    → length (heard_events heard) + 1 < 2 ^ 64
few_events heard few = omega (
  arith,
  few,
  length-map (notes_of heard) (λ (n : Noted). n.event),
  length-map heard (λ (x : Heard). x.note),
)

pub follows_all : (terms : Terms) (heard : List Heard) (m : session.State) (d : docs.State)
    (c : Counts) → Stood terms m d c heard → first_no terms (heard_events heard) ≡ None
    → Follows m d c (heard_events heard)
follows_all terms heard m d c stood clean = record {
  clean = ap (λ (t : Terms). first_no t (heard_events heard)) stood.by ∙ clean;
  holds = subst (Holds m d) (all_are_kept terms (heard_events heard) clean) stood.holds;
  counted = stood.counted;
}

-- ---- one event more

module _ (terms : Terms) (before : List Heard) (h : Heard) where
  -- where none of those before it offends, the No at it is that after all of them
  pub no_is : first_no terms (heard_events before) ≡ None
      → no_at terms (heard_events before) h.note.event ≡ no_of terms before h
  no_is clean =
      let events = heard_events before in
      ap (λ es. option_map (no_by events h.note.event) (offence terms es h.note.event))
      (sym (all_are_kept terms events clean))

  -- and the first
  pub first_after : first_no terms (heard_events before) ≡ None
      → first_no terms (heard_events (before ++ h ∷ [])) ≡ no_of terms before h
  first_after clean =
      ap (first_no terms) (events-push before h)
      ∙ first_of-snoc (no_at terms) (heard_events before) h.note.event
      ∙ ap (λ o. option_or o (no_at terms (heard_events before) h.note.event)) clean ∙ no_is clean

  pub none_is : rule_of terms before h ≡ None → no_of terms before h ≡ None
  none_is kept = ap (option_map (no_by (heard_events before) h.note.event)) kept

  -- what does not offend is kept
  pub kept_seen : (fate : Fate)
      → ((rule : ℕ) (tried : Option (Bor (Tried Counted))) → fate ≡ fates.Offends rule tried → ⊥)
      → HasFate terms before h fate → rule_of terms before h ≡ None
  kept_seen (fates.Kept took) not is = is.0
  kept_seen (fates.Offends rule tried) not is = absurd (not rule tried refl)

-- One more event that doesn't offend.
use Rattle.std.proofs.Common.{◌≡◌, ℕ, List, [], ◌∷◌, ◌++◌, None, ap, ◌∙◌}
use Rattle.std.specs.Prelude.{option_map}
use Rattle.std.specs.Option.{option_or}
use Rattle.lsp_types.specs.declared.side.Side.{Side}
use Rattle.lsp_session.specs.State as session
use Rattle.lsp_docs.specs.State as docs
use Rattle.lsp_docs.specs.Documents.{Terms}
use Rattle.lsp_docs.specs.declared.call.Took.{Took}
use Rattle.lsp_verdict.specs.Event.{Event, message, fault, snapshot}
use Rattle.lsp_verdict.specs.Placed.{ReadsAs, Raw, content, broken, show, Reads}
use Rattle.lsp_verdict.specs.Given.{whose_raw}
use Rattle.lsp_verdict.specs.Verdict.{offence, first_no, no_at, no_by, whose, who_of}
use Rattle.lsp_verdict.specs.declared.counts.Counts.{Counts}
use Rattle.lsp_verdict.proofs.LookBackLemmas.{first_of-snoc}
use Rattle.lsp_replay.specs.Keeping.{IsKept, RefusesEvent}
use Rattle.lsp_replay.specs.Standing.{Follows, Keeps, RefusesFor}
use Rattle.lsp_types.specs.declared.fault.Fault.{Fault}
use Rattle.lsp_types.specs.declared.fault.Fault.TheVariants as own

-- an event that a content is read as is its side's
pub whose_content : (side : Side) (bytes : List ℕ) (e : Event) → ReadsAs side bytes e
    → whose e ≡ who_of side
whose_content side bytes (message m) reads = ap who_of reads.by
whose_content side bytes (fault by rule) reads = ap who_of reads.0
whose_content side bytes (snapshot uri n t) reads = absurd reads

-- an event is read as one of the same origin
pub whose_read : (raw : Raw) (e : Event) → Reads raw e → whose e ≡ whose_raw raw
whose_read (content side bytes) e reads = whose_content side bytes e reads
whose_read _ e reads = ap whose reads

module _ (raw : Raw) (terms : Terms) (events : List Event) (event : Event)
    (reads : Reads raw event) where
  -- an event that was kept
  pub keeps : (before : Counts) (m : session.State) (d : docs.State) (after : Counts) (took : Took)
      → IsKept terms before m d after events event took → Keeps raw terms before m d after events
  keeps before m d after took kept = record {
    event = event;
    reads = reads;
    accepted = kept.accepted;
    holds = kept.holds;
    counted = kept.counted;
  }

  -- or refused
  pub refused_for : (f : Fault) → RefusesEvent raw terms events event f
      → RefusesFor raw terms events f
  refused_for (own.Rule rule) refuses = (event, reads, refuses)
  refused_for own.Memory refuses = refuses

clean_on : (terms : Terms) (events : List Event) (e : Event) → first_no terms events ≡ None
    → offence terms events e ≡ None → first_no terms (events ++ e ∷ []) ≡ None
clean_on terms events e none clean =
    first_of-snoc (no_at terms) events e ∙ ap (λ o. option_or o (no_at terms events e)) none
    ∙ ap (option_map (no_by events e)) clean

-- one more event that is kept
pub follows_on : (raw : Raw) (old_m new_m : session.State) (old_d new_d : docs.State)
    (old_c new_c : Counts) (events : List Event) → Follows old_m old_d old_c events
    → new_d.terms ≡ old_d.terms → (k : Keeps raw old_d.terms old_c new_m new_d new_c events)
    → Follows new_m new_d new_c (events ++ k.event ∷ [])
follows_on raw old_m new_m old_d new_d old_c new_c events follows terms k = record {
  clean = ap (λ l. first_no l (events ++ k.event ∷ [])) terms
      ∙ clean_on old_d.terms events k.event follows.clean k.accepted;
  holds = k.holds;
  counted = k.counted events follows.counted;
}

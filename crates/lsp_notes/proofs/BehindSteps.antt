-- Which documents are behind after one event more.
use Rattle.std.specs.Prelude.{if◌then◌else◌, unwrap_or}
use Rattle.std.proofs.Common.{◌≡◌, ℕ, Bool, true, false, List, [], ◌∷◌, ◌++◌, Option, Some, None}
use Rattle.std.proofs.Common.{refl, sym, ap, subst, ◌∙◌}
use Rattle.std.specs.Str.{bytes_eq}
use Rattle.lsp_trail.specs.Common.{Call, calls, Counts, each_of, Heard, heard_events, Holds}
use Rattle.lsp_trail.specs.Common.{is_reopened, kept_before, kept_of, last_or, Raw, rule_of}
use Rattle.lsp_trail.specs.Common.{said_at, Stood, Terms, uri_of}
use Rattle.lsp_docs.specs.State as docs
use Rattle.lsp_session.specs.State as session
use Rattle.lsp_replay.proofs.Seeing.{events-push}
use Rattle.lsp_verdict.proofs.LookBackLemmas.{each_of-snoc}
use Rattle.lsp_verdict.proofs.Offences.Steps.{kept-refused, last_behind}
use Rattle.lsp_notes.specs.Behind.{AreBehind, PutsBehind, behind_by, is_among, is_behind}
use Rattle.lsp_notes.specs.Behind.{is_on_behind, left, left_by, renewed, skipped}
use Rattle.lsp_notes.specs.declared.behind.Behind.{Behind}

-- ---- one event more

behind-push : (terms : Terms) (uri : List ℕ) (before : List Heard) (h : Heard)
    → is_behind terms uri (before ++ h ∷ [])
    ≡ unwrap_or (behind_by terms uri before h) (is_behind terms uri before)
behind-push terms uri before h =
    ap (last_or false) (each_of-snoc (behind_by terms uri) before h)
    ∙ last_behind false (each_of (behind_by terms uri) before) (behind_by terms uri before h)

module _ (terms : Terms) (before : List Heard) (h : Heard) where
  -- the documents that were open again with another version or text
  abbrev reopened : Option Call → Bool
  reopened said = is_reopened terms (calls (kept_before terms before)) said

  -- **what is held stands for it too**
  pub behind_more : (old new : Behind) (behind : Bool) (own : Option (List ℕ))
      → AreBehind terms old before
      → ((uri : List ℕ) → behind_by terms uri before h ≡ left uri behind own)
      → PutsBehind behind own old.uris.entries new.uris.entries
      → AreBehind terms new (before ++ h ∷ [])
  behind_more old new behind own are is puts = λ uri.
      puts uri
      ∙ ap (unwrap_or (left uri behind own)) (are uri)
      ∙ ap (λ (o : Option Bool). unwrap_or o (is_behind terms uri before)) (sym (is uri))
      ∙ sym (behind-push terms uri before h)

  -- it is kept, and says this
  pub renewed_here : (said : Option Call) → rule_of terms before h ≡ None
      → said_at terms (heard_events before) h.note.event ≡ said → (uri : List ℕ)
      → behind_by terms uri before h ≡ left uri false (renewed said)
  renewed_here said kept says uri =
      let own = said_at terms (heard_events before) h.note.event in
      ap (λ (o : Option ℕ). left_by uri h.raw o (reopened own) own) kept
      ∙ ap (λ (o : Option Call). left uri false (renewed o)) says

  -- it breaks this rule, and says this
  pub skipped_here : (rule : ℕ) (raw : Raw) (said : Option Call)
      → rule_of terms before h ≡ Some rule → h.raw ≡ raw
      → said_at terms (heard_events before) h.note.event ≡ said → (uri : List ℕ)
      → behind_by terms uri before h ≡ left uri true (skipped raw rule (reopened said) said)
  skipped_here rule raw said offends is says uri =
      let own = said_at terms (heard_events before) h.note.event in
      ap (λ (o : Option ℕ). left_by uri h.raw o (reopened own) own) offends
      ∙ ap (λ (r : Raw). left uri true (skipped r rule (reopened own) own)) is
      ∙ ap (λ (o : Option Call). left uri true (skipped raw rule (reopened o) o)) says

  -- what is held is the result of the kept events before one that offends
  pub held_before : (messages : session.State) (documents : docs.State) (counts : Counts)
      (rule : ℕ) → rule_of terms before h ≡ Some rule
      → Stood terms messages documents counts (before ++ h ∷ [])
      → Holds messages documents (kept_before terms before)
  held_before messages documents counts rule offends stood =
      subst (Holds messages documents)
      (ap (kept_of terms) (events-push before h)
      ∙ kept-refused terms (heard_events before) h.note.event rule offends) stood.holds

-- ---- whether a document is behind

pub among_is : (terms : Terms) (b : Behind) (before : List Heard) (said : Option Call)
    → AreBehind terms b before
    → is_among b.uris.entries said ≡ is_on_behind terms before said
among_is terms b before None are = refl
among_is terms b before (Some call) are = are (uri_of call)

-- ---- what is held

-- one of them is put, or taken away
pub put_one : (own : List ℕ) (behind : Bool) (uri : List ℕ) (was now : Bool)
    → now ≡ (if bytes_eq own uri then behind else was)
    → now ≡ unwrap_or (left uri behind (Some own)) was
put_one own behind uri was now is = is ∙ by_test (bytes_eq own uri)
  where
    by_test : (b : Bool)
        → (if b then behind else was) ≡ unwrap_or (if b then Some behind else None) was
    by_test true = refl
    by_test false = refl

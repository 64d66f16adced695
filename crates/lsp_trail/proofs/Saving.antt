-- What a call saves that is not open, before it and after it.
use Rattle.std.specs.Prelude.{is_some, option_map, if◌then◌else◌}
use Rattle.std.specs.List.{cons_option}
use Rattle.std.specs.Option.{option_or}
use Rattle.std.proofs.Common.{◌≡◌, ℕ, Bool, List, [], ◌∷◌, ◌++◌, Option, Some, None, refl, ap, ◌∙◌}
use Rattle.lsp_replay.specs.Common.{Call, call_at, calls, changes, closes, Event, Heard}
use Rattle.lsp_replay.specs.Common.{heard_events, held, kept_before, kept_of, opens, rule_of, saves}
use Rattle.lsp_replay.specs.Common.{shows, Terms, Version}
use Rattle.lsp_docs.specs.Documents.{revised}
use Rattle.lsp_docs.proofs.HeldSteps.{held-snoc}
use Rattle.lsp_verdict.proofs.LookBackLemmas.{each_of-snoc}
use Rattle.lsp_verdict.proofs.Offences.Steps.{kept-push}
use Rattle.lsp_replay.proofs.Seeing.{events-push}
use Rattle.lsp_trail.specs.Naming.{if_unopened}
use Rattle.lsp_trail.specs.Saves.{unopened_save}

-- the calls, with what it says about a document
pub calls_after : (terms : Terms) (before : List Heard) (h : Heard) (o : Option Call)
    → rule_of terms before h ≡ None → call_at (kept_before terms before) h.note.event ≡ o
    → calls (kept_of terms (heard_events (before ++ h ∷ [])))
    ≡ calls (kept_of terms (heard_events before)) ++ cons_option o []
calls_after terms before h o kept says =
    let events = heard_events before in
    let own = calls (kept_of terms events) in
    ap (λ (es : List Event). calls (kept_of terms es)) (events-push before h)
    ∙ ap calls (kept-push terms events h.note.event kept)
    ∙ each_of-snoc call_at (kept_of terms events) h.note.event
    ∙ ap (λ (w : Option Call). own ++ cons_option w []) says

-- ---- what is open after a call that saves

saved_so : (terms : Terms) (other uri : List ℕ) (t : Option (List ℕ)) (h : Option Version)
    → is_some (option_or (option_map (λ v. revised terms other v (saves uri t)) h) None)
    ≡ is_some h
saved_so terms other uri t None = refl
saved_so terms other uri t (Some v) = refl

-- one that saves it opens none
pub saved_all : (terms : Terms) (before : List Call) (uri : List ℕ) (t : Option (List ℕ))
    (other : List ℕ)
    → is_some (held terms other (before ++ saves uri t ∷ [])) ≡ is_some (held terms other before)
saved_all terms before uri t other =
    ap is_some (held-snoc terms other before (saves uri t))
    ∙ saved_so terms other uri t (held terms other before)

pub saved_unopened : (terms : Terms) (before : List Call) (uri : List ℕ) (t : Option (List ℕ))
    → if_unopened terms (before ++ saves uri t ∷ []) uri ≡ if_unopened terms before uri
saved_unopened terms before uri t =
    ap (λ (b : Bool). if b then None else Some uri) (saved_all terms before uri t uri)

-- what a call saves that is not open is the same before it and after it
pub save_same : (terms : Terms) (before : List Call) (call : Call)
    → unopened_save terms (before ++ call ∷ []) call ≡ unopened_save terms before call
save_same terms before (saves uri t) = saved_unopened terms before uri t
save_same terms before _ = refl

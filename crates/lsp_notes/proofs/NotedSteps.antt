-- The steps of the account that tells the notes along the way.
use Rattle.std.specs.Borrow.{Bor}
use Rattle.std.specs.Prelude.{drop, length, not, option_and_then, option_map, is_some, ◌&&◌, ◌||◌}
use Rattle.std.specs.Prelude.{if◌then◌else◌, ◌==◌, map}
use Rattle.std.specs.List.{cons_option}
use Rattle.std.specs.Option.{option_or}
use Rattle.std.proofs.Common.{◌≡◌, ℕ, Bool, true, false, List, [], ◌∷◌, ◌++◌, Option, Some, None}
use Rattle.std.proofs.Common.{refl, sym, ap, subst, ◌∙◌, append_assoc, append-nil}
use Rattle.std.proofs.lemmas.List.{length-map}
use Rattle.std.proofs.Math.Bool.{or-true}
use Rattle.lsp_trail.specs.Common.{act_view, each_of, Event, EventPlace, fault, first_from}
use Rattle.lsp_trail.specs.Common.{first_of, Heard, heard_events, is_shutdown, kept_before}
use Rattle.lsp_trail.specs.Common.{last_ones, message, on_view, place_of, rule_of, said_at, Sent}
use Rattle.lsp_trail.specs.Common.{sent_of, snapshot, Terms}
use Rattle.lsp_facts.specs.Fact.{Fact}
use Rattle.lsp_replay.proofs.Seeing.{events-push}
use Rattle.lsp_rpc.specs.declared.act.Act as code
use Rattle.lsp_rpc.specs.declared.act.Act.TheVariants as acts
use Rattle.lsp_types.specs.declared.rules.TheConstants as rules
use Rattle.lsp_verdict.proofs.LookBackLemmas.{each_of-snoc, first_of-snoc}
use Rattle.lsp_notes.specs.AllNotes.{asks_shutdown, can_be_made, found_along, found_at, found_more}
use Rattle.lsp_notes.specs.AllNotes.{has_exited, is_shutdown_refused, one, is_broken}
use Rattle.lsp_notes.specs.AllNotes.{refused_shutdown, sound_events, sound_from}
use Rattle.lsp_notes.specs.Behind.{is_on_behind}
use Rattle.lsp_notes.specs.DocumentNotes.{DocumentNote, document_line, first_notes}
use Rattle.lsp_notes.specs.DocumentNotes.{note_view, notes_view}
use Rattle.lsp_notes.specs.MessageNotes.{AreNoted, served_with}
use Rattle.lsp_notes.specs.Misfits.{Found, event_found, found_refuted, kept_found}
use Rattle.lsp_notes.specs.Notes.{exit_notes, name_notes, old_name_notes}
use Rattle.lsp_notes.specs.Refusals.{AreRefusals, event_request, most_requests, refusal_at}
use Rattle.lsp_notes.specs.Refusals.{refusal_by}
use Rattle.lsp_notes.specs.ServerEdits.{AreServerEdits}
use Rattle.lsp_notes.specs.Spellings.{AreSpellings, spelling_at, spelling_by}
use Rattle.lsp_notes.specs.declared.messages.MessageNotes.{MessageNotes}
use Rattle.lsp_notes.specs.declared.refusals.Refusals.{Refusals}
use Rattle.lsp_notes.specs.declared.server_edits.ServerEdits.{ServerEdits}
use Rattle.lsp_notes.specs.declared.spellings.Spellings.{Spellings}
use Rattle.lsp_notes.specs.declared.document_notes.DocumentNote as code_notes
use Rattle.lsp_trail.specs.declared.openings.DocumentEvent as code_events
use Rattle.lsp_trail.proofs.History.{refused_more}

-- ---- an event that offends names nothing

none_more : {A X : Type 0} (f : List A → A → Option X) (xs : List A) (x : A) → f xs x ≡ None
    → each_of f (xs ++ x ∷ []) ≡ each_of f xs
none_more f xs x none =
    each_of-snoc f xs x ∙ ap (λ (o : Option _). each_of f xs ++ cons_option o []) none
    ∙ append-nil (each_of f xs)

module _ (terms : Terms) (before : List Heard) (h : Heard) (rule : ℕ)
    (offends : rule_of terms before h ≡ Some rule) where
  abbrev events : List Event
  events = heard_events before

  abbrev e : Event
  e = h.note.event

  pub refusals_past : (r : Refusals) → AreRefusals terms r events
      → AreRefusals terms r (heard_events (before ++ h ∷ []))
  refusals_past r are =
      subst (AreRefusals terms r) (sym (events-push before h)) (record {
        asked_are = are.asked_are ∙ ap (last_ones most_requests)
            (sym (refused_more event_request terms events e rule offends));
        refused_are = are.refused_are ∙ ap first_notes
            (sym (none_more (refusal_at terms) events e
            (ap (λ (o : Option ℕ). if is_some o then None
            else option_and_then (refusal_by terms events (place_of events e)) (sent_of e))
            offends)));
      })

  pub spellings_past : (s : Spellings) → AreSpellings terms s events
      → AreSpellings terms s (heard_events (before ++ h ∷ []))
  spellings_past s are =
      subst (AreSpellings terms s) (sym (events-push before h)) (record {
        named_are = are.named_are ∙ ap first_notes
            (sym (none_more (spelling_at terms) events e
            (ap (λ (o : Option ℕ). if is_some o then None
            else option_and_then (spelling_by terms events (place_of events e)) (sent_of e))
            offends)));
      })

-- ---- what changes find

pub found_along-push : (terms : Terms) (before : List Heard) (h : Heard)
    → found_along terms (before ++ h ∷ []) ≡ found_along terms before ++ found_more terms before h
found_along-push terms before h = each_of-snoc (found_at terms) before h

if_cons : (b : Bool) (o : Option Found)
    → (if b then cons_option o [] else []) ≡ cons_option (if b then o else None) []
if_cons true o = refl
if_cons false o = refl

module _ (terms : Terms) (before : List Heard) (h : Heard) where
  -- what it finds, where its document is behind or not, and it breaks this rule or is kept
  abbrev finds_by : Bool → Option ℕ → List Found
  finds_by behind rule =
      cons_option (if behind then None
      else if can_be_made rule
      then event_found terms (place_of (heard_events before) h.note.event)
      (kept_before terms before) h.note.event
      else None) []

  abbrev here : Option ℕ
  here = rule_of terms before h

  -- nothing where the document is behind
  pub behind_finds_none : is_on_behind terms before
      (said_at terms (heard_events before) h.note.event) ≡ true → found_more terms before h ≡ []
  behind_finds_none is = ap (λ (b : Bool). finds_by b here) is

  module _ (there : is_on_behind terms before
      (said_at terms (heard_events before) h.note.event) ≡ false) where
    -- of one that is kept
    pub kept_is : rule_of terms before h ≡ None
        → kept_found terms (heard_events before) h.note.event ≡ found_more terms before h
    kept_is kept =
        ap (λ (o : Option ℕ). cons_option (if is_some o then None
        else event_found terms (place_of (heard_events before) h.note.event)
        (kept_before terms before) h.note.event) []) kept
        ∙ sym (ap (λ (b : Bool). finds_by b here) there ∙ ap (finds_by false) kept)

    -- of one that offends
    pub refuted_is : (rule : ℕ) → rule_of terms before h ≡ Some rule
        → found_refuted terms (heard_events before) h.note.event rule
        ≡ found_more terms before h
    refuted_is rule offends =
        if_cons (rule == rules.SNAPSHOT_DIFFERS)
        (event_found terms (place_of (heard_events before) h.note.event)
        (kept_before terms before) h.note.event)
        ∙ sym (ap (λ (b : Bool). finds_by b here) there ∙ ap (finds_by false) offends)

-- ---- what the server sends

either : (a b : Option ℕ) → is_some (option_or a b) ≡ (is_some a || is_some b)
either None b = refl
either (Some x) b = refl

pub broken-push : (terms : Terms) (before : List Heard) (h : Heard)
    → is_broken terms (before ++ h ∷ [])
    ≡ (is_broken terms before || is_some (rule_of terms before h))
broken-push terms before h =
    ap is_some (first_of-snoc (rule_of terms) before h)
    ∙ either (first_of (rule_of terms) before) (rule_of terms before h)

-- one more, of which this is known
abbrev next_of : Bool → Heard → List Heard
next_of broken h = if broken then [] else h ∷ []

pub sound-push : (terms : Terms) (done before : List Heard) (h : Heard)
    → sound_from terms done (before ++ h ∷ []) ≡ sound_from terms done before
    ++ next_of (is_some (first_from (rule_of terms) done before)
    || is_some (rule_of terms (done ++ before) h)) h
sound-push terms done [] h =
    ap (λ (l : List Heard). next_of (is_some (rule_of terms l h)) h) (sym (append-nil done))
sound-push terms done (x ∷ after) h =
    by_rule (sound-push terms (done ++ x ∷ []) after h) (rule_of terms done x)
  where
    by_rule : sound_from terms (done ++ x ∷ []) (after ++ h ∷ [])
        ≡ sound_from terms (done ++ x ∷ []) after
        ++ next_of (is_some (first_from (rule_of terms) (done ++ x ∷ []) after)
        || is_some (rule_of terms ((done ++ x ∷ []) ++ after) h)) h → (o : Option ℕ)
        → (if is_some o then [] else x ∷ sound_from terms (done ++ x ∷ []) (after ++ h ∷ []))
        ≡ (if is_some o then [] else x ∷ sound_from terms (done ++ x ∷ []) after)
        ++ next_of (is_some (option_or o (first_from (rule_of terms) (done ++ x ∷ []) after))
        || is_some (rule_of terms (done ++ x ∷ after) h)) h
    by_rule others (Some rule) = refl
    by_rule others None =
        ap (λ l. x ∷ l) (others
        ∙ ap (λ (l : List Heard). sound_from terms (done ++ x ∷ []) after
        ++ next_of (is_some (first_from (rule_of terms) (done ++ x ∷ []) after)
        || is_some (rule_of terms l h)) h) (append_assoc done (x ∷ []) after))

-- none breaks a rule
sound_all : (terms : Terms) (done heard : List Heard)
    → is_some (first_from (rule_of terms) done heard) ≡ false
    → sound_from terms done heard ≡ heard
sound_all terms done [] none = refl
sound_all terms done (x ∷ after) none =
    by_rule (sound_all terms (done ++ x ∷ []) after) (rule_of terms done x) refl
  where
    by_rule : (is_some (first_from (rule_of terms) (done ++ x ∷ []) after) ≡ false
        → sound_from terms (done ++ x ∷ []) after ≡ after) → (o : Option ℕ)
        → rule_of terms done x ≡ o
        → (if is_some o then [] else x ∷ sound_from terms (done ++ x ∷ []) after) ≡ x ∷ after
    by_rule others (Some rule) is =
        let broken : true ≡ false =
        sym (ap (λ (o : Option ℕ). is_some (option_or o
        (first_from (rule_of terms) (done ++ x ∷ []) after))) is) ∙ none in absurd (cc broken)
    by_rule others None is =
        ap (λ l. x ∷ l) (others
        (sym (ap (λ (o : Option ℕ). is_some (option_or o
        (first_from (rule_of terms) (done ++ x ∷ []) after))) is) ∙ none))

-- one that breaks a rule
pub breaks : (b : Bool) (o : Option ℕ) (rule : ℕ) → o ≡ Some rule → (b || is_some o) ≡ true
breaks b o rule is = ap (λ (w : Option ℕ). b || is_some w) is ∙ or-true b

module _ (terms : Terms) (before : List Heard) (h : Heard) where
  -- nothing is looked at after one that breaks a rule
  pub sound_same : (s : ServerEdits)
      → (is_broken terms before || is_some (rule_of terms before h)) ≡ true
      → AreServerEdits terms s (sound_events terms before)
      → AreServerEdits terms s (sound_events terms (before ++ h ∷ []))
  sound_same s broken are =
      subst (λ hs. AreServerEdits terms s (heard_events hs))
      (sym (sound-push terms [] before h
      ∙ ap (λ b. sound_from terms [] before ++ next_of b h) broken
      ∙ append-nil (sound_from terms [] before))) are

  -- before the first one all are
  pub sound_yet : is_broken terms before ≡ false
      → sound_events terms before ≡ heard_events before
  sound_yet none = ap heard_events (sound_all terms [] before none)

  -- one that is kept is looked at where no earlier one broke a rule
  sound_is : (broken : Bool) → broken ≡ is_broken terms before → rule_of terms before h ≡ None
      → served_with broken (sound_events terms before) (heard_events (before ++ h ∷ []))
      ≡ sound_events terms (before ++ h ∷ [])
  sound_is true is kept =
      sym (ap heard_events (sound-push terms [] before h
      ∙ ap (λ b. sound_from terms [] before ++ next_of (b || is_some (rule_of terms before h)) h)
      (sym is)
      ∙ append-nil (sound_from terms [] before)))
  sound_is false is kept =
      sym (ap heard_events (sound-push terms [] before h
      ∙ (λ i. sound_all terms [] before (sym is) i
      ++ next_of ((sym is) i || is_some (kept i)) h)))

  pub sound_next : (m : MessageNotes) (broken : Bool) → broken ≡ is_broken terms before
      → rule_of terms before h ≡ None
      → AreNoted terms m (heard_events (before ++ h ∷ []))
      (served_with broken (sound_events terms before) (heard_events (before ++ h ∷ [])))
      → AreNoted terms m (heard_events (before ++ h ∷ [])) (sound_events terms (before ++ h ∷ []))
  sound_next m broken is kept are =
      subst (AreNoted terms m (heard_events (before ++ h ∷ []))) (sound_is broken is kept) are

-- ---- a `shutdown` that is skipped

pub refused-push : (terms : Terms) (before : List Heard) (h : Heard)
    → is_shutdown_refused terms (before ++ h ∷ [])
    ≡ (is_shutdown_refused terms before || is_some (refused_shutdown terms before h))
refused-push terms before h =
    ap is_some (first_of-snoc (refused_shutdown terms) before h)
    ∙ either (first_of (refused_shutdown terms) before) (refused_shutdown terms before h)

-- by what it asks for, and whether the session has exited
abbrev refused_by : Bool → Option ℕ → Option ℕ
refused_by so rule = if so then rule else None

if_none : (so : Bool) → is_some (refused_by so None) ≡ false
if_none true = refl
if_none false = refl

if_some : (so : Bool) (rule : ℕ) → is_some (refused_by so (Some rule)) ≡ so
if_some true rule = refl
if_some false rule = refl

pub kept_refuses : (terms : Terms) (before : List Heard) (h : Heard)
    → rule_of terms before h ≡ None → false ≡ is_some (refused_shutdown terms before h)
kept_refuses terms before h kept =
    let so = asks_shutdown h.note.event && not (has_exited terms before) in
    sym (ap (λ (o : Option ℕ). is_some (refused_by so o)) kept ∙ if_none so)

pub offends_refuses : (terms : Terms) (before : List Heard) (h : Heard) (rule : ℕ)
    (asks exited : Bool) → rule_of terms before h ≡ Some rule
    → asks ≡ asks_shutdown h.note.event → exited ≡ has_exited terms before
    → (asks && not exited) ≡ is_some (refused_shutdown terms before h)
offends_refuses terms before h rule asks exited offends asked left =
    let so = asks_shutdown h.note.event && not (has_exited terms before) in
    (λ i. asked i && not (left i))
    ∙ sym (ap (λ (o : Option ℕ). is_some (refused_by so o)) offends ∙ if_some so rule)

-- what is no message asks for nothing
pub asks_none : (event : Event) → ((sent : Sent) → event ≡ message sent → ⊥)
    → false ≡ asks_shutdown event
asks_none (message m) not = absurd (not m refl)
asks_none (fault side rule) not = refl
asks_none (snapshot uri number text) not = refl

-- of no other message
pub no_shutdown : (a : code.Act) → (a ≡ acts.Shutdown → ⊥) → false ≡ is_shutdown (act_view a)
no_shutdown (acts.Initialize o) not = refl
no_shutdown acts.Initialized not = refl
no_shutdown acts.Shutdown not = absurd (not refl)
no_shutdown acts.Exit not = refl
no_shutdown (acts.DidOpen uri version text) not = refl
no_shutdown (acts.DidChange uri version changes) not = refl
no_shutdown (acts.DidClose uri) not = refl
no_shutdown (acts.DidSave uri text) not = refl
no_shutdown (acts.Cancel id) not = refl
no_shutdown (acts.Progress token) not = refl
no_shutdown acts.Early not = refl
no_shutdown (acts.Register methods) not = refl
no_shutdown acts.Other not = refl

-- ---- notes beyond so many

-- one that was told or not
pub exit_told : (told : Bool) (o : Option EventPlace)
    → exit_notes (if told then None else o) ≡ drop (one told) (exit_notes o)
exit_told true None = refl
exit_told true (Some p) = refl
exit_told false o = refl

pub name_told : (told : Bool) (o : Option (Bor (List ℕ)))
    → name_notes (option_map (λ s. s.now) (if told then None else o))
    ≡ drop (one told) (name_notes (option_map (λ s. s.now) o))
name_told true None = refl
name_told true (Some s) = refl
name_told false o = refl

pub renamed_told : (told : Bool) (o : Option (Bor code_events.DocumentEvent))
    → old_name_notes (option_map (λ r. on_view r.now) (if told then None else o))
    ≡ drop (one told) (old_name_notes (option_map (λ r. on_view r.now) o))
renamed_told true None = refl
renamed_told true (Some r) = refl
renamed_told false o = refl

-- whether there is one says how many there are
pub exit_there : (o : Option EventPlace) → one (is_some o) ≡ length (exit_notes o)
exit_there None = refl
exit_there (Some p) = refl

pub name_there : (o : Option (Bor (List ℕ)))
    → one (is_some o) ≡ length (name_notes (option_map (λ s. s.now) o))
name_there None = refl
name_there (Some s) = refl

pub renamed_there : (o : Option (Bor code_events.DocumentEvent))
    → one (is_some o) ≡ length (old_name_notes (option_map (λ r. on_view r.now) o))
renamed_there None = refl
renamed_there (Some r) = refl

-- how many notes are held of documents
pub noted_length : (items : List code_notes.DocumentNote) (notes : List DocumentNote)
    → notes_view items ≡ notes → length items ≡ length (map document_line notes)
noted_length items notes are =
    sym (length-map items note_view) ∙ ap length are ∙ sym (length-map notes document_line)

-- what is added kind by kind
abbrev pub added : List Fact → List (List Fact) → List Fact
added old [] = old
added old (notes ∷ lists) = added (old ++ notes) lists

abbrev pub joined : List (List Fact) → List Fact
joined [] = []
joined (notes ∷ lists) = notes ++ joined lists

pub all_added : (old : List Fact) (lists : List (List Fact)) → added old lists ≡ old ++ joined lists
all_added old [] = sym (append-nil old)
all_added old (notes ∷ lists) =
    all_added (old ++ notes) lists ∙ append_assoc old notes (joined lists)

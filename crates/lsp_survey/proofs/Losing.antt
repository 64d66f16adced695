-- What is lost after one event more.
use Rattle.std.specs.Borrow.{Bor}
use Rattle.std.specs.Prelude.{ℤ, ◌&&◌, ◌||◌, chars, if◌then◌else◌, is_some, option_and_then, option_map}
use Rattle.std.specs.Prelude.{unwrap_or}
use Rattle.std.proofs.Common.{◌≡◌, ℕ, Bool, true, false, List, [], ◌∷◌, ◌++◌, Option, Some, None}
use Rattle.std.proofs.Common.{refl, sym, ap, subst, ◌∙◌}
use Rattle.std.proofs.Math.Bool.{and-false, and-true}
use Rattle.std.proofs.lemmas.List.{map-append}
use Rattle.lsp_docs.specs.State as docs
use Rattle.lsp_replay.specs.Common.{answered_by, asked_by, asks, breaks_handshake, broken}
use Rattle.lsp_replay.specs.Common.{brought_by, Call, calls, content, Counts, Event, events_of}
use Rattle.lsp_replay.specs.Common.{first_of, follows, follows_bytes, follows_passed, Heard}
use Rattle.lsp_replay.specs.Common.{heard_events, Holds, id_view, is_on_lost, is_passed}
use Rattle.lsp_replay.specs.Common.{is_reopened, is_unheard, IsNoted, IsReading, kept_before}
use Rattle.lsp_replay.specs.Common.{kept_of, leaves_unheard, leaves_unsynced, may_answer, MaySpeak}
use Rattle.lsp_replay.specs.Common.{Message, message, message_view, Noted, notes_of, offence}
use Rattle.lsp_replay.specs.Common.{passes, Reads, rule_at, rule_of, sent_in, show, shows, Side}
use Rattle.lsp_replay.specs.Common.{snapshot, Spoken, Stood, Terms, uri_of}
use Rattle.lsp_session.specs.State as session
use Rattle.lsp_replay.proofs.Seeing.{events-push}
use Rattle.lsp_survey.specs.Lost.{AreLosses, HoldsSent, IsMessageOf, IsNotedIn, WasTold}
use Rattle.lsp_survey.specs.Lost.{breaks_by, follows_of, unheard_with, unsynced_with}
use Rattle.lsp_survey.specs.Notes.{AreAfter, Leaves, has_passed, is_noted_lost, sides_after}
use Rattle.lsp_survey.specs.Notes.{sides_failed, sides_of, sides_read}
use Rattle.lsp_survey.specs.declared.losses.Losses.{Losses}
use Rattle.lsp_survey.specs.declared.notes.note.Notes as code_notes
use Rattle.lsp_survey.specs.declared.notes.sides.Sides.{Sides}
use Rattle.lsp_survey.proofs.Noting.{if_some, notes_stay, nothing_said}
use Rattle.lsp_survey.proofs.PassedSteps.{fault_passes, kept_passes}
use Rattle.lsp_survey.proofs.SidesSteps.{sides_pushed}
use Rattle.lsp_verdict.specs.Event.{fault}
use Rattle.lsp_verdict.specs.Given.{raw_view}
use Rattle.lsp_verdict.specs.Offences.{IsMalformed}
use Rattle.lsp_verdict.specs.Offences.{broken_by}
use Rattle.lsp_verdict.specs.Offences.{is_lost}
use Rattle.lsp_verdict.specs.Offences.{is_unsynced}
use Rattle.lsp_verdict.specs.Offences.{left_by}
use Rattle.lsp_verdict.specs.Offences.{said_at}
use Rattle.lsp_verdict.specs.Placed.{Raw}
use Rattle.lsp_verdict.specs.declared.raw.Raw as lent
use Rattle.lsp_verdict.specs.declared.raw.Raw.TheVariants as lent_as
use Rattle.lsp_verdict.proofs.Offences.Steps.{broken-push, events_of-push, is_lost-push}
use Rattle.lsp_verdict.proofs.Offences.Steps.{is_passed-push, kept-refused, unheard-push}
use Rattle.lsp_verdict.proofs.Offences.Steps.{unsynced-push}
use Rattle.lsp_verdict.proofs.Offences.Surveying.{one_malformed}

breaks_at : (o : Option ℕ) (malformed : Option Message) (answers : Bool)
    → is_some (option_and_then (λ rule.
    if breaks_handshake (asks malformed) rule || answers then Some rule else None) o)
    ≡ breaks_by o malformed answers
breaks_at None malformed answers = refl
breaks_at (Some rule) malformed answers =
    if_some (breaks_handshake (asks malformed) rule || answers) rule

pub broken_pushed : (terms : Terms) (notes : List Noted) (n : Noted)
    → is_some (first_of (broken_by terms) (notes ++ n ∷ []))
    ≡ (is_some (first_of (broken_by terms) notes) || breaks_by
    (rule_at terms (events_of notes) n.event) n.malformed
    (may_answer (kept_of terms (events_of notes)) n.event))
broken_pushed terms notes n =
    broken-push terms notes n
    ∙ ap (λ (b : Bool). is_some (first_of (broken_by terms) notes) || b)
    (breaks_at (rule_at terms (events_of notes) n.event) n.malformed
    (may_answer (kept_of terms (events_of notes)) n.event))

unheard_at : (o : Option ℕ) (e : Event)
    → is_some (option_and_then (λ rule. if leaves_unheard rule e then Some rule else None) o)
    ≡ unheard_with o e
unheard_at None e = refl
unheard_at (Some rule) e = if_some (leaves_unheard rule e) rule

pub unheard_pushed : (terms : Terms) (notes : List Noted) (n : Noted)
    → is_unheard terms (notes ++ n ∷ [])
    ≡ (is_unheard terms notes || unheard_with (rule_at terms (events_of notes) n.event) n.event)
unheard_pushed terms notes n = unheard-push terms notes n
    ∙ ap (λ (b : Bool). is_unheard terms notes || b)
    (unheard_at (rule_at terms (events_of notes) n.event) n.event)

unsynced_at : (o : Option ℕ) (e : Event)
    → is_some (option_and_then (λ rule. if leaves_unsynced rule e then Some rule else None) o)
    ≡ unsynced_with o e
unsynced_at None e = refl
unsynced_at (Some rule) e = if_some (leaves_unsynced rule e) rule

pub unsynced_pushed : (terms : Terms) (notes : List Noted) (n : Noted)
    → is_unsynced terms (notes ++ n ∷ [])
    ≡ (is_unsynced terms notes || unsynced_with (rule_at terms (events_of notes) n.event) n.event)
unsynced_pushed terms notes n = unsynced-push terms notes n
    ∙ ap (λ (b : Bool). is_unsynced terms notes || b)
    (unsynced_at (rule_at terms (events_of notes) n.event) n.event)

pub losses_on : (terms : Terms) (notes : List Noted) (n : Noted) (rule : Option ℕ)
    (said : Option Call) (old new : Losses) → AreLosses terms old notes
    → rule_at terms (events_of notes) n.event ≡ rule
    → said_at terms (events_of notes) n.event ≡ said
    → IsNotedIn terms notes n.event n.malformed said rule old new
    → AreLosses terms new (notes ++ n ∷ [])
losses_on terms notes n rule said old new losses rule_is said_is s = record {
  noted = λ uri.
      let brought = option_and_then brought_by n.malformed in
      let made = calls (kept_of terms (events_of notes)) in
      let was = is_lost terms uri notes in
      s.noted uri
      ∙ ap (unwrap_or (left_by uri rule brought (is_reopened terms made said) said))
      (losses.noted uri)
      ∙ ap (λ (o : Option ℕ). unwrap_or
      (left_by uri o brought (is_reopened terms made said) said) was) (sym rule_is)
      ∙ ap (λ (o : Option Call). unwrap_or
      (left_by uri (rule_at terms (events_of notes) n.event) brought
      (is_reopened terms made o) o) was) (sym said_is)
      ∙ sym (is_lost-push terms uri notes n);
  is_broken =
      s.is_broken
      ∙ ap (λ (b : Bool). b || breaks_by rule n.malformed
      (may_answer (kept_of terms (events_of notes)) n.event)) losses.is_broken
      ∙ ap (λ (o : Option ℕ). is_some (first_of (broken_by terms) notes) || breaks_by o n.malformed
      (may_answer (kept_of terms (events_of notes)) n.event)) (sym rule_is)
      ∙ sym (broken_pushed terms notes n);
  sided =
      s.sides
      ∙ ap (sides_after n.event) losses.sided
      ∙ sym (sides_pushed (events_of notes) n.event)
      ∙ ap sides_of (sym (events_of-push notes n));
  passed = λ side k.
      let was = is_passed terms side (id_view k) notes in
      let does = passes (asked_by side n.event n.malformed) (answered_by side n.event)
      (id_view k) in
      s.passed side k
      ∙ ap (λ (b : Bool). unwrap_or (option_and_then does rule) b) (losses.passed side k)
      ∙ ap (λ (o : Option ℕ). unwrap_or (option_and_then does o) was) (sym rule_is)
      ∙ sym (is_passed-push terms side (id_view k) notes n);
  unheard =
      s.unheard
      ∙ ap (λ (b : Bool). b || unheard_with rule n.event) losses.unheard
      ∙ ap (λ (o : Option ℕ). is_unheard terms notes || unheard_with o n.event) (sym rule_is)
      ∙ sym (unheard_pushed terms notes n);
  unsynced =
      s.unsynced
      ∙ ap (λ (b : Bool). b || unsynced_with rule n.event) losses.unsynced
      ∙ ap (λ (o : Option ℕ). is_unsynced terms notes || unsynced_with o n.event) (sym rule_is)
      ∙ sym (unsynced_pushed terms notes n);
}

-- ---- an event that offends

-- what is noted lost is lost, and all is where synchronisation was registered
pub noted_lost : (terms : Terms) (l : Losses) (notes : List Noted) (said : Option Call)
    → AreLosses terms l notes
    → (is_noted_lost l.documents.map.entries said || (l.unsynced && is_some said))
    ≡ is_on_lost terms notes said
noted_lost terms l notes None losses = and-false l.unsynced
noted_lost terms l notes (Some call) losses =
    ap (λ (b : Bool). is_noted_lost l.documents.map.entries (Some call) || b) (and-true l.unsynced)
    ∙ (λ i. losses.noted (uri_of call) i || losses.unsynced i)

-- whether it follows is told
pub follows_on : (terms : Terms) (notes : List Noted) (n : Noted) (rule : ℕ) (said : Option Call)
    (late : Bool) → said_at terms (events_of notes) n.event ≡ said
    → late ≡ follows_of terms notes rule (is_on_lost terms notes said)
    (follows_passed terms rule notes n.event || follows_bytes rule (events_of notes) n.event)
    → late ≡ follows terms notes n rule
follows_on terms notes n rule said late said_is is =
    let other = follows_passed terms rule notes n.event
    || follows_bytes rule (events_of notes) n.event in
    is ∙ ap (λ o. follows_of terms notes rule (is_on_lost terms notes o) other) (sym said_is)

-- ---- an event that is kept

or_false : (b : Bool) → b ≡ (b || false)
or_false true = refl
or_false false = refl

pub kept_on : (terms : Terms) (notes : List Noted) (n : Noted) (said : Option Call)
    (old new : Losses) → AreLosses terms old notes
    → rule_at terms (events_of notes) n.event ≡ None
    → said_at terms (events_of notes) n.event ≡ said → new.handshake ≡ old.handshake
    → new.sides ≡ sides_after n.event old.sides → new.passed ≡ old.passed
    → new.unheard ≡ old.unheard → new.unsynced ≡ old.unsynced
    → Leaves None (option_and_then brought_by n.malformed) false said old.documents.map.entries
    new.documents.map.entries → AreLosses terms new (notes ++ n ∷ [])
kept_on terms notes n said old new losses rule_is said_is same sides passed unheard unsynced noted =
    losses_on terms notes n None said old new losses rule_is said_is (record {
      is_broken = same ∙ or_false old.handshake;
      sides = sides;
      passed = kept_passes n.event n.malformed old.passed new.passed passed;
      unheard = unheard ∙ or_false old.unheard;
      unsynced = unsynced ∙ or_false old.unsynced;
      noted = noted;
    })

-- ---- by what was seen of it

notes-push : (before : List Heard) (h : Heard)
    → notes_of (before ++ h ∷ []) ≡ notes_of before ++ h.note ∷ []
notes-push before h = map-append (λ (x : Heard). x.note) before (h ∷ [])

-- ---- all losses after an event that is kept

module _ (terms : Terms) (before : List Heard) (h : Heard) (said : Option Call)
    (says : said_at terms (heard_events before) h.note.event ≡ said) (noted : IsNoted h.raw h.note)
    (rule : rule_of terms before h ≡ None) where
  told_kept : (new : Losses) → AreLosses terms new (notes_of before ++ h.note ∷ [])
      → WasTold new terms before h false
  told_kept new are = record {
    late_is = ap (λ (o : Option ℕ). unwrap_or
        (option_map (follows terms (notes_of before) h.note) o) false) (sym rule);
    losses = subst (AreLosses terms new) (sym (notes-push before h)) are;
  }

  -- a message
  pub message_kept : (side : Side) (bytes : List ℕ) (old new : Losses)
      → AreLosses terms old (notes_of before) → h.raw ≡ content side bytes
      → AreAfter said old.documents.map.entries new.documents.map.entries
      → new.sides ≡ sides_read side old.sides → new.handshake ≡ old.handshake
      → new.passed ≡ old.passed → new.unheard ≡ old.unheard → new.unsynced ≡ old.unsynced
      → WasTold new terms before h false
  message_kept side bytes old new losses raw after sides handshake passed unheard unsynced =
      let own = subst (λ (w : Raw). IsNoted w h.note) raw noted in
      let is = read h.note.event h.note.malformed own.0 own.1 rule in
      told_kept new (kept_on terms (notes_of before) h.note said old new losses rule says handshake
      (sides ∙ is.1 old.sides) passed unheard unsynced
      (subst (λ (m : Option Message). Leaves None (option_and_then brought_by m) false said
      old.documents.map.entries new.documents.map.entries) (sym is.0) after))
    where
      -- it is no fault
      read : (e : Event) (m : Option Message) → Reads (content side bytes) e
          → IsMalformed (content side bytes) e m → offence terms (kept_before terms before) e ≡ None
          → (m ≡ None) × ((s : Sides) → sides_read side s ≡ sides_after e s)
      read (message sent) m reads whole none =
          (whole, λ s. ap (λ (by : Side). sides_read by s) (sym reads.by))
      read (fault by code) m reads whole none = absurd (cc none)
      read (snapshot uri number text) m reads whole none = absurd reads

  -- a snapshot
  pub shown_kept : (l : Losses) → AreLosses terms l (notes_of before) → (raw : lent.Raw)
      → h.raw ≡ raw_view raw
      → ((side : Side) (bytes behind : Bor (List ℕ)) → raw ≡ lent_as.Content side bytes behind → ⊥)
      → WasTold l terms before h false
  shown_kept l losses (lent_as.Content side bytes behind) raw not =
      absurd (not side bytes behind refl)
  shown_kept l losses (lent_as.Broken side code rest) raw not =
      let own = subst (λ (w : Raw). IsNoted w h.note) raw noted in
      absurd (some_none code (sym (ap (offence terms (kept_before terms before)) own.0) ∙ rule))
    where
      some_none : (code : ℕ) → (let o : Option ℕ = Some code in o) ≡ None → ⊥
      some_none code is = cc is
  shown_kept l losses (lent_as.Snapshot number uri text) raw not =
      let own = subst (λ (w : Raw). IsNoted w h.note) raw noted in
      let call = shows uri.now number (chars text.now) in
      let is : said ≡ Some call =
      sym says ∙ ap (λ (e : Event). said_at terms (heard_events before) e) own.0 in
      told_kept l (kept_on terms (notes_of before) h.note said l l losses rule says refl
      (ap (λ (e : Event). sides_after e l.sides) (sym own.0)) refl refl refl
      (subst (λ (m : Option Message). Leaves None (option_and_then brought_by m) false said
      l.documents.map.entries l.documents.map.entries) (sym own.1)
      (subst (λ (o : Option Call). AreAfter o l.documents.map.entries l.documents.map.entries)
      (sym is) (notes_stay call l.documents.map.entries refl))))

-- ---- all losses after an event that offends

module _ (terms : Terms) (before : List Heard) (h : Heard) (m : session.State) (d : docs.State)
    (c : Counts) (rule : ℕ) (breaks : rule_of terms before h ≡ Some rule)
    (stood : Stood terms m d c (before ++ h ∷ [])) (noted : IsNoted h.raw h.note)
    (late : Bool) (old new : Losses) (losses : AreLosses terms old (notes_of before)) where
  abbrev notes : List Noted
  notes = notes_of before

  -- what is held is the result of the kept events before it
  held_before : Holds m d (kept_before terms before)
  held_before = subst (Holds m d) (ap (kept_of terms) (events-push before h)
      ∙ kept-refused terms (heard_events before) h.note.event rule breaks) stood.holds

  told_by : (said : Option Call) (malformed : Option Message)
      → said_at terms (events_of notes) h.note.event ≡ said → h.note.malformed ≡ malformed
      → late ≡ follows_of terms notes rule (is_on_lost terms notes said)
      (follows_passed terms rule notes h.note.event
      || follows_bytes rule (events_of notes) h.note.event)
      → IsNotedIn terms notes h.note.event malformed said (Some rule) old new
      → WasTold new terms before h late
  told_by said malformed said_is whole is l = record {
    late_is = follows_on terms notes h.note rule said late said_is is
        ∙ ap (λ (o : Option ℕ). unwrap_or (option_map (follows terms notes h.note) o) false)
        (sym breaks);
    losses = subst (AreLosses terms new) (sym (notes-push before h))
        (losses_on terms notes h.note (Some rule) said old new losses breaks said_is
        (subst (λ (x : Option Message).
        IsNotedIn terms notes h.note.event x said (Some rule) old new) (sym whole) l));
  }

  -- a message
  pub message_lost : (side : Side) (bytes : List ℕ) (s : Spoken) (said : Option Call)
      → h.raw ≡ content side bytes → MaySpeak (kept_before terms before) h.note.event (Some s)
      → said_at terms (events_of notes) h.note.event ≡ said
      → ((notes : List Noted) (event : Event) → AreLosses terms old notes → d.terms ≡ terms
      → Holds m d (kept_of terms (events_of notes))
      → IsMessageOf side (message_view s.message) event
      → (late ≡ follows_of terms notes rule (is_on_lost terms notes said)
      (follows_passed terms rule notes event || follows_bytes rule (events_of notes) event))
      × IsNotedIn terms notes event None said (Some rule) old new)
      → WasTold new terms before h late
  message_lost side bytes s said raw (by, speaks) says told =
      let own = subst (λ (w : Raw). IsNoted w h.note) raw noted in
      let reads = subst (Reads (content side bytes)) speaks.is own.0 in
      let both = told notes h.note.event losses stood.by held_before
      (speaks.sent, speaks.is, reads.by, speaks.says) in
      told_by said None says
      (subst (λ (e : Event). IsMalformed (content side bytes) e h.note.malformed) speaks.is own.1)
      both.0 both.1

  -- a content that is no message with a meaning
  pub unread_lost : (side : Side) (bytes : List ℕ) → h.raw ≡ content side bytes
      → MaySpeak (kept_before terms before) h.note.event None
      → (malformed : Option Message) → IsReading bytes malformed
      → ((notes : List Noted) → AreLosses terms old notes → HoldsSent m terms notes
      → (late ≡ follows_of terms notes rule false
      (follows_bytes rule (events_of notes) (fault side rule)))
      × IsNotedIn terms notes (fault side rule) malformed None (Some rule) old new)
      → WasTold new terms before h late
  unread_lost side bytes raw speaks malformed reading told =
      let reads = subst (λ (w : Raw). IsNoted w h.note) raw noted in
      let both = told notes losses held_before.sent in
      let own = fault_is h.note.event refl reads.0 breaks in
      let whole = subst (λ (x : Event). IsMalformed (content side bytes) x h.note.malformed) own
      reads.1 in
      told_by None malformed (ap (λ (x : Event). said_at terms (heard_events before) x) own)
      (one_malformed (content side bytes) (fault side rule) h.note.malformed malformed whole
      reading)
      (both.0 ∙ ap (λ (x : Event). follows_of terms notes rule false
      (follows_passed terms rule notes x || follows_bytes rule (heard_events before) x)) (sym own))
      (subst (λ (x : Event). IsNotedIn terms notes x malformed None (Some rule) old new) (sym own)
      both.1)
    where
      -- the event is that fault
      fault_is : (e : Event) → h.note.event ≡ e → Reads (content side bytes) e
          → offence terms (kept_before terms before) e ≡ Some rule → e ≡ fault side rule
      fault_is (message sent) is reads breaks = absurd (speaks sent is)
      fault_is (fault by code) is reads breaks =
          let code_is : code ≡ rule = cc breaks in
          ap (λ (s : Side). fault s code) reads.0 ∙ ap (fault side) code_is
      fault_is (snapshot uri number text) is reads breaks = absurd reads

  -- a fault of the frames
  pub frames_lost : (side : Side) (code : ℕ) → h.raw ≡ broken side code
      → new ≡ record old { handshake = new.handshake; sides = sides_failed side rule old.sides }
      → ((kept : List Event) → session.Stands m (sent_in kept)
      → new.handshake ≡ (old.handshake || (breaks_handshake false rule
      || may_answer kept (fault side rule))))
      → ((t : Terms) (notes : List Noted) → AreLosses t old notes → HoldsSent m t notes
      → late ≡ follows_of t notes rule false
      (follows_bytes rule (events_of notes) (fault side rule)))
      → WasTold new terms before h late
  frames_lost side code raw stays broke follows_is =
      let reads = subst (λ (w : Raw). IsNoted w h.note) raw noted in
      let code_is : code ≡ rule = same_rule code rule (sym (ap (λ (e : Event).
      rule_at terms (heard_events before) e) reads.0) ∙ breaks) in
      let own : h.note.event ≡ fault side rule = reads.0 ∙ ap (fault side) code_is in
      told_by None None (ap (λ (e : Event). said_at terms (heard_events before) e) own) reads.1
      (follows_is terms notes losses held_before.sent
      ∙ ap (λ (e : Event). follows_of terms notes rule false
      (follows_passed terms rule notes e || follows_bytes rule (heard_events before) e)) (sym own))
      (subst (λ (e : Event). IsNotedIn terms notes e None None (Some rule) old new) (sym own)
      (record {
        is_broken = broke (kept_before terms before) held_before.sent;
        sides = ap (λ (l : Losses). l.sides) stays;
        passed = fault_passes (fault side rule) side rule rule old.passed new.passed refl
            (ap (λ (l : Losses). l.passed) stays);
        unheard = ap (λ (l : Losses). l.unheard) stays ∙ or_false old.unheard;
        unsynced = ap (λ (l : Losses). l.unsynced) stays ∙ or_false old.unsynced;
        noted = subst (λ (w : code_notes.Notes). Leaves (Some rule) None false None
            old.documents.map.entries w.map.entries) (sym (ap (λ (l : Losses). l.documents) stays))
            (nothing_said (Some rule) false old.documents.map.entries);
      }))
    where
      same_rule : (a b : ℕ) → (let o : Option ℕ = Some a in o) ≡ Some b → a ≡ b
      same_rule a b e = cc e

  -- a snapshot
  pub shown_lost : (number : ℤ) (uri text : List ℕ) (said : Option Call)
      → h.raw ≡ show number uri text → said_at terms (events_of notes) h.note.event ≡ said
      → new ≡ record old {
        documents = new.documents;
        handshake = old.handshake || breaks_handshake false rule;
      }
      → ((calls : List Call) → docs.Stands d calls → Leaves (Some rule) None
      (is_reopened d.terms calls said) said old.documents.map.entries new.documents.map.entries)
      → ((t : Terms) (notes : List Noted) → AreLosses t old notes → HoldsSent m t notes
      → late ≡ follows_of t notes rule (is_on_lost t notes said) false)
      → WasTold new terms before h late
  shown_lost number uri text said raw says stays leaves follows_is =
      let own = subst (λ (w : Raw). IsNoted w h.note) raw noted in
      told_by said None says own.1
      (follows_is terms notes losses held_before.sent
      ∙ ap (λ (e : Event). follows_of terms notes rule
      (is_on_lost terms notes said)
      (follows_passed terms rule notes e || follows_bytes rule (heard_events before) e))
      (sym own.0))
      (subst (λ (e : Event). IsNotedIn terms notes e None said (Some rule) old new) (sym own.0)
      (record {
        is_broken = ap (λ (l : Losses). l.handshake) stays
            ∙ ap (λ (b : Bool). old.handshake || b) (or_false (breaks_handshake false rule));
        sides = ap (λ (l : Losses). l.sides) stays;
        passed = λ side k. ap (λ (l : Losses). has_passed l.passed side (id_view k)) stays;
        unheard = ap (λ (l : Losses). l.unheard) stays ∙ or_false old.unheard;
        unsynced = ap (λ (l : Losses). l.unsynced) stays ∙ or_false old.unsynced;
        noted = subst (λ (t : Terms). Leaves (Some rule) None
            (is_reopened t (calls (kept_before terms before)) said) said old.documents.map.entries
            new.documents.map.entries) stood.by
            (leaves (calls (kept_before terms before)) held_before.called);
      }))

-- The place and the line of an event that was seen.
use Rattle.std.proofs.Common.{◌≡◌, ◌+◌, ◌<◌, ◌^◌, ℕ, true, None, List, [], ◌∷◌, ◌++◌, length, refl, sym}
use Rattle.std.proofs.Common.{ap, ◌∙◌, length-append, arith, subst}
use Rattle.std.specs.Prelude.{unwrap_or, if◌then◌else◌, ℤ, decimal}
use Rattle.std.proofs.lemmas.List.{length-map}
use Rattle.lsp_types.specs.declared.side.Side.{Side}
use Rattle.lsp_types.specs.declared.side.Side.TheVariants.{Editor, Server}
use Rattle.lsp_docs.specs.Documents.{Terms}
use Rattle.lsp_docs.specs.State.{capped}
use Rattle.lsp_verdict.specs.declared.lines.Lines.{Lines}
use Rattle.lsp_verdict.specs.Event.{Event, message, fault as broken, snapshot}
use Rattle.lsp_verdict.specs.Shown.{event_line, line_at, document_words, message_words}
use Rattle.lsp_verdict.specs.Shown.{snapshot_words, words_behind}
use Rattle.lsp_verdict.specs.Verdict.{belongs_to, count_of, whose, who_of}
use Rattle.lsp_verdict.specs.declared.verdict.Who.{Who}
use Rattle.lsp_verdict.proofs.EventCounts.{count_few}
use Rattle.lsp_verdict.specs.Given.{AreCounts}
use Rattle.lsp_verdict.specs.Heard.{Heard, heard_events, notes_of}
use Rattle.lsp_verdict.specs.Offences.{Noted, rule_at}
use Rattle.lsp_verdict.specs.Placed.{ReadsAs}
use Rattle.lsp_verdict.specs.Report.{line, side_name}
use Rattle.lsp_verdict.specs.declared.counts.Counts.{Counts}
use Rattle.lsp_rpc.specs.Outline.{outline}
use Rattle.lsp_rpc.specs.View.{act_view, message_view}
use Rattle.lsp_rpc.specs.Words.{words_of}
use Rattle.lsp_rpc.specs.declared.act.Spoken.{Spoken}
use Rattle.lsp_rpc.proofs.OutlineWords.{words_by_outline}
use Rattle.lsp_session.specs.Sent.{Sent}
use Rattle.lsp_session.specs.View as lent
use Rattle.lsp_replay.proofs.TextRuns.{count-append}
use Rattle.lsp_replay.specs.Lines.{heard_line, place_of}
use Rattle.lsp_replay.specs.declared.heard.EventPlace.{EventPlace}
use Rattle.lsp_replay.specs.Telling.{IsSpoken, MaySpeak, kept_before, rule_of}
use Rattle.lsp_replay.proofs.Seeing.{events-push}

-- ---- the place of an event: as it is counted, and once its numbers are known not to be capped

-- the place of the event that comes after these
abbrev pub IsPlaceAfter : List Event → Event → EventPlace → Type 0
IsPlaceAfter before event place =
    (place.event ≡ length before + 1)
    × (place.number ≡ count_of (belongs_to (whose event)) before + 1)

own_is : (e : Event) → belongs_to (whose e) e ≡ true
own_is (message m) = by_side m.side
  where
    by_side : (s : Side) → belongs_to (who_of s) (message (record m { side = s })) ≡ true
    by_side Editor = refl
    by_side Server = refl
own_is (broken Editor rule) = refl
own_is _ = refl

-- an event is one more of its own
count_own : (xs : List Event) (e : Event)
    → count_of (belongs_to (whose e)) (xs ++ e ∷ []) ≡ count_of (belongs_to (whose e)) xs + 1
count_own xs e =
    let one : count_of (belongs_to (whose e)) (e ∷ []) ≡ 1 =
    ap (λ b. length (if b then e ∷ [] else [])) (own_is e) in
    count-append (belongs_to (whose e)) xs (e ∷ [])
    ∙ ap (λ n. count_of (belongs_to (whose e)) xs + n) one

-- the place of an event, as it is counted after it
pub place_counted : (before : List Event) (event : Event) (all number : ℕ) (by : Who)
    → by ≡ whose event → all ≡ capped (length (before ++ event ∷ []))
    → number ≡ capped (count_of (belongs_to by) (before ++ event ∷ []))
    → ◌≡◌ {A = EventPlace} (record { event = all; who = by; number = number })
    (place_of before event)
place_counted before event all number by is all_is number_is = λ i. record {
  event = (all_is ∙ ap capped (length-append before (event ∷ []))) i;
  who = is i;
  number = (number_is
      ∙ ap (λ (w : Who). capped (count_of (belongs_to w) (before ++ event ∷ []))) is
      ∙ ap capped (count_own before event)) i;
}

-- of so few events, the place is not capped
pub placed : (before : List Event) (event : Event) (place : EventPlace)
    → length (before ++ event ∷ []) < 2 ^ 64 → place ≡ place_of before event
    → IsPlaceAfter before event place
placed before event place few is =
    let all = before ++ event ∷ [] in
    let own = belongs_to (whose event) in (
      omega (arith, ap (λ (p : EventPlace). p.event) is, few, length-append before (event ∷ [])),
      omega (
        arith,
        ap (λ (p : EventPlace). p.number) is,
        few,
        count_few own all,
        count_own before
            event,
      ),
    )

-- the line of the event at this place, empty for a fault
abbrev line_of : Lines → EventPlace → Event → List ℕ
line_of lines place event = unwrap_or (event_line lines place.event place.number event) []

-- the line at this place is that of the event
line_placed : (lines : Lines) (before : List Event) (event : Event) (place : EventPlace)
    → IsPlaceAfter before event place
    → unwrap_or (line_at lines before event) [] ≡ line_of lines place event
line_placed lines before event place is =
    ap (λ n. unwrap_or (event_line lines n (count_of (belongs_to (whose event)) before + 1) event)
    []) (sym is.0)
    ∙ ap (λ n. unwrap_or (event_line lines place.event n event) []) (sym is.1)

-- ---- the line of an event that was seen

-- the line of a message is that of what is left of it
pub message_line : (lines : Lines) (event number : ℕ) (side : Side) (s : Spoken) (sent : Sent)
    → sent.side ≡ side → outline sent.message ≡ outline (message_view s.message)
    → sent.act ≡ act_view s.act
    → line (message_words event (lent.sent side s.message s.act)
    ++ words_behind lines number (document_words (act_view s.act)))
    ≡ line (message_words event sent ++ words_behind lines number (document_words sent.act))
message_line lines event number side s sent by says means =
    let words : words_of sent.message ≡ words_of (message_view s.message) =
    words_by_outline sent.message ∙ ap words_of says ∙ sym (words_by_outline (message_view s.message))
    in
    let own : line (message_words event sent
    ++ words_behind lines number (document_words sent.act))
    ≡ line ((decimal event ∷ side_name side ∷ words_of sent.message ∷ [])
    ++ words_behind lines number (document_words (act_view s.act))) =
    λ i. line ((decimal event ∷ side_name (by i) ∷ words_of sent.message ∷ [])
    ++ words_behind lines number (document_words (means i))) in
    sym (own ∙ ap (λ w. line ((decimal event ∷ side_name side ∷ w ∷ [])
    ++ words_behind lines number (document_words (act_view s.act)))) words)

-- what is no message and no snapshot offends
module _ (terms : Terms) (before : List Heard) (h : Heard) where
  pub broken_offends : (side : Side) (rule : ℕ) → h.note.event ≡ broken side rule
      → rule_of terms before h ≡ None → ⊥
  broken_offends side rule is none =
      let same = sym (ap (λ (e : Event). rule_at terms (heard_events before) e) is) ∙ none in cc same

  pub silent_offends : (side : Side) (bytes : List ℕ) → ReadsAs side bytes h.note.event
      → MaySpeak (kept_before terms before) h.note.event None → rule_of terms before h ≡ None → ⊥
  silent_offends side bytes reads silent none = by_event h.note.event refl reads
    where
      by_event : (e : Event) → h.note.event ≡ e → ReadsAs side bytes e → ⊥
      by_event (message m) is read = silent m is
      by_event (broken by rule) is read = broken_offends by rule is none
      by_event (snapshot uri n t) is read = read

module _ (before : List Heard) (h : Heard) (counts : Counts) (few : length before + 1 < 2 ^ 64)
    (counted : AreCounts counts (heard_events (before ++ h ∷ []))) where
  pub counted_on : AreCounts counts (heard_events before ++ h.note.event ∷ [])
  counted_on = subst (AreCounts counts) (events-push before h) counted

  pub few_on : length (heard_events before ++ h.note.event ∷ []) < 2 ^ 64
  few_on = omega (
    arith,
    few,
    length-append (heard_events before) (h.note.event ∷ []),
    length-map (notes_of before) (λ (n : Noted). n.event),
    length-map before (λ (x : Heard). x.note),
  )

  module _ (lines : Lines) (place : EventPlace)
      (is : place ≡ place_of (heard_events before) h.note.event) where
    line_here : line_of lines place h.note.event ≡ heard_line lines before h
    line_here = sym (line_placed lines (heard_events before) h.note.event place
        (placed (heard_events before) h.note.event place few_on is))

    pub message_shown : (kept : List Event) (side : Side) (s : Spoken)
        → IsSpoken kept h.note.event side s
        → line (message_words place.event (lent.sent side s.message s.act)
        ++ words_behind lines place.number (document_words (act_view s.act)))
        ≡ heard_line lines before h
    message_shown kept side s spoken =
        message_line lines place.event place.number side s spoken.sent spoken.by spoken.says
        spoken.means
        ∙ ap (λ (e : Event). line_of lines place e) (sym spoken.is) ∙ line_here

    pub snapshot_shown : (uri text : List ℕ) (number : ℤ) → h.note.event ≡ snapshot uri number text
        → line (snapshot_words place.event uri number text ++ words_behind lines place.number [])
        ≡ heard_line lines before h
    snapshot_shown uri text number own =
        ap (λ (e : Event). line_of lines place e) (sym own) ∙ line_here

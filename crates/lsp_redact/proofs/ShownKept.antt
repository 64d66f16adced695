-- What is written of what is kept, one event after another.
use Rattle.std.proofs.Common.{◌≡◌, ℕ, ◌+◌, ◌<◌, List, [], ◌∷◌, ◌++◌, map, length, take, get_or, Option, Some}
use Rattle.std.proofs.Common.{None, sym, ap, subst, ◌∙◌, append_assoc, append-nil}
use Rattle.std.specs.List.{flat_map}
use Rattle.std.proofs.lemmas.Grind.{flat_map-append}
use Rattle.std.proofs.lemmas.List.{map-append, take_more}
use Rattle.lsp_frame.specs.declared.format.Format.{Format}
use Rattle.lsp_log.specs.Log.{Record, first_line, spelling}
use Rattle.lsp_verdict.specs.Event.{Event, fault, message, snapshot}
use Rattle.lsp_verdict.specs.Placed.{Raw}
use Rattle.lsp_redact.specs.Kept.{Kept, kept_of}
use Rattle.lsp_redact.specs.Names.{Names, joined, names_in, names_of, no_names}
use Rattle.lsp_redact.specs.Naming.{Begins, Stands, Writes}
use Rattle.lsp_redact.specs.Records.{records_of}
use Rattle.lsp_redact.specs.Redacting.{AddsLast, IsBroken, log_by}
use Rattle.lsp_redact.specs.Shape as shape
use Rattle.lsp_redact.specs.Shown.{shown_kept}
use Rattle.lsp_redact.specs.View.{kept_view}
use Rattle.lsp_redact.specs.declared.kept.Kept as code
use Rattle.lsp_redact.specs.declared.redaction.Redaction.{Redaction}
use Rattle.lsp_redact.proofs.AccountSteps.{names_in-append}
use Rattle.lsp_redact.proofs.Showing.{joined-assoc, joined-none, writes_same}

-- what is written of one event
abbrev spelled : ℕ → Names → Option ℕ → Kept → List ℕ
spelled most names apart k = flat_map spelling (records_of most (shown_kept names apart k))

-- and behind what was written
abbrev pub IsAdded : Redaction → Redaction → ℕ → Kept → List ℕ → List ℕ → Type 0
IsAdded old new most k text_before text_after =
    Writes old new (names_of k) (λ n. text_before ++ spelled most n old.apart k) text_after

log_more : (most : ℕ) (format : Format) (names : Names) (apart : Option ℕ) (ks : List Kept)
    (k : Kept) → log_by most format names apart (ks ++ k ∷ [])
    ≡ log_by most format names apart ks ++ spelled most names apart k
log_more most format names apart ks k =
    let sh : Kept → shape.Event = shown_kept names apart in
    let text : List Kept → List ℕ = λ xs. flat_map spelling (flat_map (records_of most) (map sh xs)) in
    ap (λ (rs : List shape.Event). first_line format ++ flat_map spelling (flat_map (records_of most) rs))
    (map-append sh ks (k ∷ []))
    ∙ ap (λ (rs : List Record). first_line format ++ flat_map spelling rs)
    (flat_map-append (records_of most) (map sh ks) (sh k ∷ []))
    ∙ ap (λ (t : List ℕ). first_line format ++ t)
    (flat_map-append spelling (flat_map (records_of most) (map sh ks)) (records_of most (sh k) ++ [])
    ∙ ap (λ (rs : List Record). text ks ++ flat_map spelling rs) (append-nil (records_of most (sh k))))
    ∙ sym (append_assoc (first_line format) (text ks) (spelled most names apart k))

-- nothing is written but the first line
pub say_none : (r : Redaction) (most : ℕ) (format : Format) (new : List ℕ)
    → new ≡ first_line format → Writes r r no_names (λ n. log_by most format n r.apart []) new
say_none r most format new is =
    writes_same r (first_line format ++ []) new (is ∙ sym (append-nil (first_line format)))

-- one more is
pub say_more : (start old new : Redaction) (most : ℕ) (format : Format) (ks : List code.Kept)
    (i : ℕ) (k : code.Kept) (before after : List ℕ) → i < length ks → k ≡ get_or ks i k
    → Writes start old (names_in (map kept_view (take i ks)))
    (λ n. log_by most format n start.apart (map kept_view (take i ks))) before
    → IsAdded old new most (kept_view k) before after
    → Writes start new (names_in (map kept_view (take (i + 1) ks)))
    (λ n. log_by most format n start.apart (map kept_view (take (i + 1) ks))) after
say_more start old new most format ks i k before after lt is said own =
    let xs : List Kept = map kept_view (take i ks) in
    let x : Kept = kept_view k in
    let taken : map kept_view (take (i + 1) ks) ≡ xs ++ x ∷ [] =
    ap (map kept_view) (take_more ks i k lt ∙ ap (λ (y : code.Kept). take i ks ++ y ∷ []) (sym is))
    ∙ map-append kept_view (take i ks) (k ∷ []) in
    let names : names_in (xs ++ x ∷ []) ≡ joined (names_in xs) (names_of x) =
    names_in-append xs (x ∷ [])
    ∙ ap (joined (names_in xs)) (joined-none (names_of x)) in
    subst (λ (ys : List Kept). Writes start new (names_in ys)
    (λ n. log_by most format n start.apart ys) after) (sym taken)
    (subst (λ (ns : Names). Writes start new ns
    (λ n. log_by most format n start.apart (xs ++ x ∷ [])) after) (sym names)
    (record {
      same = own.same ∙ said.same;
      shows = record {
        stands = λ past stands. subst (Stands new.names) (joined-assoc past (names_in xs) (names_of x))
            (own.shows.stands (joined past (names_in xs)) (said.shows.stands past stands));
        value = λ past whole stands begins. added past whole stands begins;
      };
    }))
  where
    added : (past whole : Names) → Stands start.names past
        → Begins (joined past (joined (names_in (map kept_view (take i ks))) (names_of (kept_view k))))
        whole
        → after ≡ log_by most format whole start.apart
        (map kept_view (take i ks) ++ kept_view k ∷ [])
    added past whole stands begins =
        let xs : List Kept = map kept_view (take i ks) in
        let x : Kept = kept_view k in
        let more : Names = begins.0 in
        let front : Begins (joined past (names_in xs)) whole = (
          joined (names_of x) more,
          begins.1 ∙ joined-assoc past (joined (names_in xs) (names_of x)) more
              ∙ ap (joined past) (joined-assoc (names_in xs) (names_of x) more)
              ∙ sym (joined-assoc past (names_in xs) (joined (names_of x) more)),
        ) in
        let all : Begins (joined (joined past (names_in xs)) (names_of x)) whole = (
          more,
          begins.1
              ∙ ap (λ (n : Names). joined n more) (sym (joined-assoc past (names_in xs) (names_of x))),
        ) in
        own.shows.value (joined past (names_in xs)) whole (said.shows.stands past stands) all
        ∙ (λ j. said.shows.value past whole stands front j ++ spelled most whole (said.same j) x)
        ∙ sym (log_more most format whole start.apart xs x)

-- the event that offends is
pub last_kept : (most : ℕ) (old new : Redaction) (raw : Raw) (rule : ℕ) (o : Option Kept) (k : Kept)
    (before after : List ℕ) → o ≡ Some k → IsAdded old new most k before after
    → AddsLast most old new raw rule o before after
last_kept most old new raw rule o k before after is own =
    subst (λ (x : Option Kept). AddsLast most old new raw rule x before after) (sym is)
    (subst (λ (f : Names → List ℕ). Writes old new (names_of k) f after)
    (λ j n. before
    ++ flat_map spelling (sym (append-nil (records_of most (shown_kept n old.apart k))) j)) own)

-- or what stands for it
pub last_by : (most : ℕ) (r : Redaction) (raw : Raw) (rule : ℕ) (past : List Event) (event : Event)
    (before after : List ℕ) → kept_of past event ≡ None → IsBroken most raw event rule before after
    → AddsLast most r r raw rule (kept_of past event) before after
last_by most r raw rule past (fault side own) before after none is = writes_same r _ after is
last_by most r raw rule past _ before after none is = absurd (cc none)

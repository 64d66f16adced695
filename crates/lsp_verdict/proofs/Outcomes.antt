-- Records have one verdict.
use Rattle.std.proofs.Common.{◌≡◌, ℕ, List, [], ◌∷◌, ◌++◌, refl, sym, ap, subst, ◌∙◌, append_assoc, Option, Some}
use Rattle.std.proofs.Common.{None}
use Rattle.std.specs.Prelude.{if◌then◌else◌, unwrap_or}
use Rattle.std.specs.Option.{option_or}
use Rattle.std.specs.List.{AllZip}
use Rattle.lsp_frame.specs.Bounds.{Bounds}
use Rattle.lsp_frame.specs.declared.format.Format.{Format}
use Rattle.lsp_frame.specs.declared.format.Format.TheVariants.{One}
use Rattle.lsp_types.specs.declared.side.Side.{Side}
use Rattle.lsp_types.specs.declared.side.Side.TheVariants.{Editor, Server}
use Rattle.lsp_session.specs.Sent.{same_side}
use Rattle.lsp_docs.specs.Documents.{Terms, terms_of}
use Rattle.lsp_log.specs.Log.{Record, chunk, shown}
use Rattle.lsp_log.specs.declared.fault.LogCode.{LogCode}
use Rattle.lsp_verdict.specs.Event.{Event}
use Rattle.lsp_verdict.specs.Laws.{merged, put, CutsLeaveVerdict}
use Rattle.lsp_verdict.specs.Outcome.{HasRest, ending, format_or_one, IsFinal, Offends}
use Rattle.lsp_verdict.specs.Placed.{Raw, show, Reads, PlacedAfter, IsSession, joined}
use Rattle.lsp_verdict.specs.Verdict.{Verdict, Ending, first_no, verdict, yes, summary, bad_log_of, rest_of}
use Rattle.lsp_verdict.proofs.Below.{one_stream}
use Rattle.lsp_verdict.proofs.LookBackLemmas.{first_of-more}
use Rattle.lsp_verdict.proofs.OneEvent.{one_list}
use Rattle.lsp_verdict.proofs.PlacedLemmas.{one_brings}
use Rattle.lsp_verdict.proofs.Sessions.{same_session}

-- ---- the bytes of a side don't depend on the cuts

put_joined : (side : Side) (r : Record) (rs : List Record) → joined side (put r rs) ≡ joined side (r ∷ rs)
put_joined Editor (chunk Editor b) (chunk Editor c ∷ rs) = append_assoc b c (joined Editor rs)
put_joined Server (chunk Editor b) (chunk Editor c ∷ rs) = refl
put_joined Editor (chunk Server b) (chunk Server c ∷ rs) = refl
put_joined Server (chunk Server b) (chunk Server c ∷ rs) = append_assoc b c (joined Server rs)
put_joined _ _ _ = refl

behind : (side : Side) (r : Record) (rs us : List Record) → joined side rs ≡ joined side us → joined side (r ∷ rs) ≡ joined side (r ∷ us)
behind side (shown n uri t) rs us e = e
behind side (chunk by b) rs us e = ap (λ w. if same_side side by then b ++ w else w) e

merged_joined : (side : Side) (rs : List Record) → joined side (merged rs) ≡ joined side rs
merged_joined side [] = refl
merged_joined side (r ∷ rs) = put_joined side r (merged rs) ∙ behind side r (merged rs) rs (merged_joined side rs)

pub cut_joined : (side : Side) (rs us : List Record) → merged rs ≡ merged us → joined side rs ≡ joined side us
cut_joined side rs us e = sym (merged_joined side rs) ∙ ap (joined side) e ∙ merged_joined side us

-- ---- one verdict

pub one_rest : (limits : Bounds) (bytes more r s : List ℕ) → bytes ≡ more → HasRest limits bytes r → HasRest limits more s → r ≡ s
one_rest limits bytes more r s e p q =
    let p' : HasRest limits more r = subst (λ (w : List ℕ). HasRest limits w r) e p in
    (one_stream limits more p'.0 q.0 r s p'.1 q.1 p'.2 q.2).rest

pub cuts_leave_verdict : CutsLeaveVerdict
cuts_leave_verdict limits format rs us fault v w cut p q =
    let events : p.events ≡ q.events = same_session limits rs us p.events q.events cut p.session q.session in
    let editor : p.editor ≡ q.editor = one_rest limits (joined Editor rs) (joined Editor us) p.editor q.editor (cut_joined Editor rs us cut) p.editor_rest q.editor_rest in
    let server : p.server ≡ q.server = one_rest limits (joined Server rs) (joined Server us) p.server q.server (cut_joined Server rs us cut) p.server_rest q.server_rest in
    sym p.says ∙ (λ i. verdict (terms_of limits format) (events i) (ending fault (editor i) (server i)))
    ∙ q.says

-- an offence decides, however the log ends
says_no : (terms : Terms) (es : List Event) (end : Ending) (v : Verdict) → first_no terms es ≡ Some v → verdict terms es end ≡ v
says_no terms es end v e = ap (λ o. unwrap_or (option_or o (option_or (bad_log_of end.log_fault) (rest_of es end.editor_rest end.server_rest))) (yes (summary terms es))) e

-- ---- more records

-- the events of the first records are the first ones
pub placed_front : (limits : Bounds) (editor server : List ℕ) (rs more : List Record) (raws all : List Raw) → PlacedAfter limits editor server rs raws → PlacedAfter limits editor server (rs ++ more) all → (later : List Raw) × (all ≡ raws ++ later)
placed_front limits editor server [] more raws all p q = (all, ap (λ w. w ++ all) (sym p))
placed_front limits editor server (chunk Editor b ∷ rs) more raws all p q =
    let rest = placed_front limits (editor ++ b) server rs more p.1 q.1 p.4 q.4 in
    let same = one_brings limits Editor editor b q.0 p.0 q.3 p.3 in
    (rest.0, q.2 ∙ ap (λ w. w ++ q.1) same ∙ ap (λ w. p.0 ++ w) rest.1 ∙ sym (append_assoc p.0 p.1 rest.0) ∙ ap (λ w. w ++ rest.0) (sym p.2))
placed_front limits editor server (chunk Server b ∷ rs) more raws all p q =
    let rest = placed_front limits editor (server ++ b) rs more p.1 q.1 p.4 q.4 in
    let same = one_brings limits Server server b q.0 p.0 q.3 p.3 in
    (rest.0, q.2 ∙ ap (λ w. w ++ q.1) same ∙ ap (λ w. p.0 ++ w) rest.1 ∙ sym (append_assoc p.0 p.1 rest.0) ∙ ap (λ w. w ++ rest.0) (sym p.2))
placed_front limits editor server (shown n uri t ∷ rs) more raws all p q =
    let rest = placed_front limits editor server rs more p.0 q.0 p.2 q.2 in
    (rest.0, q.1 ∙ ap (λ w. show n uri t ∷ w) rest.1 ∙ ap (λ w. w ++ rest.0) (sym p.1))

-- what a list is read as, in two parts
split_list : (raws more : List Raw) (all : List Event) → AllZip Reads (raws ++ more) all → (es : List Event) × (fs : List Event) × (all ≡ es ++ fs) × AllZip Reads raws es × AllZip Reads more fs
split_list [] more all p = ([], all, refl, tt, p)
split_list (raw ∷ raws) more [] p = absurd p
split_list (raw ∷ raws) more (e ∷ all) p =
    let rest = split_list raws more all p.1 in
    (e ∷ rest.0, rest.1, ap (λ w. e ∷ w) rest.2, (p.0, rest.3), rest.4)

-- the session of the first records is the front of the session of all
pub session_front : (limits : Bounds) (rs more : List Record) (es all : List Event) → IsSession limits rs es → IsSession limits (rs ++ more) all → (later : List Event) × (all ≡ es ++ later)
session_front limits rs more es all p q =
    let cut = placed_front limits [] [] rs more p.0 q.0 p.1 q.1 in
    let parts = split_list p.0 cut.0 all (subst (λ (w : List Raw). AllZip Reads w all) cut.1 q.2) in
    (parts.1, parts.2 ∙ ap (λ w. w ++ parts.1) (one_list p.0 parts.0 es parts.3 p.2))

-- an offence among the first records is the verdict on all
pub offends_final : (limits : Bounds) (format : Format) (rs more : List Record) (fault : Option (ℕ × LogCode)) (v w : Verdict) → Offends limits format rs v → IsFinal limits format (rs ++ more) fault w → v ≡ w
offends_final limits format rs more fault v w p q =
    let cut = session_front limits rs more p.events q.events p.session q.session in
    sym (says_no (terms_of limits format) q.events (ending fault q.editor q.server) v
    (ap (first_no (terms_of limits format)) cut.1 ∙ first_of-more _ p.events cut.0 v p.offends)) ∙ q.says

-- ---- the format of a log

-- by which its records are judged
pub judged_by : (known asked : Option Format) (format : Format) → format ≡ unwrap_or asked One
    → asked ≡ known → format ≡ format_or_one known
judged_by known asked format is same = is ∙ ap (λ o. unwrap_or o One) same ∙ by_format known
  where
    by_format : (o : Option Format) → unwrap_or o One ≡ format_or_one o
    by_format None = refl
    by_format (Some f) = refl

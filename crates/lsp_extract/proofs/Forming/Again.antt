-- The normal form is a log of its own, with the events of the log.
use Rattle.std.specs.Prelude.{map, nat_le, IsTrue, ◌&&◌}
use Rattle.std.specs.List.{flat_map, AllByRecursion}
use Rattle.std.specs.Option.{option_or}
use Rattle.std.proofs.Common.{◌≡◌, ℕ, zero, suc, ◌≤◌, List, [], ◌∷◌, ◌++◌, length, take, drop, true}
use Rattle.std.proofs.Common.{Option, Some, None, refl, sym, ap, subst, ◌∙◌, append_assoc}
use Rattle.std.proofs.Common.{append-nil, arith}
use Rattle.std.proofs.lemmas.Bool.{and_from}
use Rattle.std.proofs.lemmas.Bool.Decides.{nat_tests}
use Rattle.std.proofs.lemmas.List.{length-take, length-drop, take-append-drop}
use Rattle.lsp_replay.specs.Common.{Bounds, broken, canonical, chunk, content, first_from}
use Rattle.lsp_replay.specs.Common.{first_line, Format, format_or_one, Frames, HasRest, IsInRange}
use Rattle.lsp_replay.specs.Common.{IsLog, IsStream, joined, LogCode, Placed, show, shown, Side}
use Rattle.lsp_replay.specs.Common.{spelling}
use Rattle.lsp_frame.specs.Frame.{Begins, HasFault}
use Rattle.lsp_frame.proofs.Canonical.{canonical_frame}
use Rattle.lsp_frame.proofs.Frames.{frames_more, frames_push}
use Rattle.lsp_types.specs.declared.side.Side.TheVariants.{Editor, Server}
use Rattle.lsp_log.specs.Log.{Record, Fits}
use Rattle.lsp_log.proofs.OneLog.{written_is_read}
use Rattle.lsp_verdict.specs.Laws.{merged, put}
use Rattle.lsp_extract.specs.Normal.{cut, chunks, records_of, form_of, no_at, IsNormal, before_fault}
use Rattle.lsp_extract.specs.Normal.{is_frame_rule, NormalFormKeepsEvents, NormalFormStays}
use Rattle.lsp_verdict.specs.Placed.{Raw, Brings, new_fault}
use Rattle.lsp_verdict.specs.Placed.{PlacedAfter}
use Rattle.lsp_verdict.specs.Verdict.{Verdict}
use Rattle.lsp_extract.proofs.Forming.Pieces.{cut_none, cut_some}
use Rattle.lsp_verdict.proofs.Below.{one_log}
use Rattle.lsp_verdict.proofs.Outcomes.{cut_joined}
use Rattle.lsp_verdict.proofs.PlacedLemmas.{cuts_dont_matter, one_placed}
use Rattle.lsp_verdict.proofs.Sessions.{some_placed, no_stream}
use Rattle.lsp_frame.proofs.Readings.{says_within}
use Rattle.lsp_frame.proofs.FrameRules.{breaks_rule}

-- ---- lists

all_append : {X : Type 0} (P : X → Type 0) (xs ys : List X) → AllByRecursion P xs
    → AllByRecursion P ys → AllByRecursion P (xs ++ ys)
all_append P [] ys p q = q
all_append P (x ∷ xs) ys p q = (p.0, all_append P xs ys p.1 q)

-- ---- events within the limits

abbrev pub IsSane : Bounds → Raw → Type 0
IsSane limits (content side bytes) = length bytes ≤ limits.content
IsSane limits (broken side rule) = is_frame_rule rule ≡ true
IsSane limits (show number uri text) = Fits limits (shown number uri text)

frames_within : (limits : Bounds) (side : Side) (bytes rest : List ℕ) (old new : List (List ℕ))
    → Frames limits bytes (old ++ new) rest
    → AllByRecursion (IsSane limits) (map (content side) new)
frames_within limits side bytes rest (c ∷ old) new p =
    frames_within limits side p.0 rest old new p.2
frames_within limits side bytes rest [] [] p = tt
frames_within limits side bytes rest [] (c ∷ new) p = (
  says_within limits p.1.2.header (length c) p.1.2.says,
  frames_within limits side p.0 rest [] new p.2,
)

fault_sane : (limits : Bounds) (side : Side) (bytes : List ℕ) (old new : Option ℕ)
    → HasFault limits bytes new → AllByRecursion (IsSane limits) (new_fault side old new)
fault_sane limits side bytes None None h = tt
fault_sane limits side bytes None (Some rule) h = (
  breaks_rule (λ (r : ℕ). is_frame_rule r ≡ true)
      (refl, (refl, (refl, (refl, (refl, (refl, tt)))))) limits bytes rule h,
  tt,
)
fault_sane limits side bytes (Some rule) new h = tt

brought_sane : (limits : Bounds) (side : Side) (before more : List ℕ) (now : List Raw)
    → Brings limits side before more now → AllByRecursion (IsSane limits) now
brought_sane limits side before more now b =
    subst (λ (rs : List Raw). AllByRecursion (IsSane limits) rs) (sym b.brought)
    (all_append (IsSane limits) (map (content side) b.new_contents)
    (new_fault side b.old_fault b.last_fault)
    (frames_within limits side (before ++ more) b.new_rest b.contents b.new_contents
    b.new_stream.frames) (fault_sane limits side b.new_rest b.old_fault b.last_fault
    b.new_stream.fault))

pub placed_sane : (limits : Bounds) (editor server : List ℕ) (rs : List Record) (raws : List Raw)
    → AllByRecursion (Fits limits) rs → PlacedAfter limits editor server rs raws
    → AllByRecursion (IsSane limits) raws
placed_sane limits editor server [] raws fits p =
    subst (λ (ws : List Raw). AllByRecursion (IsSane limits) ws) (sym p) tt
placed_sane limits editor server (chunk Editor b ∷ rs) raws fits p =
    subst (λ (ws : List Raw). AllByRecursion (IsSane limits) ws) (sym p.2)
    (all_append (IsSane limits) p.0 p.1 (brought_sane limits Editor editor b p.0 p.3)
    (placed_sane limits (editor ++ b) server rs p.1 fits.1 p.4))
placed_sane limits editor server (chunk Server b ∷ rs) raws fits p =
    subst (λ (ws : List Raw). AllByRecursion (IsSane limits) ws) (sym p.2)
    (all_append (IsSane limits) p.0 p.1 (brought_sane limits Server server b p.0 p.3)
    (placed_sane limits editor (server ++ b) rs p.1 fits.1 p.4))
placed_sane limits editor server (shown n uri t ∷ rs) raws fits p =
    subst (λ (ws : List Raw). AllByRecursion (IsSane limits) ws) (sym p.1)
    (fits.0, placed_sane limits editor server rs p.0 fits.1 p.2)

-- ---- the records are within the limits

chunk_fits : (limits : Bounds) (side : Side) (bytes : List ℕ) → 1 ≤ length bytes
    → length bytes ≤ limits.chunk → Fits limits (chunk side bytes)
chunk_fits limits side bytes some most =
    let low : nat_le 1 (length bytes) ≡ true = grind (arith, nat_tests) in
    let high : nat_le (length bytes) limits.chunk ≡ true = grind (arith, nat_tests) in
    let range : IsTrue (nat_le 1 (length bytes) && nat_le (length bytes) limits.chunk) =
    and_from _ _ low high in
    record { range = range; text = tt }

cut_fits : (limits : Bounds) (side : Side) (n : ℕ) (bytes : List ℕ) → 1 ≤ limits.chunk
    → length bytes ≤ n → AllByRecursion (Fits limits) (chunks limits.chunk side bytes)
cut_fits limits side n [] full within =
    subst (λ (ps : List (List ℕ)). AllByRecursion (Fits limits) (map (chunk side) ps))
    (sym (cut_none limits.chunk)) tt
cut_fits limits side zero (x ∷ xs) full within = absurd (omega arith)
cut_fits limits side (suc n) (x ∷ xs) full within =
    let bytes : List ℕ = x ∷ xs in
    subst (λ (ps : List (List ℕ)). AllByRecursion (Fits limits) (map (chunk side) ps))
    (sym (cut_some limits.chunk bytes full (omega arith))) (
      chunk_fits limits side (take limits.chunk bytes)
          (omega (arith, length-take limits.chunk bytes))
          (omega (arith, length-take limits.chunk bytes)),
      cut_fits limits side n (drop limits.chunk bytes) full
          (omega (arith, length-drop limits.chunk bytes)),
    )

records_fit : (limits : Bounds) (raws : List Raw) → 1 ≤ limits.chunk
    → AllByRecursion (IsSane limits) raws
    → AllByRecursion (Fits limits) (records_of limits.chunk raws)
records_fit limits (content side bytes ∷ raws) full sane =
    all_append (Fits limits) (chunks limits.chunk side (canonical bytes))
    (records_of limits.chunk raws)
    (cut_fits limits side (length (canonical bytes)) (canonical bytes) full (omega arith))
    (records_fit limits raws full sane.1)
records_fit limits (show n uri t ∷ raws) full sane = (sane.0, records_fit limits raws full sane.1)
records_fit limits _ full sane = tt

-- ---- the records in one piece each

abbrev pub frames_of : List Raw → List Record
frames_of (content side bytes ∷ raws) = chunk side (canonical bytes) ∷ frames_of raws
frames_of (show n uri t ∷ raws) = shown n uri t ∷ frames_of raws
frames_of _ = []

put_twice : (side : Side) (a b : List ℕ) (rs : List Record)
    → put (chunk side a) (put (chunk side b) rs) ≡ put (chunk side (a ++ b)) rs
put_twice Editor a b (chunk Editor c ∷ rs) =
    ap (λ (w : List ℕ). chunk Editor w ∷ rs) (sym (append_assoc a b c))
put_twice Server a b (chunk Server c ∷ rs) =
    ap (λ (w : List ℕ). chunk Server w ∷ rs) (sym (append_assoc a b c))
put_twice _ a b _ = refl

merged_cut : (size : ℕ) (side : Side) (n : ℕ) (bytes : List ℕ) (rs : List Record) → 1 ≤ size
    → 1 ≤ length bytes → length bytes ≤ n
    → merged (chunks size side bytes ++ rs) ≡ put (chunk side bytes) (merged rs)
merged_cut size side zero bytes rs full some within = absurd (omega arith)
merged_cut size side (suc n) bytes rs full some within =
    ap (λ (ps : List (List ℕ)). merged (map (chunk side) ps ++ rs)) (cut_some size bytes full some)
    ∙ by_rest (λ more less. merged_cut size side n (drop size bytes) rs full more less)
    (drop size bytes) refl
  where
    by_rest : (1 ≤ length (drop size bytes) → length (drop size bytes) ≤ n
        → merged (chunks size side (drop size bytes) ++ rs)
        ≡ put (chunk side (drop size bytes)) (merged rs)) → (left : List ℕ) → drop size bytes ≡ left
        → put (chunk side (take size bytes)) (merged (chunks size side (drop size bytes) ++ rs))
        ≡ put (chunk side bytes) (merged rs)
    by_rest others [] e =
        ap (λ (ps : List (List ℕ)).
        put (chunk side (take size bytes)) (merged (map (chunk side) ps ++ rs)))
        (ap (cut size) e ∙ cut_none size)
        ∙ ap (λ (w : List ℕ). put (chunk side w) (merged rs))
        (sym (append-nil (take size bytes)) ∙ ap (λ (w : List ℕ). take size bytes ++ w) (sym e)
        ∙ take-append-drop size bytes)
    by_rest others (x ∷ left) e =
        let long : length (drop size bytes) ≡ suc (length left) = ap length e in
        ap (put (chunk side (take size bytes)))
        (others (omega arith) (omega (arith, length-drop size bytes)))
        ∙ put_twice side (take size bytes) (drop size bytes) (merged rs)
        ∙ ap (λ (w : List ℕ). put (chunk side w) (merged rs)) (take-append-drop size bytes)

canonical_some : (bytes : List ℕ) → 1 ≤ length (canonical bytes)
canonical_some bytes = omega arith

merged_records : (size : ℕ) (raws : List Raw) → 1 ≤ size
    → merged (records_of size raws) ≡ merged (frames_of raws)
merged_records size (content side bytes ∷ raws) full =
    merged_cut size side (length (canonical bytes)) (canonical bytes) (records_of size raws) full
    (canonical_some bytes) (omega arith)
    ∙ ap (put (chunk side (canonical bytes))) (merged_records size raws full)
merged_records size (show n uri t ∷ raws) full =
    ap (λ (rs : List Record). shown n uri t ∷ rs) (merged_records size raws full)
merged_records size _ full = refl

-- ---- their events

stream_push : (limits : Bounds) → IsInRange limits
    → (sent bytes : List ℕ) (contents : List (List ℕ)) → length bytes ≤ limits.content
    → IsStream limits sent contents [] None
    → IsStream limits (sent ++ canonical bytes) (contents ++ bytes ∷ []) [] None
stream_push limits sizes sent bytes contents within p =
    let begins : Begins limits (canonical bytes) bytes [] = (
      canonical bytes,
      sym (append-nil (canonical bytes)),
      canonical_frame limits bytes sizes within,
    ) in
    record {
      frames = frames_push limits (sent ++ canonical bytes) contents (canonical bytes) bytes []
          (frames_more limits sent contents [] (canonical bytes) p.frames) begins;
      no_more = p.no_more;
      fault = p.fault;
    }

frame_brings : (limits : Bounds) → IsInRange limits
    → (side : Side) (sent bytes : List ℕ) (contents : List (List ℕ)) → length bytes ≤ limits.content
    → IsStream limits sent contents [] None
    → Brings limits side sent (canonical bytes) (content side bytes ∷ [])
frame_brings limits sizes side sent bytes contents within p = record {
  contents = contents;
  rest = [];
  old_fault = None;
  stream = p;
  new_contents = bytes ∷ [];
  new_rest = [];
  last_fault = None;
  new_stream = stream_push limits sizes sent bytes contents within p;
  brought = refl;
}

-- the frames of both sides are whole, and bring these events
pub record AreFrames (limits : Bounds) (editor server : List ℕ) (rs : List Record)
    (raws : List Raw) : Type 0 where
  pub placed : PlacedAfter limits editor server rs raws
  pub editor_rest : HasRest limits (editor ++ joined Editor rs) []
  pub server_rest : HasRest limits (server ++ joined Server rs) []

none_placed : (limits : Bounds) (editor server : List ℕ) (es ss : List (List ℕ))
    → IsStream limits editor es [] None → IsStream limits server ss [] None
    → AreFrames limits editor server [] []
none_placed limits editor server es ss p q = record {
  placed = refl;
  editor_rest = (
    es,
    None,
    subst (λ (w : List ℕ). IsStream limits w es [] None) (sym (append-nil editor)) p,
  );
  server_rest = (
    ss,
    None,
    subst (λ (w : List ℕ). IsStream limits w ss [] None) (sym (append-nil server)) q,
  );
}

frames_placed : (limits : Bounds) → IsInRange limits
    → (editor server : List ℕ) (es ss : List (List ℕ)) (raws : List Raw)
    → AllByRecursion (IsSane limits) raws → IsStream limits editor es [] None
    → IsStream limits server ss [] None
    → AreFrames limits editor server (frames_of raws) (before_fault raws)
frames_placed limits sizes editor server es ss (content Editor bytes ∷ raws) sane p q =
    let later = frames_placed limits sizes (editor ++ canonical bytes) server (es ++ bytes ∷ []) ss
    raws sane.1 (stream_push limits sizes editor bytes es sane.0 p) q in
    record {
      placed = (
        content Editor bytes ∷ [],
        before_fault raws,
        refl,
        frame_brings limits sizes Editor editor bytes es sane.0 p,
        later.placed,
      );
      editor_rest = subst (λ (w : List ℕ). HasRest limits w [])
          (append_assoc editor (canonical bytes) (joined Editor (frames_of raws)))
          later.editor_rest;
      server_rest = later.server_rest;
    }
frames_placed limits sizes editor server es ss (content Server bytes ∷ raws) sane p q =
    let later = frames_placed limits sizes editor (server ++ canonical bytes) es (ss ++ bytes ∷ [])
    raws sane.1 p (stream_push limits sizes server bytes ss sane.0 q) in
    record {
      placed = (
        content Server bytes ∷ [],
        before_fault raws,
        refl,
        frame_brings limits sizes Server server bytes ss sane.0 q,
        later.placed,
      );
      editor_rest = later.editor_rest;
      server_rest = subst (λ (w : List ℕ). HasRest limits w [])
          (append_assoc server (canonical bytes) (joined Server (frames_of raws)))
          later.server_rest;
    }
frames_placed limits sizes editor server es ss (show n uri t ∷ raws) sane p q =
    let later = frames_placed limits sizes editor server es ss raws sane.1 p q in
    record {
      placed = (before_fault raws, refl, later.placed);
      editor_rest = later.editor_rest;
      server_rest = later.server_rest;
    }
frames_placed limits sizes editor server es ss _ sane p q =
    none_placed limits editor server es ss p q

-- ---- the form as a log

-- the form of these events, as a log
pub record IsAgain (limits : Bounds) (out : List ℕ) (format : Format) (raws : List Raw) : Type 0
  where
    pub records : List Record
    pub is_log : IsLog limits out (Some format) records None
    pub placed : Placed limits records (before_fault raws)
    pub editor_rest : HasRest limits (joined Editor records) []
    pub server_rest : HasRest limits (joined Server records) []

pub again : (limits : Bounds) → IsInRange limits
    → (out : List ℕ) (format : Format) (raws : List Raw) → AllByRecursion (IsSane limits) raws
    → out ≡ form_of format limits.chunk raws → length out ≤ limits.log
    → IsAgain limits out format raws
again limits sizes out format raws sane written within =
    let us : List Record = records_of limits.chunk raws in
    let whole = frames_placed limits sizes [] [] [] [] raws sane (no_stream limits sizes)
    (no_stream limits sizes) in
    let same : merged us ≡ merged (frames_of raws) =
    merged_records limits.chunk raws sizes.chunk_low in
    let some = some_placed limits [] [] us in
    let events : some.0 ≡ before_fault raws =
    cuts_dont_matter limits us (frames_of raws) some.0 (before_fault raws) same some.1
    whole.placed in
    let short : length (first_line format ++ flat_map spelling us) ≤ limits.log =
    subst (λ (w : List ℕ). length w ≤ limits.log) written within in
    record {
      records = us;
      is_log = subst (λ (w : List ℕ). IsLog limits w (Some format) us None) (sym written)
          (written_is_read limits format us (records_fit limits raws sizes.chunk_low sane) short);
      placed = subst (λ (rs : List Raw). Placed limits us rs) events some.1;
      editor_rest = subst (λ (w : List ℕ). HasRest limits w [])
          (sym (cut_joined Editor us (frames_of raws) same)) whole.editor_rest;
      server_rest = subst (λ (w : List ℕ). HasRest limits w [])
          (sym (cut_joined Server us (frames_of raws) same)) whole.server_rest;
    }

-- ---- what the log is

pub sound_from : (before raws : List Raw) → first_from no_at before (before_fault raws) ≡ None
sound_from before (content side bytes ∷ raws) = sound_from (before ++ content side bytes ∷ []) raws
sound_from before (show n uri t ∷ raws) = sound_from (before ++ show n uri t ∷ []) raws
sound_from before _ = refl

same_records : (size : ℕ) (raws : List Raw)
    → records_of size (before_fault raws) ≡ records_of size raws
same_records size (content side bytes ∷ raws) =
    ap (λ (rs : List Record). chunks size side (canonical bytes) ++ rs) (same_records size raws)
same_records size (show n uri t ∷ raws) =
    ap (λ (rs : List Record). shown n uri t ∷ rs) (same_records size raws)
same_records size _ = refl

-- the events whose form it is, all within the limits
pub record HasForm (limits : Bounds) (out : List ℕ) : Type 0 where
  pub format : Format
  pub raws : List Raw
  pub sane : AllByRecursion (IsSane limits) raws
  pub written : out ≡ form_of format limits.chunk raws

pub log_fits : (limits : Bounds) (log : List ℕ) (format : Option Format) (rs : List Record)
    (flaw : Option (ℕ × LogCode)) → IsLog limits log format rs flaw
    → AllByRecursion (Fits limits) rs
log_fits limits log (Some format) rs flaw a = a.1.begins.fits
log_fits limits log None rs flaw a =
    subst (λ (xs : List Record). AllByRecursion (Fits limits) xs) (sym a.0) tt

has_form : (limits : Bounds) (log out : List ℕ) (fault : Option Verdict)
    → IsNormal limits log out fault → HasForm limits out
has_form limits log out fault w = record {
  format = format_or_one w.format;
  raws = w.raws;
  sane = placed_sane limits [] [] w.records w.raws
      (log_fits limits log w.format w.records w.log_fault w.is_log) w.placed;
  written = w.written;
}

pub normal_form_stays : NormalFormStays
normal_form_stays limits sizes log out fault normal within =
    let form = has_form limits log out fault normal in
    let log_of = again limits sizes out form.format form.raws form.sane form.written within in
    record {
      format = Some form.format;
      records = log_of.records;
      log_fault = None;
      raws = before_fault form.raws;
      editor = [];
      server = [];
      is_log = log_of.is_log;
      placed = log_of.placed;
      editor_rest = log_of.editor_rest;
      server_rest = log_of.server_rest;
      ends = ap (λ (o : Option Verdict). option_or o None) (sound_from [] form.raws);
      written = form.written ∙ ap (λ (rs : List Record).
          first_line form.format ++ flat_map spelling rs)
          (sym (same_records limits.chunk form.raws));
    }

pub form_is : (limits : Bounds) → IsInRange limits
    → (log out : List ℕ) (format : Option Format) (rs : List Record) (flaw : Option (ℕ × LogCode))
    (raws : List Raw) (fault : Option Verdict) → IsLog limits log format rs flaw
    → Placed limits rs raws → IsNormal limits log out fault
    → out ≡ form_of (format_or_one format) limits.chunk raws
form_is limits sizes log out format rs flaw raws fault is_log placed w =
    let same = one_log limits sizes log w.format format w.records rs w.log_fault flaw w.is_log
    is_log in
    w.written
    ∙ ap (λ (o : Option Format). form_of (format_or_one o) limits.chunk w.raws) same.0
    ∙ ap (form_of (format_or_one format) limits.chunk)
    (one_placed limits [] [] rs w.raws raws
    (subst (λ (xs : List Record). Placed limits xs w.raws) same.1 w.placed) placed)

pub normal_form_keeps_events : NormalFormKeepsEvents
normal_form_keeps_events limits sizes log out format rs flaw raws fault is_log placed normal
    within =
    let sane = placed_sane limits [] [] rs raws (log_fits limits log format rs flaw is_log)
    placed in
    let log_of = again limits sizes out (format_or_one format) raws sane
    (form_is limits sizes log out format rs flaw raws fault is_log placed normal) within in
    (log_of.records, log_of.is_log, log_of.placed)

-- The events of a side are those of its joined stream, and the snapshots are those of the records.
use Rattle.std.proofs.Common.{◌≡◌, ℕ, Bool, true, false, List, [], ◌∷◌, ◌++◌, Option, Some, None, refl, sym, ap, subst, ◌∙◌, append-nil}
use Rattle.std.specs.Prelude.{map, filter, if◌then◌else◌, chars}
use Rattle.std.specs.List.{AllZip}
use Rattle.std.proofs.lemmas.List.Elements.{filter-append}
use Rattle.lsp_frame.specs.Bounds.{Bounds, IsInRange}
use Rattle.lsp_frame.specs.Frame.{IsStream}
use Rattle.lsp_types.specs.declared.side.Side.{Side}
use Rattle.lsp_types.specs.declared.side.Side.TheVariants.{Editor, Server}
use Rattle.lsp_session.specs.Sent.{same_side}
use Rattle.lsp_log.specs.Log.{Record, chunk, shown}
use Rattle.lsp_verdict.specs.Event.{Event, message, fault, snapshot}
use Rattle.lsp_verdict.specs.Laws.{stream_of, snapshots_in, SidesAreStreams, SnapshotsAreShown}
use Rattle.lsp_verdict.specs.Placed.{Raw, content, broken, show, Brings, new_fault, Placed}
use Rattle.lsp_verdict.specs.Placed.{PlacedAfter, Reads, joined}
use Rattle.lsp_verdict.specs.Verdict.{is_of, is_snapshot}
use Rattle.lsp_verdict.proofs.Below.{one_stream, some_stream}
use Rattle.lsp_verdict.proofs.PlacedLemmas.{join_brings}
use Rattle.lsp_verdict.proofs.Sessions.{no_stream}

-- ---- the events of a side, before they are read

abbrev pub is_own : Side → Raw → Bool
is_own side (content by bytes) = same_side side by
is_own side (broken by rule) = same_side side by
is_own side (show number uri text) = false

-- all that a side's bytes bring is its own
pub all_own : (side by : Side) → same_side side by ≡ true → (contents : List (List ℕ))
    (f g : Option ℕ) → filter (is_own side) (map (content by) contents ++ new_fault by f g)
    ≡ map (content by) contents ++ new_fault by f g
all_own side by same [] None (Some rule) = ap (λ b. let rs : List Raw = if b then broken by rule ∷ [] else [] in rs) same
all_own side by same (bytes ∷ contents) f g =
    let rest : List Raw = map (content by) contents ++ new_fault by f g in
    ap (λ b. let rs : List Raw = if b then content by bytes ∷ filter (is_own side) rest else filter (is_own side) rest in rs) same ∙ ap (λ w. content by bytes ∷ w) (all_own side by same contents f g)
all_own side by same [] _ _ = refl

-- and nothing that the other side brings is
pub none_own : (side by : Side) → same_side side by ≡ false → (contents : List (List ℕ))
    (f g : Option ℕ) → filter (is_own side) (map (content by) contents ++ new_fault by f g) ≡ []
none_own side by other [] None (Some rule) = ap (λ b. let rs : List Raw = if b then broken by rule ∷ [] else [] in rs) other
none_own side by other (bytes ∷ contents) f g =
    let rest : List Raw = map (content by) contents ++ new_fault by f g in
    ap (λ b. let rs : List Raw = if b then content by bytes ∷ filter (is_own side) rest else filter (is_own side) rest in rs) other ∙ none_own side by other contents f g
none_own side by other [] _ _ = refl

brought_own : (limits : Bounds) (side by : Side) (before more : List ℕ) (now : List Raw) → same_side side by ≡ true → Brings limits by before more now → filter (is_own side) now ≡ now
brought_own limits side by before more now same b = ap (filter (is_own side)) b.brought ∙ all_own side by same b.new_contents b.old_fault b.last_fault ∙ sym b.brought

brought_other : (limits : Bounds) (side by : Side) (before more : List ℕ) (now : List Raw) → same_side side by ≡ false → Brings limits by before more now → filter (is_own side) now ≡ []
brought_other limits side by before more now other b = ap (filter (is_own side)) b.brought ∙ none_own side by other b.new_contents b.old_fault b.last_fault

-- ---- what a side's records bring together

no_more_fault : (side : Side) (f : Option ℕ) → new_fault side f f ≡ []
no_more_fault side None = refl
no_more_fault side (Some rule) = refl

nothing_brought : (limits : Bounds) (side : Side) (before : List ℕ) → Brings limits side before [] []
nothing_brought limits side before =
    let s = some_stream limits before in
    record {
      contents = s.0;
      rest = s.1;
      old_fault = s.2;
      stream = s.3;
      new_contents = [];
      new_rest = s.1;
      last_fault = s.2;
      new_stream = subst (λ (w : List ℕ). IsStream limits w (s.0 ++ []) s.1 s.2) (sym (append-nil before)) (subst (λ (cs : List (List ℕ)). IsStream limits before cs s.1 s.2) (sym (append-nil s.0)) s.3);
      brought = sym (no_more_fault side s.2);
    }

-- the bytes that a side has sent before
abbrev sent_by : Side → List ℕ → List ℕ → List ℕ
sent_by Editor editor server = editor
sent_by Server editor server = server

own_first : (side : Side) (raws now later : List Raw) → raws ≡ now ++ later → filter (is_own side) now ≡ now → now ++ filter (is_own side) later ≡ filter (is_own side) raws
own_first side raws now later whole own = sym (ap (filter (is_own side)) whole ∙ filter-append (is_own side) now later ∙ ap (λ w. w ++ filter (is_own side) later) own)

own_later : (side : Side) (raws now later : List Raw) → raws ≡ now ++ later → filter (is_own side) now ≡ [] → filter (is_own side) later ≡ filter (is_own side) raws
own_later side raws now later whole none = sym (ap (filter (is_own side)) whole ∙ filter-append (is_own side) now later ∙ ap (λ w. w ++ filter (is_own side) later) none)

joined_bring : (limits : Bounds) (side : Side) (editor server : List ℕ) (rs : List Record) (raws : List Raw) → PlacedAfter limits editor server rs raws → Brings limits side (sent_by side editor server) (joined side rs) (filter (is_own side) raws)
joined_bring limits side editor server [] raws p =
    subst (λ (w : List Raw). Brings limits side (sent_by side editor server) [] (filter (is_own side) w)) (sym p) (nothing_brought limits side (sent_by side editor server))
joined_bring limits Editor editor server (chunk Editor b ∷ rs) raws (now, later, whole, brings, placed) =
    subst (λ (w : List Raw). Brings limits Editor editor (b ++ joined Editor rs) w) (own_first Editor raws now later whole (brought_own limits Editor Editor editor b now refl brings))
    (join_brings limits Editor editor b (joined Editor rs) now (filter (is_own Editor) later) brings (joined_bring limits Editor (editor ++ b) server rs later placed))
joined_bring limits Server editor server (chunk Editor b ∷ rs) raws (now, later, whole, brings, placed) =
    subst (λ (w : List Raw). Brings limits Server server (joined Server rs) w) (own_later Server raws now later whole (brought_other limits Server Editor editor b now refl brings)) (joined_bring limits Server (editor ++ b) server rs later placed)
joined_bring limits Editor editor server (chunk Server b ∷ rs) raws (now, later, whole, brings, placed) =
    subst (λ (w : List Raw). Brings limits Editor editor (joined Editor rs) w) (own_later Editor raws now later whole (brought_other limits Editor Server server b now refl brings)) (joined_bring limits Editor editor (server ++ b) rs later placed)
joined_bring limits Server editor server (chunk Server b ∷ rs) raws (now, later, whole, brings, placed) =
    subst (λ (w : List Raw). Brings limits Server server (b ++ joined Server rs) w) (own_first Server raws now later whole (brought_own limits Server Server server b now refl brings))
    (join_brings limits Server server b (joined Server rs) now (filter (is_own Server) later) brings (joined_bring limits Server editor (server ++ b) rs later placed))
joined_bring limits side editor server (shown number uri text ∷ rs) raws (later, whole, placed) =
    subst (λ (w : List Raw). Brings limits side (sent_by side editor server) (joined side rs) (filter (is_own side) w)) (sym whole) (joined_bring limits side editor server rs later placed)

-- what a stream brings from its first byte on is all of it
all_brought : (limits : Bounds) → IsInRange limits → (side : Side) (bytes : List ℕ) (contents : List (List ℕ)) (rest : List ℕ) (flaw : Option ℕ) (now : List Raw) → IsStream limits bytes contents rest flaw → Brings limits side [] bytes now → now ≡ stream_of side contents flaw
all_brought limits sizes side bytes contents rest flaw now stream b =
    let none = one_stream limits [] b.contents [] b.rest [] b.old_fault None b.stream (no_stream limits sizes) in
    let all = one_stream limits bytes (b.contents ++ b.new_contents) contents b.new_rest rest b.last_fault flaw b.new_stream stream in
    let first : b.new_contents ≡ contents = ap (λ cs. cs ++ b.new_contents) (sym none.contents) ∙ all.contents in
    b.brought
    ∙ (λ i. map (content side) (first i) ++ new_fault side (none.fault i) (all.fault i))

-- ---- as they are read

pub own_read : (side : Side) (raw : Raw) (e : Event) → Reads raw e → is_of side e ≡ is_own side raw
own_read side (content by bytes) (message m) reads = ap (same_side side) reads.by
own_read side (content by bytes) (fault other rule) reads = ap (same_side side) reads.0
own_read side (content by bytes) (snapshot uri number text) reads = absurd reads
own_read side _ e reads = ap (is_of side) reads

reads_own : (side : Side) (raws : List Raw) (events : List Event) → AllZip Reads raws events → AllZip Reads (filter (is_own side) raws) (filter (is_of side) events)
reads_own side [] [] reads = tt
reads_own side (raw ∷ raws) (e ∷ events) reads = by_test (is_own side raw) (is_of side e) (own_read side raw e reads.0) (reads_own side raws events reads.1)
  where
    by_test : (b c : Bool) → c ≡ b → AllZip Reads (filter (is_own side) raws) (filter (is_of side) events)
        → AllZip Reads (if b then raw ∷ filter (is_own side) raws else filter (is_own side) raws) (if c then e ∷ filter (is_of side) events else filter (is_of side) events)
    by_test true true same rest = (reads.0, rest)
    by_test false false same rest = rest
    by_test _ _ same rest = absurd cc
reads_own side _ _ reads = absurd reads

-- those of a side's stream
pub own_is_stream : (limits : Bounds) → IsInRange limits → (side : Side) (records : List Record) (raws : List Raw) (contents : List (List ℕ)) (rest : List ℕ) (flaw : Option ℕ) → Placed limits records raws → IsStream limits (joined side records) contents rest flaw
    → filter (is_own side) raws ≡ stream_of side contents flaw
own_is_stream limits sizes side records raws contents rest flaw placed stream =
    all_brought limits sizes side (joined side records) contents rest flaw (filter (is_own side) raws) stream (by_side side (joined_bring limits side [] [] records raws placed))
  where
    by_side : (s : Side) → Brings limits s (sent_by s [] []) (joined s records) (filter (is_own s) raws) → Brings limits s [] (joined s records) (filter (is_own s) raws)
    by_side Editor b = b
    by_side Server b = b

pub sides_are_streams : SidesAreStreams
sides_are_streams limits sizes records events side contents rest flaw session stream =
    subst (λ (w : List Raw). AllZip Reads w (filter (is_of side) events)) (own_is_stream limits sizes side records session.0 contents rest flaw session.1 stream) (reads_own side session.0 events session.2)

-- ---- snapshots

abbrev snapshots_of : List Raw → List Event
snapshots_of [] = []
snapshots_of (content side bytes ∷ raws) = snapshots_of raws
snapshots_of (broken side rule ∷ raws) = snapshots_of raws
snapshots_of (show number uri text ∷ raws) = snapshot uri number (chars text) ∷ snapshots_of raws

none_shown : (side : Side) (contents : List (List ℕ)) (f g : Option ℕ) (more : List Raw) → snapshots_of ((map (content side) contents ++ new_fault side f g) ++ more) ≡ snapshots_of more
none_shown side [] None (Some rule) more = refl
none_shown side (bytes ∷ contents) f g more = none_shown side contents f g more
none_shown side [] _ _ more = refl

brought_shown : (limits : Bounds) (side : Side) (before more : List ℕ) (raws now later : List Raw) → raws ≡ now ++ later → Brings limits side before more now → snapshots_of raws ≡ snapshots_of later
brought_shown limits side before more raws now later whole b = ap snapshots_of whole ∙ ap (λ w. snapshots_of (w ++ later)) b.brought ∙ none_shown side b.new_contents b.old_fault b.last_fault later

placed_shown : (limits : Bounds) (editor server : List ℕ) (rs : List Record) (raws : List Raw) → PlacedAfter limits editor server rs raws → snapshots_of raws ≡ snapshots_in rs
placed_shown limits editor server [] raws p = ap snapshots_of p
placed_shown limits editor server (chunk Editor b ∷ rs) raws (now, later, whole, brings, placed) =
    brought_shown limits Editor editor b raws now later whole brings ∙ placed_shown limits (editor ++ b) server rs later placed
placed_shown limits editor server (chunk Server b ∷ rs) raws (now, later, whole, brings, placed) =
    brought_shown limits Server server b raws now later whole brings ∙ placed_shown limits editor (server ++ b) rs later placed
placed_shown limits editor server (shown number uri text ∷ rs) raws (later, whole, placed) =
    ap snapshots_of whole ∙ ap (λ w. snapshot uri number (chars text) ∷ w) (placed_shown limits editor server rs later placed)

reads_shown : (raws : List Raw) (events : List Event) → AllZip Reads raws events → filter is_snapshot events ≡ snapshots_of raws
reads_shown [] [] reads = refl
reads_shown (content side bytes ∷ raws) (message m ∷ events) reads = reads_shown raws events reads.1
reads_shown (content side bytes ∷ raws) (fault by rule ∷ events) reads = reads_shown raws events reads.1
reads_shown (content side bytes ∷ raws) (snapshot uri number text ∷ events) reads = absurd reads.0
reads_shown (broken side rule ∷ raws) (e ∷ events) reads = ap (λ w. filter is_snapshot (w ∷ events)) reads.0 ∙ reads_shown raws events reads.1
reads_shown (show number uri text ∷ raws) (e ∷ events) reads =
    ap (λ w. filter is_snapshot (w ∷ events)) reads.0 ∙ ap (λ w. snapshot uri number (chars text) ∷ w) (reads_shown raws events reads.1)
reads_shown _ _ reads = absurd reads

pub snapshots_are_shown : SnapshotsAreShown
snapshots_are_shown limits records events session = reads_shown session.0 events session.2 ∙ placed_shown limits [] [] records session.0 session.1

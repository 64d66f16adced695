-- How bytes are cut into records doesn't matter for the events.
use Rattle.std.proofs.Common.{◌≡◌, ℕ, List, [], ◌∷◌, ◌++◌, refl, sym, ap, subst, ◌∙◌, append_assoc, Option, Some, None}
use Rattle.std.specs.Prelude.{map}
use Rattle.std.proofs.lemmas.List.{append-nil, append_cancel_left, map-append}
use Rattle.lsp_types.specs.declared.side.Side.{Side}
use Rattle.lsp_types.specs.declared.side.Side.TheVariants.{Editor, Server}
use Rattle.lsp_frame.specs.Bounds.{Bounds}
use Rattle.lsp_frame.specs.Frame.{IsStream}
use Rattle.lsp_log.specs.Log.{Record, chunk, shown}
use Rattle.lsp_verdict.specs.Placed.{Raw, content, broken, show, Brings, new_fault, PlacedAfter}
use Rattle.lsp_verdict.specs.Placed.{Placed, joined}
use Rattle.lsp_verdict.specs.Laws.{merged, put}
use Rattle.lsp_verdict.proofs.Below.{one_stream, faulty_more}
use Rattle.lsp_verdict.proofs.Finding.{cancel_all}

-- the parts of what two pieces bring
brought_twice : (side : Side) (n1 n2 : List (List ℕ)) (f0 f1 f2 : Option ℕ) → ((rule : ℕ) → f1 ≡ Some rule → (n2 ≡ []) × (f2 ≡ f1)) → ((rule : ℕ) → f0 ≡ Some rule → f1 ≡ f0)
    → (map (content side) n1 ++ new_fault side f0 f1) ++ (map (content side) n2 ++ new_fault side f1 f2) ≡ map (content side) (n1 ++ n2) ++ new_fault side f0 f2
brought_twice side n1 n2 None None f2 stays kept =
    ap (λ w. w ++ (map (content side) n2 ++ new_fault side None f2)) (append-nil (map (content side) n1))
    ∙ sym (append_assoc (map (content side) n1) (map (content side) n2) (new_fault side None f2))
    ∙ ap (λ w. w ++ new_fault side None f2) (sym (map-append (content side) n1 n2))
brought_twice side n1 n2 None (Some rule) f2 stays kept =
    let s = stays rule refl in
    ap (λ w. (map (content side) n1 ++ broken side rule ∷ []) ++ (map (content side) w ++ new_fault side (Some rule) f2)) s.0
    ∙ ap (λ f. (map (content side) n1 ++ broken side rule ∷ []) ++ new_fault side (Some rule) f) s.1
    ∙ append-nil (map (content side) n1 ++ broken side rule ∷ [])
    ∙ ap (λ w. map (content side) w ++ broken side rule ∷ []) (sym (append-nil n1) ∙ ap (λ w. n1 ++ w) (sym s.0))
    ∙ ap (λ f. map (content side) (n1 ++ n2) ++ new_fault side None f) (sym s.1)
brought_twice side n1 n2 (Some rule) None f2 stays kept = let e : None ≡ Some rule = kept rule refl in absurd cc
brought_twice side n1 n2 (Some rule) (Some other) f2 stays kept =
    let s = stays other refl in
    ap (λ w. (map (content side) n1 ++ []) ++ (map (content side) w ++ [])) s.0
    ∙ append-nil (map (content side) n1 ++ [])
    ∙ ap (λ w. map (content side) w ++ []) (sym (append-nil n1) ∙ ap (λ w. n1 ++ w) (sym s.0))

-- behind a fault nothing comes, and the fault stays
nothing_behind : (limits : Bounds) → (bytes more : List ℕ) (us n : List (List ℕ)) (r s : List ℕ) (f g : Option ℕ) (rule : ℕ) → f ≡ Some rule
    → IsStream limits bytes us r f → IsStream limits (bytes ++ more) (us ++ n) s g → (n ≡ []) × (g ≡ f)
nothing_behind limits bytes more us n r s f g rule is a b =
    let faulty : IsStream limits bytes us r (Some rule) = subst (λ (w : Option ℕ). IsStream limits bytes us r w) is a in
    let later = faulty_more limits bytes us r rule more faulty in
    (cancel_all us n ((one_stream limits (bytes ++ more) _ _ _ _ _ _ b later).contents), (one_stream limits (bytes ++ more) _ _ _ _ _ _ b later).fault ∙ sym is)

-- two pieces, one after the other, bring what they bring as one
pub join_brings : (limits : Bounds) → (side : Side) (before x y : List ℕ) (now later : List Raw) → Brings limits side before x now → Brings limits side (before ++ x) y later → Brings limits side before (x ++ y) (now ++ later)
join_brings limits side before x y now later b c =
    let same : c.contents ≡ b.contents ++ b.new_contents = (one_stream limits (before ++ x) _ _ _ _ _ _ c.stream b.new_stream).contents in
    let fault_same : c.old_fault ≡ b.last_fault = (one_stream limits (before ++ x) _ _ _ _ _ _ c.stream b.new_stream).fault in
    let whole : IsStream limits (before ++ (x ++ y)) (b.contents ++ (b.new_contents ++ c.new_contents)) c.new_rest c.last_fault =
    subst (λ (w : List ℕ). IsStream limits w (b.contents ++ (b.new_contents ++ c.new_contents)) c.new_rest c.last_fault) (append_assoc before x y)
    (subst (λ (w : List (List ℕ)). IsStream limits ((before ++ x) ++ y) w c.new_rest c.last_fault)
    (ap (λ w. w ++ c.new_contents) same ∙ append_assoc b.contents b.new_contents c.new_contents) c.new_stream) in
    record {
      contents = b.contents;
      rest = b.rest;
      old_fault = b.old_fault;
      stream = b.stream;
      new_contents = b.new_contents ++ c.new_contents;
      new_rest = c.new_rest;
      last_fault = c.last_fault;
      new_stream = whole;
      brought =
          ap (λ w. w ++ later) b.brought
          ∙ ap (λ w. (map (content side) b.new_contents ++ new_fault side b.old_fault b.last_fault) ++ w)
          (c.brought ∙ ap (λ f. map (content side) c.new_contents ++ new_fault side f c.last_fault) fault_same)
          ∙ brought_twice side b.new_contents c.new_contents b.old_fault b.last_fault c.last_fault
          (λ rule is. nothing_behind limits (before ++ x) y (b.contents ++ b.new_contents) c.new_contents b.new_rest c.new_rest b.last_fault c.last_fault rule is b.new_stream
          (subst (λ (w : List (List ℕ)). IsStream limits ((before ++ x) ++ y) (w ++ c.new_contents) c.new_rest c.last_fault) same c.new_stream))
          (λ rule is. (nothing_behind limits before x b.contents b.new_contents b.rest b.new_rest b.old_fault b.last_fault rule is b.stream b.new_stream).1);
    }

-- a piece brings one list
pub one_brings : (limits : Bounds) → (side : Side) (before more : List ℕ) (now other : List Raw) → Brings limits side before more now → Brings limits side before more other → now ≡ other
one_brings limits side before more now other a b =
    let old : a.contents ≡ b.contents = (one_stream limits before _ _ _ _ _ _ a.stream b.stream).contents in
    let new : a.contents ++ a.new_contents ≡ b.contents ++ b.new_contents = (one_stream limits (before ++ more) _ _ _ _ _ _ a.new_stream b.new_stream).contents in
    let more_same : a.new_contents ≡ b.new_contents = append_cancel_left b.contents a.new_contents b.new_contents (ap (λ w. w ++ a.new_contents) (sym old) ∙ new) in
    let old_fault : a.old_fault ≡ b.old_fault = (one_stream limits before _ _ _ _ _ _ a.stream b.stream).fault in
    let new_faults : a.last_fault ≡ b.last_fault = (one_stream limits (before ++ more) _ _ _ _ _ _ a.new_stream b.new_stream).fault in
    a.brought
    ∙ (λ i. map (content side) (more_same i) ++ new_fault side (old_fault i) (new_faults i))
    ∙ sym b.brought

-- **Records have one list of events.**
pub one_placed : (limits : Bounds) → (editor server : List ℕ) (rs : List Record) (raws others : List Raw) → PlacedAfter limits editor server rs raws → PlacedAfter limits editor server rs others → raws ≡ others
one_placed limits editor server [] raws others p q = p ∙ sym q
one_placed limits editor server (chunk Editor b ∷ rs) raws others p q =
    p.2 ∙ ap (λ w. w ++ p.1) (one_brings limits Editor editor b p.0 q.0 p.3 q.3) ∙ ap (λ w. q.0 ++ w) (one_placed limits (editor ++ b) server rs p.1 q.1 p.4 q.4) ∙ sym q.2
one_placed limits editor server (chunk Server b ∷ rs) raws others p q =
    p.2 ∙ ap (λ w. w ++ p.1) (one_brings limits Server server b p.0 q.0 p.3 q.3) ∙ ap (λ w. q.0 ++ w) (one_placed limits editor (server ++ b) rs p.1 q.1 p.4 q.4) ∙ sym q.2
one_placed limits editor server (shown v uri t ∷ rs) raws others p q =
    p.1 ∙ ap (λ w. show v uri t ∷ w) (one_placed limits editor server rs p.0 q.0 p.2 q.2) ∙ sym q.1

-- a record in one piece with the next leaves the events
put_placed : (limits : Bounds) → (editor server : List ℕ) (r : Record) (rs : List Record) (raws : List Raw) → PlacedAfter limits editor server (r ∷ rs) raws → PlacedAfter limits editor server (put r rs) raws
put_placed limits editor server (chunk Editor b) [] raws p = p
put_placed limits editor server (chunk Editor b) (chunk Editor c ∷ rs) raws p =
    let q = p.4 in (
      p.0 ++ q.0,
      q.1,
      p.2 ∙ ap (λ w. p.0 ++ w) q.2 ∙ sym (append_assoc p.0 q.0 q.1),
      join_brings limits Editor editor b c p.0 q.0 p.3 q.3,
      subst (λ (w : List ℕ). PlacedAfter limits w server rs q.1) (append_assoc editor b c) q.4,
    )
put_placed limits editor server (chunk Server b) (chunk Server c ∷ rs) raws p =
    let q = p.4 in (
      p.0 ++ q.0,
      q.1,
      p.2 ∙ ap (λ w. p.0 ++ w) q.2 ∙ sym (append_assoc p.0 q.0 q.1),
      join_brings limits Server server b c p.0 q.0 p.3 q.3,
      subst (λ (w : List ℕ). PlacedAfter limits editor w rs q.1) (append_assoc server b c) q.4,
    )
put_placed limits editor server _ _ raws p = p

merged_placed : (limits : Bounds) → (editor server : List ℕ) (rs : List Record) (raws : List Raw) → PlacedAfter limits editor server rs raws → PlacedAfter limits editor server (merged rs) raws
merged_placed limits editor server [] raws p = p
merged_placed limits editor server (chunk Editor b ∷ rs) raws p =
    put_placed limits editor server (chunk Editor b) (merged rs) raws (p.0, p.1, p.2, p.3, merged_placed limits (editor ++ b) server rs p.1 p.4)
merged_placed limits editor server (chunk Server b ∷ rs) raws p =
    put_placed limits editor server (chunk Server b) (merged rs) raws (p.0, p.1, p.2, p.3, merged_placed limits editor (server ++ b) rs p.1 p.4)
merged_placed limits editor server (shown v uri t ∷ rs) raws p = (p.0, p.1, merged_placed limits editor server rs p.0 p.2)

-- **How bytes are cut into records doesn't matter.**
pub cuts_dont_matter : (limits : Bounds) → (rs us : List Record) (raws others : List Raw) → merged rs ≡ merged us → Placed limits rs raws → Placed limits us others → raws ≡ others
cuts_dont_matter limits rs us raws others e p q =
    one_placed limits [] [] (merged us) raws others (subst (λ (w : List Record). PlacedAfter limits [] [] w raws) e (merged_placed limits [] [] rs raws p)) (merged_placed limits [] [] us others q)

-- the next record's events come behind those before
pub placed-snoc : (limits : Bounds) (editor server : List ℕ) (rs : List Record) (r : Record) (raws now : List Raw) → PlacedAfter limits editor server rs raws
    → PlacedAfter limits (editor ++ joined Editor rs) (server ++ joined Server rs) (r ∷ []) now → PlacedAfter limits editor server (rs ++ r ∷ []) (raws ++ now)
placed-snoc limits editor server [] r raws now p q =
    subst (λ (w : List Raw). PlacedAfter limits editor server (r ∷ []) (w ++ now)) (sym p)
    (subst (λ (w : List ℕ). PlacedAfter limits w server (r ∷ []) now) (append-nil editor)
    (subst (λ (w : List ℕ). PlacedAfter limits (editor ++ []) w (r ∷ []) now) (append-nil server) q))
placed-snoc limits editor server (chunk Editor b ∷ rs) r raws now p q = (
  p.0,
  p.1 ++ now,
  ap (λ w. w ++ now) p.2 ∙ append_assoc p.0 p.1 now,
  p.3,
  placed-snoc limits (editor ++ b) server rs r p.1 now p.4 (subst (λ (w : List ℕ). PlacedAfter limits w (server ++ joined Server rs) (r ∷ []) now) (sym (append_assoc editor b (joined Editor rs))) q),
)
placed-snoc limits editor server (chunk Server b ∷ rs) r raws now p q = (
  p.0,
  p.1 ++ now,
  ap (λ w. w ++ now) p.2 ∙ append_assoc p.0 p.1 now,
  p.3,
  placed-snoc limits editor (server ++ b) rs r p.1 now p.4 (subst (λ (w : List ℕ). PlacedAfter limits (editor ++ joined Editor rs) w (r ∷ []) now) (sym (append_assoc server b (joined Server rs))) q),
)
placed-snoc limits editor server (shown v uri t ∷ rs) r raws now p q =
    (p.0 ++ now, ap (λ w. w ++ now) p.1, placed-snoc limits editor server rs r p.0 now p.2 q)

-- ---- the events that a record brings, heard one by one

pub placed_whole : (limits : Bounds) (rs : List Record) (past due : List Raw) → due ≡ [] → Placed limits rs (past ++ due) → Placed limits rs past
placed_whole limits rs past due none placed = subst (Placed limits rs) (ap (λ w. past ++ w) none ∙ append-nil past) placed

pub placed_next : (limits : Bounds) (rs : List Record) (past due later : List Raw) (raw : Raw) → due ≡ raw ∷ later → Placed limits rs (past ++ due) → Placed limits rs ((past ++ raw ∷ []) ++ later)
placed_next limits rs past due later raw e placed = subst (Placed limits rs) (ap (λ w. past ++ w) e ∙ sym (append_assoc past (raw ∷ []) later)) placed

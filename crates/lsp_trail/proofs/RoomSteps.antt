-- How much room the changes of messages take, and what is held while room is made for more.
use Rattle.std.specs.Prelude.{ℤ, int_lt, filter, if◌then◌else◌}
use Rattle.std.proofs.Common.{◌≡◌, ◌⊎◌, ◌≤◌, ◌+◌, ℕ, Bool, true, false, List, [], ◌∷◌, ◌++◌, Some}
use Rattle.std.proofs.Common.{refl, sym, ap, ◌∙◌, arith, append_assoc, inl, inr, subst}
use Rattle.std.proofs.lemmas.List.{map-append}
use Rattle.std.proofs.lemmas.List.Sums.{sum_by-cons}
use Rattle.lsp_replay.specs.Common.{Edit, edits_of}
use Rattle.lsp_trail.specs.Bases.{AddsTo, DropsFirst, HoldsMore, LeavesRoom, LetsGo}
use Rattle.lsp_trail.specs.Bases.{later, sent_in, text_in}
use Rattle.lsp_trail.specs.SentEdits.{SentEdits, are_few}
use Rattle.lsp_trail.specs.SentEdits.{sent_edits, sent_size, sent_view, sents_view, total_size}
use Rattle.lsp_trail.specs.declared.base.Base.{Base}
use Rattle.lsp_trail.specs.declared.base.SentChanges.{SentChanges}

-- ---- sizes

pub total-filter : (p : SentChanges → Bool) (sent : List SentChanges)
    → total_size (sents_view (filter p sent)) ≤ total_size (sents_view sent)
total-filter p [] = omega arith
total-filter p (s ∷ sent) = by_test (p s) (total-filter p sent)
  where
    by_test : (b : Bool) → total_size (sents_view (filter p sent)) ≤ total_size (sents_view sent)
        → total_size (sents_view (if b then s ∷ filter p sent else filter p sent))
        ≤ total_size (sents_view (s ∷ sent))
    by_test true less =
        omega (
          arith,
          less,
          sum_by-cons sent_size (sent_view s) (sents_view (filter p sent)),
          sum_by-cons sent_size (sent_view s) (sents_view sent),
        )
    by_test false less =
        omega (arith, less, sum_by-cons sent_size (sent_view s) (sents_view sent))

-- ---- room

-- ---- room is made

-- nothing was let go of yet, or some of the first messages
abbrev pub IsMaking : List Edit → Base → Base → Type 0
IsMaking edits first now = (now ≡ first) ⊎ LetsGo edits first now

-- for which the next one is let go of
pub drops_next : (edits : List Edit) (first now next : Base) → IsMaking edits first now
    → ((number : ℤ) → are_few (sent_in now ++ sent_edits number edits ∷ []) ≡ false)
    → DropsFirst now next → LetsGo edits first next
drops_next edits first now next made many drops =
    let many_so : (number : ℤ)
    → are_few (drops.first ∷ sent_in next ++ sent_edits number edits ∷ []) ≡ false =
    λ number. ap (λ (l : List SentEdits). are_few (l ++ sent_edits number edits ∷ []))
    (sym drops.all) ∙ many number in
    elim made [
      | inl same ↦ record {
        front = [];
        last = drops.first;
        all = ap sent_in (sym same) ∙ drops.all;
        many = many_so;
        since = drops.since;
        text = drops.text;
      }
      | inr gone ↦ record {
        front = gone.front ++ gone.last ∷ [];
        last = drops.first;
        all = gone.all ∙ ap (λ (l : List SentEdits). gone.front ++ gone.last ∷ l) drops.all
            ∙ sym (append_assoc gone.front (gone.last ∷ []) (drops.first ∷ sent_in next));
        many = many_so;
        since = drops.since;
        text = drops.text;
      }
    ]

-- ---- changes are added

-- behind those for which there is room
pub adds_room : (more : SentEdits) (edits : List Edit) (left : ℕ) (old now new : Base)
    → more.edits ≡ edits → LeavesRoom edits (Some left) old now → HoldsMore more now new
    → AddsTo more old new
adds_room more edits left old now new own leaves holds = record {
  few = ap are_few holds.sent ∙ few;
  how = elim leaves.how [
    | inl same ↦ inl (record {
      since = holds.since ∙ ap (λ (b : Base). b.since) same;
      text = holds.text ∙ ap text_in same;
      sent = holds.sent ∙ ap (λ (b : Base). sent_in b ++ more ∷ []) same;
    })
    | inr gone ↦ inr (record {
      front = gone.front;
      last = gone.last;
      all = ap (λ (l : List SentEdits). l ++ more ∷ []) gone.all
          ∙ append_assoc gone.front (gone.last ∷ sent_in now) (more ∷ [])
          ∙ ap (λ (l : List SentEdits). gone.front ++ gone.last ∷ l) (sym holds.sent);
      many = ap (λ (l : List SentEdits). are_few (gone.last ∷ l)) holds.sent
          ∙ ap (λ (es : List Edit). are_few (gone.last ∷ sent_in now
          ++ sent_edits more.number es ∷ [])) own
          ∙ gone.many more.number;
      since = holds.since ∙ gone.since;
      text = holds.text ∙ gone.text;
    })
  ];
}
  where
    few : are_few (sent_in now ++ more ∷ []) ≡ true
    few = ap (λ (es : List Edit). are_few (sent_in now ++ sent_edits more.number es ∷ [])) own
        ∙ (leaves.is more.number).0

-- ---- as the messages are held

pub pushed_view : (old new : List SentChanges) (s : SentChanges) (number : ℤ) (edits : List Edit)
    → new ≡ old ++ s ∷ [] → s.version ≡ number → edits_of s.changes.items ≡ edits
    → sents_view new ≡ sents_view old ++ sent_edits number edits ∷ []
pushed_view old new s number edits is own same =
    ap sents_view is ∙ map-append sent_view old (s ∷ [])
    ∙ (λ i. sents_view old ++ sent_edits (own i) (same i) ∷ [])

later_view : (n : ℤ) (sent : List SentChanges)
    → sents_view (filter (λ (s : SentChanges). int_lt n s.version) sent) ≡ later n (sents_view sent)
later_view n [] = refl
later_view n (s ∷ sent) = by_test (int_lt n s.version) (later_view n sent)
  where
    by_test : (b : Bool)
        → sents_view (filter (λ (x : SentChanges). int_lt n x.version) sent)
        ≡ later n (sents_view sent)
        → sents_view (if b then s ∷ filter (λ (x : SentChanges). int_lt n x.version) sent
        else filter (λ (x : SentChanges). int_lt n x.version) sent)
        ≡ (if b then sent_view s ∷ later n (sents_view sent) else later n (sents_view sent))
    by_test true same = ap (λ (l : List SentEdits). sent_view s ∷ l) same
    by_test false same = same

-- those after a version
pub kept_later : (m n : ℤ) (old new : List SentChanges) → m ≡ n
    → new ≡ filter (λ (s : SentChanges). int_lt m s.version) old
    → sents_view new ≡ later n (sents_view old)
kept_later m n old new same is =
    ap sents_view is ∙ later_view m old ∙ ap (λ k. later k (sents_view old)) same

pub total-kept : (p : SentChanges → Bool) (old new : List SentChanges) → new ≡ filter p old
    → total_size (sents_view new) ≤ total_size (sents_view old)
total-kept p old new is =
    subst (λ (l : List SentChanges). total_size (sents_view l) ≤ total_size (sents_view old)) (sym is)
    (total-filter p old)

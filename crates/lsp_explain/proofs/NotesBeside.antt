-- Without its notes, `explain --all --notes` says what `explain --all` does.
use Rattle.std.proofs.Common.{◌≡◌, ◌⊎◌, ◌+◌, ℕ, List, [], ◌∷◌, ◌++◌, length, inl, inr}
use Rattle.std.proofs.Common.{refl, sym, ap, ◌∙◌, append-nil, append_assoc, arith}
use Rattle.lsp_trail.specs.Common.{Completeness, Heard, IsPassed, log_terms, Rests, Terms}
use Rattle.lsp_facts.specs.Fact.{fact_lines}
use Rattle.lsp_replay.specs.Run.{EndsAfter, SaysAll, StopsIn}
use Rattle.lsp_notes.specs.AllNotes.{AreNotes, kinds, noticed_along, notes_at}
use Rattle.lsp_explain.specs.ExplainRuns.{all_run}
use Rattle.lsp_explain.specs.NotedRun.{HaveNotes, NotesAreBeside, Passage, noted_of, noted_run}
use Rattle.lsp_explain.specs.NotedRun.{noted_verdict, number_of, plain_of}
use Rattle.lsp_notes.specs.Notes.{count_line, notes_by, uncompared}
use Rattle.lsp_notes.proofs.NoteNumbers.{all_counted, none_yet, notes_added, total}
use Rattle.lsp_notes.proofs.NotesByKind.{notes_found, uncompared_notes}

-- ---- one passage more

plain_of-snoc : (ps : List Passage) (p : Passage) → plain_of (ps ++ p ∷ []) ≡ plain_of ps ++ p.0
plain_of-snoc [] p = append-nil (p.0)
plain_of-snoc (q ∷ ps) p =
    ap (λ l. q.0 ++ l) (plain_of-snoc ps p) ∙ sym (append_assoc (q.0) (plain_of ps) (p.0))

noted_of-snoc : (ps : List Passage) (p : Passage)
    → noted_of (ps ++ p ∷ []) ≡ noted_of ps ++ (p.0 ++ fact_lines p.1)
noted_of-snoc [] p = append-nil (p.0 ++ fact_lines p.1)
noted_of-snoc (q ∷ ps) p =
    let first = q.0 ++ fact_lines q.1 in
    ap (λ l. first ++ l) (noted_of-snoc ps p)
    ∙ sym (append_assoc first (noted_of ps) (p.0 ++ fact_lines p.1))

number_of-snoc : (ps : List Passage) (p : Passage)
    → number_of (ps ++ p ∷ []) ≡ number_of ps + length p.1
number_of-snoc [] p = omega arith
number_of-snoc (q ∷ ps) p = let rest = number_of-snoc ps p in omega (arith, rest)

notes_snoc : (ps : List Passage) (p : Passage) → HaveNotes ps → AreNotes p.1
    → HaveNotes (ps ++ p ∷ [])
notes_snoc [] p a b = (b, tt)
notes_snoc (q ∷ ps) p a b = (a.0, notes_snoc ps p a.1 b)

-- and what stands behind all
noted_with : (ps : List Passage) (p : Passage) (last : List ℕ)
    → noted_of ps ++ (p.0 ++ (fact_lines p.1 ++ last)) ≡ noted_of (ps ++ p ∷ []) ++ last
noted_with ps p last =
    sym (ap (λ l. l ++ last) (noted_of-snoc ps p)
    ∙ append_assoc (noted_of ps) (p.0 ++ fact_lines p.1) last
    ∙ ap (λ l. noted_of ps ++ l) (append_assoc (p.0) (fact_lines p.1) last))

zero_more : (n whole : ℕ) → n ≡ whole → 0 + n ≡ whole
zero_more n whole e = omega (arith, e)

-- ---- the events, and the log

module _ (completeness : Completeness) (terms : Terms) (rests : Rests) where
  -- how many notes the events so far have
  abbrev told : List Heard → ℕ
  told before = total (kinds (noticed_along terms before))

  plain_events : (before hs : List Heard) (out : List ℕ)
      → SaysAll (noted_run completeness) terms rests before hs out
      → (ps : List Passage) × HaveNotes ps
      × SaysAll (all_run completeness) terms rests before hs (plain_of ps) × (out ≡ noted_of ps)
      × (number_of ps + told before ≡ told (before ++ hs))
  plain_events before [] out is =
      let same = ap told (sym (append-nil before)) in
      ([], tt, refl, is, zero_more (told before) (told (before ++ [])) same)
  plain_events before (h ∷ hs) out (first, left, is, own, goes, later) =
      let rest = plain_events (before ++ h ∷ []) hs left later in
      let notes = notes_at terms before h in
      let added = notes_added terms before h in
      let all = rest.4 ∙ ap told (append_assoc before (h ∷ []) hs) in (
        (own.0, notes) ∷ rest.0,
        (notes_found terms before h, rest.1),
        (own.0, plain_of rest.0, refl, own.1, refl, rest.2),
        is ∙ (λ i. own.2 i ++ rest.3 i),
        sum (length notes) (number_of rest.0) (told before) (told (before ++ h ∷ []))
            (told (before ++ h ∷ hs)) added all,
      )
    where
      sum : (n m old new whole : ℕ) → n + old ≡ new → m + new ≡ whole → (n + m) + old ≡ whole
      sum n m old new whole a b = omega (arith, a, b)

pub notes_beside : NotesAreBeside
notes_beside completeness limits log out outcome p = by_end p.is
  where
    by_end : StopsIn (noted_run completeness) (log_terms limits p.format) p.tail.rests p.heard out
        outcome
        ⊎ EndsAfter (noted_run completeness) (log_terms limits p.format) p.tail p.heard out outcome
        → (passages : List Passage) × HaveNotes passages
        × IsPassed (all_run completeness) limits log (plain_of passages) outcome
        × (out ≡ noted_of passages ++ count_line (number_of passages))
    by_end (inl x) = absurd (cc x.stop.stops)
    by_end (inr x) =
        let terms = log_terms limits p.format in
        let verdict = noted_verdict completeness terms p.heard p.tail in
        let noticed = noticed_along terms p.heard in
        let last : Passage = (x.closes.0.0, uncompared verdict noticed.unshown) in
        let said = plain_events completeness terms p.tail.rests [] p.heard x.front x.said in
        let number : length (notes_by verdict noticed) ≡ number_of (said.0 ++ last ∷ []) =
        counted (number_of said.0) (total (kinds (noticed_along terms []))) (total (kinds noticed))
        (length last.1) (length (notes_by verdict noticed)) (number_of (said.0 ++ last ∷ []))
        said.4 (none_yet terms) (all_counted verdict noticed) (number_of-snoc said.0 last) in (
          said.0 ++ last ∷ [],
          notes_snoc said.0 last said.1 (uncompared_notes verdict noticed.unshown),
          record {
            format = p.format;
            records = p.records;
            heard = p.heard;
            tail = p.tail;
            told = p.told;
            is = inr (record {
              front = plain_of said.0;
              last = x.closes.0.0;
              is = plain_of-snoc said.0 last;
              said = said.2;
              closes = (x.closes.0.1, x.closes.1);
            });
          },
          x.is ∙ (λ i. said.3 i ++ x.closes.0.2 i)
              ∙ noted_with said.0 last (count_line (length (notes_by verdict noticed)))
              ∙ ap (λ n. noted_of (said.0 ++ last ∷ []) ++ count_line n) number,
        )
      where
        counted : (front none all more whole number : ℕ) → front + none ≡ all → none ≡ 0
            → all + more ≡ whole → number ≡ front + more → whole ≡ number
        counted front none all more whole number a b c d = omega (arith, a, b, c, d)

-- The report of all that is wrong with a log, written as it is found.
use Rattle.std.specs.Prelude.{map, filter, not, ◌||◌, if◌then◌else◌, option_map, codes, decimal}
use Rattle.std.specs.Prelude.{slice_get, take}
use Rattle.std.specs.List.{flat_map}
use Rattle.std.proofs.Common.{◌≡◌, ℕ, ◌+◌, ◌<◌, ◌≤◌, ◌^◌, length, arith, Bool, true, false, List}
use Rattle.std.proofs.Common.{[], ◌∷◌, ◌++◌, Option, Some, None, refl, sym, ap, subst, ◌∙◌}
use Rattle.std.proofs.Common.{append-nil, append_assoc}
use Rattle.std.proofs.lemmas.List.Concat.{flat_map-append}
use Rattle.lsp_survey.specs.Reported.{IsTally, closing, count_line, is_every, lines_of}
use Rattle.lsp_survey.specs.Reported.{verdict_lines}
use Rattle.lsp_survey.specs.declared.offence_count.OffenceCount.{OffenceCount}
use Rattle.lsp_replay.specs.Common.{all_report, bad_lines, Causes, Every, first_verdict, Listing}
use Rattle.lsp_replay.specs.Common.{Offence, offence_lines, offence_view, report, Summary}
use Rattle.lsp_verdict.specs.Report.{line}
use Rattle.lsp_verdict.specs.Survey.{found_line}
use Rattle.lsp_verdict.specs.Survey.{shown_of}
use Rattle.lsp_verdict.specs.Verdict.{Verdict}
use Rattle.lsp_verdict.specs.declared.offence.Offence as code
use Rattle.lsp_verdict.proofs.Finding.{map_one}
use Rattle.lsp_verdict.proofs.ExactCounts.{capped_is}

-- ---- lines

filter_append : (xs ys : List Offence)
    → filter (λ (o : Offence). not o.follows) (xs ++ ys)
    ≡ filter (λ (o : Offence). not o.follows) xs ++ filter (λ (o : Offence). not o.follows) ys
filter_append [] ys = refl
filter_append (x ∷ xs) ys = by_test x.follows (filter_append xs ys)
  where
    by_test : (b : Bool) → filter (λ (o : Offence). not o.follows) (xs ++ ys)
        ≡ filter (λ (o : Offence). not o.follows) xs ++ filter (λ (o : Offence). not o.follows) ys
        → (if not b then x ∷ filter (λ (o : Offence). not o.follows) (xs ++ ys) else filter
        (λ (o : Offence). not o.follows) (xs ++ ys))
        ≡ (if not b then x ∷ filter (λ (o : Offence). not o.follows) xs else filter
        (λ (o : Offence). not o.follows) xs) ++ filter (λ (o : Offence). not o.follows) ys
    by_test true h = h
    by_test false h = ap (λ (l : List Offence). x ∷ l) h

pub lines_append : (listing : Listing) (xs ys : List Offence)
    → lines_of listing (xs ++ ys) ≡ lines_of listing xs ++ lines_of listing ys
lines_append Every xs ys = flat_map-append offence_lines xs ys
lines_append Causes xs ys =
    ap (flat_map offence_lines) (filter_append xs ys)
    ∙ flat_map-append offence_lines (filter (λ (o : Offence). not o.follows) xs)
    (filter (λ (o : Offence). not o.follows) ys)

pub lines_none : (listing : Listing) → [] ≡ lines_of listing []
lines_none Every = refl
lines_none Causes = refl

pub report_is : (listing : Listing) (found : List Offence) (bad : Option Verdict) (s : Summary)
    → all_report (is_every listing) found bad s ≡ lines_of listing found ++ closing found bad s
report_is Every [] bad s = refl
report_is Causes [] bad s = refl
report_is Every (o ∷ found) bad s =
    append_assoc (flat_map offence_lines (o ∷ found)) (bad_lines bad) (found_line (o ∷ found))
report_is Causes (o ∷ found) bad s =
    append_assoc (flat_map offence_lines (shown_of false (o ∷ found))) (bad_lines bad)
    (found_line (o ∷ found))

-- what is said at the end, its first lines and its last
pub closing_is : (found : List Offence) (bad : Option Verdict) (s : Summary)
    → verdict_lines found bad s ++ count_line found ≡ closing found bad s
closing_is [] bad s = append-nil (report (first_verdict [] bad s))
closing_is (o ∷ found) bad s = refl

-- an offence is listed, or not
pub not_listed : (listing : Listing) (o : Offence) → (is_every listing || not o.follows) ≡ false
    → [] ≡ lines_of listing (o ∷ [])
not_listed Every o is = absurd (cc is)
not_listed Causes o is =
    ap (λ b. flat_map offence_lines (if b then o ∷ [] else [])) (sym is)

pub is_listed : (listing : Listing) (o : Offence) → (is_every listing || not o.follows) ≡ true
    → offence_lines o ≡ lines_of listing (o ∷ [])
is_listed Every o is = sym (append-nil (offence_lines o))
is_listed Causes o is =
    sym (append-nil (offence_lines o))
    ∙ ap (λ b. flat_map offence_lines (if b then o ∷ [] else [])) (sym is)

-- ---- a log

filter_few : (xs : List Offence) → length (filter (λ (o : Offence). o.follows) xs) ≤ length xs
filter_few [] = omega arith
filter_few (x ∷ xs) = by_test x.follows (filter_few xs)
  where
    by_test : (b : Bool) → length (filter (λ (o : Offence). o.follows) xs) ≤ length xs
        → length (if b then x ∷ filter (λ (o : Offence). o.follows) xs else filter
        (λ (o : Offence). o.follows) xs) ≤ length (x ∷ xs)
    by_test true h = omega (arith, h)
    by_test false h = omega (arith, h)

-- where something was found, those of the fault of the log come first
pub some_said : (t : OffenceCount) (found : List Offence) (first : code.Offence)
    (bad : Option Verdict) (s : Summary) (v : Verdict) → t.first ≡ Some first → IsTally t found
    → v ≡ (offence_view first).no
    → (bad_lines bad ≡ verdict_lines found bad s) × (v ≡ first_verdict found bad s)
some_said t [] first bad s v is tally v_is =
    let none : Some (offence_view first) ≡ None =
    ap (option_map offence_view) (sym is) ∙ tally.first in absurd cc
some_said t (o ∷ found) first bad s v is tally v_is =
    let same : Some (offence_view first) ≡ Some o =
    ap (option_map offence_view) (sym is) ∙ tally.first in
    let here : offence_view first ≡ o = cc same in (
      refl,
      v_is ∙ ap (λ (x : Offence). x.no) here,
    )

-- the last line says how many
pub count_some : (t : OffenceCount) (found : List Offence) → IsTally t found → length found < 2 ^ 64
    → (t.found ≡ 0 → ⊥)
    → line (codes "offences" ∷ decimal t.found ∷ codes "following" ∷ decimal t.following ∷ [])
    ≡ count_line found
count_some t [] tally few some = absurd (some (tally.all ∙ capped_is 0 few))
count_some t (o ∷ found) tally few some =
    let all = tally.all ∙ capped_is (length (o ∷ found)) few in
    let following = tally.following
    ∙ capped_is (length (filter (λ (x : Offence). x.follows) (o ∷ found)))
    (omega (arith, few, filter_few (o ∷ found))) in
    ap (λ n. line (codes "offences" ∷ decimal n ∷ codes "following" ∷ decimal t.following ∷ []))
    all
    ∙ ap (λ n. line (codes "offences" ∷ decimal (length (o ∷ found)) ∷ codes
    "following" ∷ decimal n ∷ [])) following

-- ---- offences one after another

pub first_none : (xs ys : List Offence) → xs ++ ys ≡ [] → xs ≡ []
first_none [] ys e = refl
first_none (x ∷ xs) ys e = absurd cc

pub tally_more : (t : OffenceCount) (xs : List code.Offence) (i : ℕ) (x : code.Offence)
    (found : List Offence) → slice_get xs i ≡ Some x
    → IsTally t ((found ++ map offence_view (take i xs)) ++ offence_view x ∷ [])
    → IsTally t (found ++ map offence_view (take (i + 1) xs))
tally_more t xs i x found at tally =
    subst (IsTally t) (append_assoc found (map offence_view (take i xs)) (offence_view x ∷ [])
    ∙ ap (λ l. found ++ l) (sym (map_one offence_view xs i x at))) tally

-- the lines of one offence more
pub lines_more : (listing : Listing) (xs : List code.Offence) (i : ℕ) (x : code.Offence)
    (old mid new : List ℕ) → slice_get xs i ≡ Some x
    → mid ≡ old ++ lines_of listing (map offence_view (take i xs))
    → new ≡ mid ++ lines_of listing (offence_view x ∷ [])
    → new ≡ old ++ lines_of listing (map offence_view (take (i + 1) xs))
lines_more listing xs i x old mid new at said more =
    more ∙ ap (λ w. w ++ lines_of listing (offence_view x ∷ [])) said
    ∙ append_assoc old (lines_of listing (map offence_view (take i xs)))
    (lines_of listing (offence_view x ∷ []))
    ∙ ap (λ w. old ++ w)
    (sym (lines_append listing (map offence_view (take i xs)) (offence_view x ∷ [])))
    ∙ ap (λ l. old ++ lines_of listing l) (sym (map_one offence_view xs i x at))

-- The open documents, listed in a walk over their URIs.
use Rattle.std.proofs.Common.{◌≡◌, ◌+◌, ℕ, zero, suc, List, [], ◌∷◌, ◌++◌, map, drop, take}
use Rattle.std.proofs.Common.{Some, None, refl, sym, ap, ◌∙◌, append-nil, arith}
use Rattle.std.specs.Prelude.{slice_get}
use Rattle.std.proofs.lemmas.List.{take-append-drop}
use Rattle.std.proofs.lemmas.Option.{none-some, same_Some}
use Rattle.lsp_docs.specs.Calls.{Bytes, Call}
use Rattle.lsp_docs.specs.Documents.{Version, Held, held, documents}
use Rattle.lsp_docs.specs.State.{State, Stands}
use Rattle.lsp_text.proofs.Positions.{slice_get-drop}
use Rattle.lsp_docs.proofs.Standing.{documents-held}
use Rattle.lsp_verdict.proofs.Finding.{pushed_one}
use Rattle.lsp_verdict.specs.Given.{document_view}
use Rattle.lsp_verdict.specs.Verdict.{document_of}
use Rattle.lsp_verdict.specs.declared.verdict.OpenDocument.{OpenDocument}

abbrev uri_of : Held → Bytes
uri_of h = h.uri

-- so many documents are listed, and these URIs are left
abbrev pub AreListed : State → List Call → List OpenDocument → List Bytes → Type 0
AreListed s calls found uris = (n : ℕ) × ((uris ≡ map uri_of (drop n (documents s.terms calls)))
    × (map document_view found ≡ map document_of (take n (documents s.terms calls))))

drop-suc : {A : Type 0} (n : ℕ) (xs rest : List A) (x : A) → drop n xs ≡ x ∷ rest
    → drop (suc n) xs ≡ rest
drop-suc (suc n) (y ∷ xs) rest x is = drop-suc n xs rest x is
drop-suc _ _ rest x is = ap (drop 1) is

drop-next : {A : Type 0} (n : ℕ) (xs rest : List A) (x : A) → drop n xs ≡ x ∷ rest
    → drop (n + 1) xs ≡ rest
drop-next n xs rest x is =
    let more : n + 1 ≡ suc n = omega arith in
    ap (λ k. drop k xs) more ∙ drop-suc n xs rest x is

-- one more is listed
pub listed_next : (s : State) (calls : List Call) (found new : List OpenDocument)
    (uris after : List Bytes) (d : OpenDocument) (uri : Bytes) → Stands s calls
    → AreListed s calls found uris → Some uri ≡ slice_get uris 0 → after ≡ drop 1 uris
    → new ≡ found ++ d ∷ []
    → ((version : Version) → held s.terms uri calls ≡ Some version
    → document_view d ≡ document_of (record { uri = uri; version = version }))
    → AreListed s calls new after
listed_next s calls found new uris after d uri stands listed next passed more made =
    by_rest (drop n docs) refl
  where
    docs : List Held
    docs = documents s.terms calls

    n : ℕ
    n = listed.0

    by_rest : (left : List Held) → drop n docs ≡ left → AreListed s calls new after
    by_rest [] is =
        absurd (none-some uri (sym (next ∙ ap (λ l. slice_get l 0)
        (listed.1.0 ∙ ap (map uri_of) is))))
    by_rest (h ∷ rest) is =
        let here = slice_get-drop docs n h rest is in
        let left : uris ≡ h.uri ∷ map uri_of rest = listed.1.0 ∙ ap (map uri_of) is in
        let same : uri ≡ h.uri = same_Some uri h.uri (next ∙ ap (λ l. slice_get l 0) left) in
        let holds : held s.terms uri calls ≡ Some h.version =
        ap (λ u. held s.terms u calls) same
        ∙ documents-held s.terms calls n h stands.accepted here in
        let view : document_view d ≡ document_of h =
        made h.version holds ∙ ap (λ u. document_of (record {
          uri = u;
          version = h.version;
        })) same in (
          n + 1,
          (
            passed ∙ (ap (drop 1) left ∙ ap (map uri_of) (sym (drop-next n docs rest h is))),
            pushed_one document_view document_of found new docs n d h more listed.1.1 here view,
          ),
        )

-- all are listed
pub listed_all : (s : State) (calls : List Call) (found : List OpenDocument) (uris : List Bytes)
    → AreListed s calls found uris → None ≡ slice_get uris 0
    → map document_view found ≡ map document_of (documents s.terms calls)
listed_all s calls found uris listed none =
    listed.1.1 ∙ ap (map document_of) (by_rest (drop listed.0 docs) refl)
  where
    docs : List Held
    docs = documents s.terms calls

    by_rest : (left : List Held) → drop listed.0 docs ≡ left → take listed.0 docs ≡ docs
    by_rest [] is =
        sym (append-nil (take listed.0 docs))
        ∙ (ap (λ l. take listed.0 docs ++ l) (sym is) ∙ take-append-drop listed.0 docs)
    by_rest (h ∷ rest) is =
        absurd (none-some h.uri (none ∙ ap (λ l. slice_get l 0) (listed.1.0 ∙ ap (map uri_of) is)))

-- What messages have for documents, as they are read from their contents.
use Rattle.std.specs.Borrow.{Bor}
use Rattle.std.specs.Prelude.{if◌then◌else◌, is_some, option_and_then, option_map, option_to_list}
use Rattle.std.specs.Prelude.{codes, drop, map, slice_get}
use Rattle.std.proofs.Common.{◌≡◌, ℕ, Bool, true, false, List, [], ◌∷◌, ◌++◌, Option, Some, None}
use Rattle.std.proofs.Common.{refl, sym, ap, ◌∙◌, append_assoc}
use Rattle.std.specs.List.{cons_option, filter_map}
use Rattle.serde_json.specs.Data.{Data}
use Rattle.lsp_trail.specs.Common.{EventPlace, id_view, member, message_view, outline, Reply}
use Rattle.lsp_trail.specs.Common.{response}
use Rattle.lsp_rpc.specs.declared.message.Answer.{Answer}
use Rattle.lsp_rpc.specs.declared.message.Answer.TheVariants as answers
use Rattle.lsp_rpc.specs.declared.message.Id.{Id}
use Rattle.lsp_rpc.specs.declared.message.Message.TheVariants as lents
use Rattle.lsp_notes.specs.ServerEdits.{edited_for, edited_in, edited_view, in_edit}
use Rattle.lsp_notes.specs.ServerEdits.{in_request, is_apply_edit}
use Rattle.lsp_notes.specs.declared.edited.Edited as seen

-- ---- requests

pub no_edits_asked : (uris : List (List ℕ)) (p : EventPlace) (method : List ℕ)
    (params : Option Data) → is_apply_edit method ≡ false
    → [] ≡ in_request uris p method params
no_edits_asked uris p method params is =
    sym (ap (λ (b : Bool). if b
    then in_edit uris p (option_and_then (member (codes "edit")) params) else []) is)

pub edits_asked_for : (uris : List (List ℕ)) (p : EventPlace) (method : List ℕ)
    (params : Option Data) → is_apply_edit method ≡ true
    → in_edit uris p (option_and_then (member (codes "edit")) params)
    ≡ in_request uris p method params
edits_asked_for uris p method params is =
    sym (ap (λ (b : Bool). if b
    then in_edit uris p (option_and_then (member (codes "edit")) params) else []) is)

-- ---- answers

-- a response apart from what it answers
pub responds : (id : Option Id) (a : Answer)
    → (reply : Reply) × (outline (message_view (lents.Response id a))
    ≡ response (option_map id_view id) reply)
responds id (answers.Result value) = (_, refl)
responds id (answers.Error code) = (_, refl)

-- ---- workspace edits

-- one more document
pub edited_more : (uris : List (List ℕ)) (uri : List ℕ) (since : EventPlace) (d : Data)
    (found new : List seen.Edited) (whole : List _)
    → map edited_view new ≡ map edited_view found ++ option_to_list (edited_for since d uri)
    → whole ≡ map edited_view found ++ edited_in (uri ∷ uris) since d
    → whole ≡ map edited_view new ++ edited_in uris since d
edited_more uris uri since d found new whole more is =
    is
    ∙ ap (λ l. map edited_view found ++ l) (split (edited_for since d uri))
    ∙ sym (append_assoc (map edited_view found) (option_to_list (edited_for since d uri))
    (edited_in uris since d))
    ∙ ap (λ l. l ++ edited_in uris since d) (sym more)
  where
    split : (o : Option _) → cons_option o (edited_in uris since d)
        ≡ option_to_list o ++ edited_in uris since d
    split None = refl
    split (Some e) = refl

-- the next of the documents
pub next_uri : (uris rest : List (List ℕ)) (uri : List ℕ) → Some uri ≡ slice_get uris 0
    → rest ≡ drop 1 uris → uris ≡ uri ∷ rest
next_uri [] rest uri has is = absurd (cc has)
next_uri (u ∷ uris) rest uri has is =
    let same : uri ≡ u = cc has in
    λ i. sym same i ∷ sym is i

-- there is none
pub none_left : (uris : List (List ℕ)) → None ≡ slice_get uris 0 → uris ≡ []
none_left [] has = refl
none_left (u ∷ uris) has = absurd (cc has)

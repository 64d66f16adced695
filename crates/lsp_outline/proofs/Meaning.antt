-- What a message means, of what its params were read to mean.
use Rattle.std.proofs.Common.{◌≡◌, Option, Some, None, option_map, option_and_then, codes}
use Rattle.std.proofs.Common.{refl, sym, ap, subst, ◌∙◌}
use Rattle.serde_json.specs.Data.{Data, Members, object}
use Rattle.serde_json.specs.Find.{as_str}
use Rattle.lsp_rpc.specs.Act.{Text, Act, did_close, did_save}
use Rattle.lsp_rpc.specs.Message.{Message, request, notification, response, result, error}
use Rattle.lsp_rpc.specs.Methods.{meaning, IsMethod}
use Rattle.lsp_rpc.specs.Outline.{outline}
use Rattle.lsp_rpc.specs.Params.{required, allowed, both, array_of, change_at, uri_at}
use Rattle.lsp_rpc.specs.Params.{act_at, act_by, requests, notifications}
use Rattle.lsp_rpc.specs.Shape.{member, unless_null}
use Rattle.lsp_rpc.specs.declared.methods.Method.{Method}
use Rattle.lsp_rpc.specs.declared.methods.Method.TheVariants as methods
use Rattle.lsp_outline.specs.Outlined.{HasParams}
use Rattle.lsp_outline.specs.Told.{Notice, document_of, act_in}
use Rattle.lsp_types.specs.declared.side.Side.{Side}

-- ---- notifications on documents

-- what is read of their params, as these are
abbrev pub notice_of : Data → Notice
notice_of d = record {
  document = option_map document_of (member (codes "textDocument") d);
  changes = required (codes "contentChanges") (array_of change_at) d;
  text = allowed (codes "text") as_str d;
}

mapped : {A B C : Type 0} (f : B → Option C) (g : A → B) (o : Option A)
    → option_and_then f (option_map g o) ≡ option_and_then (λ a. f (g a)) o
mapped f g None = refl
mapped f g (Some a) = refl

closed_at : (o : Option Data)
    → option_and_then (λ d. option_map did_close d.uri) (option_map document_of o)
    ≡ option_map did_close (option_and_then uri_at o)
closed_at None = refl
closed_at (Some d) = refl

saved_at : (o : Option Data) (text : Option (Option Text))
    → option_and_then (λ d. both did_save d.uri text) (option_map document_of o)
    ≡ both did_save (option_and_then uri_at o) text
saved_at None text = refl
saved_at (Some d) text = refl

-- what was read of the params means what they mean
pub notice_meant : (method : Method) (d : Data) (act : Act) → act_in method (notice_of d) ≡ Some act
    → meaning method (Some d) ≡ Some act
notice_meant methods.DidOpen d act h =
    sym (mapped _ document_of (member (codes "textDocument") d)) ∙ h
notice_meant methods.DidChange d act h =
    sym (mapped _ document_of (member (codes "textDocument") d)) ∙ h
notice_meant methods.DidClose d act h = sym (closed_at (member (codes "textDocument") d)) ∙ h
notice_meant methods.DidSave d act h = sym (saved_at (member (codes "textDocument") d) _) ∙ h
notice_meant _ d act h = absurd (cc)

-- ---- messages

-- a message means what its method means with its params
pub means_by : (side : Side) (method : Method) (params : Option Data) (m whole : Message)
    → m ≡ outline whole → IsMethod side m method → HasParams whole params
    → act_at side whole ≡ meaning method (option_and_then unless_null params)
means_by side method params m (request id name own) is by has =
    let same : IsMethod side (outline (request id name own)) method =
    subst (λ (x : Message). IsMethod side x method) is by in
    ap (act_by (requests side) name) has ∙ same (option_and_then unless_null params)
means_by side method params m (notification name own) is by has =
    let same : IsMethod side (outline (notification name own)) method =
    subst (λ (x : Message). IsMethod side x method) is by in
    ap (act_by (notifications side) name) has ∙ same (option_and_then unless_null params)
means_by side method params m (response id (result value)) is by has =
    let same : IsMethod side (outline (response id (result value))) method =
    subst (λ (x : Message). IsMethod side x method) is by in
    same (option_and_then unless_null params)
means_by side method params m (response id (error code)) is by has =
    let same : IsMethod side (outline (response id (error code))) method =
    subst (λ (x : Message). IsMethod side x method) is by in
    same (option_and_then unless_null params)

-- one text has one object
pub one_object : (a b : Members) (read : Option Data) → read ≡ Some (object a)
    → read ≡ Some (object b) → a ≡ b
one_object a b read h k =
    let same : Some (object a) ≡ Some (object b) = sym h ∙ k in cc

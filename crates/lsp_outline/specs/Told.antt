-- What the params of a call, read member by member, have told so far.
use Rattle.std.specs.Prelude.{ℤ, List, Option, Some, None, option_map}
use Rattle.std.specs.Prelude.{option_and_then, string_bytes}
use Rattle.serde_json.specs.Data.{Data}
use Rattle.lsp_rpc.specs.Act.{Text, Act, Change, did_open, did_change, did_close, did_save}
use Rattle.lsp_rpc.specs.Methods.{meaning}
use Rattle.lsp_rpc.specs.Params.{both, all_three, uri_at, version_at, text_at}
use Rattle.lsp_rpc.specs.Shape.{unless_null}
use Rattle.lsp_rpc.specs.View.{act_view, changes_view}
use Rattle.lsp_rpc.specs.declared.methods.Method.{Method}
use Rattle.lsp_rpc.specs.declared.methods.Method.TheVariants as methods
use Rattle.lsp_outline.specs.declared.params.DocumentParts.{DocumentParts}
use Rattle.lsp_outline.specs.declared.params.ParamsParts.{ParamsParts}
use Rattle.lsp_outline.specs.declared.params.Told.{Told}

-- what is read of a document; `None` where it is missing
pub record Document : Type 0 where
  pub uri : Option Text
  pub version : Option ℤ
  pub text : Option Text

abbrev pub document_of : Data → Document
document_of d = record { uri = uri_at d; version = version_at d; text = text_at d }

abbrev pub document_view : DocumentParts → Document
document_view parts = record {
  uri = option_map (λ s. string_bytes s) parts.uri;
  version = parts.version;
  text = option_map (λ s. string_bytes s) parts.text;
}

-- what is read of the params of a notification on a document; `None` where it is missing, and a
-- `text` that is null is none
pub record Notice : Type 0 where
  pub document : Option Document
  pub changes : Option (List Change)
  pub text : Option (Option Text)

abbrev pub notice_view : ParamsParts → Notice
notice_view parts = record {
  document = option_map document_view parts.document;
  changes = option_map (λ v. changes_view v.items) parts.changes;
  text = Some (option_map (λ s. string_bytes s) parts.text);
}

-- what a notification on a document means; other methods are not read so
abbrev pub act_in : Method → Notice → Option Act
act_in methods.DidOpen told =
    option_and_then (λ d. all_three did_open d.uri d.version d.text) told.document
act_in methods.DidChange told =
    option_and_then (λ d. all_three did_change d.uri d.version told.changes) told.document
act_in methods.DidClose told = option_and_then (λ d. option_map did_close d.uri) told.document
act_in methods.DidSave told = option_and_then (λ d. both did_save d.uri told.text) told.document
act_in _ told = None

-- what the params mean by the method by which they were read, if they were
abbrev pub meant_by : Option Told → Option Data → Option Act
meant_by None params = None
meant_by (Some told) params = meaning told.method (option_and_then unless_null params)

abbrev pub act_told : Option Told → Option Act
act_told told = option_map (λ t. act_view t.act) told

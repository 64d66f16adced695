-- A log has one normal form.
use Rattle.std.specs.Option.{option_or}
use Rattle.std.proofs.Common.{◌≡◌, ℕ, List, [], ◌++◌, Option, Some, refl, sym, ap, ◌∙◌}
use Rattle.std.proofs.Common.{append_assoc}
use Rattle.lsp_replay.specs.Common.{as_given, bad_log_of, Bounds, Ending, ending, Format}
use Rattle.lsp_replay.specs.Common.{format_or_one, HasGiven, IsInRange, joined}
use Rattle.lsp_types.specs.declared.side.Side.TheVariants.{Editor, Server}
use Rattle.lsp_log.specs.Log.{Record}
use Rattle.lsp_extract.specs.Normal.{form_of, no_at, first_broken, fault_of, rest_of, IsNormal}
use Rattle.lsp_extract.specs.Normal.{BeginsNormal, SomeNormalForm, OneNormalForm}
use Rattle.lsp_verdict.specs.Placed.{Raw}
use Rattle.lsp_verdict.specs.Verdict.{Verdict}
use Rattle.lsp_verdict.proofs.Below.{one_log, some_log, some_stream}
use Rattle.lsp_verdict.proofs.LookBackLemmas.{first_of-more}
use Rattle.lsp_extract.proofs.Forming.Counts.{broken_exact}
use Rattle.lsp_extract.proofs.Forming.Forms.{form_begins, form_stops}
use Rattle.lsp_verdict.proofs.Outcomes.{one_rest}
use Rattle.lsp_extract.proofs.Seeking.Laws.{same_raws}
use Rattle.lsp_verdict.proofs.Sessions.{some_placed}

broken_is : (raws : List Raw) (end : Ending) (v : Verdict) → first_broken raws ≡ Some v
    → fault_of raws end ≡ Some v
broken_is raws end v breaks =
    ap (λ (o : Option Verdict).
    option_or o (option_or (bad_log_of end.log_fault)
    (rest_of raws end.editor_rest end.server_rest))) breaks

-- ---- each log has a normal form

pub some_normal_form : SomeNormalForm
some_normal_form limits log =
    let whole = some_log limits log in
    let placed = some_placed limits [] [] whole.1 in
    let editor = some_stream limits (joined Editor whole.1) in
    let server = some_stream limits (joined Server whole.1) in (
      form_of (format_or_one whole.0) limits.chunk placed.0,
      fault_of placed.0 (ending whole.2 editor.1 server.1),
      record {
        format = whole.0;
        records = whole.1;
        log_fault = whole.2;
        raws = placed.0;
        editor = editor.1;
        server = server.1;
        is_log = whole.3;
        placed = placed.1;
        editor_rest = (editor.0, editor.2, editor.3);
        server_rest = (server.0, server.2, server.3);
        ends = refl;
        written = refl;
      },
    )

-- ---- the first events of a log

module _ (limits : Bounds) (sizes : IsInRange limits) (log : List ℕ) (format : Option Format)
    (rs : List Record) (given : List Raw) (has : HasGiven limits format rs given log) where
  all : List Raw
  all = given ++ has.later

  -- a fault of the frames among them ends the normal form, whatever follows
  pub broken_normal : (v : Verdict) → first_broken given ≡ Some v
      → IsNormal limits log (form_of (format_or_one format) limits.chunk given) (Some v)
      × (as_given v ≡ v)
  unfolding all
  broken_normal v breaks =
      let decides : first_broken all ≡ Some v = first_of-more no_at given has.later v breaks in
      let editor = some_stream limits (joined Editor has.records) in
      let server = some_stream limits (joined Server has.records) in (
        record {
          format = format;
          records = has.records;
          log_fault = has.log_fault;
          raws = all;
          editor = editor.1;
          server = server.1;
          is_log = has.is_log;
          placed = has.placed;
          editor_rest = (editor.0, editor.2, editor.3);
          server_rest = (server.0, server.2, server.3);
          ends = broken_is all (ending has.log_fault editor.1 server.1) v decides;
          written = sym (form_stops (format_or_one format) limits.chunk given has.later v breaks);
        },
        broken_exact limits sizes log format has.records has.log_fault all v has.is_log has.placed
            decides,
      )

  -- what is written for them stands first in the normal form
  pub due_first : (front back : List ℕ)
      → form_of (format_or_one format) limits.chunk given ≡ front ++ back
      → BeginsNormal limits log front
  due_first front back whole out fault normal =
      let same = one_log limits sizes log normal.format format normal.records has.records
      normal.log_fault has.log_fault normal.is_log has.is_log in
      let raws : normal.raws ≡ given ++ has.later =
      same_raws limits normal.records has.records normal.raws (given ++ has.later) same.1
      normal.placed has.placed in
      let begins = form_begins (format_or_one format) limits.chunk given has.later in (
        back ++ begins.0,
        normal.written
            ∙ (λ i. form_of (format_or_one (same.0 i)) limits.chunk (raws i)) ∙ begins.1
            ∙ ap (λ (w : List ℕ). w ++ begins.0) whole
            ∙ append_assoc front back begins.0,
      )

-- ---- and one only

pub one_normal_form : OneNormalForm
one_normal_form limits sizes log out other f g a b =
    let same = one_log limits sizes log a.format b.format a.records b.records a.log_fault
    b.log_fault a.is_log b.is_log in
    let raws : a.raws ≡ b.raws =
    same_raws limits a.records b.records a.raws b.raws same.1 a.placed b.placed in
    let editor : a.editor ≡ b.editor =
    one_rest limits (joined Editor a.records) (joined Editor b.records) a.editor b.editor
    (ap (joined Editor) same.1) a.editor_rest b.editor_rest in
    let server : a.server ≡ b.server =
    one_rest limits (joined Server a.records) (joined Server b.records) a.server b.server
    (ap (joined Server) same.1) a.server_rest b.server_rest in (
      a.written ∙ (λ i. form_of (format_or_one (same.0 i)) limits.chunk (raws i)) ∙ sym b.written,
      sym a.ends ∙ (λ i. fault_of (raws i) (ending (same.2 i) (editor i) (server i))) ∙ b.ends,
    )

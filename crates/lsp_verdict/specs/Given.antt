-- The verdicts, events and counts of the code, in the words of the definitions.
use Rattle.std.specs.Prelude.{List, map, string_bytes, ◌≡◌, length}
use Rattle.lsp_types.specs.declared.side.Side.{Side}
use Rattle.lsp_session.specs.Entry.{Entry, request_view}
use Rattle.lsp_session.specs.declared.pending.OpenRequest.{OpenRequest}
use Rattle.lsp_docs.specs.State.{capped}
use Rattle.lsp_verdict.specs.Offences as offences
use Rattle.lsp_verdict.specs.declared.offence.Offence.{Offence}
use Rattle.lsp_verdict.specs.declared.verdict.OpenDocument.{OpenDocument}
use Rattle.lsp_verdict.specs.declared.verdict.Summary as code
use Rattle.lsp_verdict.specs.declared.verdict.Verdict as verdict
use Rattle.lsp_verdict.specs.declared.verdict.Verdict.TheVariants as verdicts
use Rattle.lsp_verdict.specs.Verdict.{Document, Summary, Verdict, yes, no, bad_log, who_of}
use Rattle.lsp_verdict.specs.Verdict.{belongs_to, count_of}
use Rattle.lsp_verdict.specs.Placed.{Raw, content, broken, show}
use Rattle.lsp_verdict.specs.declared.raw.Raw as lent
use Rattle.lsp_verdict.specs.declared.raw.Raw.TheVariants as raws
use Rattle.lsp_verdict.specs.declared.verdict.Who.{Who}
use Rattle.lsp_verdict.specs.declared.verdict.Who.TheVariants.{Snapshot}
use Rattle.lsp_verdict.specs.declared.counts.Counts.{Counts}
use Rattle.lsp_verdict.specs.declared.verdict.Who.TheVariants as who
use Rattle.lsp_verdict.specs.Event.{Event}

-- ---- verdicts and offences

abbrev pub document_view : OpenDocument → Document
document_view d = record { uri = string_bytes d.uri; number = d.version; bytes = d.bytes }

abbrev pub requests_view : List (Side × OpenRequest) → List (Side × Entry)
requests_view requests = map (λ r. (r.0, request_view r.1)) requests

abbrev pub summary_view : code.Summary → Summary
summary_view s = record {
  editor = s.editor;
  server = s.server;
  snapshots = s.snapshots;
  unmatched = s.unmatched;
  encoding = s.encoding;
  sync = s.sync;
  documents = map document_view s.documents.items;
  requests = requests_view s.requests.items;
}

abbrev pub verdict_view : verdict.Verdict → Verdict
verdict_view (verdicts.Yes s) = yes (summary_view s)
verdict_view (verdicts.No rule who count event) = no rule who count event
verdict_view (verdicts.BadLog at fault) = bad_log at fault

-- a verdict with its counts as the code gives them
abbrev pub as_given : Verdict → Verdict
as_given (yes s) = yes (record s { editor = capped s.editor; server = capped s.server; snapshots = capped s.snapshots; unmatched = capped s.unmatched })
as_given (no rule who count event) = no rule who (capped count) (capped event)
as_given (bad_log at fault) = bad_log (capped at) fault

abbrev pub offence_view : Offence → offences.Offence
offence_view o = record { no = no o.rule o.who o.number o.event; follows = o.follows }

-- an offence with its counts as the code gives them
abbrev pub given_offence : offences.Offence → offences.Offence
given_offence o = record { no = as_given o.no; follows = o.follows }

-- ---- events that are lent before their contents are read

abbrev pub raw_view : lent.Raw → Raw
raw_view (raws.Content side bytes behind) = content side bytes.now
raw_view (raws.Broken side rule rest) = broken side rule
raw_view (raws.Snapshot version uri text) = show version uri.now text.now

abbrev pub whose_raw : Raw → Who
whose_raw (content side bytes) = who_of side
whose_raw (broken side rule) = who_of side
whose_raw (show number uri text) = Snapshot

-- ---- counts

-- the counts are those of these events
pub record AreCounts (c : Counts) (events : List Event) : Type 0 where
  pub editor : c.editor ≡ capped (count_of (belongs_to who.Editor) events)
  pub server : c.server ≡ capped (count_of (belongs_to who.Server) events)
  pub snapshots : c.snapshots ≡ capped (count_of (belongs_to who.Snapshot) events)
  pub all : c.all ≡ capped (length events)

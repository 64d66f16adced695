-- Words of this crate and of those below it that the crates above use, passed on from one place.
pub use Rattle.lsp_docs.specs.Calls.{Bytes, Call, changes, closes, opens, saves, shows, Text}
pub use Rattle.lsp_docs.specs.Calls.{uri_of}
pub use Rattle.lsp_docs.specs.Documents.{held, Terms, Version}
pub use Rattle.lsp_docs.specs.Rules.{call_rule, text_at}
pub use Rattle.lsp_docs.specs.Snapshots.{kept}
pub use Rattle.lsp_docs.specs.State.{Stands}
pub use Rattle.lsp_docs.specs.Taken.{call_view}
pub use Rattle.lsp_docs.specs.declared.tried.Tried.{Tried}
pub use Rattle.lsp_lined.specs.Counted.{Counted}
pub use Rattle.lsp_outline.specs.Named.{document_in}
pub use Rattle.lsp_outline.specs.Versions.{version_view, Versioned}
pub use Rattle.lsp_replay.specs.JsonRun.{run_in}
pub use Rattle.lsp_replay.specs.Lines.{place_of}
pub use Rattle.lsp_replay.specs.LogEvents.{flaw_of}
pub use Rattle.lsp_replay.specs.Run.{IsJudged, IsPassed, PassesOn, Run, Tail}
pub use Rattle.lsp_replay.specs.Standing.{Holds}
pub use Rattle.lsp_replay.specs.Streams.{decoder_of}
pub use Rattle.lsp_replay.specs.Telling.{Closes, HasFate, IsSeen, IsSpoken, kept_before, MaySpeak}
pub use Rattle.lsp_replay.specs.Telling.{rule_of, Says, ShowsFault, Stood}
pub use Rattle.lsp_replay.specs.Tries.{IsTriedOf, made_in}
pub use Rattle.lsp_replay.specs.declared.heard.EventPlace.{EventPlace}
pub use Rattle.lsp_replay.specs.declared.log_events.End.{End}
pub use Rattle.lsp_replay.specs.declared.log_events.LogEvents.{LogEvents}
pub use Rattle.lsp_replay.specs.declared.seen.Fate.{Fate}
pub use Rattle.lsp_replay.specs.declared.seen.Fate.TheVariants.{Offends}
pub use Rattle.lsp_rpc.specs.Ident.{id_view, Ident}
pub use Rattle.lsp_rpc.specs.Message.{error, Message, notification, Reply, request, response}
pub use Rattle.lsp_rpc.specs.Message.{result}
pub use Rattle.lsp_rpc.specs.Outline.{outline}
pub use Rattle.lsp_rpc.specs.Params.{all_of}
pub use Rattle.lsp_rpc.specs.Shape.{member}
pub use Rattle.lsp_rpc.specs.View.{act_view, message_view}
pub use Rattle.lsp_rpc.specs.declared.act.Spoken.{Spoken}
pub use Rattle.lsp_session.specs.Handshake.{phase}
pub use Rattle.lsp_session.specs.Negotiation.{encoding}
pub use Rattle.lsp_session.specs.Sent.{is_shutdown, other_side, Sent}
pub use Rattle.lsp_session.specs.declared.phase.Phase.TheVariants.{Exited}
pub use Rattle.lsp_text.specs.Changes.{edit_of, edits_of}
pub use Rattle.lsp_text.specs.Edits.{applied, Edit, splice}
pub use Rattle.lsp_text.specs.Findings.{findings, text_extent}
pub use Rattle.lsp_text.specs.SameText.{same_text}
pub use Rattle.lsp_text.specs.declared.findings.Extent.{Extent}
pub use Rattle.lsp_text.specs.declared.findings.Extent.TheVariants.{Lines, Units}
pub use Rattle.lsp_text.specs.declared.findings.Findings.{Findings}
pub use Rattle.lsp_trail.specs.Asking.{asked, Numbered, numbered, same_phase, sents, since}
pub use Rattle.lsp_trail.specs.Bases.{later}
pub use Rattle.lsp_trail.specs.Breaches.{Breach, breach}
pub use Rattle.lsp_trail.specs.History.{each_kept, kept_as, last_ones, last_that, on_document}
pub use Rattle.lsp_trail.specs.History.{OnDocument}
pub use Rattle.lsp_trail.specs.LastChange.{last_change}
pub use Rattle.lsp_trail.specs.Marking.{AreMarks, is_set_to, last_setter, recent, steps}
pub use Rattle.lsp_trail.specs.Naming.{if_unopened, params_of, version_named, version_named_at}
pub use Rattle.lsp_trail.specs.Openings.{AreOpenings, closing_of, closings, names_view, on_view}
pub use Rattle.lsp_trail.specs.Openings.{ons_view}
pub use Rattle.lsp_trail.specs.Renames.{renamed}
pub use Rattle.lsp_trail.specs.SentEdits.{are_few, edits_size, sent_edits, sent_view, SentEdits}
pub use Rattle.lsp_trail.specs.SentEdits.{sents_view}
pub use Rattle.lsp_trail.specs.SessionNotes.{abrupt_exit, Misused, misused_views, misuses}
pub use Rattle.lsp_trail.specs.SessionNotes.{older_encoding}
pub use Rattle.lsp_trail.specs.Spelled.{is_standing, last_openings}
pub use Rattle.lsp_trail.specs.Trails.{agreed_encoding, IsTrail, StandsAfter, terms_in}
pub use Rattle.lsp_trail.specs.Uncompared.{if_later, shown_view, ShownText}
pub use Rattle.lsp_types.specs.declared.change.Change.{Change}
pub use Rattle.lsp_types.specs.declared.change.SyncKind.{SyncKind}
pub use Rattle.lsp_types.specs.declared.position.Encoding.{Encoding}
pub use Rattle.lsp_types.specs.declared.position.Encoding.TheVariants.{Utf16, Utf32, Utf8}
pub use Rattle.lsp_types.specs.declared.position.Position.{Position}
pub use Rattle.lsp_types.specs.declared.position.Span.{Span}
pub use Rattle.lsp_types.specs.declared.side.Side.{Side}
pub use Rattle.lsp_types.specs.declared.side.Side.TheVariants.{Editor, Server}
pub use Rattle.lsp_verdict.specs.Event.{call_at, calls, Event, fault, message, sent_in, sent_of}
pub use Rattle.lsp_verdict.specs.Event.{snapshot}
pub use Rattle.lsp_verdict.specs.Given.{AreCounts, offence_view, raw_view, verdict_view}
pub use Rattle.lsp_verdict.specs.Heard.{Heard, heard_events, notes_of, rest_of, Rests}
pub use Rattle.lsp_verdict.specs.LookBack.{each_from, each_of, first_from, first_of}
pub use Rattle.lsp_verdict.specs.Offences.{events_of, is_reopened, IsNoted, kept_of, last_or}
pub use Rattle.lsp_verdict.specs.Offences.{Offence, offence_at, offence_by, offences, rule_at}
pub use Rattle.lsp_verdict.specs.Offences.{said_at}
pub use Rattle.lsp_verdict.specs.Outcome.{ending, log_terms}
pub use Rattle.lsp_verdict.specs.Placed.{broken, content, Raw, Reads, show}
pub use Rattle.lsp_verdict.specs.Report.{encoding_name, line, report}
pub use Rattle.lsp_verdict.specs.Runs.{ports}
pub use Rattle.lsp_verdict.specs.Survey.{by_itself, first_verdict}
pub use Rattle.lsp_verdict.specs.Verdict.{bad_log, bad_log_of, first_no, no, no_by, offence}
pub use Rattle.lsp_verdict.specs.Verdict.{Summary, summary, Verdict, yes}
pub use Rattle.lsp_verdict.specs.declared.completeness.Completeness.{Completeness}
pub use Rattle.lsp_verdict.specs.declared.completeness.Completeness.TheVariants.{Ignored}
pub use Rattle.lsp_verdict.specs.declared.counts.Counts.{Counts}
pub use Rattle.lsp_verdict.specs.declared.outcome.Outcome.{Outcome}
pub use Rattle.lsp_verdict.specs.declared.outcome.Outcome.TheVariants.{Judged}
pub use Rattle.lsp_verdict.specs.declared.verdict.Who.{Who}

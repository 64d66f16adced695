-- Words of this crate and of those below it that the crates above use, passed on from one place.
pub use Rattle.lsp_docs.specs.Calls.{byte_len, Bytes, Call, changes, closes, opens, saves, shows}
pub use Rattle.lsp_docs.specs.Calls.{uri_of}
pub use Rattle.lsp_docs.specs.Documents.{held, is_after, is_at, Terms, terms_of, Version, versioned}
pub use Rattle.lsp_docs.specs.Laws.{rises}
pub use Rattle.lsp_docs.specs.Rules.{AreAccepted, call_rule, change_rule, differs, is_of_kind}
pub use Rattle.lsp_docs.specs.Rules.{other_than, text_rule}
pub use Rattle.lsp_docs.specs.Snapshots.{has_number, past, versions_of, waiting}
pub use Rattle.lsp_docs.specs.State.{capped, Stands}
pub use Rattle.lsp_docs.specs.Stored.{are_mixed, text_of, texts_of}
pub use Rattle.lsp_docs.specs.Taken.{call_view, took_by}
pub use Rattle.lsp_docs.specs.Tried.{AreTriedOn, IsMade, IsTried, tried_in}
pub use Rattle.lsp_docs.specs.declared.snapshot.Match.{Match}
pub use Rattle.lsp_docs.specs.declared.snapshot.Match.TheVariants.{Equal, Missed, Waits}
pub use Rattle.lsp_frame.specs.Bounds.{Bounds, IsInRange}
pub use Rattle.lsp_frame.specs.Decoder.{StandsFor, State}
pub use Rattle.lsp_frame.specs.Frame.{Frames, IsStream}
pub use Rattle.lsp_frame.specs.Pulling.{Misses}
pub use Rattle.lsp_frame.specs.Sink.{canonical, Stopped, Writes}
pub use Rattle.lsp_frame.specs.Told.{after_failure, Gave, Told, Took}
pub use Rattle.lsp_frame.specs.declared.format.Format.{Format}
pub use Rattle.lsp_lined.specs.Counted.{Counted}
pub use Rattle.lsp_log.specs.Log.{chunk, first_line, IsLog, shown, spelling}
pub use Rattle.lsp_log.specs.Records.{record_view}
pub use Rattle.lsp_log.specs.declared.fault.LogCode.{LogCode}
pub use Rattle.lsp_replay.specs.Lines.{place_of, shown_line}
pub use Rattle.lsp_replay.specs.LogEvents.{HasGiven, IsLogOf, Opens}
pub use Rattle.lsp_replay.specs.Run.{EndsAfter, IsJudged, IsPassed, IsTold, PassesOn, Run, StopsIn}
pub use Rattle.lsp_replay.specs.Run.{Tail}
pub use Rattle.lsp_replay.specs.RunLaws.{AnswersVerdict, HasOneOutput}
pub use Rattle.lsp_replay.specs.SessionEnd.{first_end}
pub use Rattle.lsp_replay.specs.Standing.{Follows, Holds}
pub use Rattle.lsp_replay.specs.Streams.{decoder_of, ends_inside}
pub use Rattle.lsp_replay.specs.Telling.{Closes, HasFate, IsEnd, IsSeen, kept_before, MaySpeak}
pub use Rattle.lsp_replay.specs.Telling.{no_of, rule_of, Stood}
pub use Rattle.lsp_replay.specs.TextAnswers.{end_answer, text_at, text_behind}
pub use Rattle.lsp_replay.specs.Tries.{made_in, TriesCall}
pub use Rattle.lsp_rpc.specs.Act.{Act, Offer, other, Text}
pub use Rattle.lsp_rpc.specs.Ident.{id_view, Ident, same_id}
pub use Rattle.lsp_rpc.specs.Message.{error, Message, notification, request, response, result}
pub use Rattle.lsp_rpc.specs.Outline.{outline, without_params}
pub use Rattle.lsp_rpc.specs.Params.{act_at, all_of, both, required}
pub use Rattle.lsp_rpc.specs.Reading.{BreaksRule, IsRefusal, message_in, parts_of}
pub use Rattle.lsp_rpc.specs.Results.{picked_at}
pub use Rattle.lsp_rpc.specs.Shape.{is_object}
pub use Rattle.lsp_rpc.specs.View.{act_view, changes_view, message_view, offer_view, texts_view}
pub use Rattle.lsp_rpc.specs.Words.{id_text, words_of}
pub use Rattle.lsp_rpc.specs.declared.act.Spoken.{Spoken}
pub use Rattle.lsp_rpc.specs.declared.message.Id.{Id}
pub use Rattle.lsp_session.specs.Handshake.{first_settled, is_done, is_empty, open_initializes}
pub use Rattle.lsp_session.specs.Handshake.{phase, Settled}
pub use Rattle.lsp_session.specs.Negotiation.{encoding}
pub use Rattle.lsp_session.specs.Sent.{answered_from, other_side, response_id, same_side, Sent}
pub use Rattle.lsp_session.specs.declared.phase.Phase.{Phase}
pub use Rattle.lsp_text.specs.Changes.{edit_of, edits_of}
pub use Rattle.lsp_text.specs.Difference.{line_around, line_before_place}
pub use Rattle.lsp_text.specs.Edits.{applied, changed, Edit}
pub use Rattle.lsp_text.specs.InsideCharacter.{LiesInside}
pub use Rattle.lsp_text.specs.Lines.{Line, lines_of}
pub use Rattle.lsp_text.specs.Places.{units}
pub use Rattle.lsp_text.specs.SameText.{compared, same_text, SameText}
pub use Rattle.lsp_types.specs.declared.change.Change.{Change}
pub use Rattle.lsp_types.specs.declared.change.SyncKind.{SyncKind}
pub use Rattle.lsp_types.specs.declared.change.SyncKind.TheVariants.{Nothing}
pub use Rattle.lsp_types.specs.declared.line_ends.LineEnds.{LineEnds}
pub use Rattle.lsp_types.specs.declared.position.Encoding.{Encoding}
pub use Rattle.lsp_types.specs.declared.position.Encoding.TheVariants.{Utf16, Utf8}
pub use Rattle.lsp_types.specs.declared.position.Position.{Position}
pub use Rattle.lsp_types.specs.declared.position.Span.{Span}
pub use Rattle.lsp_types.specs.declared.side.Side.{Side}
pub use Rattle.lsp_verdict.specs.Complete.{completed, IsFinalBy, IsVerdictBy}
pub use Rattle.lsp_verdict.specs.Event.{call_at, call_of, calls, Event, message, sent_in, sent_of}
pub use Rattle.lsp_verdict.specs.Event.{snapshot}
pub use Rattle.lsp_verdict.specs.Given.{AreCounts, as_given, offence_view, summary_view}
pub use Rattle.lsp_verdict.specs.Given.{verdict_view}
pub use Rattle.lsp_verdict.specs.Heard.{Heard, heard_events, notes_of, Rests}
pub use Rattle.lsp_verdict.specs.LookBack.{each_from, each_of, first_from, first_of}
pub use Rattle.lsp_verdict.specs.Offences.{answered_by, asked_by, asked_from, asks}
pub use Rattle.lsp_verdict.specs.Offences.{breaks_handshake, brought_by, events_of, follows}
pub use Rattle.lsp_verdict.specs.Offences.{follows_bytes, follows_passed, is_nameless, is_on_lost}
pub use Rattle.lsp_verdict.specs.Offences.{is_passed, is_reopened, is_unheard, is_within, IsNoted}
pub use Rattle.lsp_verdict.specs.Offences.{IsReading, kept_of, last_or, leaves_unheard}
pub use Rattle.lsp_verdict.specs.Offences.{leaves_unsynced, may_answer, Noted, Offence, offence_at}
pub use Rattle.lsp_verdict.specs.Offences.{offences, passes, request_id, rule_at, wants_other}
pub use Rattle.lsp_verdict.specs.Outcome.{ending, format_or_one, HasRest, is_rest, IsFinal}
pub use Rattle.lsp_verdict.specs.Outcome.{IsVerdict, log_terms, Offends}
pub use Rattle.lsp_verdict.specs.Placed.{broken, content, IsSession, joined, Placed, Reads, show}
pub use Rattle.lsp_verdict.specs.Report.{encoding_name, report}
pub use Rattle.lsp_verdict.specs.Runs.{failures_after, OfRead, Ports, ports, sink_failures_after}
pub use Rattle.lsp_verdict.specs.Runs.{Tells}
pub use Rattle.lsp_verdict.specs.Shown.{held_answer, TextAnswer, up_to_editor}
pub use Rattle.lsp_verdict.specs.Spelling.{folded}
pub use Rattle.lsp_verdict.specs.Survey.{all_report, bad_lines, by_itself, first_verdict, IsSurvey}
pub use Rattle.lsp_verdict.specs.Survey.{offence_lines}
pub use Rattle.lsp_verdict.specs.Verdict.{bad_log, bad_log_of, Ending, first_no, no, no_at, no_by}
pub use Rattle.lsp_verdict.specs.Verdict.{no_next, offence, rest_of, Summary, summary, who_of}
pub use Rattle.lsp_verdict.specs.Verdict.{whose, yes}
pub use Rattle.lsp_verdict.specs.declared.completeness.Completeness.{Completeness}
pub use Rattle.lsp_verdict.specs.declared.counts.Counts.{Counts}
pub use Rattle.lsp_verdict.specs.declared.lines.Lines.{Lines}
pub use Rattle.lsp_verdict.specs.declared.listing.Listing.{Listing}
pub use Rattle.lsp_verdict.specs.declared.listing.Listing.TheVariants.{Causes, Every}
pub use Rattle.lsp_verdict.specs.declared.outcome.Mode.{Mode}
pub use Rattle.lsp_verdict.specs.declared.outcome.Mode.TheVariants.{Canonical, Kinds, Lengths}
pub use Rattle.lsp_verdict.specs.declared.outcome.Outcome.TheVariants.{NoDocument, Stream, Unlike}
pub use Rattle.lsp_verdict.specs.declared.outcome.RunFault.{RunFault}
pub use Rattle.lsp_verdict.specs.declared.outcome.RunFault.TheVariants.{Memory, Read, Write}
pub use Rattle.lsp_verdict.specs.declared.outcome.StreamFault.{StreamFault}
pub use Rattle.lsp_verdict.specs.declared.outcome.StreamFault.TheVariants.{Rule, TooLong}
pub use Rattle.lsp_verdict.specs.declared.verdict.Verdict.TheVariants.{BadLog, No, Yes}
pub use Rattle.lsp_verdict.specs.declared.verdict.Who.{Who}

-- The handshake of a session in which nothing offends: how far it has come, and that each side's
-- own order settles it.
use Rattle.std.proofs.Common.{◌≡◌, true, not, ◌&&◌, List, [], ◌∷◌, ◌++◌, All, Option, Some, None, is_some, refl, sym, ap, subst, ◌∙◌, append_assoc, append-nil, true≢false}
use Rattle.std.specs.Prelude.{option_and_then, option_map}
use Rattle.std.proofs.lemmas.List.Elements.{All-head, All-tail}
use Rattle.lsp_rpc.specs.Act.{Act}
use Rattle.lsp_rpc.specs.Ident.{Ident}
use Rattle.lsp_rpc.specs.Message.{Message, request, notification, response, Reply}
use Rattle.lsp_rpc.specs.Params.{act_at}
use Rattle.lsp_types.specs.declared.side.Side.{Side}
use Rattle.lsp_types.specs.declared.side.Side.TheVariants.{Editor, Server}
use Rattle.lsp_session.specs.Handshake.{Settled, first_settled}
use Rattle.lsp_session.specs.Laws.{sent_by}
use Rattle.lsp_session.specs.Negotiation.{agreed, agreed_at}
use Rattle.lsp_session.specs.Requests.{is_answered}
use Rattle.lsp_session.specs.Rules.{rule_after}
use Rattle.lsp_session.specs.Sent.{Sent, is_initialize}
use Rattle.lsp_docs.specs.Documents.{Terms}
use Rattle.lsp_verdict.specs.Event.{Event, message, fault, snapshot, sent_in}
use Rattle.lsp_verdict.specs.Interleaving.{own, IsRead, is_asked, is_reply, first_result, AnswersInTurn, IsEarly, HandshakeInTurn}
use Rattle.lsp_verdict.specs.LookBack.{first_from}
use Rattle.lsp_verdict.specs.Verdict.{no_by, no_at, first_no, offence}
use Rattle.lsp_verdict.proofs.Finding.{map_none}
use Rattle.lsp_verdict.proofs.Interleaving.Handshake.{IsWaiting, IsSettled, IsNamed, Stage, fresh, waiting, settled, at_first, early_request, named, never, open_rule, replying, rules, starting, step, value_of}
use Rattle.lsp_verdict.proofs.Interleaving.Parts.{first_result-from, read_back, read_front, sent_own}
use Rattle.lsp_verdict.proofs.LookBackLemmas.{first_of-snoc, or_none_parts}
use Rattle.lsp_verdict.proofs.Messages.{sent_in-append, session_rule_none}

-- ---- the stage of a session

pub one_more : (terms : Terms) (before : List Event) (e : Event) → Stage (sent_in before) → IsRead e → offence terms before e ≡ None → Stage (sent_in (before ++ e ∷ []))
one_more terms before (message m) stage read none =
    subst Stage (sym (sent_in-append before (message m ∷ []))) (step (sent_in before) m read (session_rule_none terms before m none) stage)
one_more terms before (fault side rule) stage read none = subst Stage (sym (sent_in-append before (fault side rule ∷ []) ∙ append-nil (sent_in before))) stage
one_more terms before (snapshot uri n t) stage read none = subst Stage (sym (sent_in-append before (snapshot uri n t ∷ []) ∙ append-nil (sent_in before))) stage

pub stage_from : (terms : Terms) (before es : List Event) → Stage (sent_in before) → All IsRead es → first_from (no_at terms) before es ≡ None → Stage (sent_in (before ++ es))
stage_from terms before [] stage read none = subst (λ w. Stage (sent_in w)) (sym (append-nil before)) stage
stage_from terms before (e ∷ es) stage read none =
    let parts = or_none_parts (no_at terms before e) (first_from (no_at terms) (before ++ e ∷ []) es) none in
    subst (λ w. Stage (sent_in w)) (append_assoc before (e ∷ []) es)
    (stage_from terms (before ++ e ∷ []) es (one_more terms before e stage (All-head IsRead e es read) (map_none (no_by before e) (offence terms before e) parts.0)) (All-tail IsRead e es read) parts.1)

pub stage_of : (terms : Terms) (es : List Event) → All IsRead es → first_no terms es ≡ None → Stage (sent_in es)
stage_of terms es read none = stage_from terms [] es at_first read none

-- ---- what is agreed

values_stage : (h : List Sent) → Stage h → option_map value_of (first_settled h) ≡ first_result h
values_stage h (fresh f) = ap (option_map value_of) f.unsettled ∙ sym f.no_result
values_stage h (waiting w) = ap (option_map value_of) w.unsettled ∙ sym w.no_result
values_stage h (settled s) = s.settled ∙ sym s.first

pub agreed_stage : (h : List Sent) → Stage h → agreed h ≡ option_and_then agreed_at (first_result h)
agreed_stage h stage = by_value (first_settled h) ∙ ap (option_and_then agreed_at) (values_stage h stage)
  where
    by_value : (o : Option Settled) → option_and_then (λ s. agreed_at s.value) o ≡ option_and_then agreed_at (option_map value_of o)
    by_value None = refl
    by_value (Some s) = refl

pub result_own : (es : List Event) → first_result (sent_in es) ≡ first_result (sent_in (own Server es))
result_own es = first_result-from (sent_in es) ∙ ap first_result (sym (sent_own Server es))

values_own : (terms : Terms) (es : List Event) → All IsRead es → first_no terms es ≡ None → option_map value_of (first_settled (sent_in es)) ≡ first_result (sent_in (own Server es))
values_own terms es read none = values_stage (sent_in es) (stage_of terms es read none) ∙ result_own es

pub agreed_own : (terms : Terms) (es : List Event) → All IsRead es → first_no terms es ≡ None → agreed (sent_in es) ≡ option_and_then agreed_at (first_result (sent_in (own Server es)))
agreed_own terms es read none = agreed_stage (sent_in es) (stage_of terms es read none) ∙ ap (option_and_then agreed_at) (result_own es)

-- ---- before the first result

-- what an event finds where neither it nor what is before it offends
record Found (terms : Terms) (before : List Event) (m : Sent) : Type 0 where
  stage : Stage (sent_in before)
  read : act_at m.side m.message ≡ Some m.act
  rule : rule_after (sent_in before) m ≡ None

early : (terms : Terms) (before : List Event) (m : Sent) → IsEarly terms before m → Found terms before m
early terms before m is =
    let parts = or_none_parts (first_no terms before) (no_at terms before (message m)) (sym (first_of-snoc (no_at terms) before (message m)) ∙ is.clean) in
    record {
      stage = stage_of terms before (read_front before (message m ∷ []) is.read) parts.0;
      read = All-head IsRead (message m) [] (read_back before (message m ∷ []) is.read);
      rule = session_rule_none terms before m (map_none (no_by before (message m)) (offence terms before (message m)) parts.1);
    }

no_value : {X : Type 0} (h : List Sent) (s : IsSettled h) → first_result h ≡ None → X
no_value h s none = absurd (true≢false (ap is_some (sym s.first ∙ none)))

starts_by : (h : List Sent) (side : Side) (said : Message) (act : Act) → Stage h → act_at side said ≡ Some act → rule_after h (sent_by side act said) ≡ None → first_result h ≡ None
    → is_asked (sent_by side act said) ≡ true → is_initialize act ≡ true
starts_by h Editor (request id method params) act (fresh f) read rule none asked = (early_request h id method params act read rule f.unsettled).1
starts_by h Editor (request id method params) act (waiting w) read rule none asked = (early_request h id method params act read rule w.unsettled).1
starts_by h Editor (request id method params) act (settled s) read rule none asked = no_value h s none
starts_by h _ _ act stage read rule none asked = absurd (true≢false (sym asked))

in_turn : (h : List Sent) (id : Option Ident) (reply : Reply) (act : Act) (w : IsWaiting h) → IsNamed id w.id → AnswersInTurn h (replying id reply act)
in_turn h None reply act w p = absurd p
in_turn h (Some id) reply act w p = record {
  earlier = w.earlier;
  asked = starting w.id w.method w.params w.act;
  between = w.between;
  place = w.place;
  asks = refl;
  fits = ap (λ b. b && not (is_answered Editor w.id w.between)) p ∙ ap not w.left;
  turn = w.turn;
}

replies_by : (h : List Sent) (side : Side) (said : Message) (act : Act) → Stage h → rule_after h (sent_by side act said) ≡ None → first_result h ≡ None
    → is_reply (sent_by side act said) ≡ true → AnswersInTurn h (sent_by side act said)
replies_by h Server (response id reply) act (fresh f) rule none replies = never id (open_rule h id reply act [] (rules h (replying id reply act) rule).on_ids f.none_open)
replies_by h Server (response id reply) act (waiting w) rule none replies = in_turn h id reply act w (named id w.kept w.id w.same (open_rule h id reply act (w.kept ∷ []) (rules h (replying id reply act) rule).on_ids w.is_open))
replies_by h Server (response id reply) act (settled s) rule none replies = no_value h s none
replies_by h _ _ act stage rule none replies = absurd (true≢false (sym replies))

pub in_each_order : HandshakeInTurn
in_each_order = record {
  starts = λ terms before m is asked. let f = early terms before m is in starts_by (sent_in before) m.side m.message m.act f.stage f.read f.rule is.unsettled asked;
  replies = λ terms before m is replies. let f = early terms before m is in replies_by (sent_in before) m.side m.message m.act f.stage f.rule is.unsettled replies;
  settles = values_own;
  agrees = agreed_own;
}

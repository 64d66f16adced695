-- What a message asks of edits and has of them, by its kind; what is held of both.
use Rattle.std.specs.Borrow.{Bor}
use Rattle.std.specs.Global.{Global}
use Rattle.std.specs.Prelude.{option_and_then, option_map, if◌then◌else◌, codes, String}
use Rattle.std.specs.List.{cons_option}
use Rattle.std.proofs.Common.{◌≡◌, ◌<◌, ◌+◌, ℕ, Bool, true, false, List, [], ◌∷◌, ◌++◌, Option, Some, None}
use Rattle.std.proofs.Common.{refl, sym, ap, ◌∙◌, append-nil, append_assoc, arith}
use Rattle.serde_json.specs.declared.value.Value.{Value}
use Rattle.lsp_trail.specs.Common.{Editor, error, Event, EventPlace, Ident, last_ones, member}
use Rattle.lsp_trail.specs.Common.{Message, message, message_view, notification, outline, params_of}
use Rattle.lsp_trail.specs.Common.{Reply, request, response, result, Server, Terms, version_named}
use Rattle.lsp_trail.specs.Common.{Versioned}
use Rattle.lsp_rpc.specs.declared.message.Answer.{Answer}
use Rattle.lsp_rpc.specs.declared.message.Answer.TheVariants as answers
use Rattle.lsp_rpc.specs.declared.message.Id.{Id}
use Rattle.lsp_rpc.specs.declared.message.Message as lent
use Rattle.lsp_rpc.specs.declared.message.Message.TheVariants as lents
use Rattle.lsp_notes.specs.EditRequests.{is_formatting, is_rename, request_of}
use Rattle.lsp_trail.specs.History.{with_room}
use Rattle.lsp_notes.specs.LateEdits.{HoldsLate, LateAnswer, late_view, most_late}
use Rattle.lsp_notes.specs.Refusals.{is_request}
use Rattle.lsp_notes.specs.Requests.{Request, request_at}
use Rattle.lsp_notes.specs.ServerEdits.{edited_in_message, in_diagnostics, answered, edit_in}
use Rattle.lsp_notes.specs.ServerEdits.{in_answer, in_request, in_whole}
use Rattle.lsp_notes.specs.declared.late_edits.LateAnswer as answer
use Rattle.lsp_trail.proofs.History.{held-push}
use Rattle.lsp_trail.proofs.NamedDocuments.{editor_names}

-- ---- what is held of answers

pub none_late : (o : Option LateAnswer) (kept : List answer.LateAnswer) → o ≡ None
    → HoldsLate (cons_option o []) kept kept
none_late o kept none = λ answers are.
    are
    ∙ ap (last_ones most_late) (sym (append-nil answers))
    ∙ ap (λ (w : Option LateAnswer). last_ones most_late (answers ++ cons_option w [])) (sym none)

pub one_late : (o : Option LateAnswer) (a : answer.LateAnswer) (old new : List answer.LateAnswer)
    → o ≡ Some (late_view a) → new ≡ with_room most_late old ++ a ∷ []
    → HoldsLate (cons_option o []) old new
one_late o a old new is pushed = λ answers are.
    let some : 0 < most_late = omega arith in
    held-push late_view most_late old new a answers some pushed are
    ∙ ap (λ (w : Option LateAnswer). last_ones most_late (answers ++ cons_option w [])) (sym is)

-- an answer that is lent, as it is seen
pub late_on : (o : Option (Bor answer.LateAnswer))
    → option_map (λ (a : Bor answer.LateAnswer). late_view a.now) o
    ≡ option_map late_view (option_map (λ (a : Bor answer.LateAnswer). a.now) o)
late_on None = refl
late_on (Some a) = refl

-- these and those behind them
pub late_joined : (xs ys : List LateAnswer) (old mid new : List answer.LateAnswer)
    → HoldsLate xs old mid → HoldsLate ys mid new → HoldsLate (xs ++ ys) old new
late_joined xs ys old mid new first second = λ answers are.
    second (answers ++ xs) (first answers are)
    ∙ ap (last_ones most_late) (append_assoc answers xs ys)

-- ---- what a message of the server has, by its kind

-- a request
pub has_request : (terms : Terms) (before : List Event) (uris : List (List ℕ)) (p : EventPlace)
    (m : Message) (id : Ident) (method : List ℕ) → outline m ≡ request id method None
    → edited_in_message terms before uris p m ≡ in_request uris p method (params_of m)
has_request terms before uris p (request own name params) id method same =
    let is : name ≡ method = cc same in
    ap (λ n. in_request uris p n params) is
has_request terms before uris p (response own (result d)) id method same = absurd (cc same)
has_request terms before uris p _ id method same = absurd (cc same)

pub is_request_so : (m : Message) (id : Ident) (method : List ℕ)
    → outline m ≡ request id method None → is_request m ≡ true
is_request_so (request own name params) id method same = refl
is_request_so (response own (result d)) id method same = absurd (cc same)
is_request_so _ id method same = absurd (cc same)

-- the edit among its params
pub edit_of_request : (m : Message) → is_request m ≡ true
    → edit_in m ≡ option_and_then (member (codes "edit")) (params_of m)
edit_of_request (request own name params) is = refl
edit_of_request _ is = absurd (cc is)

-- a notification
pub has_notification : (terms : Terms) (before : List Event) (uris : List (List ℕ))
    (p : EventPlace) (m : Message) (method : List ℕ) → outline m ≡ notification method None
    → in_diagnostics p (version_named Server m) ≡ edited_in_message terms before uris p m
has_notification terms before uris p (notification name params) method same = refl
has_notification terms before uris p (response own (result d)) method same = absurd (cc same)
has_notification terms before uris p _ method same = absurd (cc same)

-- an answer
pub has_answer : (terms : Terms) (before : List Event) (uris : List (List ℕ)) (p : EventPlace)
    (m : Message) (id : Option Ident) (reply : Reply) → outline m ≡ response id reply
    → edited_in_message terms before uris p m ≡ in_whole uris (answered terms before id) m
has_answer terms before uris p (response own (result d)) id reply same =
    let is : own ≡ id = cc same in
    ap (λ o. in_answer uris (answered terms before o) (result d)) is
has_answer terms before uris p (response own (error code)) id reply same =
    let is : own ≡ id = cc same in
    ap (λ o. in_answer uris (answered terms before o) (error code)) is
has_answer terms before uris p _ id reply same = absurd (cc same)

-- to no request that edits answer
pub none_answered : (uris : List (List ℕ)) (m : Message) → in_whole uris None m ≡ []
none_answered uris (request own name params) = refl
none_answered uris (notification name params) = refl
none_answered uris (response own reply) = refl

-- ---- what a message of the editor asks for

-- a request of this method, whose params name this document
abbrev pub request_named : EventPlace → List ℕ → Option (List ℕ) → Option Request
request_named p method named =
    if is_rename method then Some (request_at p None)
    else (if is_formatting method then option_map (λ uri. request_at p (Some uri)) named else None)

pub asks_edits : (p : EventPlace) (m : Message) (id : Ident) (method : List ℕ)
    (named : Option Versioned) → outline m ≡ request id method None → named ≡ version_named Editor m
    → request_of p Editor m
    ≡ request_named p method (option_map (λ (v : Versioned). v.uri) named)
asks_edits p (request own name params) id method named same are =
    let is : name ≡ method = cc same in
    ap (request_named p name)
    (sym (ap (option_map (λ (v : Versioned). v.uri)) are ∙ editor_names (request own name params)))
    ∙ ap (λ n. request_named p n (option_map (λ (v : Versioned). v.uri) named)) is
asks_edits p (response own (result d)) id method named same are = absurd (cc same)
asks_edits p _ id method named same are = absurd (cc same)

module _ (p : EventPlace) (method : List ℕ) (named : Option (List ℕ)) where
  abbrev asked_by : Bool → Bool → Option Request
  asked_by rename formatting =
      if rename then Some (request_at p None)
      else (if formatting then option_map (λ uri. request_at p (Some uri)) named else None)

  pub asks_rename : is_rename method ≡ true
      → request_named p method named ≡ Some (request_at p None)
  asks_rename is = ap (λ b. asked_by b (is_formatting method)) is

  pub asks_other : is_rename method ≡ false → is_formatting method ≡ false
      → request_named p method named ≡ None
  asks_other none also = λ i. asked_by (none i) (also i)

  pub asks_format : is_rename method ≡ false → is_formatting method ≡ true
      → request_named p method named ≡ option_map (λ uri. request_at p (Some uri)) named
  asks_format none is = λ i. asked_by (none i) (is i)

-- one that is no request
pub asks_nothing : (p : EventPlace) (m : Message) (said : lent.Message)
    → outline m ≡ outline (message_view said)
    → ((id : Id) (method : String Global) (params : Option Value)
    → said ≡ lents.Request id method params → ⊥)
    → request_of p Editor m ≡ None
asks_nothing p m (lents.Request id method params) same not = absurd (not id method params refl)
asks_nothing p (request own name ps) (lents.Notification method params) same not = absurd (cc same)
asks_nothing p (request own name ps) (lents.Response id reply) same not = by_reply reply same
  where
    by_reply : (a : Answer) → outline (request own name ps)
        ≡ outline (message_view (lents.Response id a)) → request_of p Editor (request own name ps) ≡ None
    by_reply (answers.Result v) is = absurd (cc is)
    by_reply (answers.Error code) is = absurd (cc is)
asks_nothing p _ _ same not = refl

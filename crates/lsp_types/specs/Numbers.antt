-- The numbers of the rules, as users read them.
use Rattle.std.specs.Prelude.{◌≡◌, ℕ, List, [], ◌∷◌}
use Rattle.lsp_types.specs.declared.rules.TheConstants as rules

-- the rules, in the order of their numbers
abbrev pub all_rules : List ℕ
all_rules =
    rules.HEADER_PART_TOO_LONG ∷ rules.BAD_HEADER_LINE ∷ rules.NOT_ONE_CONTENT_LENGTH
    ∷ rules.BAD_CONTENT_LENGTH ∷ rules.CONTENT_TOO_LONG ∷ rules.CHARSET_NOT_UTF_8
    ∷ rules.STREAM_ENDS_INSIDE_FRAME
    ∷ rules.CONTENT_NOT_JSON ∷ rules.MESSAGE_NOT_OBJECT ∷ rules.BAD_JSONRPC_VERSION
    ∷ rules.METHOD_NOT_STRING ∷ rules.BAD_ID ∷ rules.BAD_PARAMS ∷ rules.NOT_A_MESSAGE
    ∷ rules.BAD_ERROR_OBJECT ∷ rules.BAD_METHOD_PARAMS
    ∷ rules.RESPONSE_TO_NO_OPEN_REQUEST ∷ rules.ID_ALREADY_OPEN ∷ rules.REQUEST_NOT_ANSWERED
    ∷ rules.EDITOR_BEFORE_INITIALIZE ∷ rules.EDITOR_WHILE_INITIALIZE_OPEN
    ∷ rules.INITIALIZED_NOT_FIRST ∷ rules.INITIALIZE_AGAIN ∷ rules.EDITOR_AFTER_SHUTDOWN
    ∷ rules.EDITOR_AFTER_EXIT ∷ rules.EXIT_MISSING ∷ rules.SERVER_BEFORE_INITIALIZE
    ∷ rules.SERVER_WHILE_INITIALIZE_OPEN
    ∷ rules.BAD_INITIALIZE_RESULT ∷ rules.ENCODING_NOT_OFFERED ∷ rules.ENCODING_OUTSIDE_PROFILE
    ∷ rules.DYNAMIC_REGISTRATION
    ∷ rules.DOCUMENT_ALREADY_OPEN ∷ rules.DOCUMENT_NOT_OPEN ∷ rules.VERSION_DOES_NOT_RISE
    ∷ rules.CHANGE_NOT_OF_KIND ∷ rules.POSITION_INSIDE_CHARACTER ∷ rules.RANGE_REVERSED
    ∷ rules.DOCUMENT_OVER_LIMIT ∷ rules.SAVED_TEXT_DIFFERS
    ∷ rules.LATE_SNAPSHOT ∷ rules.SNAPSHOT_DIFFERS ∷ []

-- **each rule has the number that reports and pages write**
abbrev pub RulesAreNumbered : Type 0
RulesAreNumbered = all_rules ≡
    101 ∷ 102 ∷ 103 ∷ 104 ∷ 105 ∷ 106 ∷ 107
    ∷ 201 ∷ 202 ∷ 203 ∷ 204 ∷ 205 ∷ 206 ∷ 207 ∷ 208 ∷ 209
    ∷ 301 ∷ 302 ∷ 303
    ∷ 401 ∷ 402 ∷ 403 ∷ 404 ∷ 405 ∷ 406 ∷ 407 ∷ 411 ∷ 412
    ∷ 501 ∷ 502 ∷ 503 ∷ 504
    ∷ 601 ∷ 602 ∷ 603 ∷ 604 ∷ 605 ∷ 606 ∷ 607 ∷ 608
    ∷ 701 ∷ 702 ∷ []

-- the rules on documents and snapshots begin with 601
abbrev pub DocumentsBeginAt601 : Type 0
DocumentsBeginAt601 = rules.FIRST_ON_DOCUMENTS ≡ rules.DOCUMENT_ALREADY_OPEN

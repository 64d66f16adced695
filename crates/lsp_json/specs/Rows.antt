-- The rows of the lines of a report.
use Rattle.std.specs.Prelude.{◌≡◌, ℕ, nat_lt, Bool, true, ◌&&◌, ◌==◌, not, List, [], ◌∷◌, ◌++◌}
use Rattle.std.specs.Prelude.{codes, flat_map}
use Rattle.std.specs.List.{after_first, before_first, list_all}
use Rattle.json.specs.Print.{quoted}
use Rattle.lsp_json.specs.Fields.{Field, literal, labelled, one, many, whether, an_event, fields_of}
use Rattle.lsp_json.specs.Lines.{Row, json_by}

-- **the rows of the lines of a report**
unfoldable pub rows : List Row
rows =
    (codes "notification", codes "event=* side=* notification method=* number=* uri=* version=*")
    ∷ (codes "notification", codes "event=* side=* notification method=* number=* uri=*")
    ∷ (codes "notification", codes "event=* side=* notification method=* number=*")
    ∷ (codes "request", codes "event=* side=* request id=* method=* number=*")
    ∷ (codes "result", codes "event=* side=* result id=* number=*")
    ∷ (codes "error", codes "event=* side=* error id=* code=* number=*")
    ∷ (codes "snapshot", codes "event=* snapshot version=* bytes=* uri=* number=*")
    ∷ (codes "notification", codes "event=* side=* notification method=*")
    ∷ (codes "request", codes "event=* side=* request id=* method=*")
    ∷ (codes "result", codes "event=* side=* result id=*")
    ∷ (codes "error", codes "event=* side=* error id=* code=*")
    ∷ (codes "snapshot", codes "event=* snapshot version=* bytes=* uri=*")
    ∷ (codes "yes", codes "yes")
    ∷ (codes "yes", codes "yes remark=nothing-compared")
    ∷ (codes "read fault", codes "read fault")
    ∷ (codes "out of memory", codes "out of memory")
    ∷ (codes "no", codes "no rule=* who=* number=* event event=* follows=?")
    ∷ (codes "bad log", codes "bad log code=* record record=*")
    ∷ (codes "messages", codes "messages editor=* server=*")
    ∷ (codes "snapshots", codes "snapshots all=* unmatched unmatched=*")
    ∷ (codes "encoding", codes "encoding name=* sync sync=*")
    ∷ (codes "encoding", codes "encoding name=*")
    ∷ (codes "document", codes "document version=* bytes=* uri=*")
    ∷ (codes "offences", codes "offences all=* following following=*")
    ∷ (codes "request", codes "request side=* id=* method=* cancelled=?")
    ∷ (codes "request", codes "request id=* method=* @")
    ∷ (codes "event", codes "event event=* side=* number=*")
    ∷ (codes "event", codes "event event=* side=* number=* kind=request id=* method=*")
    ∷ (codes "event", codes "event event=* side=* number=* kind=notification method=*")
    ∷ (codes "event", codes "event event=* side=* number=* kind=error id=* code=*")
    ∷ (codes "event", codes "event event=* side=* number=* kind=result id=*")
    ∷ (codes "end", codes "end event=* side=*")
    ∷ (codes "begins", codes "begins text=*")
    ∷ (codes "header-ends", codes "header-ends name=*")
    ∷ (codes "before", codes "before text=*")
    ∷ (codes "after", codes "after text=*")
    ∷ (codes "saved", codes "saved text=*")
    ∷ (codes "saved", codes "saved text=* cut cut_before=* cut_after=*")
    ∷ (codes "in-editor", codes "in-editor text=*")
    ∷ (codes "in-editor", codes "in-editor text=* cut cut_before=* cut_after=*")
    ∷ (codes "by-messages", codes "by-messages text=*")
    ∷ (codes "by-messages", codes "by-messages text=* cut cut_before=* cut_after=*")
    ∷ (codes "found", codes "found text=*")
    ∷ (codes "inside", codes "inside text=*")
    ∷ (codes "breaks", codes "breaks count=*")
    ∷ (codes "whole", codes "whole count=*")
    ∷ (codes "byte", codes "byte count=*")
    ∷ (codes "record", codes "record count=*")
    ∷ (codes "length", codes "length count=*")
    ∷ (codes "bytes", codes "bytes count=*")
    ∷ (codes "limit", codes "limit count=*")
    ∷ (codes "changes", codes "changes count=*")
    ∷ (codes "suspects", codes "suspects count=*")
    ∷ (codes "notes", codes "notes count=*")
    ∷ (codes "change", codes "change which=* whole=?")
    ∷ (codes "change", codes "change which=* line=* column=* end_line=* end_column=*")
    ∷ (codes "member", codes "member pointer=*")
    ∷ (codes "uri", codes "uri uri=*")
    ∷ (codes "held", codes "held version=* @")
    ∷ (codes "sent", codes "sent version=*")
    ∷ (codes "same", codes "same @")
    ∷ (codes "precedes", codes "precedes version=* @")
    ∷ (codes "version", codes "version version=*")
    ∷ (codes "sync", codes "sync kind=*")
    ∷ (codes "at", codes "at line=* column=*")
    ∷ (codes "fits", codes "fits names=..")
    ∷ (codes "counts", codes "counts names=..")
    ∷ (codes "line-ends", codes "line-ends option --ignore-line-ends")
    ∷ (codes "ends", codes "ends kind=* from=* to=*")
    ∷ (codes "ends", codes "ends kind=*")
    ∷ (codes "codes", codes "codes by_messages=* in_editor=*")
    ∷ (codes "kept", codes "kept versions=..")
    ∷ (codes "snapshot", codes "snapshot @")
    ∷ (codes "equal", codes "equal version=* @")
    ∷ (codes "suspect", codes "suspect version=* @")
    ∷ (codes "lines-by", codes "lines-by name=*")
    ∷ (codes "at-once", codes "at-once version=* @")
    ∷ (codes "exchanged", codes "exchanged version=* @")
    ∷ (codes "without", codes "without version=* @")
    ∷ (codes "right-from", codes "right-from version=* @")
    ∷ (codes "offset-encoding", codes "offset-encoding name=*")
    ∷ (codes "closed", codes "closed @")
    ∷ (codes "opened", codes "opened never")
    ∷ (codes "saved-as", codes "saved-as @")
    ∷ (codes "similar", codes "similar uri=* @")
    ∷ (codes "id", codes "id id=*")
    ∷ (codes "asked", codes "asked @")
    ∷ (codes "open", codes "open id=* @")
    ∷ (codes "answered", codes "answered @")
    ∷ (codes "token", codes "token id=*")
    ∷ (codes "expected", codes "expected id=*")
    ∷ (codes "phase", codes "phase name=*")
    ∷ (codes "since", codes "since @")
    ∷ (codes "offered", codes "offered names=.. and more=*")
    ∷ (codes "offered", codes "offered names=..")
    ∷ (codes "picked", codes "picked name=*")
    ∷ (codes "registers", codes "registers method=*")
    ∷ (codes "usually", codes "usually who=*")
    ∷ (codes "usually", codes "usually who=* or or=*")
    ∷ (codes "so", codes "so sentence=*")
    ∷ (codes "note", codes "note note=as-notification method=* @")
    ∷ (codes "note", codes "note note=as-request method=* @")
    ∷ (codes "note", codes "note note=by-editor method=* @")
    ∷ (codes "note", codes "note note=by-server method=* @")
    ∷ (codes "note", codes "note note=exit-without-shutdown @")
    ∷ (codes "note", codes "note note=offset-encoding name=*")
    ∷ (codes "note", codes "note note=renamed uri=* @")
    ∷ (codes "note", codes "note note=nothing-compared")
    ∷ (codes "note", codes "note note=no-snapshot uri=*")
    ∷ (codes "note", codes "note note=past-end line=* column=* length length=* @")
    ∷ (codes "note", codes "note note=past-end line=* column=* lines lines=* @")
    ∷ (codes "note", codes "note note=range-length sent=* length length=* fits fits=.. @")
    ∷ (codes "note", codes "note note=range-length sent=* length length=* @")
    ∷ (codes "note", codes "note note=refused code=* uri=* @")
    ∷ (codes "note", codes "note note=similar uri=* open=* @")
    ∷ (codes "note", codes "note note=late-edits event request=* editor request_number=* event response=* server response_number=* @")
    ∷ (codes "note", codes "note note=outside line=* column=* @")
    ∷ (codes "note", codes "note note=overlap @")
    ∷ (codes "note", codes "note note=unsent version=* @")
    ∷ []

-- ---- their keys

-- a byte that stands for itself between quotes: no quote, backslash or control character
abbrev pub is_plain : ℕ → Bool
is_plain byte = nat_lt 31 byte && not (byte == 34) && not (byte == 92)

-- the keys that a row names
abbrev pub keys_of : Field → List (List ℕ)
keys_of (literal word) = []
keys_of (labelled key word) = key ∷ []
keys_of (one key) = key ∷ []
keys_of (many key) = key ∷ []
keys_of (whether word) = word ∷ []
keys_of an_event = codes "event" ∷ codes "side" ∷ codes "number" ∷ []

abbrev pub has_plain_keys : Row → Bool
has_plain_keys row = list_all (list_all is_plain) (flat_map keys_of (fields_of row.1))

-- **each key is JSON text between its quotes as it is**
abbrev pub KeysArePlain : Type 0
KeysArePlain = list_all has_plain_keys rows ≡ true

-- ---- reports

-- **a report as JSON**: an object for each of its lines
abbrev pub json_lines : List ℕ → List ℕ
json_lines report = json_by rows report

-- ---- one of several logs

abbrev pub is_line_end : ℕ → Bool
is_line_end byte = byte == 10

abbrev pub is_brace : ℕ → Bool
is_brace byte = byte == 123

-- the members of the first of these objects, and its end
abbrev pub first_members : List ℕ → List ℕ
first_members objects = after_first is_brace (before_first is_line_end objects)

-- **the first object of a report on this file**, which its name begins
abbrev pub file_json : List ℕ → List ℕ → List ℕ
file_json file report =
    codes "{\"file\":" ++ quoted file ++ 44 ∷ first_members (json_lines report) ++ 10 ∷ []

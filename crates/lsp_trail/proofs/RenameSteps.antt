-- What is kept of renamed files, with one message more.
use Rattle.std.specs.Prelude.{◌||◌, if◌then◌else◌, option_and_then, string_bytes, String}
use Rattle.std.specs.Global.{Global}
use Rattle.std.specs.Option.{option_or}
use Rattle.std.specs.Str.{bytes_eq}
use Rattle.std.proofs.Common.{◌≡◌, ◌<◌, ◌+◌, ℕ, Bool, true, false, List, [], ◌∷◌, ◌++◌, Option}
use Rattle.std.proofs.Common.{Some, None, refl, sym, ap, subst, ◌∙◌, append-nil, append_assoc}
use Rattle.std.proofs.Common.{codes, take, get_or, length}
use Rattle.std.proofs.lemmas.List.{map-append, take_more}
use Rattle.std.proofs.lemmas.List.Concat.{flat_map-append}
use Rattle.serde_json.specs.Data.{Data}
use Rattle.lsp_replay.specs.Common.{both, Call, changes, closes, error, Message, notification}
use Rattle.lsp_replay.specs.Common.{opens, outline, request, response, result, saves, Sent, shows}
use Rattle.lsp_replay.specs.Common.{Side}
use Rattle.lsp_docs.specs.declared.call.Took.{Took}
use Rattle.lsp_rpc.specs.Reading.{Reads}
use Rattle.lsp_types.specs.declared.side.Side.TheVariants.{Editor, Server}
use Rattle.lsp_verdict.proofs.LookBackLemmas.{first_of-snoc}
use Rattle.lsp_replay.specs.declared.heard.EventPlace.{EventPlace}
use Rattle.lsp_trail.specs.Asking.{Numbered, numbered_as}
use Rattle.lsp_trail.specs.History.{last_ones, step_of}
use Rattle.lsp_trail.specs.Renames.{Move, creations_in, notifies_files, renamed_held, tells_files}
use Rattle.lsp_trail.specs.Renames.{AreRenames, most_moves, moves_view, renamed_at, renamed_by}
use Rattle.lsp_trail.specs.Renames.{Moves, RenamesBy, RenamesIn, each_move, moves_at, renames_in}
use Rattle.lsp_trail.specs.Renames.{call_by, moves, moves_by, moves_in, or_none, renames, uris_at}
use Rattle.lsp_trail.specs.Openings.{names_view}
use Rattle.lsp_trail.specs.declared.renames.Move as held
use Rattle.lsp_trail.specs.declared.renames.Renames.{Renames}

-- ---- one message more

moves-push : (said : List Numbered) (m : Numbered)
    → moves (said ++ m ∷ []) ≡ moves said ++ moves_at m
moves-push said m =
    flat_map-append moves_at said (m ∷ [])
    ∙ ap (λ (w : List Move). moves said ++ w) (append-nil (moves_at m))

-- **what is held stands for it too**
pub renames_more : (p : EventPlace) (m : Sent) (before : List Numbered) (old new : Renames)
    → AreRenames old before
    → RenamesBy p m.side m.message (call_by before (numbered_as p m)) old new
    → AreRenames new (before ++ numbered_as p m ∷ [])
renames_more p m before old new are by = record {
  moves_are =
      by.moves (moves before) are.moves_are
      ∙ ap (last_ones most_moves) (sym (moves-push before (numbered_as p m)));
  renamed_is =
      by.renamed
      ∙ (λ i. option_or (are.renamed_is i)
      (option_and_then (renamed_by p (are.moves_are i)) (call_by before (numbered_as p m))))
      ∙ sym (first_of-snoc renamed_at before (numbered_as p m));
}

-- ---- what is held of moves

pub no_moves : (held : List held.Move) → Moves [] held held
no_moves held before are = are ∙ ap (last_ones most_moves) (sym (append-nil before))

pub both_moves : (one two : List Move) (old mid new : List held.Move) → Moves one old mid
    → Moves two mid new → Moves (one ++ two) old new
both_moves one two old mid new first second before are =
    second (before ++ one) (first before are)
    ∙ ap (last_ones most_moves) (append_assoc before one two)

-- files of these URIs got those, in turn
pub renames_given : (params : Data) (olds news : List (List ℕ))
    → uris_at (codes "oldUri") params ≡ Some olds → uris_at (codes "newUri") params ≡ Some news
    → (old mid new : List held.Move) → Moves (each_move true olds) old mid
    → Moves (each_move false news) mid new → Moves (or_none (renames_in params)) old new
renames_given params olds news is_old is_new old mid new first second =
    let whole : or_none (renames_in params) ≡ each_move true olds ++ each_move false news =
    λ i. or_none (both renames (is_old i) (is_new i)) in
    subst (λ (w : List Move). Moves w old new) (sym whole)
    (both_moves (each_move true olds) (each_move false news) old mid new first second)

-- ---- a call that leaves its document as it is

pub no_edit : (call : Call) (said : Took) (p : EventPlace) (moved : List Move)
    → step_of call said ≡ None → renamed_by p moved call ≡ None
no_edit (opens uri number text) said p moved is = absurd (cc is)
no_edit (changes enc kind uri number edits) said p moved is = absurd (cc is)
no_edit _ said p moved is = refl

-- ---- a message that says nothing of files

pub notifies-outline : (m : Message) → notifies_files m ≡ notifies_files (outline m)
notifies-outline (response own (result value)) = refl
notifies-outline _ = refl

by_tests : (a b : Bool) (x y : Option (List Move)) → (a || b) ≡ false
    → or_none (if a then x else (if b then y else None)) ≡ []
by_tests false false x y is = refl
by_tests _ _ x y is = absurd cc

silent : (m : Message) → notifies_files m ≡ false → moves_in m ≡ []
silent (notification method (Some params)) is =
    by_tests (bytes_eq method (codes "workspace/didRenameFiles"))
    (bytes_eq method (codes "workspace/didCreateFiles")) (renames_in params) (creations_in params)
    is
silent _ is = refl

untold : (side : Side) (m said : Message) → outline m ≡ outline said
    → tells_files side said ≡ false → moves_by side m ≡ []
untold Server m said same is = refl
untold Editor m said same is =
    silent m (notifies-outline m ∙ ap notifies_files same ∙ sym (notifies-outline said) ∙ is)

-- ---- a message that was heard

module _ (p : EventPlace) (side : Side) (bytes : List ℕ) (said : Message) (call : Option Call)
    (old mid new : Renames) (same : mid.moves ≡ old.moves)
    (noted : renamed_held mid ≡ option_or (renamed_held old)
    (option_and_then (renamed_by p (moves_view old.moves.items)) call))
  where
    pub nothing_told : tells_files side said ≡ false → RenamesIn p side bytes said call old mid
    nothing_told is m reads alike =
        let none : moves_by side m ≡ [] = untold side m said alike is in
        record {
          moves = subst (λ (w : List Move). Moves w old.moves.items mid.moves.items) (sym none)
              (subst (λ w. Moves [] old.moves.items w.items) (sym same)
              (no_moves old.moves.items));
          renamed = noted;
        }

    told_by : (by : Side) → tells_files by said ≡ true
        → ((m : Message) → Reads bytes m → Moves (moves_in m) mid.moves.items new.moves.items)
        → (m : Message) → Reads bytes m
        → Moves (moves_by by m) old.moves.items new.moves.items
    told_by Server is more m reads = absurd cc
    told_by Editor is more m reads =
        subst (λ w. Moves (moves_in m) w.items new.moves.items) same (more m reads)

    pub something_told : tells_files side said ≡ true → renamed_held new ≡ renamed_held mid
        → ((m : Message) → Reads bytes m → Moves (moves_in m) mid.moves.items new.moves.items)
        → RenamesIn p side bytes said call old new
    something_told is kept more m reads alike = record {
      moves = told_by side is more m reads;
      renamed = kept ∙ noted;
    }

-- ---- files one after another

-- one more is added
pub one_added : (gone : Bool) (uris : List (String Global)) (i : ℕ) (u : String Global)
    (start old new : List held.Move) → i < length uris → u ≡ get_or uris i u
    → Moves (each_move gone (names_view (take i uris))) start old
    → Moves (each_move gone (string_bytes u ∷ [])) old new
    → Moves (each_move gone (names_view (take (i + 1) uris))) start new
one_added gone uris i u start old new lt is before more =
    let whole : each_move gone (names_view (take (i + 1) uris))
    ≡ each_move gone (names_view (take i uris)) ++ each_move gone (string_bytes u ∷ []) =
    ap (λ l. each_move gone (names_view l)) (take_more uris i u lt)
    ∙ ap (each_move gone) (map-append string_bytes (take i uris) (get_or uris i u ∷ []))
    ∙ map-append _ (names_view (take i uris)) (string_bytes (get_or uris i u) ∷ [])
    ∙ ap (λ (v : String Global). each_move gone (names_view (take i uris))
    ++ each_move gone (string_bytes v ∷ [])) (sym is) in
    subst (λ (w : List Move). Moves w start new) (sym whole)
    (both_moves (each_move gone (names_view (take i uris))) (each_move gone (string_bytes u ∷ []))
    start old new before more)

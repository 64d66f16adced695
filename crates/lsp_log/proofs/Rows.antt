-- Small logs, computed by the definitions.
use Rattle.std.proofs.Common.{◌≡◌, ℕ, List, true, false, ap, ◌∷◌, [], Some, None, refl, inl, inr, lit<}
use Rattle.std.specs.Prelude.{pos, negsuc, codes, slice_index, ◌==◌}
use Rattle.std.specs.Fmt.{digits}
use Rattle.lsp_types.specs.declared.side.Side.TheVariants.{Editor, Server}
use Rattle.lsp_frame.specs.Bounds.{profile}
use Rattle.lsp_frame.specs.declared.format.Format.TheVariants.{One, Two}
use Rattle.lsp_log.specs.Place.{shown_line, IsFaultAt}
use Rattle.lsp_log.specs.Room.{AwaitsRecord}
use Rattle.lsp_log.specs.declared.fault.LogCode.TheVariants.{L1, L3}
use Rattle.lsp_log.specs.Log.{chunk, shown, spelling, NoFirstLine, IsLog, Breaks, bad_number, cut_short, bad_end, chunk_head, shown_head}

a_snapshot : spelling (shown (pos 1) (codes "file:///a") (codes "ab")) ≡ codes "T 1 9 2\nfile:///a\nab\n"
unfolding digits
a_snapshot = refl

a_version_below_zero : spelling (shown (negsuc 6) (codes "a") []) ≡ codes "T -7 1 0\na\n\n"
unfolding digits
a_version_below_zero = refl

bytes_that_were_read : spelling (chunk Server (codes "abc")) ≡ codes "S 3\nabc\n"
unfolding digits
bytes_that_were_read = refl

no_bytes_are_out_of_range : Breaks profile (codes "E 0\n") bad_number
unfolding digits
no_bytes_are_out_of_range = (chunk_head Editor 0, [], record { whole = refl; short = lit< tt; one = refl }, refl, refl)

too_many_bytes_are_out_of_range : Breaks profile (codes "E 1048577\n") bad_number
unfolding digits
too_many_bytes_are_out_of_range = (chunk_head Editor 1048577, [], record { whole = refl; short = lit< tt; one = refl }, refl, refl)

a_line_without_its_end_is_cut_short : Breaks profile (codes "X") cut_short
a_line_without_its_end_is_cut_short = inl (lit< tt, lit< tt, refl)

bytes_without_a_line_end_are_cut_short : Breaks profile (codes "E 2\nab") cut_short
unfolding digits
bytes_without_a_line_end_are_cut_short = inr (chunk_head Editor 2, codes "ab", record { line = record { whole = refl; short = lit< tt; one = refl }; range = refl }, refl)

another_byte_is_no_line_end : Breaks profile (codes "E 2\nabc") bad_end
unfolding digits
another_byte_is_no_line_end = (chunk_head Editor 2, codes "abc", record { line = record { whole = refl; short = lit< tt; one = refl }; range = refl }, refl)

-- ---- where memory is wanted

the_bytes_are_awaited : AwaitsRecord profile (codes "E 3\n")
unfolding digits
the_bytes_are_awaited = record { head = chunk_head Editor 3; range = refl; parts = []; whole = refl; awaits = record { parts = []; next = 3; others = []; are = refl; some = lit< tt; whole = refl } }

the_text_is_awaited_behind_its_uri : AwaitsRecord profile (codes "T 1 1 2\na\n")
unfolding digits
the_text_is_awaited_behind_its_uri = record {
  head = shown_head (pos 1) 1 2;
  range = refl;
  parts = codes "a\n";
  whole = refl;
  awaits = record { parts = codes "a" ∷ []; next = 2; others = []; are = refl; some = lit< tt; whole = refl };
}

-- ---- whole logs

the_first_line_alone : IsLog profile (codes "lsp-session 1\n") (Some One) [] None
the_first_line_alone = (None, record { rest = []; flaw = None; begins = record { whole = refl; fits = tt }; ends = refl; code = refl }, refl)

the_other_first_line_alone : IsLog profile (codes "lsp-session 2\n") (Some Two) [] None
the_other_first_line_alone = (None, record { rest = []; flaw = None; begins = record { whole = refl; fits = tt }; ends = refl; code = refl }, refl)

one_record : IsLog profile (codes "lsp-session 1\nE 3\nabc\n") (Some One) (chunk Editor (codes "abc") ∷ []) None
unfolding digits
one_record = (None, record { rest = []; flaw = None; begins = record { whole = refl; fits = (record { range = refl; text = tt }, tt) }; ends = refl; code = refl }, refl)

a_fault_has_the_number_of_its_record : IsLog profile (codes "lsp-session 2\nE 3\nabc\nE 0\n") (Some Two) (chunk Editor (codes "abc") ∷ []) (Some (2, L3))
unfolding digits
a_fault_has_the_number_of_its_record = (
  Some L3,
  record {
    rest = codes "E 0\n";
    flaw = Some bad_number;
    begins = record { whole = refl; fits = (record { range = refl; text = tt }, tt) };
    ends = no_bytes_are_out_of_range;
    code = refl;
  },
  refl,
)

-- the thirteenth byte names the format
no_format : NoFirstLine (codes "lsp-session 9\n")
no_format One rest e = let differs : false ≡ true = ap (λ (w : List ℕ). slice_index w 12 == 49) e in absurd cc
no_format Two rest e = let differs : false ≡ true = ap (λ (w : List ℕ). slice_index w 12 == 50) e in absurd cc

another_first_line : IsLog profile (codes "lsp-session 9\n") None [] (Some (0, L1))
another_first_line = (refl, refl, no_format)

-- ---- where a fault lies, and what stands there

a_fault_lies_behind_the_records : IsFaultAt profile (codes "lsp-session 2\nE 3\nabc\nE 0\n") 22 (codes "E 0\n")
unfolding digits
a_fault_lies_behind_the_records = record { format = Some Two; records = chunk Editor (codes "abc") ∷ []; fault = (2, L3); is_log = a_fault_has_the_number_of_its_record; place_is = refl; line_is = refl }

a_missing_first_line_lies_at_the_start : IsFaultAt profile (codes "lsp-session 9\n") 0 (codes "lsp-session 9\n")
a_missing_first_line_lies_at_the_start = record { format = None; records = []; fault = (0, L1); is_log = another_first_line; place_is = refl; line_is = refl }

a_line_ends_with_its_feed : shown_line (Some One) (codes "E 3\nabcX") ≡ codes "E 3\n"
a_line_ends_with_its_feed = refl

at_most_64_bytes_are_shown : shown_line (Some One) (codes "0123456789012345678901234567890123456789012345678901234567890123456789\n") ≡ codes "0123456789012345678901234567890123456789012345678901234567890123"
at_most_64_bytes_are_shown = refl

fewer_of_a_log_without_a_first_line : shown_line None (codes "Content-Length: 10\r\n") ≡ codes "Content-Length"
fewer_of_a_log_without_a_first_line = refl

-- What stands at the front of bytes, from a search for the first CR LF CR LF.
use Rattle.std.specs.Prelude.{◌⊎◌}
use Rattle.std.proofs.Common.{◌≡◌, ℕ, ◌+◌, ◌-◌, ◌<◌, ◌≤◌, List, ◌++◌, length, take, drop, min, Some, None, Ok, Err, refl, sym, ap, subst, ◌∙◌, arith, inl, inr}
use Rattle.std.proofs.lemmas.List.{length-append, take-append-drop, take-take, length-take, length-drop, take-append-le, take_min}
use Rattle.memchr.specs.Find.{FindsNeedle}
use Rattle.lsp_frame.specs.Bounds.{Bounds}
use Rattle.lsp_frame.specs.Header.{blank_line, Says}
use Rattle.lsp_frame.specs.Frame.{HoldsNoBlank, IsHeader, IsFrame, Breaks}
use Rattle.lsp_frame.specs.declared.start.FrameSize.{FrameSize}
use Rattle.lsp_frame.specs.Start.{StartsWithHeader, StartsWithNone, StartsUnfinished, StartsAs}
use Rattle.lsp_frame.specs.declared.start.Start.{Start}
use Rattle.lsp_frame.specs.declared.start.Start.TheVariants.{Fault, Unfinished}
use Rattle.lsp_frame.proofs.Splits.{none_found, first_part}
use Rattle.lsp_frame.proofs.Frames.{frame_header, header_near, same_header, says_one, says_along, ok_is, err_not_ok}

pub none_near : (limits : Bounds) (bytes near : List ℕ) → near ≡ take limits.header bytes → FindsNeedle near blank_line 0 None → HoldsNoBlank (take limits.header bytes)
none_near limits bytes near is none = subst HoldsNoBlank is (none_found near none)

-- the header part may still end
pub unfinished_header : (limits : Bounds) (bytes : List ℕ) → HoldsNoBlank (take limits.header bytes) → length bytes < limits.header → StartsUnfinished limits bytes
unfinished_header limits bytes none short = record {
  no_frame = λ content after begins. header_near limits bytes begins.2.header (content ++ after) (frame_header limits bytes content after begins) none;
  no_fault = λ rule breaks. elim breaks [
    | inl long ↦ absurd (omega (arith, long.1.long))
    | inr bad ↦ header_near limits bytes bad.header bad.after (record { whole = bad.whole; part = bad.part }) none
  ];
}

-- no byte holds it
pub none_in_nothing : (limits : Bounds) (bytes : List ℕ) → length bytes ≡ 0 → HoldsNoBlank (take limits.header bytes)
none_in_nothing limits bytes none front back e =
    absurd (omega (arith, none, ap length e, length-take limits.header bytes, length-append front (blank_line ++ back), length-append blank_line back))

pub too_long : (limits : Bounds) (bytes : List ℕ) → HoldsNoBlank (take limits.header bytes) → limits.header ≤ length bytes → Breaks limits bytes 101
too_long limits bytes none long = inl (refl, record { long = long; endless = none })

-- a header part is found
pub record Found (limits : Bounds) (bytes : List ℕ) (n : ℕ) : Type 0 where
  pub fits : n ≤ length bytes
  pub part : IsHeader limits (take n bytes)

pub found : (limits : Bounds) (bytes near : List ℕ) (k : ℕ) → near ≡ take limits.header bytes → FindsNeedle near blank_line 0 (Some k) → Found limits bytes (k + 4)
found limits bytes near k is finds =
    let part = first_part near k finds.0 finds.1 in
    let fits = finds.1.fits in
    let near_len : length near ≤ limits.header = omega (arith, ap length is, length-take limits.header bytes) in
    let bytes_len : length near ≤ length bytes = omega (arith, ap length is, length-take limits.header bytes) in
    let same : take (k + 4) near ≡ take (k + 4) bytes = ap (take (k + 4)) is ∙ take-take (k + 4) limits.header bytes (omega (arith, near_len, fits)) in
    record {
      fits = omega (arith, bytes_len, fits);
      part = record {
        ends = (part.ends.0, sym same ∙ part.ends.1);
        first = λ front back e. part.first front back (same ∙ e);
        short = omega (arith, length-take (k + 4) bytes, near_len, fits);
      };
    }

pub front_is : (n : ℕ) (bytes : List ℕ) → bytes ≡ take n bytes ++ drop n bytes
front_is n bytes = sym (take-append-drop n bytes)

pub bad_header : (limits : Bounds) (bytes : List ℕ) (n rule : ℕ) → Found limits bytes n → Says limits (take n bytes) (Err rule) → Breaks limits bytes rule
bad_header limits bytes n rule is says = inr (record { header = take n bytes; after = drop n bytes; whole = front_is n bytes; part = is.part; says = says })

-- no header part is whole
pub none_ahead : (limits : Bounds) (bytes : List ℕ) → HoldsNoBlank (take limits.header bytes) → StartsWithNone limits bytes
none_ahead limits bytes none size starts =
    header_near limits bytes (take size.header bytes) (drop size.header bytes) (record { whole = front_is size.header bytes; part = starts.part }) none

-- where a fault stands in front, no header part without fault does
pub none_at_fault : (limits : Bounds) (bytes : List ℕ) (rule : ℕ) → Breaks limits bytes rule → StartsWithNone limits bytes
none_at_fault limits bytes rule (inl long) size starts = none_ahead limits bytes long.1.endless size starts
none_at_fault limits bytes rule (inr bad) size starts =
    let n = size.header in
    let h = same_header limits (take n bytes) bad.header (drop n bytes) bad.after starts.part bad.part (sym (front_is n bytes) ∙ bad.whole) in
    err_not_ok (sym (says_one limits bad.header (Ok size.content) (Err rule) (says_along limits (take n bytes) bad.header (Ok size.content) h.0 starts.says) bad.says))

pub none_at : (limits : Bounds) (bytes : List ℕ) (start : Start) → StartsAs limits bytes start → ((rule : ℕ) × (start ≡ Fault rule)) ⊎ (start ≡ Unfinished) → StartsWithNone limits bytes
none_at limits bytes start starts (inl fault) = let breaks : Breaks limits bytes fault.0 = subst (StartsAs limits bytes) fault.1 starts in none_at_fault limits bytes fault.0 breaks
none_at limits bytes start starts (inr unfinished) = let none : StartsAs limits bytes Unfinished = subst (StartsAs limits bytes) unfinished starts in none.1

-- the content isn't whole yet
pub unfinished_content : (limits : Bounds) (bytes : List ℕ) (size : FrameSize) → StartsWithHeader limits bytes size → length bytes - size.header < size.content → StartsUnfinished limits bytes
unfinished_content limits bytes size starts short =
    let n = size.header in
    let len = size.content in
    record {
      no_frame = λ content after begins.
          let has = frame_header limits bytes content after begins in
          let h = same_header limits (take n bytes) begins.2.header (drop n bytes) (content ++ after) starts.part has.part (sym (front_is n bytes) ∙ has.whole) in
          let lens : len ≡ length content = ok_is (says_one limits begins.2.header (Ok len) (Ok (length content)) (says_along limits (take n bytes) begins.2.header (Ok len) h.0 starts.says) begins.2.says) in
          absurd (omega (arith, lens, ap length h.1, length-append content after, length-drop n bytes));
      no_fault = λ rule breaks. none_at_fault limits bytes rule breaks size starts;
    }

-- what the front is as a frame
pub record Front (limits : Bounds) (bytes : List ℕ) (size : FrameSize) : Type 0 where
  pub is_frame : IsFrame limits (take (size.header + size.content) bytes) (drop size.header (take (size.header + size.content) bytes))
  pub len : length (take (size.header + size.content) bytes) ≡ size.header + size.content

pub front_of : (limits : Bounds) (bytes : List ℕ) (size : FrameSize) → StartsWithHeader limits bytes size → size.header + size.content ≤ length bytes → Front limits bytes size
front_of limits bytes size starts fits =
    let header = size.header in
    let content = size.content in
    let frame = take (header + content) bytes in
    let len : length frame ≡ header + content = omega (arith, length-take (header + content) bytes) in
    let same : take header frame ≡ take header bytes = take-take header (header + content) bytes (omega arith) in
    let content_len : content ≡ length (drop header frame) = omega (arith, len, length-drop header frame) in
    record {
      is_frame = record {
        header = take header bytes;
        whole = front_is header frame ∙ ap (λ (w : List ℕ). w ++ drop header frame) same;
        part = starts.part;
        says = subst (λ (k : ℕ). Says limits (take header bytes) (Ok k)) content_len starts.says;
      };
      len = len;
    }

-- a header part still stands in front of more bytes
pub header_stays : (limits : Bounds) (bytes more : List ℕ) (size : FrameSize) → StartsWithHeader limits bytes size → StartsWithHeader limits (bytes ++ more) size
header_stays limits bytes more size starts =
    let same : take size.header bytes ≡ take size.header (bytes ++ more) = sym (take-append-le size.header bytes more starts.fits) in
    record {
      fits = omega (arith, starts.fits, length-append bytes more);
      part = subst (IsHeader limits) same starts.part;
      says = says_along limits (take size.header bytes) (take size.header (bytes ++ more)) (Ok size.content) same starts.says;
    }

-- the slice that is searched
pub near_is : (limits : Bounds) (bytes : List ℕ) (m most : ℕ) → m ≡ min (length bytes) most → most ≡ limits.header → take m bytes ≡ take limits.header bytes
near_is limits bytes m most least is =
    let same : m ≡ min limits.header (length bytes) = omega (arith, least, is) in
    ap (λ (k : ℕ). take k bytes) same ∙ take_min limits.header bytes

-- Bytes begin with one frame or one fault, whatever follows, and are one stream.
use Rattle.std.proofs.Common.{◌≡◌, ℕ, zero, suc, ◌-◌, ◌≤◌, List, [], ◌∷◌, ◌++◌, length, take, Option, Some, None, Result, Ok, Err, refl, sym, ap, subst, ◌∙◌, append_assoc, arith, inl, inr}
use Rattle.std.proofs.lemmas.List.{length-append, take-append-le, append-nil, nil_from_length}
use Rattle.std.proofs.lemmas.Bool.{cases_lt}
use Rattle.lsp_frame.specs.Bounds.{Bounds}
use Rattle.lsp_frame.specs.Header.{blank_line, Field, Spells, said_by, Says}
use Rattle.lsp_frame.specs.Frame.{HoldsNoBlank, IsHeader, IsFrame, Begins, Frames, Breaks, HasFault, IsStream}
use Rattle.lsp_frame.specs.Laws.{Same}
use Rattle.lsp_frame.proofs.Fields.{same_fields}
use Rattle.lsp_frame.proofs.Splits.{split_front}

abbrev pub is_ok_of : ℕ → Result ℕ ℕ
is_ok_of n = Ok n

abbrev pub is_err_of : ℕ → Result ℕ ℕ
is_err_of n = Err n

longer_header : (limits : Bounds) (g h us bs : List ℕ) → IsHeader limits g → IsHeader limits h → g ++ us ≡ h ++ bs → length g ≤ length h → (g ≡ h) × (us ≡ bs)
longer_header limits g h us bs is_g is_h e short =
    let m = split_front g h us bs e short in
    let holds : h ≡ is_g.ends.0 ++ (blank_line ++ m.0) = m.1 ∙ ap (λ (w : List ℕ). w ++ m.0) is_g.ends.1 ∙ append_assoc is_g.ends.0 blank_line m.0 in
    let nothing : m.0 ≡ [] = is_h.first is_g.ends.0 m.0 holds in
    (sym (m.1 ∙ ap (λ (w : List ℕ). g ++ w) nothing ∙ append-nil g), m.2 ∙ ap (λ (w : List ℕ). w ++ bs) nothing)

pub ok_is : {m n : ℕ} → is_ok_of m ≡ is_ok_of n → m ≡ n
ok_is e = cc e

err_is : {m n : ℕ} → is_err_of m ≡ is_err_of n → m ≡ n
err_is e = cc e

pub err_not_ok : {m n : ℕ} → is_err_of m ≡ is_ok_of n → ⊥
err_not_ok e = absurd cc

-- the first n bytes, where the front is no longer
pub take_beyond : (n : ℕ) (front back : List ℕ) → length front ≤ n → take n (front ++ back) ≡ front ++ take (n - length front) back
take_beyond n [] back fits = grind arith
take_beyond zero (x ∷ front) back fits = absurd (omega arith)
take_beyond (suc n) (x ∷ front) back fits = ap (λ (w : List ℕ). x ∷ w) (take_beyond n front back (omega arith)) ∙ ap (λ (k : ℕ). x ∷ (front ++ take k back)) (let less : n - length front ≡ suc n - suc (length front) = omega arith in less)

-- bytes have one header part in front
pub same_header : (limits : Bounds) (g h us bs : List ℕ) → IsHeader limits g → IsHeader limits h → g ++ us ≡ h ++ bs → (g ≡ h) × (us ≡ bs)
same_header limits g h us bs is_g is_h e =
    elim (cases_lt (length h) (length g)) [
      | inl longer ↦ let r = longer_header limits h g bs us is_h is_g (sym e) (omega arith) in (sym r.0, sym r.1)
      | inr shorter ↦ longer_header limits g h us bs is_g is_h e shorter
    ]

spelled_one : (header : List ℕ) (fs gs : List Field) → Spells header fs → Spells header gs → fs ≡ gs
spelled_one header fs gs p q = same_fields fs gs p.each q.each (sym p.lines ∙ q.lines)

-- a header part says one thing
pub says_one : (limits : Bounds) (header : List ℕ) (p q : Result ℕ ℕ) → Says limits header p → Says limits header q → p ≡ q
says_one limits header p q (inl a) (inl b) = sym a.2 ∙ ap (λ (fs : List Field). said_by limits fs) (spelled_one header a.0 b.0 a.1 b.1) ∙ b.2
says_one limits header p q (inl a) (inr b) = absurd (b.0 a.0 a.1)
says_one limits header p q (inr a) (inl b) = absurd (a.0 b.0 b.1)
says_one limits header p q (inr a) (inr b) = a.1 ∙ sym b.1

pub says_along : (limits : Bounds) (g h : List ℕ) (p : Result ℕ ℕ) → g ≡ h → Says limits g p → Says limits h p
says_along limits g h p e is = subst (λ (w : List ℕ). Says limits w p) e is

-- bytes in front of which a header part stands
pub record HasHeader (limits : Bounds) (bytes header after : List ℕ) : Type 0 where
  pub whole : bytes ≡ header ++ after
  pub part : IsHeader limits header

pub frame_header : (limits : Bounds) (bytes content rest : List ℕ) (begins : Begins limits bytes content rest) → HasHeader limits bytes begins.2.header (content ++ rest)
frame_header limits bytes content rest begins = record {
  whole = begins.1 ∙ ap (λ (w : List ℕ). w ++ rest) begins.2.whole ∙ append_assoc begins.2.header content rest;
  part = begins.2.part;
}

-- a header part stands among the first bytes
pub header_near : (limits : Bounds) (bytes header after : List ℕ) → HasHeader limits bytes header after → HoldsNoBlank (take limits.header bytes) → ⊥
header_near limits bytes header after has none =
    let front = has.part.ends.0 in
    let inside : take limits.header bytes ≡ front ++ (blank_line ++ take (limits.header - length header) after) =
    ap (take limits.header) has.whole ∙ take_beyond limits.header header after has.part.short ∙ ap (λ (w : List ℕ). w ++ take (limits.header - length header) after) has.part.ends.1 ∙ append_assoc front blank_line (take (limits.header - length header) after)
    in
    none front (take (limits.header - length header) after) inside

-- bytes begin with one frame
pub same_frame : (limits : Bounds) (bytes c d r s : List ℕ) → Begins limits bytes c r → Begins limits bytes d s → (c ≡ d) × (r ≡ s)
same_frame limits bytes c d r s p q =
    let hp = frame_header limits bytes c r p in
    let hq = frame_header limits bytes d s q in
    let h = same_header limits p.2.header q.2.header (c ++ r) (d ++ s) hp.part hq.part (sym hp.whole ∙ hq.whole) in
    let says : Ok (length c) ≡ Ok (length d) = says_one limits q.2.header (Ok (length c)) (Ok (length d)) (says_along limits p.2.header q.2.header (Ok (length c)) h.0 p.2.says) q.2.says in
    let lens : length c ≡ length d = ok_is says in
    let m = split_front c d r s h.1 (omega (arith, lens)) in
    let nothing : m.0 ≡ [] = nil_from_length m.0 (omega (arith, lens, ap length m.1, length-append c m.0)) in
    (sym (m.1 ∙ ap (λ (w : List ℕ). c ++ w) nothing ∙ append-nil c), m.2 ∙ ap (λ (w : List ℕ). w ++ s) nothing)

-- bytes that begin with a fault begin with no frame
pub breaks_no_frame : (limits : Bounds) (bytes : List ℕ) (rule : ℕ) → Breaks limits bytes rule → (content rest : List ℕ) → Begins limits bytes content rest → ⊥
breaks_no_frame limits bytes rule (inl long) content rest begins = header_near limits bytes begins.2.header (content ++ rest) (frame_header limits bytes content rest begins) long.1.endless
breaks_no_frame limits bytes rule (inr bad) content rest begins =
    let has = frame_header limits bytes content rest begins in
    let h = same_header limits bad.header begins.2.header bad.after (content ++ rest) bad.part has.part (sym bad.whole ∙ has.whole) in
    let says : Err rule ≡ Ok (length content) = says_one limits begins.2.header (Err rule) (Ok (length content)) (says_along limits bad.header begins.2.header (Err rule) h.0 bad.says) begins.2.says in
    absurd (err_not_ok says)

-- bytes begin with one fault
pub same_fault : (limits : Bounds) (bytes : List ℕ) (p q : ℕ) → Breaks limits bytes p → Breaks limits bytes q → p ≡ q
same_fault limits bytes p q (inl a) (inl b) = a.0 ∙ sym b.0
same_fault limits bytes p q (inl a) (inr b) = absurd (header_near limits bytes b.header b.after (record { whole = b.whole; part = b.part }) a.1.endless)
same_fault limits bytes p q (inr a) (inl b) = absurd (header_near limits bytes a.header a.after (record { whole = a.whole; part = a.part }) b.1.endless)
same_fault limits bytes p q (inr a) (inr b) =
    let h = same_header limits a.header b.header a.after b.after a.part b.part (sym a.whole ∙ b.whole) in
    err_is (says_one limits b.header (Err p) (Err q) (says_along limits a.header b.header (Err p) h.0 a.says) b.says)

-- ---- more bytes behind

pub begins_more : (limits : Bounds) (bytes content rest more : List ℕ) → Begins limits bytes content rest → Begins limits (bytes ++ more) content (rest ++ more)
begins_more limits bytes content rest more begins = (begins.0, ap (λ (w : List ℕ). w ++ more) begins.1 ∙ append_assoc begins.0 rest more, begins.2)

pub breaks_more : (limits : Bounds) (bytes : List ℕ) (rule : ℕ) (more : List ℕ) → Breaks limits bytes rule → Breaks limits (bytes ++ more) rule
breaks_more limits bytes rule more (inl long) = inl (
  long.0,
  record {
    long = omega (arith, long.1.long, length-append bytes more);
    endless = subst HoldsNoBlank (sym (take-append-le limits.header bytes more long.1.long)) long.1.endless;
  },
)
breaks_more limits bytes rule more (inr bad) = inr (record {
  header = bad.header;
  after = bad.after ++ more;
  whole = ap (λ (w : List ℕ). w ++ more) bad.whole ∙ append_assoc bad.header bad.after more;
  part = bad.part;
  says = bad.says;
})

pub frames_more : (limits : Bounds) (bytes : List ℕ) (contents : List (List ℕ)) (rest more : List ℕ) → Frames limits bytes contents rest → Frames limits (bytes ++ more) contents (rest ++ more)
frames_more limits bytes [] rest more frames = ap (λ (w : List ℕ). w ++ more) frames
frames_more limits bytes (c ∷ cs) rest more frames = (frames.0 ++ more, begins_more limits bytes c frames.0 more frames.1, frames_more limits frames.0 cs rest more frames.2)

-- a frame behind the frames
pub frames_push : (limits : Bounds) (bytes : List ℕ) (contents : List (List ℕ)) (rest content after : List ℕ) → Frames limits bytes contents rest → Begins limits rest content after → Frames limits bytes (contents ++ content ∷ []) after
frames_push limits bytes [] rest content after frames begins = (after, subst (λ (w : List ℕ). Begins limits w content after) (sym frames) begins, refl)
frames_push limits bytes (c ∷ cs) rest content after frames begins = (frames.0, frames.1, frames_push limits frames.0 cs rest content after frames.2 begins)

-- ---- one stream

same_end : (limits : Bounds) (bytes : List ℕ) (p q : Option ℕ) → HasFault limits bytes p → HasFault limits bytes q → p ≡ q
same_end limits bytes None None a b = refl
same_end limits bytes None (Some q) a b = absurd (a q b)
same_end limits bytes (Some p) None a b = absurd (b p a)
same_end limits bytes (Some p) (Some q) a b = ap (λ (n : ℕ). Some n) (same_fault limits bytes p q a b)

-- each stream of bytes is these contents, this rest and this fault, and no others
pub one_stream : (limits : Bounds) (bytes : List ℕ) (us bs : List (List ℕ)) (r s : List ℕ) (p q : Option ℕ) → IsStream limits bytes us r p → IsStream limits bytes bs s q → Same us bs r s p q
one_stream limits bytes [] [] r s p q a b =
    let same : r ≡ s = sym a.frames ∙ b.frames in
    record { contents = refl; rest = same; fault = same_end limits s p q (subst (λ (w : List ℕ). HasFault limits w p) same a.fault) b.fault }
one_stream limits bytes [] (d ∷ bs) r s p q a b = absurd (a.no_more d b.frames.0 (subst (λ (w : List ℕ). Begins limits w d b.frames.0) a.frames b.frames.1))
one_stream limits bytes (c ∷ us) [] r s p q a b = absurd (b.no_more c a.frames.0 (subst (λ (w : List ℕ). Begins limits w c a.frames.0) b.frames a.frames.1))
one_stream limits bytes (c ∷ us) (d ∷ bs) r s p q a b =
    let f = same_frame limits bytes c d a.frames.0 b.frames.0 a.frames.1 b.frames.1 in
    let tail_a : IsStream limits b.frames.0 us r p = record { frames = subst (λ (w : List ℕ). Frames limits w us r) f.1 a.frames.2; no_more = a.no_more; fault = a.fault } in
    let tail_b : IsStream limits b.frames.0 bs s q = record { frames = b.frames.2; no_more = b.no_more; fault = b.fault } in
    let t = one_stream limits b.frames.0 us bs r s p q tail_a tail_b in
    record { contents = cc (f.0, t.contents); rest = t.rest; fault = t.fault }

-- a fault stays, and the contents with it
pub faulty_more : (limits : Bounds) (bytes : List ℕ) (contents : List (List ℕ)) (rest : List ℕ) (rule : ℕ) (more : List ℕ) → IsStream limits bytes contents rest (Some rule) → IsStream limits (bytes ++ more) contents (rest ++ more) (Some rule)
faulty_more limits bytes contents rest rule more stream =
    let breaks = breaks_more limits rest rule more stream.fault in
    record {
      frames = frames_more limits bytes contents rest more stream.frames;
      no_more = breaks_no_frame limits (rest ++ more) rule breaks;
      fault = breaks;
    }

-- frames that bytes begin with are the first of their stream
pub frames_first : (limits : Bounds) (bytes : List ℕ) (contents : List (List ℕ)) (after : List ℕ) (all : List (List ℕ)) (rest : List ℕ) (breaks : Option ℕ) → Frames limits bytes contents after → IsStream limits bytes all rest breaks
    → (more : List (List ℕ)) × (all ≡ contents ++ more) × IsStream limits after more rest breaks
frames_first limits bytes [] after all rest breaks frames stream =
    (all, refl, record { frames = subst (λ (w : List ℕ). Frames limits w all rest) frames stream.frames; no_more = stream.no_more; fault = stream.fault })
frames_first limits bytes (c ∷ contents) after [] rest breaks frames stream =
    absurd (stream.no_more c frames.0 (subst (λ (w : List ℕ). Begins limits w c frames.0) stream.frames frames.1))
frames_first limits bytes (c ∷ contents) after (d ∷ all) rest breaks frames stream =
    let same = same_frame limits bytes d c stream.frames.0 frames.0 stream.frames.1 frames.1 in
    let tail : IsStream limits frames.0 all rest breaks = record { frames = subst (λ (w : List ℕ). Frames limits w all rest) same.1 stream.frames.2; no_more = stream.no_more; fault = stream.fault } in
    let more = frames_first limits frames.0 contents after all rest breaks frames.2 tail in
    (more.0, cc (same.0, more.1), more.2)

-- no frame is the beginning of a longer one
pub no_longer_frame : (limits : Bounds) (frame more content longer : List ℕ) → IsFrame limits frame content → IsFrame limits (frame ++ more) longer → more ≡ []
no_longer_frame limits frame more content longer short long =
    let whole : frame ++ more ≡ (frame ++ more) ++ [] = sym (append-nil (frame ++ more)) in
    (same_frame limits (frame ++ more) content longer more [] (frame, refl, short) (frame ++ more, whole, long)).1

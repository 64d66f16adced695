-- Each content of a side is exactly one event.
use Rattle.std.proofs.Common.{◌≡◌, ◌⊎◌, ℕ, List, [], ◌∷◌, ◌++◌, Option, Some, None, inl, inr, refl, sym, ap, ◌∙◌}
use Rattle.std.specs.List.{AllZip}
use Rattle.std.proofs.lemmas.Option.{same_Some}
use Rattle.lsp_rpc.specs.Message.{Message}
use Rattle.lsp_rpc.specs.Reading as reading
use Rattle.lsp_rpc.specs.Reading.{BreaksRule}
use Rattle.lsp_rpc.specs.Act.{Act}
use Rattle.lsp_rpc.specs.Params.{IsRefused, act_at}
use Rattle.lsp_types.specs.declared.side.Side.{Side}
use Rattle.lsp_session.specs.Sent.{Sent}
use Rattle.lsp_verdict.specs.Event.{Event, message, fault, snapshot}
use Rattle.lsp_verdict.specs.Placed.{IsSent, ReadsAs, Raw, content, broken, show, Reads}
use Rattle.lsp_verdict.proofs.Below.{one_message, one_rule, not_both, message_or_rule}

same_sent : (m n : Sent) → m.side ≡ n.side → m.message ≡ n.message → m.act ≡ n.act → m ≡ n
same_sent m n side text act = λ i. record { side = side i; message = text i; act = act i }

one_sent : (side : Side) (bytes : List ℕ) (m n : Sent) → IsSent side bytes m → IsSent side bytes n → m ≡ n
one_sent side bytes m n p q =
    let same : m.message ≡ n.message = one_message bytes m.message n.message p.reads q.reads in
    same_sent m n (p.by ∙ sym q.by) same (same_Some _ _ (sym p.means ∙ ap (act_at side) same ∙ q.means))

unread_act : (o : Option Act) (a : Act) → o ≡ None → o ≡ Some a → ⊥
unread_act o a none some = let same = sym none ∙ some in cc

sent_not_refused : (side : Side) (bytes : List ℕ) (m : Sent) (rule : ℕ) → IsSent side bytes m → IsRefused side bytes rule → ⊥
sent_not_refused side bytes m rule p (inl breaks) = not_both bytes m.message rule p.reads breaks
sent_not_refused side bytes m rule p (inr (is, bad)) =
    let same : bad.of ≡ m.message = one_message bytes bad.of m.message bad.reads p.reads in
    unread_act (act_at side m.message) m.act (ap (act_at side) (sym same) ∙ bad.unread) p.means

one_refusal : (side : Side) (bytes : List ℕ) (r s : ℕ) → IsRefused side bytes r → IsRefused side bytes s → r ≡ s
one_refusal side bytes r s (inl p) (inl q) = one_rule bytes r s p q
one_refusal side bytes r s (inr p) (inr q) = p.0 ∙ sym q.0
one_refusal side bytes r s (inl p) (inr q) = absurd (not_both bytes q.1.of r q.1.reads p)
one_refusal side bytes r s (inr p) (inl q) = absurd (not_both bytes p.1.of s p.1.reads q)

-- a content of a side is at most one event
pub one_event : (side : Side) (bytes : List ℕ) (e f : Event) → ReadsAs side bytes e → ReadsAs side bytes f → e ≡ f
one_event side bytes (message m) (message n) p q = ap message (one_sent side bytes m n p q)
one_event side bytes (message m) (fault by rule) p q = absurd (sent_not_refused side bytes m rule p q.1)
one_event side bytes (fault by rule) (message m) p q = absurd (sent_not_refused side bytes m rule q p.1)
one_event side bytes (fault by r) (fault other s) p q = ap (λ w. fault w r) (p.0 ∙ sym q.0) ∙ ap (fault other) (one_refusal side bytes r s p.1 q.1)
one_event side bytes (snapshot uri n t) f p q = absurd p
one_event side bytes _ (snapshot uri n t) p q = absurd q

by_act : (side : Side) (bytes : List ℕ) (m : Message) (o : Option Act) → reading.Reads bytes m → act_at side m ≡ o → (e : Event) × ReadsAs side bytes e
by_act side bytes m None reads is = (fault side 209, (refl, inr (refl, record { of = m; reads = reads; unread = is })))
by_act side bytes m (Some act) reads is = (message (record { side = side; message = m; act = act }), record { by = refl; reads = reads; means = is })

by_reading : (side : Side) (bytes : List ℕ) → ((m : Message) × reading.Reads bytes m) ⊎ ((r : ℕ) × BreaksRule bytes r) → (e : Event) × ReadsAs side bytes e
by_reading side bytes (inl (m, reads)) = by_act side bytes m (act_at side m) reads refl
by_reading side bytes (inr (rule, breaks)) = (fault side rule, (refl, inl breaks))

-- and it is one
pub some_event : (side : Side) (bytes : List ℕ) → (e : Event) × ReadsAs side bytes e
some_event side bytes = by_reading side bytes (message_or_rule bytes)

pub one_read : (raw : Raw) (e f : Event) → Reads raw e → Reads raw f → e ≡ f
one_read (content side bytes) e f p q = one_event side bytes e f p q
one_read _ e f p q = p ∙ sym q

pub some_read : (raw : Raw) → (e : Event) × Reads raw e
some_read (content side bytes) = some_event side bytes
some_read (broken side rule) = (fault side rule, refl)
some_read (show n uri t) = (snapshot uri n _, refl)

pub one_list : (raws : List Raw) (es fs : List Event) → AllZip Reads raws es → AllZip Reads raws fs → es ≡ fs
one_list [] [] [] p q = refl
one_list [] (e ∷ es) fs p q = absurd p
one_list (raw ∷ raws) [] fs p q = absurd p
one_list (raw ∷ raws) (e ∷ es) (f ∷ fs) p q = ap (λ w. w ∷ es) (one_read raw e f p.0 q.0) ∙ ap (λ w. f ∷ w) (one_list raws es fs p.1 q.1)
one_list _ _ _ p q = absurd q

pub some_list : (raws : List Raw) → (es : List Event) × AllZip Reads raws es
some_list [] = ([], tt)
some_list (raw ∷ raws) = let first = some_read raw in let rest = some_list raws in (first.0 ∷ rest.0, (first.1, rest.1))

-- the events of what comes behind stand behind
pub lists_join : (raws more : List Raw) (es fs : List Event) → AllZip Reads raws es → AllZip Reads more fs → AllZip Reads (raws ++ more) (es ++ fs)
lists_join [] more [] fs p q = q
lists_join (raw ∷ raws) more (e ∷ es) fs p q = (p.0, lists_join raws more es fs p.1 q)
lists_join _ more _ fs p q = absurd p

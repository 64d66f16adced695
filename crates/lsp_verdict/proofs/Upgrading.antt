-- A log written again in format 2: that there is one such, and how it goes on.
pub mod MoreKept
pub mod Laws
use Rattle.std.proofs.Common.{◌≡◌, List, [], ◌∷◌, ◌++◌, Option, Some, None, refl, sym, ap, subst, ◌∙◌, append_assoc, append-nil}
use Rattle.std.specs.List.{flat_map}
use Rattle.std.proofs.lemmas.Grind.{flat_map-append}
use Rattle.lsp_frame.specs.Bounds.{Bounds}
use Rattle.lsp_frame.specs.declared.format.Format.{Format}
use Rattle.lsp_frame.specs.declared.format.Format.TheVariants.{Two}
use Rattle.lsp_docs.specs.Documents.{terms_of}
use Rattle.lsp_log.specs.Log.{Record, spelling, first_line}
use Rattle.lsp_verdict.specs.Event.{Event}
use Rattle.lsp_verdict.specs.Outcome.{Offends, format_or_one}
use Rattle.lsp_verdict.specs.Placed.{IsSession}
use Rattle.lsp_verdict.specs.Upgraded.{upgraded, AreAccepted, StopsAt, HasAccepted, SomeUpgrade, OneUpgrade}
use Rattle.lsp_verdict.specs.Verdict.{Verdict, first_no}
use Rattle.lsp_verdict.proofs.Below.{one_log}
use Rattle.lsp_verdict.proofs.Logs.{some_verdict, one_verdict}
use Rattle.lsp_verdict.proofs.Outcomes.{session_front}
use Rattle.lsp_verdict.proofs.Sessions.{some_session}
use Rattle.lsp_verdict.proofs.Verdicts.{nothing_offends, nothing_found}
use Rattle.lsp_verdict.proofs.LookBackLemmas.{first_of-more}

-- ---- the accepted records

pub accepted_none : (limits : Bounds) (format : Format) → AreAccepted limits format []
accepted_none limits format = record { events = []; session = ([], refl, tt); clean = nothing_offends (terms_of limits format) [] refl }

-- the next record brings an event that offends, or is accepted too
data Next (limits : Bounds) (format : Format) (accepted : List Record) (next : Record) : Type 0 where
  stops_at : (v : Verdict) → Offends limits format (accepted ++ next ∷ []) v → Next limits format accepted next
  goes_on : AreAccepted limits format (accepted ++ next ∷ []) → Next limits format accepted next

next_record : (limits : Bounds) (format : Format) (accepted : List Record) (next : Record) → Next limits format accepted next
next_record limits format accepted next =
    let session = some_session limits (accepted ++ next ∷ []) in
    by_first session.0 session.1 (first_no (terms_of limits format) session.0) refl
  where
    by_first : (events : List Event) → IsSession limits (accepted ++ next ∷ []) events → (o : Option Verdict) → first_no (terms_of limits format) events ≡ o → Next limits format accepted next
    by_first events session None none = goes_on (record { events = events; session = session; clean = nothing_offends (terms_of limits format) events none })
    by_first events session (Some v) some = stops_at v (record { events = events; session = session; offends = some })

-- accepted records are among those that are
pub record GoesOn (limits : Bounds) (format : Format) (accepted later : List Record) : Type 0 where
  pub more : List Record
  pub has : HasAccepted limits format (accepted ++ later) (accepted ++ more)

pub accepted_on : (limits : Bounds) (format : Format) (accepted later : List Record) → AreAccepted limits format accepted → GoesOn limits format accepted later
accepted_on limits format accepted [] keeps = record {
  more = [];
  has = record { later = []; whole = sym (append-nil (accepted ++ [])); keeps = subst (AreAccepted limits format) (sym (append-nil accepted)) keeps; stops = tt };
}
accepted_on limits format accepted (next ∷ later) keeps = by_next (accepted_on limits format (accepted ++ next ∷ []) later) (next_record limits format accepted next)
  where
    by_next : (AreAccepted limits format (accepted ++ next ∷ []) → GoesOn limits format (accepted ++ next ∷ []) later) → Next limits format accepted next → GoesOn limits format accepted (next ∷ later)
    by_next further (stops_at v offends) = record {
      more = [];
      has = record {
        later = next ∷ later;
        whole = ap (λ w. w ++ next ∷ later) (sym (append-nil accepted));
        keeps = subst (AreAccepted limits format) (sym (append-nil accepted)) keeps;
        stops = (v, subst (λ w. Offends limits format (w ++ next ∷ []) v) (sym (append-nil accepted)) offends);
      };
    }
    by_next further (goes_on on) =
        let rest = further on in
        let front : accepted ++ next ∷ rest.more ≡ (accepted ++ next ∷ []) ++ rest.more = sym (append_assoc accepted (next ∷ []) rest.more) in
        let all : accepted ++ next ∷ later ≡ (accepted ++ next ∷ []) ++ later = sym (append_assoc accepted (next ∷ []) later) in
        record { more = next ∷ rest.more; has = subst (λ w. HasAccepted limits format w (accepted ++ next ∷ rest.more)) (sym all) (subst (HasAccepted limits format ((accepted ++ next ∷ []) ++ later)) (sym front) rest.has) }

-- where an event of the next record offends, these are all
pub accepted_here : (limits : Bounds) (format : Format) (accepted later : List Record) (next : Record) (v : Verdict) → AreAccepted limits format accepted → Offends limits format (accepted ++ next ∷ []) v → HasAccepted limits format (accepted ++ next ∷ later) accepted
accepted_here limits format accepted later next v keeps offends = record { later = next ∷ later; whole = refl; keeps = keeps; stops = (v, offends) }

-- and where none follows
pub accepted_all : (limits : Bounds) (format : Format) (accepted : List Record) → AreAccepted limits format accepted → HasAccepted limits format accepted accepted
accepted_all limits format accepted keeps = record { later = []; whole = sym (append-nil accepted); keeps = keeps; stops = tt }

-- ---- a log has one upgrade

pub some_upgrade : SomeUpgrade
some_upgrade limits log =
    let whole = some_verdict limits log in
    let format = format_or_one whole.1.format in
    let on = accepted_on limits format [] whole.1.records (accepted_none limits format) in
    (whole.0, upgraded on.more, record { whole = whole.1; accepted = on.more; has = on.has; is = refl })

-- an event of records that are accepted doesn't offend
not_both : {P : Type 0} (limits : Bounds) (format : Format) (records more : List Record) (v : Verdict) → Offends limits format records v → AreAccepted limits format (records ++ more) → P
not_both limits format records more v offends keeps =
    let cut = session_front limits records more offends.events keeps.events offends.session keeps.session in
    let none = nothing_found (terms_of limits format) keeps.events keeps.clean in
    let some = first_of-more _ offends.events cut.0 v offends.offends in
    let both : Some v ≡ None = sym some ∙ ap (first_no (terms_of limits format)) (sym cut.1) ∙ none in
    absurd cc

one_accepted : (limits : Bounds) (format : Format) (done : List Record) (a b la lb : List Record) → a ++ la ≡ b ++ lb → AreAccepted limits format (done ++ a) → AreAccepted limits format (done ++ b)
    → StopsAt limits format (done ++ a) la → StopsAt limits format (done ++ b) lb → a ≡ b
one_accepted limits format done [] [] la lb e ka kb sa sb = refl
one_accepted limits format done [] (y ∷ b) (x ∷ la) lb e ka kb sa sb =
    let same : x ≡ y = cc e in
    let here : (done ++ []) ++ x ∷ [] ≡ done ++ y ∷ [] = ap (λ w. w ++ x ∷ []) (append-nil done) ∙ ap (λ (r : Record). done ++ r ∷ []) same in
    not_both limits format (done ++ y ∷ []) b sa.0 (subst (λ w. Offends limits format w sa.0) here sa.1) (subst (AreAccepted limits format) (sym (append_assoc done (y ∷ []) b)) kb)
one_accepted limits format done (x ∷ a) [] la (y ∷ lb) e ka kb sa sb =
    let same : x ≡ y = cc e in
    let here : (done ++ []) ++ y ∷ [] ≡ done ++ x ∷ [] = ap (λ w. w ++ y ∷ []) (append-nil done) ∙ ap (λ (r : Record). done ++ r ∷ []) (sym same) in
    not_both limits format (done ++ x ∷ []) a sb.0 (subst (λ w. Offends limits format w sb.0) here sb.1) (subst (AreAccepted limits format) (sym (append_assoc done (x ∷ []) a)) ka)
one_accepted limits format done (x ∷ a) (y ∷ b) la lb e ka kb sa sb =
    let same : x ≡ y = cc e in
    let rest : a ++ la ≡ b ++ lb = cc e in
    let move_a : done ++ x ∷ a ≡ (done ++ x ∷ []) ++ a = sym (append_assoc done (x ∷ []) a) in
    let move_b : done ++ y ∷ b ≡ (done ++ x ∷ []) ++ b = ap (λ (r : Record). done ++ r ∷ b) (sym same) ∙ sym (append_assoc done (x ∷ []) b) in
    let tails = one_accepted limits format (done ++ x ∷ []) a b la lb rest
    (subst (AreAccepted limits format) move_a ka) (subst (AreAccepted limits format) move_b kb)
    (subst (λ w. StopsAt limits format w la) move_a sa) (subst (λ w. StopsAt limits format w lb) move_b sb) in
    ap (λ (r : Record). r ∷ a) same ∙ ap (λ w. y ∷ w) tails
one_accepted limits format done _ _ _ _ e ka kb sa sb = absurd cc

pub same_accepted : (limits : Bounds) (format : Format) (records a b : List Record) → HasAccepted limits format records a → HasAccepted limits format records b → a ≡ b
same_accepted limits format records a b p q = one_accepted limits format [] a b p.later q.later (sym p.whole ∙ q.whole) p.keeps q.keeps p.stops q.stops

pub one_upgrade : OneUpgrade
one_upgrade limits sizes log v w out other p q =
    let same = one_log limits sizes log p.whole.format q.whole.format p.whole.records q.whole.records p.whole.fault q.whole.fault p.whole.is_log q.whole.is_log in
    let has : HasAccepted limits (format_or_one q.whole.format) q.whole.records p.accepted =
    subst (λ (f : Option Format). HasAccepted limits (format_or_one f) q.whole.records p.accepted) same.0 (subst (λ (rs : List Record). HasAccepted limits (format_or_one p.whole.format) rs p.accepted) same.1 p.has) in (
      one_verdict limits sizes log v w p.whole q.whole,
      p.is ∙ ap upgraded (same_accepted limits (format_or_one q.whole.format) q.whole.records p.accepted q.accepted has q.has) ∙ sym q.is,
    )

-- ---- what is written as records are accepted

pub upgraded_more : (accepted more : List Record) → upgraded (accepted ++ more) ≡ upgraded accepted ++ flat_map spelling more
upgraded_more accepted more = ap (λ w. first_line Two ++ w) (flat_map-append spelling accepted more) ∙ sym (append_assoc (first_line Two) (flat_map spelling accepted) (flat_map spelling more))

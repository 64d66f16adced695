-- The events of records, heard one by one, and for which records a judge stands.
use Rattle.std.proofs.Common.{◌≡◌, List, [], ◌∷◌, ◌++◌, Some, None, subst, ◌∙◌, Option, refl, sym}
use Rattle.std.proofs.Common.{ap}
use Rattle.std.specs.Prelude.{IfSome, option_map}
use Rattle.std.proofs.lemmas.Option.{IfSome_then}
use Rattle.lsp_replay.specs.Common.{as_given, Bounds, Counts, Event, first_no, Follows, Format}
use Rattle.lsp_replay.specs.Common.{IsInRange, IsSession, no_at, Offends, Placed, Reads, Terms}
use Rattle.lsp_replay.specs.Common.{terms_of}
use Rattle.lsp_session.specs.State as session
use Rattle.lsp_docs.specs.State as docs
use Rattle.lsp_log.specs.Log.{Record}
use Rattle.lsp_replay.specs.Standing.{Keeps as KeepsOne}
use Rattle.lsp_replay.specs.Streams as frames
use Rattle.lsp_replay.proofs.Following.{follows_on}
use Rattle.lsp_verdict.specs.Placed.{Raw}
use Rattle.lsp_verdict.specs.Verdict.{Verdict}
use Rattle.lsp_verdict.proofs.OneEvent.{some_list, lists_join}
use Rattle.lsp_verdict.proofs.Verdicts.{no_found, nothing_offends}
use Rattle.lsp_verdict.specs.Upgraded.{AreAccepted}
use Rattle.lsp_verdict.proofs.LookBackLemmas.{first_of-more}
use Rattle.lsp_verdict.proofs.Outcomes.{session_front}
use Rattle.lsp_verdict.proofs.PlacedLemmas.{placed_whole}
use Rattle.lsp_verdict.proofs.Sessions.{some_session, same_session}
use Rattle.lsp_judge.specs.Standing.{HasHeard, IsHearing, AreHeard, IsNoAt, verdict_in, Rules}
use Rattle.lsp_judge.specs.Standing.{State, IsOpen, HasOffence, StandsBy, Stands}
use Rattle.lsp_judge.specs.declared.ruling.Ruling.{Ruling}

-- ---- one more event

-- it is kept
pub hears_one : (terms : Terms) (old_m new_m : session.State) (old_d new_d : docs.State)
    (old_c new_c : Counts) (raws : List Raw) (heard : List Event) (raw : Raw)
    → HasHeard terms old_m old_d old_c raws heard → new_d.terms ≡ old_d.terms
    → KeepsOne raw old_d.terms old_c new_m new_d new_c heard
    → (event : Event) × HasHeard terms new_m new_d new_c (raws ++ raw ∷ []) (heard ++ event ∷ [])
hears_one terms old_m new_m old_d new_d old_c new_c raws heard raw has same k = (
  k.event,
  record {
    read = lists_join raws (raw ∷ []) heard (k.event ∷ []) has.read (k.reads, tt);
    by = same ∙ has.by;
    follows = follows_on raw old_m new_m old_d new_d old_c new_c heard has.follows same k;
  },
)

-- behind these events of the records, none of which offends, comes one that does, and this is the
-- No at it
pub record OffendsAfter (limits : Bounds) (format : Format) (records : List Record)
    (before : List Event) (given : Verdict) : Type 0 where
  pub event : Event
  pub later : List Event
  pub verdict : Verdict
  pub session : IsSession limits records (before ++ event ∷ later)
  pub clean : first_no (terms_of limits format) before ≡ None
  pub offends : no_at (terms_of limits format) before event ≡ Some verdict
  pub is : given ≡ as_given verdict

-- the next event offends
module _ (limits : Bounds) (format : Format) (m : session.State) (d : docs.State) (c : Counts)
    (records : List Record) (past later : List Raw) (before : List Event)
    (has : HasHeard (terms_of limits format) m d c past before) where
  stops : (raw : Raw) (ruling : Ruling) → Placed limits records (past ++ raw ∷ later)
      → IsNoAt d.terms before (Reads raw) ruling
      → IfSome (verdict_in ruling) (OffendsAfter limits format records before)
  stops raw ruling placed named = IfSome_then (verdict_in ruling) named (λ given at.
      let extra = some_list later in
      record {
        event = at.0;
        later = extra.0;
        verdict = at.2.0;
        session = (
          past ++ raw ∷ later,
          placed,
          lists_join past (raw ∷ later) before (at.0 ∷ extra.0) has.read (at.1, extra.1),
        );
        clean = subst (λ (t : Terms). first_no t before ≡ None) has.by has.follows.clean;
        offends = subst (λ (t : Terms). no_at t before at.0 ≡ Some at.2.0) has.by at.2.1;
        is = at.2.2;
      })

-- so an event of the records offends
pub offends_in : (limits : Bounds) (format : Format) (records : List Record) (before : List Event)
    (given : Verdict) → (o : OffendsAfter limits format records before given)
    → Offends limits format records o.verdict
offends_in limits format records before given o =
    record {
      events = before ++ o.event ∷ o.later;
      session = o.session;
      offends = no_found (terms_of limits format) [] before o.later o.event o.verdict o.clean
          o.offends;
    }

-- an event of those due does
pub stopped : (limits : Bounds) (format : Format) (s : frames.State) (m : session.State)
    (d : docs.State) (c : Counts) (records : List Record) (heard : List Event) (due later : List Raw)
    (raw : Raw) (ruling : Ruling) → IsHearing limits format s m d c records heard due
    → due ≡ raw ∷ later → IsNoAt d.terms heard (Reads raw) ruling
    → Rules limits format records ruling
stopped limits format s m d c records heard due later raw ruling h first named =
    IfSome_then (verdict_in ruling) (stops limits format m d c records h.past later heard h.has raw
    ruling (subst (λ (w : List Raw). Placed limits records (h.past ++ w)) first h.stands.placed) named)
    (λ given o. (o.verdict, offends_in limits format records heard given o, o.is))

-- ---- what is known once an event offends

-- an offence stays as records come
pub offence_stays : (limits : Bounds) (format : Format) (rs more : List Record) (given : Verdict)
    → HasOffence limits format rs given → HasOffence limits format (rs ++ more) given
offence_stays limits format rs more given (v, offends, is) =
    let all = some_session limits (rs ++ more) in
    let cut = session_front limits rs more offends.events all.0 offends.session all.1 in (
      v,
      record {
        events = all.0;
        session = all.1;
        offends = ap (first_no (terms_of limits format)) cut.1
            ∙ first_of-more (no_at (terms_of limits format)) offends.events cut.0 v offends.offends;
      },
      is,
    )

-- the first offence of the session is it
pub offence_first : (limits : Bounds) (format : Format) (rs : List Record) (given : Verdict)
    (events : List Event) → HasOffence limits format rs given → IsSession limits rs events
    → Some given ≡ option_map as_given (first_no (terms_of limits format) events)
offence_first limits format rs given events (v, offends, is) session =
    let same = same_session limits rs rs events offends.events refl session offends.session in
    ap Some is ∙ ap (option_map as_given) (sym
    (ap (first_no (terms_of limits format)) same ∙ offends.offends))

-- ---- records whose events were all heard

module _ (limits : Bounds) (format : Format) (s : frames.State) (m : session.State) (d : docs.State)
    (c : Counts) (rs : List Record) (o : AreHeard limits format s m d c rs) where
  -- they are the events of a session
  open_session : IsSession limits rs o.0
  open_session = (
    o.1.past,
    placed_whole limits rs o.1.past [] refl o.1.stands.placed,
    o.1.has.read,
  )

  -- and none of them offends
  open_clean : first_no (terms_of limits format) o.0 ≡ None
  open_clean = ap (λ (t : Terms). first_no t o.0) (sym o.1.has.by) ∙ o.1.has.follows.clean

  pub accepted : AreAccepted limits format rs
  accepted = record {
    events = o.0;
    session = open_session;
    clean = nothing_offends (terms_of limits format) o.0 open_clean;
  }

  pub clean_session : (events : List Event) → IsSession limits rs events
      → first_no (terms_of limits format) events ≡ None
  clean_session events session =
      ap (first_no (terms_of limits format))
      (same_session limits rs rs events o.0 refl session open_session) ∙ open_clean

pub open_stands : (s : State) (rs : List Record) → IsInRange s.limits → s.given ≡ None
    → IsOpen s rs → Stands s rs
open_stands s rs range none o = record {
  range = range;
  given = subst (λ (g : Option Ruling). StandsBy g s rs) (sym none) o;
}

-- a judge that has just begun
pub new_stands : (s : State) → frames.Stands s.limits s.streams [] [] []
    → s.documents.terms ≡ terms_of s.limits s.format → Follows s.messages s.documents s.counts []
    → s.given ≡ None → Stands s []
new_stands s stands terms follows given = open_stands s [] stands.range given (
  [],
  record {
    past = [];
    stands = stands;
    has = record { read = tt; by = terms; follows = follows };
  },
)

-- ---- a judge that gave a verdict

pub offence_in : (s : State) (rs : List Record) (ruling : Ruling) (v : Verdict)
    → s.given ≡ Some ruling → verdict_in ruling ≡ Some v → Stands s rs
    → HasOffence s.limits s.format rs v
offence_in s rs ruling v e is p =
    let held = subst (λ (o : Option Ruling). StandsBy o s rs) e p.given in
    let same : held.0 ≡ v = cc (held.1, is) in subst (HasOffence s.limits s.format rs) same held.2

pub given_stays : (s : State) (rs more : List Record) (ruling : Ruling) → s.given ≡ Some ruling
    → Stands s rs → Stands s (rs ++ more)
given_stays s rs more ruling e p =
    let held = subst (λ (o : Option Ruling). StandsBy o s rs) e p.given in
    record {
      range = p.range;
      given = subst (λ (o : Option Ruling). StandsBy o s (rs ++ more)) (sym e)
          (held.0, held.1, offence_stays s.limits s.format rs more held.0 held.2);
    }

pub given_verdict : (s : State) (rs more : List Record) (ruling : Ruling) (v : Verdict)
    (events : List Event) → s.given ≡ Some ruling → verdict_in ruling ≡ Some v → Stands s rs
    → IsSession s.limits (rs ++ more) events
    → Some v ≡ option_map as_given (first_no (terms_of s.limits s.format) events)
given_verdict s rs more ruling v events e is p session =
    offence_first s.limits s.format (rs ++ more) v events
    (offence_stays s.limits s.format rs more v (offence_in s rs ruling v e is p)) session

-- ---- a judge that gave none

pub is_open : (s : State) (rs : List Record) → s.given ≡ None → Stands s rs → IsOpen s rs
is_open s rs e p = subst (λ (o : Option Ruling). StandsBy o s rs) e p.given

pub none_verdict : (old : State) (rs more : List Record) (events : List Event) (s : frames.State)
    (m : session.State) (d : docs.State) (c : Counts) → old.given ≡ None
    → (IsOpen old rs → AreHeard old.limits old.format s m d c (rs ++ more)) → Stands old rs
    → IsSession old.limits (rs ++ more) events
    → None ≡ option_map as_given (first_no (terms_of old.limits old.format) events)
none_verdict old rs more events s m d c e next p session =
    ap (option_map as_given) (sym (clean_session old.limits old.format s m d c (rs ++ more)
    (next (is_open old rs e p)) events session))

pub rules_offence : (limits : Bounds) (format : Format) (rs : List Record) (ruling : Ruling)
    (v : Verdict) → verdict_in ruling ≡ Some v → Rules limits format rs ruling
    → HasOffence limits format rs v
rules_offence limits format rs ruling v is o =
    subst (λ (x : Option Verdict). IfSome x (HasOffence limits format rs)) is o

pub rule_verdict : (old : State) (rs more : List Record) (ruling : Ruling) (v : Verdict)
    (events : List Event) → old.given ≡ None → verdict_in ruling ≡ Some v
    → (IsOpen old rs → Rules old.limits old.format (rs ++ more) ruling)
    → Stands old rs → IsSession old.limits (rs ++ more) events
    → Some v ≡ option_map as_given (first_no (terms_of old.limits old.format) events)
rule_verdict old rs more ruling v events e is rules p session =
    offence_first old.limits old.format (rs ++ more) v events
    (rules_offence old.limits old.format (rs ++ more) ruling v is (rules (is_open old rs e p)))
    session

-- from a ruling on the judge stands for the records by it
pub ruled_stands : (old new : State) (rs more : List Record) (ruling : Ruling) (v : Verdict)
    → old.given ≡ None → verdict_in ruling ≡ Some v → new.limits ≡ old.limits
    → new.format ≡ old.format → new.given ≡ Some ruling
    → (IsOpen old rs → Rules old.limits old.format (rs ++ more) ruling) → Stands old rs
    → Stands new (rs ++ more)
ruled_stands old new rs more ruling v none is limits format given rules p = record {
  range = subst IsInRange (sym limits) p.range;
  given = subst (λ (o : Option Ruling). StandsBy o new (rs ++ more)) (sym given) (
    v,
    is,
    subst (λ (f : Format). HasOffence new.limits f (rs ++ more) v) (sym format)
        (subst (λ (b : Bounds). HasOffence b old.format (rs ++ more) v) (sym limits)
        (rules_offence old.limits old.format (rs ++ more) ruling v is
        (rules (is_open old rs none p)))),
  );
}

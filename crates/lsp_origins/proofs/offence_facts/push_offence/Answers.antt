use Rattle.std.proofs.Common.{◌∙◌, ◌++◌, ap, string_bytes, subst, sym}
use Rattle.std.proofs.lemmas.Result.{on_ok_weaker}
use Rattle.lsp_trail.specs.Common.{HasFate, heard_events, IsNoted, IsSeen, kept_before, Offends}
use Rattle.lsp_trail.specs.Common.{Raw, raw_view, ShowsFault, Terms, terms_in}
use Rattle.lsp_facts.specs.Fact.{detail_lines}
use Rattle.lsp_origins.proofs.Telling.{few_before, placed_by, stands_before, tells_of}
use Rattle.lsp_origins.proofs.offence_facts.push_offence.Goals as goal
use Rattle.lsp_origins.specs.Explained.{TellsOf}

pub returns : goal.returns
returns c = on_ok_weaker c.push_details.result (λ says terms before h trail seen has no_is.
    let past = c.args.past in
    let o = c.args.offence.now in
    let s = c.args.seen.now in
    let raw = raw_view s.raw in
    let old = string_bytes c.args.text.now in
    let own = terms_in past in
    let here = subst (λ (t : Terms). IsSeen past.held.now.session past.held.now.docs
    past.held.now.counts s t before h) (sym seen.stood.by) seen in
    let fate = subst (λ (t : Terms). HasFate t before h (Offends o.rule c.args.tried))
    (sym seen.stood.by) has in
    let stands = stands_before past terms before h o.rule trail seen.stood has.0 in
    let noted = subst (λ (w : Raw). IsNoted w h.note) here.is here.noted in
    let place = placed_by o (heard_events before) h.note.event (few_before before here.few) no_is in
    let line = string_bytes c.push_event.new.lines in
    let Fits = ShowsFault s.raw (heard_events before) in
    subst (λ (t : Terms). TellsOf t before h o.rule Fits old
    (string_bytes c.push_details.new.lines)) seen.stood.by
    (tells_of own before h o raw Fits c.in_ok-facts.facts old
    (string_bytes c.push_report.new.text) line (string_bytes c.push_details.new.lines) here.is no_is
    (λ rests shows. c.in_ok-facts.ensures h.note.event (heard_events before) stands place noted.0
    here.spoken here.says fate.1 fate.0 rests shows)
    c.in_ok-push_report.ensures
    (c.in_ok-push_event.ensures h.note.event (kept_before own before) noted.0 here.spoken)
    (says ∙ ap (λ w. line ++ detail_lines c.in_ok-facts.facts w) c.usual.ensures)))
    c.push_details.ensures

use Rattle.std.proofs.Common.{◌-◌, List, ℕ, get_or, sym, ap, ◌∙◌, arith}
use Rattle.lsp_lined.proofs.EndsBefore.{end_both, end_alone}
use Rattle.lsp_lined.proofs.ends.end_len_before.Goals as goal
use Rattle.lsp_lined.proofs.ends.end_len_before.Goals.{else-after-ge2-via-then-after-ge2+then-bytes-after-eq10+else-bytes-after-eq13, else-after-ge2-via-then-after-ge2+else-bytes-after-eq10, else-after-ge2-via-else-after-ge2}

pub returns-then-bytes-after-eq13-clause-end : goal.returns-then-bytes-after-eq13-clause-end
returns-then-bytes-after-eq13-clause-end c =
    let same = c.as_bytes-bytes.ensures.value in
    end_both c.args.text.now c.args.after c.utf8.text c.if-after-ge2.true c.requires.within
    (ap (λ (x : List ℕ). get_or x (c.args.after - 1) 0) (sym same) ∙ c.if-bytes-after-eq10.true) (ap (λ (x : List ℕ). get_or x (c.args.after - 2) 0) (sym same) ∙ c.if-bytes-after-eq13.true)

pub returns-else-after-ge2-clause-end : goal.returns-else-after-ge2-clause-end
returns-else-after-ge2-clause-end c =
    let same = c.as_bytes-bytes.ensures.value in
    end_alone c.args.text.now c.args.after c.utf8.text c.requires.some c.requires.within c.requires.ended
    (λ two feed return.
    elim c.else-after-ge2.branch [
      | else-after-ge2-via-then-after-ge2+then-bytes-after-eq10+else-bytes-after-eq13 w ↦ w.if-bytes-after-eq13.false (ap (λ (x : List ℕ). get_or x (c.args.after - 2) 0) same ∙ return)
      | else-after-ge2-via-then-after-ge2+else-bytes-after-eq10 w ↦ w.if-bytes-after-eq10.false (ap (λ (x : List ℕ). get_or x (c.args.after - 1) 0) same ∙ feed)
      | else-after-ge2-via-else-after-ge2 w ↦ let h = w.if-after-ge2.false in omega arith
    ])

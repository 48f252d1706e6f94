use Rattle.std.proofs.Common.{◌∙◌, ap, sym, chars, string_bytes, zero-add}
use Rattle.mad_plain.specs.Runs.{are_within, spread}
use Rattle.mad_plain.proofs.PenLemmas.{same_pen_true}
use Rattle.mad_plain.proofs.RunLemmas.{closed_within, spread_closed, spread_empty}
use Rattle.mad_plain.proofs.shown.ShownLine.turn.Goals as goal

pub returns-then-eq-clause-style : goal.returns-then-eq-clause-style
returns-then-eq-clause-style c = sym (same_pen_true c.args.style c.args.self.now.style (sym c.eq.ensures ∙ c.if-eq.true))

pub returns-then-self-eq0-clause-same : goal.returns-then-self-eq0-clause-same
returns-then-self-eq0-clause-same c = let l = c.args.self.now in spread_empty c.args.style l.style 0 l.runs.items (chars (string_bytes l.text)) l.count c.if-self-eq0.true l.counted

pub invariant_of-self-2 : goal.invariant_of-self-2
invariant_of-self-2 c =
    let l = c.args.self.now in
    record { counted = l.counted; ordered = ap (λ rs. are_within 0 rs l.count) c.in_ok-push.ensures.items ∙ closed_within l.style 0 l.runs.items l.count l.ordered }

pub returns-clause-same : goal.returns-clause-same
returns-clause-same c =
    let l = c.args.self.now in
    ap (λ rs. spread c.args.style 0 rs (chars (string_bytes l.text))) c.in_ok-push.ensures.items
    ∙ spread_closed l.style c.args.style 0 l.runs.items (chars (string_bytes l.text)) l.count l.ordered (l.counted ∙ sym (zero-add _))

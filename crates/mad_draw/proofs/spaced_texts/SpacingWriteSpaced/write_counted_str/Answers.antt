use Rattle.std.proofs.Common.{◌<◌, ℕ, List, subst, ◌∙◌, arith}
use Rattle.std.specs.Prelude.{string_bytes}
use Rattle.mad_term.specs.Draws.{Draws}
use Rattle.mad_term.specs.Styles.{piece_bytes}
use Rattle.mad_draw.proofs.SpacedLemmas.{spaced_made}
use Rattle.mad_draw.proofs.spaced_texts.SpacingWriteSpaced.write_counted_str.Goals as goal

pub returns-clause-writes : goal.returns-clause-writes
returns-clause-writes g c =
    let style = c.args.style.now.object_style in
    let room : c.args.str_width < c.args.self.now.width = omega arith in
    subst (λ (t : List ℕ). Draws (g.O.Out.seen c.args.out.now) (piece_bytes style t) c.queue_str-2.result (g.O.Out.seen c.queue_str-2.new.out))
    (spaced_made c.args.self.now c.args.s.now c.deref.result.now (string_bytes c.reserve.new.self) c.args.str_width c.completions_for-left.result c.unstyled_spaces-left.result c.unstyled_spaces-right.result room c.completions_for-left.ensures
    c.unstyled_spaces-left.ensures c.unstyled_spaces-right.ensures (c.in_ok-reserve.ensures.bytes ∙ c.new-text.ensures.bytes) (c.deref.ensures ∙ c.in_ok-write.ensures.bytes)) c.queue_str-2.ensures.writes

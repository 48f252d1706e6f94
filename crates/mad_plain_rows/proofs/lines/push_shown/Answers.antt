use Rattle.std.proofs.Common.{ap, chars, string_bytes}
use Rattle.mad_plain.specs.Shown.{rest_of}
use Rattle.mad_plain_rows.proofs.RowLemmas.{shown_start}
use Rattle.mad_plain_rows.proofs.lines.push_shown.Goals as goal

pub loop-end-init : goal.loop-end-init
loop-end-init c =
    shown_start c.args.width c.args.is_styled c.args.line.now _ c.in_ok-ends.ends.items _ (rest_of c.chars-rest.result) (string_bytes c.args.text.now)
    c.into_iter-end-iterator.ensures.into_iter_gives.0 c.in_ok-ends.ensures (ap chars c.deref.ensures.value) c.chars-rest.ensures

use Rattle.std.proofs.Common.{List, string_bytes, subst}
use Rattle.std.proofs.lemmas.Result.{IfOk-weaker}
use Rattle.mad_blocks.specs.PartCursors.{lines_left}
use Rattle.mad_md.specs.Lines.{LineContent, styled_runs}
use Rattle.mad_layout.specs.WrittenParts.{TakesPart}
use Rattle.mad_layout.proofs.TakenParts.{text_taken}
use Rattle.mad_layout.proofs.parts_writing.take_next.Goals as goal

pub returns-in_ok-take_read-in-Some : goal.returns-in_ok-take_read-in-Some
returns-in_ok-take_read-in-Some c =
    let next = rw c.in-Some.is at c.in_ok-composite.ensures in
    text_taken c.args.skin.now c.args.width (styled_runs c.in-Some.composite) (lines_left c.args.parts.now) (lines_left c.next_text.new.self) (string_bytes c.args.rows.now) (string_bytes c.take_read.new.rows) c.take_read.new.lines.items next.0 next.1
    c.in_ok-take_read-in-Some.ensures

pub returns-in-None : goal.returns-in-None
returns-in-None c =
    let next = rw c.in-None.is at c.in_ok-composite.ensures in
    IfOk-weaker c.take_laid.result _ _
    (λ found h. subst (λ (cs : List LineContent). TakesPart c.args.skin.now c.args.width cs (string_bytes c.args.rows.now) found (lines_left c.take_laid.new.parts) (string_bytes c.take_laid.new.rows) c.take_laid.new.lines.items) next.0 h) c.take_laid.ensures

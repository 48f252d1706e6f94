use Rattle.std.proofs.Common.{string_bytes, sym, ◌∙◌}
use Rattle.std.proofs.lemmas.Result.{IfOk-weaker}
use Rattle.mad_md.specs.Lines.{styled_runs}
use Rattle.mad_layout.proofs.TakenParts.{read_taken}
use Rattle.mad_layout.proofs.parts_writing.append_at.Goals as goal

pub returns-in-Some : goal.returns-in-Some
returns-in-Some c =
    IfOk-weaker c.append_read.result _ _ (λ done h. read_taken c.args.skin.now c.args.width c.in-Some.columns (styled_runs c.args.composite.now) (string_bytes c.args.rows.now) done (string_bytes c.append_read.new.rows) (sym c.wrap_width.ensures ∙ c.in-Some.is) h) c.append_read.ensures

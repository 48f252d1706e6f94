use Rattle.std.proofs.Common.{◌≡◌, false, ap, sym, ◌∙◌, drop, refl, List, ℕ}
use Rattle.std.specs.Str.Lines.{strip_carriage_return}
use Rattle.mad_md.specs.Flagged.{unflagged}
use Rattle.mad_md.specs.LineKinds.{told_kind}
use Rattle.mad_md.specs.Starts.{is_fence, line_start}
use Rattle.mad_md.proofs.LineKindLemmas.{kind_other}
use Rattle.mad_md.proofs.ReadingLemmas.{line_fenced, line_open}
use Rattle.mad_md.proofs.line_kinds.part_kind.Goals as goal

pub returns-then-fenced : goal.returns-then-fenced
returns-then-fenced c =
    let text : List ℕ = strip_carriage_return c.args.part.now in
    let line = c.as_bytes-line.ensures.value ∙ c.without_return.ensures in
    let other : is_fence text ≡ false = ap is_fence (sym line) ∙ sym c.begins.ensures.value ∙ c.if-begins.false in
    sym (kind_other c.args.fenced text other ∙ ap told_kind (line_fenced c.args.fenced unflagged text c.if-fenced.true))

pub returns-else-fenced : goal.returns-else-fenced
returns-else-fenced c =
    let text : List ℕ = strip_carriage_return c.args.part.now in
    let line = c.as_bytes-line.ensures.value ∙ c.without_return.ensures in
    let other : is_fence text ≡ false = ap is_fence (sym line) ∙ sym c.begins.ensures.value ∙ c.if-begins.false in
    let start = c.line_start.result in
    let rest : List ℕ = drop start.len text in
    sym (kind_other c.args.fenced text other ∙ ap told_kind (sym (line_open c.args.fenced unflagged text rest start c.if-fenced.false (c.line_start.ensures ∙ ap line_start line) refl)) ∙ c.form_kind.ensures unflagged rest)

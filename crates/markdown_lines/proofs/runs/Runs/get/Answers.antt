use Rattle.std.proofs.Common.{◌≡◌, ◌<◌, ◌∙◌, ap, arith, length, true, Option, Some, List, ℕ}
use Rattle.std.specs.Prelude.{string_bytes, slice_range}
use Rattle.mad_md.specs.Flagged.{Run}
use Rattle.markdown_lines.specs.Runs.{is_bordered, run_said, flags_said}
use Rattle.markdown_lines.proofs.RunLemmas.{bordered_read, order_of, first_of, last_of, get_said, get_none}
use Rattle.markdown_lines.specs.declared.places.RunPlace.{RunPlace}
use Rattle.markdown_lines.proofs.runs.Runs.get.Goals as goal

pub returns-then-index-as_slice : goal.returns-then-index-as_slice
returns-then-index-as_slice c = get_none (string_bytes c.args.self.now.text) c.args.self.now.places.items c.args.index (omega (arith, c.if-index-as_slice.true, ap length c.as_slice.ensures.value))

pub range-requires-clause-start_le_end : goal.range-requires-clause-start_le_end
range-requires-clause-start_le_end c =
    let e : is_bordered c.as_str.result.now c.index-place.result.now ≡ true = bordered_read (string_bytes c.args.self.now.text) c.as_str.result.now c.args.self.now.places.items c.args.index c.index-place.result.now (omega (arith, c.if-index-as_slice.false, ap length c.as_slice.ensures.value)) c.index-place.ensures c.args.self.now.bordered c.as_str.ensures.value in
    order_of c.as_str.result.now c.index-place.result.now e

pub range-requires-clause-start_boundary : goal.range-requires-clause-start_boundary
range-requires-clause-start_boundary c =
    let e : is_bordered c.as_str.result.now c.index-place.result.now ≡ true = bordered_read (string_bytes c.args.self.now.text) c.as_str.result.now c.args.self.now.places.items c.args.index c.index-place.result.now (omega (arith, c.if-index-as_slice.false, ap length c.as_slice.ensures.value)) c.index-place.ensures c.args.self.now.bordered c.as_str.ensures.value in
    λ some. first_of c.as_str.result.now c.index-place.result.now e

pub range-requires-clause-end_boundary : goal.range-requires-clause-end_boundary
range-requires-clause-end_boundary c =
    let e : is_bordered c.as_str.result.now c.index-place.result.now ≡ true = bordered_read (string_bytes c.args.self.now.text) c.as_str.result.now c.args.self.now.places.items c.args.index c.index-place.result.now (omega (arith, c.if-index-as_slice.false, ap length c.as_slice.ensures.value)) c.index-place.ensures c.args.self.now.bordered c.as_str.ensures.value in
    last_of c.as_str.result.now c.index-place.result.now e

pub returns : goal.returns
returns c =
    let text = string_bytes c.args.self.now.text in
    let place = c.index-place.result.now in
    let within : c.args.index < length c.args.self.now.places.items = omega (arith, c.if-index-as_slice.false, ap length c.as_slice.ensures.value) in
    let some : List ℕ → Option Run = λ t. Some (record { flags = flags_said place.flags; text = t }) in
    let said_at : RunPlace → Option Run = λ p. Some (run_said text p) in
    ap some (c.range.ensures.value ∙ ap (λ (t : List ℕ). slice_range t place.start place.end) c.as_str.ensures.value)
    ∙ ap said_at c.index-place.ensures
    ∙ get_said text c.args.self.now.places.items c.args.index place within

use Rattle.std.proofs.Common.{◌∙◌, subst}
use Rattle.std.specs.Prelude.{string_bytes}
use Rattle.std.proofs.lemmas.Str.{IsUtf8-string_bytes}
use Rattle.markdown_lines.specs.CutRows.{IsNeat}
use Rattle.markdown_lines.proofs.CutLemmas.{HasNoBreak}
use Rattle.markdown_lines.proofs.NeatLemmas.{none_pictured}
use Rattle.markdown_lines.proofs.WholeCellLemmas.{whole_spaced}
use Rattle.markdown_lines.proofs.whole_cells.is_whole.Goals as goal

pub returns-clause-unpictured : goal.returns-clause-unpictured
returns-clause-unpictured c = λ h. none_pictured c.args.styled.now.runs.items c.as_slice.result.now c.have_pictures.result c.have_pictures.ensures c.if-have_pictures.false c.as_slice.ensures.value

pub returns-clause-row : goal.returns-clause-row
returns-clause-row c = λ h bold.
    whole_spaced bold c.args.styled.now.runs.items (string_bytes c.args.styled.now.text) (IsUtf8-string_bytes c.args.styled.now.text) c.requires
    (none_pictured c.args.styled.now.runs.items c.as_slice.result.now c.have_pictures.result c.have_pictures.ensures c.if-have_pictures.false c.as_slice.ensures.value)
    (subst IsNeat (c.as_bytes.ensures.value ∙ c.as_str.ensures.value) (c.is_neat.ensures c.if-not-is_neat.false))
    (subst HasNoBreak (c.as_bytes-2.ensures.value ∙ c.as_str-2.ensures.value) (c.is_unbroken.ensures h))

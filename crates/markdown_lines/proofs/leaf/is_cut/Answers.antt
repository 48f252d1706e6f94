use Rattle.std.proofs.Common.{◌∙◌, subst}
use Rattle.std.specs.Prelude.{string_bytes}
use Rattle.std.proofs.lemmas.Str.{IsUtf8-string_bytes}
use Rattle.markdown_lines.specs.CutRows.{IsNeat}
use Rattle.markdown_lines.proofs.NeatLemmas.{none_pictured, neat_rows, neat_numbers}
use Rattle.markdown_lines.proofs.leaf.is_cut.Goals as goal

pub returns-clause-unpictured : goal.returns-clause-unpictured
returns-clause-unpictured c = λ h. none_pictured c.args.styled.now.runs.items c.as_slice.result.now c.have_pictures.result c.have_pictures.ensures c.if-have_pictures.false c.as_slice.ensures.value

pub returns-clause-rows : goal.returns-clause-rows
returns-clause-rows c = λ h.
    neat_rows c.args.styled.now.runs.items (string_bytes c.args.styled.now.text) (IsUtf8-string_bytes c.args.styled.now.text) c.requires
    (none_pictured c.args.styled.now.runs.items c.as_slice.result.now c.have_pictures.result c.have_pictures.ensures c.if-have_pictures.false c.as_slice.ensures.value)
    (subst IsNeat (c.as_bytes.ensures.value ∙ c.as_str.ensures.value) (c.is_neat.ensures h))

pub returns-clause-numbers : goal.returns-clause-numbers
returns-clause-numbers c = λ h.
    neat_numbers c.args.styled.now.runs.items (string_bytes c.args.styled.now.text) (IsUtf8-string_bytes c.args.styled.now.text) c.requires
    (none_pictured c.args.styled.now.runs.items c.as_slice.result.now c.have_pictures.result c.have_pictures.ensures c.if-have_pictures.false c.as_slice.ensures.value)
    (subst IsNeat (c.as_bytes.ensures.value ∙ c.as_str.ensures.value) (c.is_neat.ensures h))

-- A text that was laid out is as types promise.
use Rattle.std.proofs.Common.{ℕ, List, [], ◌∷◌, Option}
use Rattle.std.specs.List.{AllByRecursion}
use Rattle.mad_md.specs.Lines.{LineContent}
use Rattle.mad_md.specs.TypedLines.{IsTypedLine}
use Rattle.mad_format.specs.LineRules.{LineRules}
use Rattle.mad_format.specs.WrappedLines.{Wrap}
use Rattle.mad_format.specs.declared.line.FmtLine.{FmtLine}
use Rattle.mad_format.proofs.ReadLemmas.{line_typed}
use Rattle.mad_blocks.specs.Layouts.{AreRead, IsLayoutBy}

lines_typed : (skin : LineRules) (text : List LineContent) (read : List FmtLine) → AreRead skin text read → AllByRecursion IsTypedLine text
lines_typed skin [] read h = tt
lines_typed skin (c ∷ cs) [] h = absurd h
lines_typed skin (c ∷ cs) (l ∷ ls) h = (line_typed skin c l h.0, lines_typed skin cs ls h.1)

-- where lines are a layout of a text by any kind of wrap, its lines are as their types promise
pub layout_typed : {wraps : Wrap} (skin : LineRules) (tables : ℕ) (width : Option ℕ) (text : List LineContent) (lines : List FmtLine) → IsLayoutBy wraps skin tables width text lines → AllByRecursion IsTypedLine text
layout_typed {wraps} skin tables width text lines layout = lines_typed skin text layout.read layout.reads

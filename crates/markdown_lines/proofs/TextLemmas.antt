-- Lines as the library has them, one after the other.
use Rattle.std.proofs.Common.{◌≡◌, ℕ, ◌+◌, ◌<◌, ◌≤◌, List, [], ◌∷◌, ◌++◌, map, length, drop, get_or, refl, sym, ap, ◌∙◌, append_assoc, append-nil}
use Rattle.std.proofs.lemmas.List.{drop_more, drop_all, map-append}
use Rattle.mad_md.specs.Flagged.{Run, run_of}
use Rattle.mad_md.specs.Lines.{LineContent, content_of}
use Rattle.mad_md.specs.declared.compound.Compound.{Compound}
use Rattle.mad_md.specs.declared.line.Line.{Line}
use Rattle.markdown_lines.specs.Lines.{line_said, lines_said}
use Rattle.markdown_lines.specs.declared.lines.MarkdownLine.{MarkdownLine}

lines_suc : (all : List Run) (line : MarkdownLine) (lines : List MarkdownLine) → lines_said all (line ∷ lines) ≡ line_said all line ∷ lines_said all lines
unfolding lines_said
lines_suc all line lines = refl

-- one more line is made, and those behind it are to come
pub made_next : (all : List Run) (made now : List Line) (lines : List MarkdownLine) (index : ℕ) (line : MarkdownLine) (new : Line) → index < length lines → line ≡ get_or lines index line → content_of new ≡ line_said all line → now ≡ made ++ new ∷ []
    → map content_of now ++ lines_said all (drop (index + 1) lines) ≡ map content_of made ++ lines_said all (drop index lines)
made_next all made now lines index line new within is said now_is =
    let others : List LineContent = lines_said all (drop (index + 1) lines) in
    ap (λ (ls : List Line). map content_of ls ++ others) now_is
    ∙ ap (λ (cs : List LineContent). cs ++ others) (map-append content_of made (new ∷ []))
    ∙ append_assoc (map content_of made) (content_of new ∷ []) others
    ∙ ap (λ (c : LineContent). map content_of made ++ c ∷ others) (said ∙ ap (line_said all) is)
    ∙ ap (λ (cs : List LineContent). map content_of made ++ cs) (sym (lines_suc all (get_or lines index line) (drop (index + 1) lines)))
    ∙ ap (λ (ls : List MarkdownLine). map content_of made ++ lines_said all ls) (sym (drop_more lines index line within))

-- where no line is to come, all are made
pub made_done : (all : List Run) (made : List Line) (lines : List MarkdownLine) (index : ℕ) → length lines ≤ index → map content_of made ++ lines_said all (drop index lines) ≡ map content_of made
unfolding lines_said
made_done all made lines index past = ap (λ (ls : List MarkdownLine). map content_of made ++ lines_said all ls) (drop_all index lines past) ∙ append-nil (map content_of made)

-- one more compound is one more run
pub run_pushed : (compounds now : List Compound) (run : Compound) → now ≡ compounds ++ run ∷ [] → map run_of now ≡ map run_of compounds ++ run_of run ∷ []
run_pushed compounds now run e = ap (map run_of) e ∙ map-append run_of compounds (run ∷ [])

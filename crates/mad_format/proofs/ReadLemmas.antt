-- Lines as they are read: what was read is measured, and a row is read cell by cell.
use Rattle.std.proofs.Common.{◌≡◌, true, List, [], ◌∷◌, ◌++◌, refl, ap, sym, ◌∙◌, subst, append_assoc}
use Rattle.std.specs.List.{AllByRecursion}
use Rattle.std.proofs.lemmas.List.{append-nil}
use Rattle.mad_md.specs.Lines.{StyledRuns, LineContent, content_of, normal, table_row, table_rule, horizontal_rule}
use Rattle.mad_md.specs.TypedLines.{IsTypedText, IsTypedLine}
use Rattle.mad_md.specs.declared.composite.Composite.{Composite}
use Rattle.mad_md.specs.declared.line.Line.{Line}
use Rattle.mad_md.specs.declared.line.Line.TheVariants as read
use Rattle.mad_format.specs.FmtLines.{is_table_line, IsLineRead, IsCompositeRead, AreCompositesRead}
use Rattle.mad_format.specs.WrappedLines.{IsLineMeasured}
use Rattle.mad_format.specs.Wraps.{IsMeasured}
use Rattle.mad_format.specs.LineRules.{LineRules}
use Rattle.mad_format.specs.declared.composite.FmtComposite.{FmtComposite}
use Rattle.mad_format.specs.declared.line.FmtLine.{FmtLine}
use Rattle.mad_format.specs.declared.line.FmtLine.TheVariants.{Normal, TableRow, TableRule, HorizontalRule}

-- ---- what was read is measured

cells_measured : (skin : LineRules) (cs : List StyledRuns) (ls : List FmtComposite) → AreCompositesRead skin cs ls → AllByRecursion (IsMeasured skin) ls
cells_measured skin [] [] h = tt
cells_measured skin [] (l ∷ ls) h = absurd h
cells_measured skin (c ∷ cs) [] h = tt
cells_measured skin (c ∷ cs) (l ∷ ls) h = (h.0.measured, cells_measured skin cs ls h.1)

-- the cached lengths of a line that was read are right
pub line_measured : (skin : LineRules) (c : LineContent) (l : FmtLine) → IsLineRead skin c l → IsLineMeasured skin l
line_measured skin (normal said) (Normal l) h = h.measured
line_measured skin (table_row cells) (TableRow row) h = cells_measured skin cells row.cells.items h
line_measured skin (table_rule aligns) (TableRule rule) h = tt
line_measured skin horizontal_rule HorizontalRule h = tt
line_measured skin _ _ h = absurd h

-- ---- what was read is as types promise

cells_typed : (skin : LineRules) (cs : List StyledRuns) (ls : List FmtComposite) → AreCompositesRead skin cs ls → AllByRecursion IsTypedText cs
cells_typed skin [] [] h = tt
cells_typed skin [] (l ∷ ls) h = tt
cells_typed skin (c ∷ cs) [] h = absurd h
cells_typed skin (c ∷ cs) (l ∷ ls) h = (h.0.known, cells_typed skin cs ls h.1)

-- a line that was read is so
pub line_typed : (skin : LineRules) (c : LineContent) (l : FmtLine) → IsLineRead skin c l → IsTypedLine c
line_typed skin (normal said) (Normal l) h = h.known
line_typed skin (table_row cells) (TableRow row) h = cells_typed skin cells row.cells.items h
line_typed skin (table_rule aligns) l h = tt
line_typed skin horizontal_rule l h = tt
line_typed skin _ _ h = absurd h

-- ---- lines of tables

-- what is read of a line that is no composite and no rule is a line of a table
pub table_read : (skin : LineRules) (line : Line) (l : FmtLine) → ((composite : Composite) → line ≡ read.Normal composite → ⊥) → (line ≡ read.HorizontalRule → ⊥) → IsLineRead skin (content_of line) l → is_table_line l ≡ true
table_read skin (read.Normal composite) l other rule h = absurd (other composite refl)
table_read skin (read.TableRow row) (TableRow made) other rule h = refl
table_read skin (read.TableRow row) (TableRule made) other rule h = refl
table_read skin (read.TableRule cells) (TableRow made) other rule h = refl
table_read skin (read.TableRule cells) (TableRule made) other rule h = refl
table_read skin read.HorizontalRule l other rule h = absurd (rule refl)
table_read skin _ _ other rule h = absurd h

-- ---- the cells of a row

-- what has been read of a row, with whatever the rest of its cells is read as, is all of it
abbrev pub CellsSoFar : LineRules → List StyledRuns → List StyledRuns → List FmtComposite → Type 0
CellsSoFar skin all rest cells = (more : List FmtComposite) → AreCompositesRead skin rest more → AreCompositesRead skin all (cells ++ more)

-- one cell more is read
pub cells_more : (skin : LineRules) (all rest after : List StyledRuns) (c : StyledRuns) (cells new : List FmtComposite) (l : FmtComposite) → CellsSoFar skin all rest cells → rest ≡ c ∷ after → IsCompositeRead skin c l
    → new ≡ cells ++ l ∷ [] → CellsSoFar skin all after new
cells_more skin all rest after c cells new l held next is pushed more h =
    subst (AreCompositesRead skin all) (sym (ap (λ ls. ls ++ more) pushed ∙ append_assoc cells (l ∷ []) more))
    (held (l ∷ more) (subst (λ (cs : List StyledRuns). AreCompositesRead skin cs (l ∷ more)) (sym next) (is, h)))

-- where no cell is left, all are read
pub cells_all : (skin : LineRules) (all rest : List StyledRuns) (cells : List FmtComposite) → rest ≡ [] → CellsSoFar skin all rest cells → AreCompositesRead skin all cells
cells_all skin all rest cells none held =
    subst (AreCompositesRead skin all) (append-nil cells) (held [] (subst (λ (cs : List StyledRuns). AreCompositesRead skin cs []) (sym none) tt))

-- The steps of a table of data: why it is refused, and what its rows are.
use Rattle.std.proofs.Common.{◌≡◌, ◌≤◌, ◌^◌, ◌⊎◌, ℕ, List, [], Option, Some, IsUtf8, ap, sym, ◌∙◌, subst, inl, inr}
use Rattle.mad_tables.specs.DataTables.{AreNoCells, AreTableLines}
use Rattle.termimad.specs.Layouts.{IsLayoutAt}
use Rattle.termimad.specs.Lines.{LineContent}
use Rattle.termimad.specs.RowSkins.{row_skin}
use Rattle.termimad.specs.RowStyles.{line_rules}
use Rattle.termimad.specs.Rows.{text_bytes}
use Rattle.termimad.specs.declared.Alignment.{Alignment}
use Rattle.termimad.specs.declared.FmtLine.{FmtLine}
use Rattle.termimad.specs.declared.MadSkin.{MadSkin}
use Rattle.termimad_c.specs.DataTables.{IsNoTable, IsTableWritten}
use Rattle.termimad_c.specs.Inputs.{AreAligned, IsSkinOf, RefusesAligns, RefusesCall}
use Rattle.termimad_c.specs.declared.answer.Refusal.{Refusal}
use Rattle.termimad_c.specs.declared.answer.Refusal.TheVariants.{Condition, NotUtf8, Skin, Memory}

-- a table is refused for its alignments
pub aligns_refused : (text lengths aligns word : List ℕ) (columns width : ℕ) (refusal : Refusal) → RefusesAligns aligns refusal → RefusesCall (IsNoTable text lengths aligns columns width) text word refusal
aligns_refused text lengths aligns word columns width Condition h = inr (inl h)
aligns_refused text lengths aligns word columns width Memory h = tt
aligns_refused text lengths aligns word columns width NotUtf8 h = absurd h
aligns_refused text lengths aligns word columns width Skin h = absurd h

-- its cells are none
pub cells_refused : (text src lengths aligns : List ℕ) (columns width : ℕ) → src ≡ text → AreNoCells src lengths columns → IsNoTable text lengths aligns columns width
cells_refused text src lengths aligns columns width p none = inr (inr (subst (λ (t : List ℕ). AreNoCells t lengths columns) p none))

-- a table that was laid out and written
pub table_written : (text lengths aligns word src : List ℕ) (columns width room : ℕ) (skin dress : MadSkin) (sides : List Alignment) (table : List LineContent) (lines : List FmtLine) (outer : Option ℕ) (whole : List ℕ)
    → IsUtf8 text → src ≡ text → IsSkinOf word skin → AreAligned aligns sides → room ≡ width → AreTableLines src lengths columns sides table → dress ≡ skin → outer ≡ Some room
    → IsLayoutAt (line_rules (row_skin skin)) (Some room) table lines → whole ≡ text_bytes (row_skin dress) outer lines → IsTableWritten text lengths aligns word columns width whole
table_written text lengths aligns word src columns width room skin dress sides table lines outer whole utf8 p given aligned q cells worn placed layout written = record {
  utf8 = utf8;
  skin = skin;
  given = given;
  sides = sides;
  aligned = aligned;
  table = table;
  cells = subst (λ (t : List ℕ). AreTableLines t lengths columns sides table) p cells;
  lines = lines;
  layout = subst (λ (w : ℕ). IsLayoutAt (line_rules (row_skin skin)) (Some w) table lines) q layout;
  whole_is = written ∙ ap (λ (s : MadSkin). text_bytes (row_skin s) outer lines) worn ∙ ap (λ (o : Option ℕ). text_bytes (row_skin skin) o lines) (placed ∙ ap Some q);
}

-- What is appended for a list, with cells that the code of its columns makes.
use Rattle.std.specs.Prelude.{◌≡◌, ℕ, ◌+◌, ◌-◌, Bool, List, map, ◌++◌, Option, Some, None, Result}
use Rattle.std.specs.List.{range_with_len}
use Rattle.std.specs.declared.alloc.AllocError.{AllocError}
use Rattle.mad_screen.specs.Drawing.{drawing}
use Rattle.mad_style.specs.declared.compound_styles.CompoundStyle.{CompoundStyle}
use Rattle.mad_measure.specs.declared.area.Area.{Area}
use Rattle.mad_list_rows.specs.States.{ListState}
use Rattle.mad_list_rows.specs.declared.list_rows.ListRow.{ListRow}
use Rattle.mad_list_columns.specs.Cells.{AreCells, DrawnCell, IsMadeCell, ShownCell}
use Rattle.mad_list_columns.specs.Drawing.{AreDrawn, DrawnRow, IsDrawnRow, body_row, cell_bytes, list_bytes, row_bytes, row_or_erasure}
use Rattle.mad_list_columns.specs.declared.cells.ListViewCell.{ListViewCell}
use Rattle.mad_list_columns.specs.declared.columns.ListViewColumn.{ListViewColumn}
use Rattle.mad_list_columns.specs.declared.drawing.ListStyle.{ListStyle}

-- the new bytes are the old ones and a cell
abbrev pub HasCell : {T E : Type 0} → (E → T → Result ListViewCell AllocError → Type 0) → ListViewColumn E → Bool → T → List ℕ → List ℕ → Type 0
HasCell extracts column selected content old new =
    (shown : ShownCell) × IsMadeCell extracts column.extract content shown × (new ≡ old ++ cell_bytes selected (record { column = column; shown = shown }))

-- the old ones and a row
abbrev pub HasCells : {T E : Type 0} → (E → T → Result ListViewCell AllocError → Type 0) → CompoundStyle → List (ListViewColumn E) → Bool → T → List ℕ → List ℕ → Type 0
HasCells {T} {E} extracts table columns selected content old new =
    (cells : List (DrawnCell E)) × AreCells extracts columns content cells × (new ≡ old ++ row_bytes table selected cells)

-- a drawn row is this one, or none where there is none
abbrev pub IsDrawnOf : {T E : Type 0} → (E → T → Result ListViewCell AllocError → Type 0) → List (ListViewColumn E) → Option (ℕ × ListRow T) → Option (DrawnRow T E) → Type 0
IsDrawnOf extracts columns row None = row ≡ None
IsDrawnOf extracts columns row (Some drawn) = (row ≡ Some drawn.row) × IsDrawnRow extracts columns drawn

-- the old ones and that row, or an erasure
abbrev pub HasRow : {T E : Type 0} → (E → T → Result ListViewCell AllocError → Type 0) → CompoundStyle → List (ListViewColumn E) → Option ℕ → Option (ℕ × ListRow T) → List ℕ → List ℕ → Type 0
HasRow {T} {E} extracts table columns selection row old new =
    (drawn : Option (DrawnRow T E)) × IsDrawnOf extracts columns row drawn × (new ≡ old ++ row_or_erasure table selection drawn)

-- the old ones and the first rows of the body
abbrev pub HasBody : {T E F O : Type 0} → (E → T → Result ListViewCell AllocError → Type 0) → ListStyle → List (ListViewColumn E) → Area → ListState T F O → ℕ → List ℕ → List ℕ → Type 0
HasBody {T} {E} extracts style columns area list count old new =
    (drawn : List (DrawnRow T E)) × AreDrawn extracts columns count list drawn × (new ≡ old ++ drawing area.left (area.top + 2) (map (body_row style area list drawn) (range_with_len 0 count)))

-- the old ones and the whole list
abbrev pub HasList : {T E F O : Type 0} → (E → T → Result ListViewCell AllocError → Type 0) → ListStyle → List (ListViewColumn E) → Area → ListState T F O → List ℕ → List ℕ → Type 0
HasList {T} {E} extracts style columns area list old new =
    (drawn : List (DrawnRow T E)) × AreDrawn extracts columns (area.height - 2) list drawn × (new ≡ old ++ list_bytes style columns area list drawn)

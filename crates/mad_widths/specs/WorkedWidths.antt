-- Worked tables of column widths, and widths that are none.
use Rattle.std.specs.Prelude.{◌≡◌, ◌≢◌, ℕ, ◌<◌, Bool, false, List, [], ◌∷◌, length, map, sum}
use Rattle.mad_widths.specs.ColumnWidths.{needs_of, column_widths, AreShared}
use Rattle.mad_widths.specs.WordWidths.{least_of, word_widths, IsWordFit}
use Rattle.mad_widths.specs.declared.tbl_fit.TblFitResult.{TblFitResult}

-- the column widths where these cells were seen
abbrev pub widths_for : ℕ → List (List ℕ) → List ℕ
widths_for available cells = column_widths available (map needs_of cells)

-- two columns, the second too wide
abbrev pub narrow_and_wide : List (List ℕ)
narrow_and_wide = (3 ∷ []) ∷ (20 ∷ []) ∷ []

-- two columns, the first with a cell far wider than the average
abbrev pub uneven_cells : List (List ℕ)
uneven_cells = (20 ∷ 2 ∷ []) ∷ (5 ∷ 5 ∷ []) ∷ []

-- the word widths where these cells were seen, and these are their longest words
abbrev pub word_widths_for : ℕ → List (List ℕ) → List (List ℕ) → List ℕ
word_widths_for available cells words = word_widths available (map needs_of cells) (least_of cells words)

-- a column with one long word, and a wider one with short words
abbrev pub word_and_text : List (List ℕ)
word_and_text = (9 ∷ []) ∷ (20 ∷ []) ∷ []

-- a table 13 wide has 10 for its two columns, and one 21 wide has 18
pub record AreWorkedWidths : Type 0 where
  pub natural : widths_for 30 narrow_and_wide ≡ 3 ∷ 20 ∷ []
  pub single : widths_for 8 ((50 ∷ []) ∷ []) ≡ 8 ∷ []
  pub reduced : widths_for 10 narrow_and_wide ≡ 3 ∷ 7 ∷ []
  pub uneven : widths_for 18 uneven_cells ≡ 13 ∷ 5 ∷ []
  -- without regard to words the first column has 7; the second gives it two of its 13
  pub parted : widths_for 20 word_and_text ≡ 7 ∷ 13 ∷ []
  pub whole : word_widths_for 20 word_and_text ((9 ∷ []) ∷ (5 ∷ []) ∷ []) ≡ 9 ∷ 11 ∷ []
  -- words of 9 and of 12 don't fit together in 20
  pub too_narrow : word_widths_for 20 word_and_text ((9 ∷ []) ∷ (12 ∷ []) ∷ []) ≡ 7 ∷ 13 ∷ []
  -- without regard to words it is 6, 6 and 12; the others give up 4 in proportion to 2 and 6
  pub three : word_widths_for 24 ((10 ∷ []) ∷ (12 ∷ []) ∷ (30 ∷ []) ∷ []) ((10 ∷ []) ∷ (4 ∷ []) ∷ (6 ∷ []) ∷ []) ≡ 10 ∷ 5 ∷ 9 ∷ []

-- What widths of several columns that need more than is available are not: of another sum, under three, wider than natural,
-- or not called reduced. The examples are two columns that need 3 and 20 and have 10. With regard to words no column is narrower than its
-- longest word beside one with room.
pub record RefusedWidths : Type 0 where
  pub other_sum : (available : ℕ) (naturals widths : List ℕ) (reduced : Bool) → available < sum naturals → length naturals ≢ 1 → sum widths ≢ available → ¬ (AreShared available naturals reduced widths)
  pub one_too_few : (reduced : Bool) → ¬ (AreShared 10 (3 ∷ 20 ∷ []) reduced (3 ∷ 6 ∷ []))
  pub three_each : (reduced : Bool) → ¬ (AreShared 10 (3 ∷ 20 ∷ []) reduced (3 ∷ 3 ∷ []))
  pub under_three : (reduced : Bool) → ¬ (AreShared 10 (3 ∷ 20 ∷ []) reduced (2 ∷ 8 ∷ []))
  pub wider_than_natural : (reduced : Bool) → ¬ (AreShared 10 (3 ∷ 20 ∷ []) reduced (4 ∷ 6 ∷ []))
  pub not_reduced : ¬ (AreShared 10 (3 ∷ 20 ∷ []) false (3 ∷ 7 ∷ []))
  pub word_parted : (fitted : TblFitResult) → fitted.col_widths.items ≡ 7 ∷ 13 ∷ [] → ¬ (IsWordFit 20 (map needs_of word_and_text) (9 ∷ 5 ∷ []) fitted)

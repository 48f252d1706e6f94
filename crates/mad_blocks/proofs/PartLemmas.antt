-- The parts of a text, and the lines of blocks of code in their places.
use Rattle.std.proofs.Common.{◌≡◌, ℕ, ◌≤◌, ◌⊎◌, inr, Bool, true, false, List, [], ◌∷◌, map, min, Some, refl, ap, arith}
use Rattle.std.specs.List.{AllByRecursion}
use Rattle.mad_md.specs.declared.alignment.Alignment.TheVariants.{Left}
use Rattle.mad_style.specs.declared.kinds.CompositeKind.{CompositeKind}
use Rattle.mad_style.specs.declared.kinds.CompositeKind.TheVariants.{Code}
use Rattle.mad_style.specs.LineStyles.{width_inside}
use Rattle.mad_measure.specs.declared.spacing.Spacing.{Spacing}
use Rattle.mad_blocks.specs.LayoutParts.{Part, table, block, single, is_code_kind, with_table, with_code, with_composite, parts_of, widest, placed_code, justified, code_room}
use Rattle.mad_format.specs.FmtLines.{is_table_line}
use Rattle.mad_format.specs.WrappedLines.{inner_columns_at}
use Rattle.mad_format.specs.LineRules.{LineRules}
use Rattle.mad_format.specs.declared.composite.FmtComposite.{FmtComposite}
use Rattle.mad_format.specs.declared.line.FmtLine.{FmtLine}
use Rattle.mad_format.specs.declared.line.FmtLine.TheVariants.{Normal, TableRow, TableRule, HorizontalRule}
use Rattle.mad_blocks.proofs.PartRuns.{AllTableLines, AllCode}

-- ---- each line in its place

-- The line is a line of code in a place that its margins leave room for, and that holds as much of it as fits.
pub record IsPlacedCode (skin : LineRules) (width : ℕ) (l : FmtComposite) (m : FmtLine) : Type 0 where
  pub place : Spacing
  pub is : m ≡ Normal (record l { spacing = Some place })
  pub inside : place.width ≤ inner_columns_at skin width l
  pub holds : min l.visible_length (inner_columns_at skin width l) ≤ place.width

abbrev IsPlacedCodeLine : LineRules → ℕ → FmtLine → FmtLine → Type 0
IsPlacedCodeLine skin width (Normal l) m = IsPlacedCode skin width l m
IsPlacedCodeLine skin width _ m = ⊥

-- the line stays, or is placed so
abbrev pub IsPlacedOrKept : LineRules → ℕ → FmtLine → FmtLine → Type 0
IsPlacedOrKept skin width l m = (m ≡ l) ⊎ IsPlacedCodeLine skin width l m

-- each of the lines stays, or is placed so
abbrev pub ArePlacedOrKept : LineRules → ℕ → List FmtLine → List FmtLine → Type 0
ArePlacedOrKept skin width [] [] = Unit {0}
ArePlacedOrKept skin width (l ∷ ls) (m ∷ ms) = IsPlacedOrKept skin width l m × ArePlacedOrKept skin width ls ms
ArePlacedOrKept skin width _ _ = ⊥

-- the lines of a part as they are
abbrev pub raw_lines : Part → List FmtLine
raw_lines (table ls) = ls
raw_lines (block ls) = map Normal ls
raw_lines (single l) = l ∷ []

-- a table's lines are of tables, and a block's are code
abbrev pub IsPartOfKind : Part → Type 0
IsPartOfKind (table ls) = AllTableLines ls
IsPartOfKind (block ls) = AllCode ls
IsPartOfKind (single l) = is_table_line l ≡ false

with_table_kinds : (l : FmtLine) (ps : List Part) → is_table_line l ≡ true → AllByRecursion IsPartOfKind ps → AllByRecursion IsPartOfKind (with_table l ps)
with_table_kinds l [] is h = ((is, tt), tt)
with_table_kinds l (table ls ∷ ps) is h = ((is, h.0), h.1)
with_table_kinds l (block ls ∷ ps) is h = ((is, tt), h)
with_table_kinds l (single m ∷ ps) is h = ((is, tt), h)

with_code_kinds : (l : FmtComposite) (ps : List Part) → is_code_kind l.kind ≡ true → AllByRecursion IsPartOfKind ps → AllByRecursion IsPartOfKind (with_code l ps)
with_code_kinds l [] code h = ((code, tt), tt)
with_code_kinds l (table ls ∷ ps) code h = ((code, tt), h)
with_code_kinds l (block ls ∷ ps) code h = ((code, h.0), h.1)
with_code_kinds l (single m ∷ ps) code h = ((code, tt), h)

with_composite_kinds : (b : Bool) (l : FmtComposite) (ps : List Part) → is_code_kind l.kind ≡ b → AllByRecursion IsPartOfKind ps → AllByRecursion IsPartOfKind (with_composite b l ps)
with_composite_kinds true l ps code h = with_code_kinds l ps code h
with_composite_kinds false l ps code h = (refl, h)

-- the parts of lines are so
pub parts_kinds : (ls : List FmtLine) → AllByRecursion IsPartOfKind (parts_of ls)
parts_kinds [] = tt
parts_kinds (Normal l ∷ ls) = with_composite_kinds (is_code_kind l.kind) l (parts_of ls) refl (parts_kinds ls)
parts_kinds (TableRow row ∷ ls) = with_table_kinds (TableRow row) (parts_of ls) refl (parts_kinds ls)
parts_kinds (TableRule rule ∷ ls) = with_table_kinds (TableRule rule) (parts_of ls) refl (parts_kinds ls)
parts_kinds (HorizontalRule ∷ ls) = (refl, parts_kinds ls)

-- the kind of code is `Code`
pub code_is : (k : CompositeKind) → is_code_kind k ≡ true → k ≡ Code
code_is Code h = refl
code_is _ h = absurd (cc)

block_placed : (skin : LineRules) (width most : ℕ) (ls : List FmtComposite) → AllCode ls → widest ls ≤ most
    → ArePlacedOrKept skin width (map Normal ls) (map Normal (map (placed_code (min most (width_inside (skin.line_style Code) width))) ls))
block_placed skin width most [] code wide = tt
block_placed skin width most (l ∷ ls) code wide =
    let inner : inner_columns_at skin width l ≡ width_inside (skin.line_style Code) width =
    ap (λ (k : CompositeKind). width_inside (skin.line_style k) width) (code_is l.kind code.0) in (
      inr (record {
        place = record { width = min most (width_inside (skin.line_style Code) width); align = Left };
        is = refl;
        inside = omega (arith, inner);
        holds = omega (arith, inner, wide);
      }),
      block_placed skin width most ls code.1 (omega (arith, wide)),
    )

-- the lines of a block, each in its place
pub code_placed : (skin : LineRules) (width : ℕ) (ls : List FmtComposite) → AllCode ls → ArePlacedOrKept skin width (map Normal ls) (map Normal (justified (code_room skin (Some width)) ls))
code_placed skin width ls code = block_placed skin width (widest ls) ls code (omega arith)

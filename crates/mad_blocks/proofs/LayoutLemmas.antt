-- Layouts, line by line: what is laid out so far, and a table or a block of code that may go on.
use Rattle.std.proofs.Common.{◌≡◌, ℕ, ◌<◌, inl, inr, List, [], ◌∷◌, ◌++◌, map, Option, None, Some, refl, ap, sym, ◌∙◌, subst, arith, append_assoc}
use Rattle.std.specs.List.{AllByRecursion}
use Rattle.std.proofs.lemmas.List.{append-nil}
use Rattle.mad_format.specs.CompositeWraps.{IsCompositeWrap}
use Rattle.mad_blocks.specs.LayoutParts.{Part, placed_code, block_width, justified, code_room, IsLineAt, AreLinesAt, ArePartsAt}
use Rattle.mad_blocks.specs.Tables.{IsTableLaidOutBy, columns_count}
use Rattle.mad_format.specs.WrappedLines.{Wrap}
use Rattle.mad_format.specs.Wraps.{IsMeasured}
use Rattle.mad_format.specs.LineRules.{LineRules}
use Rattle.mad_format.specs.declared.composite.FmtComposite.{FmtComposite}
use Rattle.mad_format.specs.declared.line.FmtLine.{FmtLine}
use Rattle.mad_format.specs.declared.line.FmtLine.TheVariants.{Normal, HorizontalRule}
use Rattle.mad_blocks.proofs.PartRuns.{table_parts, block_parts}

-- ---- parts

-- a rule stays at any width
pub rule_at : (skin : LineRules) (width : Option ℕ) → IsLineAt IsCompositeWrap skin width HorizontalRule (HorizontalRule ∷ [])
rule_at skin None = refl
rule_at skin (Some width) = refl

-- parts and then others are laid out as all of them
pub parts_joined : (wraps : Wrap) (skin : LineRules) (tables : ℕ) (width : Option ℕ) (ps qs : List Part) (own more : List FmtLine) → ArePartsAt wraps skin tables width ps own → ArePartsAt wraps skin tables width qs more
    → ArePartsAt wraps skin tables width (ps ++ qs) (own ++ more)
parts_joined wraps skin tables width [] qs own more h k = subst (λ (ls : List FmtLine). ArePartsAt wraps skin tables width qs (ls ++ more)) (sym h) k
parts_joined wraps skin tables width (p ∷ ps) qs own more (first, others, joins, here, rest) k =
    (first, others ++ more, ap (λ ls. ls ++ more) joins ∙ append_assoc first others more, here, parts_joined wraps skin tables width ps qs others more rest k)

-- what the lines of a block become, each in its place, is what its part becomes
pub block_laid : (skin : LineRules) (tables : ℕ) (width : Option ℕ) (ls : List FmtComposite) (own : List FmtLine) → AreLinesAt IsCompositeWrap skin width (map Normal (justified (code_room skin width) ls)) own
    → ArePartsAt IsCompositeWrap skin tables width (block_parts ls) own
block_laid skin tables width [] own h = h
block_laid skin tables width (l ∷ ls) own h = (own, [], sym (append-nil own), h, refl)

-- what a table becomes is what its part becomes
pub table_laid : (skin : LineRules) (tables : ℕ) (width : Option ℕ) (ls own : List FmtLine) → IsTableLaidOutBy IsCompositeWrap skin (columns_count ls) tables ls own
    → ArePartsAt IsCompositeWrap skin tables width (table_parts ls) own
table_laid skin tables width [] own (inl stays) = stays.1
table_laid skin tables width [] own (inr laid) = let some : 0 < 0 = laid.0 in absurd (omega (arith, some))
table_laid skin tables width (l ∷ ls) own h = (own, [], sym (append-nil own), h, refl)

-- ---- the lines of a block, one after another

-- What the lines of a block have become so far, with whatever the rest of them become, is what all of them become.
pub record ClosedSoFar (skin : LineRules) (width : Option ℕ) (columns : ℕ) (all rest : List FmtComposite) (before lines : List FmtLine) : Type 0 where
  pub measured : AllByRecursion (IsMeasured skin) rest
  pub done : List FmtLine
  pub lines_are : lines ≡ before ++ done
  pub so_far : (more : List FmtLine) → AreLinesAt IsCompositeWrap skin width (map Normal (map (placed_code columns) rest)) more → AreLinesAt IsCompositeWrap skin width (map Normal (map (placed_code columns) all)) (done ++ more)

-- no line of it is laid out yet
pub closed_start : (skin : LineRules) (width : Option ℕ) (columns : ℕ) (all : List FmtComposite) (before : List FmtLine) → AllByRecursion (IsMeasured skin) all → ClosedSoFar skin width columns all all before before
closed_start skin width columns all before measured = record { measured = measured; done = []; lines_are = sym (append-nil before); so_far = λ more h. h }

-- one more line of it is laid out
pub closed_more : (skin : LineRules) (width : Option ℕ) (columns : ℕ) (all rest after : List FmtComposite) (before lines own new : List FmtLine) (l : FmtComposite) → ClosedSoFar skin width columns all rest before lines
    → rest ≡ l ∷ after → IsLineAt IsCompositeWrap skin width (Normal (placed_code columns l)) own → new ≡ lines ++ own → ClosedSoFar skin width columns all after before new
closed_more skin width columns all rest after before lines own new l held next here pushed =
    let measured : AllByRecursion (IsMeasured skin) (l ∷ after) = subst (AllByRecursion (IsMeasured skin)) next held.measured in
    record {
      measured = measured.1;
      done = held.done ++ own;
      lines_are = pushed ∙ ap (λ ls. ls ++ own) held.lines_are ∙ append_assoc before held.done own;
      so_far = λ more h.
          subst (λ (ls : List FmtLine). AreLinesAt IsCompositeWrap skin width (map Normal (map (placed_code columns) all)) ls) (sym (append_assoc held.done own more))
          (held.so_far (own ++ more) (subst (λ (ls : List FmtComposite). AreLinesAt IsCompositeWrap skin width (map Normal (map (placed_code columns) ls)) (own ++ more)) (sym next) (own, more, refl, here, h)));
    }

-- where no line is left, the block is laid out
pub closed_laid : (skin : LineRules) (width : Option ℕ) (columns : ℕ) (all rest : List FmtComposite) (before lines : List FmtLine) → rest ≡ [] → columns ≡ block_width (code_room skin width) all
    → ClosedSoFar skin width columns all rest before lines → (own : List FmtLine) × (lines ≡ before ++ own) × AreLinesAt IsCompositeWrap skin width (map Normal (justified (code_room skin width) all)) own
closed_laid skin width columns all rest before lines none columns_are held = (
  held.done,
  held.lines_are,
  subst (λ (n : ℕ). AreLinesAt IsCompositeWrap skin width (map Normal (map (placed_code n) all)) held.done) columns_are
      (subst (λ (ls : List FmtLine). AreLinesAt IsCompositeWrap skin width (map Normal (map (placed_code columns) all)) ls) (append-nil held.done)
      (held.so_far [] (subst (λ (ls : List FmtComposite). AreLinesAt IsCompositeWrap skin width (map Normal (map (placed_code columns) ls)) []) (sym none) refl))),
)

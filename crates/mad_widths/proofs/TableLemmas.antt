-- The widths of a table's columns, from the cells that it has seen.
use Rattle.std.proofs.Common.{◌≡◌, ℕ, zero, suc, ◌+◌, ◌-◌, ◌*◌, ◌^◌, ◌≤◌, ◌<◌, inl, inr, Bool, List, [], ◌∷◌, length, map, sum, refl, sym, ap₂, ◌∙◌, arith, subst}
use Rattle.std.specs.List.{AllZip}
use Rattle.std.proofs.lemmas.Bool.{cases_lt, cases_eq}
use Rattle.std.proofs.lemmas.List.{length-map}
use Rattle.std.proofs.lemmas.List.Elements.{All-get_or, All-from_get_or, recursion_from_All}
use Rattle.mad_widths.specs.ColumnWidths.{Needs, natural_widths, AreShared}
use Rattle.mad_widths.specs.SeenCells.{needs_in, ColumnHasSeen}
use Rattle.mad_widths.specs.TableFits.{IsFit, IsTableFit}
use Rattle.mad_widths.specs.WordWidths.{least_widths, least_of, IsWordFit, IsTableWordFit}
use Rattle.mad_widths.specs.declared.sharing.SeenColumn.{SeenColumn}
use Rattle.mad_widths.specs.declared.tbl_fit.TblFitResult.{TblFitResult}
use Rattle.mad_widths.proofs.ShareLemmas.{AreWide, length-naturals, get_or-naturals}
use Rattle.mad_widths.proofs.WordLemmas.{naturals_three}
use Rattle.mad_widths.proofs.CellLemmas.{same_naturals, same_needs, zip_length, zip_at, naturals_wide}

-- what all column widths are
record AreColumns (available n : ℕ) (ws : List ℕ) : Type 0 where
  pub count : length ws ≡ n
  pub wide : AreWide ws
  pub within : sum ws ≤ available

wide_one : (a : ℕ) → 3 ≤ a → AreWide (a ∷ [])
wide_one a h zero l = h
wide_one a h (suc i) l = absurd (omega (arith, l))

columns_are : (available : ℕ) (naturals ws : List ℕ) (reduced : Bool) → 3 * length naturals ≤ available → AreWide naturals → AreShared available naturals reduced ws → AreColumns available (length naturals) ws
columns_are available naturals ws reduced wide_enough wide h =
    elim (cases_lt available (sum naturals)) [
      | inr fits ↦
          let e : naturals ≡ ws = sym (h.fitting fits).0 in
          subst (AreColumns available (length naturals)) e (record { count = refl; wide = wide; within = fits })
      | inl more ↦
          elim (cases_eq (length naturals) 1) [
            | inl one ↦
                let e : available ∷ [] ≡ ws = sym (h.single more one).0 in
                subst (AreColumns available (length naturals)) e (record { count = sym one; wide = wide_one available (omega (arith, wide_enough, one)); within = omega arith })
            | inr several ↦
                let s = h.shared more several in
                let len : length ws ≡ length naturals = zip_length (λ w n. (3 ≤ w) × (w ≤ n)) ws naturals s.1 in
                record {
                  count = len;
                  wide = λ i l. (zip_at (λ w n. (3 ≤ w) × (w ≤ n)) ws naturals i 0 0 s.1 l).0;
                  within = omega (arith, s.0);
                }
          ]
    ]

-- what fits the needs of the columns fits the table, where it has room for three in each column
pub table_fit : (width : ℕ) (cs : List SeenColumn) (cells : List (List ℕ)) (fitted : TblFitResult) → 4 * length cs + 1 ≤ width → AllZip ColumnHasSeen cs cells → IsFit (width - 1 - length cs) (map needs_in cs) fitted
    → IsTableFit width cells fitted
table_fit width cs cells fitted wide_enough seen h =
    let len : length cs ≡ length cells = zip_length ColumnHasSeen cs cells seen in
    let naturals = natural_widths (map needs_in cs) in
    let long : length naturals ≡ length cs = length-naturals (map needs_in cs) ∙ length-map cs needs_in in
    let d : Needs = record { natural = 0; average = 0 } in
    let wide : AreWide naturals = λ i l.
    let within : i < length (map needs_in cs) = subst (λ n. i < n) (length-naturals (map needs_in cs)) l in
    subst (λ n. 3 ≤ n) (sym (get_or-naturals (map needs_in cs) i d within)) (All-get_or (λ n. 3 ≤ n.natural) (map needs_in cs) i d within (naturals_wide cs)) in
    let columns = columns_are (width - 1 - length cs) naturals fitted.col_widths.items fitted.reduced (omega (arith, wide_enough, long)) wide h.shared in
    record {
      exact = λ few. subst (λ ns. IsFit (width - 1 - length cells) ns fitted) (same_needs cs cells seen (recursion_from_All (λ c. length c < 2 ^ 64) cells few))
          (subst (λ n. IsFit (width - 1 - n) (map needs_in cs) fitted) len h);
      shared = subst (λ ns. AreShared (width - 1 - length cells) ns fitted.reduced fitted.col_widths.items) (same_naturals cs cells seen)
          (subst (λ n. AreShared (width - 1 - n) naturals fitted.reduced fitted.col_widths.items) len h.shared);
      count = columns.count ∙ long ∙ len;
      least = All-from_get_or (λ w. 3 ≤ w) fitted.col_widths.items 0 columns.wide;
      within = omega (arith, columns.within, len, wide_enough);
    }

-- with regard to words
pub table_word_fit : (width : ℕ) (cs vs : List SeenColumn) (cells words : List (List ℕ)) (fitted : TblFitResult) → 4 * length cs + 1 ≤ width → AllZip ColumnHasSeen cs cells → AllZip ColumnHasSeen vs words
    → IsWordFit (width - 1 - length cs) (map needs_in cs) (least_widths (natural_widths (map needs_in cs)) (natural_widths (map needs_in vs))) fitted → IsTableWordFit width cells words fitted
table_word_fit width cs vs cells words fitted wide_enough seen heard h =
    let len : length cs ≡ length cells = zip_length ColumnHasSeen cs cells seen in
    let naturals = natural_widths (map needs_in cs) in
    let long : length naturals ≡ length cs = length-naturals (map needs_in cs) ∙ length-map cs needs_in in
    let columns = columns_are (width - 1 - length cs) naturals fitted.col_widths.items fitted.reduced (omega (arith, wide_enough, long)) (naturals_three cs) h.shared in
    let least : least_widths naturals (natural_widths (map needs_in vs)) ≡ least_of cells words = ap₂ least_widths (same_naturals cs cells seen) (same_naturals vs words heard) in
    let g : IsWordFit (width - 1 - length cells) (map needs_in cs) (least_of cells words) fitted = subst (λ l. IsWordFit (width - 1 - length cells) (map needs_in cs) l fitted) least
    (subst (λ n. IsWordFit (width - 1 - n) (map needs_in cs) (least_widths naturals (natural_widths (map needs_in vs))) fitted) len h) in
    record {
      exact = λ few. subst (λ ns. IsWordFit (width - 1 - length cells) ns (least_of cells words) fitted) (same_needs cs cells seen (recursion_from_All (λ c. length c < 2 ^ 64) cells few)) g;
      shared = subst (λ ns. AreShared (width - 1 - length cells) ns fitted.reduced fitted.col_widths.items) (same_naturals cs cells seen) g.shared;
      whole = g.whole;
      count = columns.count ∙ long ∙ len;
      least = All-from_get_or (λ w. 3 ≤ w) fitted.col_widths.items 0 columns.wide;
      within = omega (arith, columns.within, len, wide_enough);
    }

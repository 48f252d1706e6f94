-- The worked tables, by computing; the widths that are none, each by the part of the definition that it breaks.
use Rattle.std.proofs.Common.{◌≤◌, [], ◌∷◌, refl, arith, subst}
use Rattle.std.specs.List.{AllZip}
use Rattle.std.proofs.lemmas.Bool.{false≢true}
use Rattle.mad_widths.specs.Turns.{grants}
use Rattle.mad_widths.specs.ColumnWidths.{first_requests, second_requests, after_first, after_second, column_widths}
use Rattle.mad_widths.specs.WordWidths.{word_widths}
use Rattle.mad_widths.specs.WorkedWidths.{AreWorkedWidths, RefusedWidths}

-- the worked tables have these widths
pub worked : AreWorkedWidths
unfolding word_widths column_widths after_second after_first second_requests first_requests grants
worked = record { natural = refl; single = refl; reduced = refl; uneven = refl; parted = refl; whole = refl; too_narrow = refl; three = refl }

-- no fit has the refused widths
pub none : RefusedWidths
none = record {
  other_sum = λ available naturals widths reduced more several other h. other (h.shared more several).0;
  one_too_few = λ reduced h. absurd (omega (arith, (h.shared (omega arith) (λ e. absurd (omega (arith, e)))).0));
  three_each = λ reduced h. absurd (omega (arith, (h.shared (omega arith) (λ e. absurd (omega (arith, e)))).0));
  under_three = λ reduced h. absurd (omega (arith, (h.shared (omega arith) (λ e. absurd (omega (arith, e)))).1.0.0));
  wider_than_natural = λ reduced h. absurd (omega (arith, (h.shared (omega arith) (λ e. absurd (omega (arith, e)))).1.0.1));
  not_reduced = λ h. false≢true (h.shared (omega arith) (λ e. absurd (omega (arith, e)))).2;
  word_parted = λ fitted e h. absurd (omega (arith, (subst (λ ws. AllZip (λ w l. l ≤ w) ws (9 ∷ 5 ∷ [])) e (h.whole (omega arith))).0));
}

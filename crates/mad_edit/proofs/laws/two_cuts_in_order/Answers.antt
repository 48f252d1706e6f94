use Rattle.std.proofs.Common.{ℕ, ◌≡◌, List, [], ◌++◌, take, drop, get_or, ap, sym, ◌∙◌, arith, refl}
use Rattle.std.specs.Prelude.{codes}
use Rattle.mad_edit.proofs.laws.two_cuts_in_order.Goals as goal

pub returns-clause-leads : goal.returns-clause-leads
returns-clause-leads c = (
  codes "ad",
  record { offset = 1; position = ((omega arith, omega arith), refl); text = refl },
  ([], record { offset = 0; position = ((omega arith, omega arith), refl); text = refl }, refl),
)

-- the first cut would be at the start
first_char : (next : List ℕ) (n : ℕ) → n ≡ 0 → codes "abcd" ≡ take n next ++ (codes "ad" ++ drop n next) → ⊥
first_char next n e h =
    let same : codes "abcd" ≡ codes "ad" ++ next = h ∙ ap (λ m. take m next ++ (codes "ad" ++ drop m next)) e in
    let second : 98 ≡ 100 = ap (λ (t : List ℕ). get_or t 1 0) same in
    omega (arith, second)

pub returns-clause-turned : goal.returns-clause-turned
returns-clause-turned c = λ leads. first_char leads.0 leads.1.offset (sym leads.1.position.1) leads.1.text

use Rattle.std.proofs.Common.{ℕ, ◌≡◌, ◌<◌, ◌+◌, ◌↔◌, List, Option, Some, None, IsSome, ap, ◌∙◌, arith, length, min, refl, inl, inr}
use Rattle.std.specs.Prelude.{IfSome, unwrap_or}
use Rattle.std.proofs.lemmas.Bool.{cases_lt}
use Rattle.mad_edit_lines.specs.declared.position.Pos.{Pos}
use Rattle.mad_edit_lines.specs.TextLines.{lines_of, text_of, offset_of, IsPosition}
use Rattle.mad_edit_lines.proofs.PositionLemmas.{length-text}
use Rattle.mad_edit_lines.proofs.positions.position_past.Goals as goal

-- the next position, or the end
past : (ls : List (List ℕ)) (p : Pos) (r : Option Pos) → IsPosition ls p → IfSome r (λ q. offset_of ls q ≡ offset_of ls p + 1) → (IsSome r ↔ (offset_of ls p < length (text_of ls)))
    → offset_of ls (unwrap_or r p) ≡ min (offset_of ls p + 1) (length (text_of ls))
past ls p (Some q) h next at_end = let low = at_end.0 refl in omega (arith, next, low)
past ls p None h next at_end = elim (cases_lt (offset_of ls p) (length (text_of ls))) [
  | inl less ↦ let none = at_end.1 less in cc
  | inr le ↦ let e = length-text ls p h in omega (arith, e, le)
]

pub returns-clause-next : goal.returns-clause-next
returns-clause-next c = ap (offset_of (lines_of c.args.lines.now)) c.unwrap_or.ensures ∙ past (lines_of c.args.lines.now) c.args.position c.position_after.result c.requires c.position_after.ensures.next c.position_after.ensures.at_end

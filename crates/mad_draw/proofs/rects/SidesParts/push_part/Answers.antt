use Rattle.std.proofs.Common.{◌≡◌, ℕ, List, ◌++◌, ◌+◌, suc, subst, ap, arith}
use Rattle.std.specs.Prelude.{OnOk, string_bytes}
use Rattle.mad_draw.proofs.RectBytes.{sides_filled, sides_open}
use Rattle.mad_draw.proofs.rects.SidesParts.push_part.Goals as goal

pub returns-then-rect : goal.returns-then-rect
returns-then-rect c =
    let r = c.args.self.now.rect.now in
    let row : r.area.top + (c.args.number + 1) ≡ r.area.top + suc c.args.number = omega arith in
    subst (λ (t : List ℕ). OnOk c.write.result (string_bytes c.write.new.self ≡ string_bytes c.args.bytes.now ++ t))
    (sides_filled r _ _ _ _ _ c.if-rect.true row c.border-left.ensures c.border-right.ensures c.columns_between.ensures) c.write.ensures.bytes

pub returns-else-rect : goal.returns-else-rect
returns-else-rect c =
    let r = c.args.self.now.rect.now in
    let row : r.area.top + (c.args.number + 1) ≡ r.area.top + suc c.args.number = omega arith in
    subst (λ (t : List ℕ). OnOk c.write-else-rect.result (string_bytes c.write-else-rect.new.self ≡ string_bytes c.args.bytes.now ++ t))
    (sides_open r _ _ _ _ _ c.if-rect.false row c.border-left.ensures c.border-right.ensures (ap (λ n. r.area.left + n) c.saturating_sub.ensures)) c.write-else-rect.ensures.bytes

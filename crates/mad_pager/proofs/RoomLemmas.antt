-- The columns that the text has: they are enough, and fit.
use Rattle.std.proofs.Common.{◌≡◌, ◌⊎◌, inl, inr, ℕ, ◌+◌, ◌-◌, ◌*◌, ◌==◌, ◌<◌, ◌≤◌, Bool, true, false, nat_lt, max, min, refl, subst, arith}
use Rattle.std.specs.Prelude.{if◌then◌else◌}
use Rattle.std.proofs.lemmas.Bool.Decides.{nat_tests}
use Rattle.mad_page_skin.specs.declared.text_room.TextRoom.{TextRoom}
use Rattle.mad_pager.specs.Rooms.{bounded, margin_at, room_width}

-- a bound leaves the least columns
bounded_least : (t : Bool) (most n : ℕ) → 4 ≤ n → 4 ≤ (if t then n else min n (max most 20))
bounded_least true most n h = h
bounded_least false most n h = omega (arith, h)

-- it cuts no more off the greater one
bounded_more : (t : Bool) (most a b : ℕ) → a ≤ b → (if t then a else min a (max most 20)) ≤ (if t then b else min b (max most 20))
bounded_more true most a b h = h
bounded_more false most a b h = omega (arith, h)

bounded_most : (t : Bool) (most n : ℕ) → (if t then n else min n (max most 20)) ≤ n
bounded_most true most n = omega arith
bounded_most false most n = omega arith

-- margins leave four columns beside a bar
margin_leaves : (t : Bool) (margin columns : ℕ) → nat_lt (55 + 2 * margin) columns ≡ t → 5 ≤ columns → 4 + 2 * (if t then margin else 0) ≤ columns - 1
margin_leaves true margin columns is wide = let more : 55 + 2 * margin < columns = grind (arith, nat_tests, is) in omega (arith, more)
margin_leaves false margin columns is wide = omega (arith, wide)

pub left_over : (room : TextRoom) (columns : ℕ) → 5 ≤ columns → 4 + 2 * margin_at room columns ≤ columns - 1
left_over room columns wide = margin_leaves (nat_lt (55 + 2 * room.margin) columns) room.margin columns refl wide

-- a text has three columns at least
pub three_wide : (room : TextRoom) (columns : ℕ) → 5 ≤ columns → 3 ≤ room_width room columns (columns - 1)
three_wide room columns wide =
    let over = left_over room columns wide in
    let four : 4 ≤ room_width room columns (columns - 1) = bounded_least (room.columns == 0) room.columns ((columns - 1) - 2 * margin_at room columns) (omega (arith, over)) in
    omega (arith, four)

-- and no more where a bar takes one
pub room_wider : (room : TextRoom) (columns left : ℕ) → columns - 1 ≤ left → room_width room columns (columns - 1) ≤ room_width room columns left
room_wider room columns left more = bounded_more (room.columns == 0) room.columns ((columns - 1) - 2 * margin_at room columns) (left - 2 * margin_at room columns) (omega (arith, more))

-- its margins are free
pub room_bounded : (room : TextRoom) (columns left : ℕ) → room_width room columns left ≤ left - 2 * margin_at room columns
room_bounded room columns left = bounded_most (room.columns == 0) room.columns (left - 2 * margin_at room columns)

-- The steps of the loop that reads a text.
use Rattle.std.proofs.Common.{◌≡◌, ℕ, ◌+◌, ◌<◌, ◌≤◌, Bool, true, false, cond, List, length, get_or, drop, Option, Some, None, refl, ap, sym, ◌∙◌, IsUtf8}
use Rattle.std.specs.Prelude.{option_and_then}
use Rattle.std.specs.Str.{chars, is_utf8}
use Rattle.std.proofs.lemmas.List.{at_drop_more, at_drop_all}
use Rattle.std.proofs.lemmas.Str.{IsUtf8-from_is_utf8, is_utf8-from_IsUtf8}
use Rattle.mad_screen.specs.Grid.{Grid}
use Rattle.mad_screen.specs.Terminal.{Reading, feed, feed_all, resting, settled, after_bytes}

-- from an index on, its character is read, and then those after it
pub feed_all-drop : (cs : List ℕ) (n c : ℕ) (r : Reading) → (n < length cs) × (c ≡ get_or cs n c) → feed_all (drop n cs) r ≡ option_and_then (feed_all (drop (n + 1) cs)) (feed r c)
feed_all-drop cs n c r h = at_drop_more (λ l. feed_all l r) cs n c h.0 ∙ ap (λ d. option_and_then (feed_all (drop (n + 1) cs)) (feed r d)) (sym h.1)

-- past the last one nothing is read
pub feed_all-end : (cs : List ℕ) (n : ℕ) (r : Reading) → length cs ≤ n → feed_all (drop n cs) r ≡ Some r
feed_all-end cs n r h = at_drop_all (λ l. feed_all l r) cs n h

-- a text leads where its characters lead, if no sequence is cut off at their end
pub read_is : (g : Grid) (bytes : List ℕ) (o : Option Reading) → IsUtf8 bytes → feed_all (chars bytes) (resting g) ≡ o → after_bytes g bytes ≡ option_and_then settled o
unfolding after_bytes
read_is g bytes o text e =
    ap (λ b. cond b (option_and_then settled (feed_all (chars bytes) (resting g))) None) (is_utf8-from_IsUtf8 bytes text) ∙ ap (option_and_then settled) e

none_at : (b : Bool) (o : Option Grid) → (b ≡ true → ⊥) → cond b o None ≡ None
none_at true o h = absurd (h refl)
none_at false o h = refl

-- bytes that are no text are not read
pub read_none : (g : Grid) (bytes : List ℕ) → ¬ (IsUtf8 bytes) → after_bytes g bytes ≡ None
unfolding after_bytes
read_none g bytes h = none_at (is_utf8 bytes) (option_and_then settled (feed_all (chars bytes) (resting g))) (λ e. h (IsUtf8-from_is_utf8 bytes e))

-- Gutters in front of the last bar.
use Rattle.std.proofs.Common.{◌≡◌, ℕ, ◌+◌, ◌-◌, ◌<◌, ◌≤◌, true, false, List, length, take, get_or, ap, sym, arith}
use Rattle.std.proofs.Math.Seq.{take-length}
use Rattle.std.specs.List.{suffix_len}
use Rattle.std.proofs.lemmas.List.Sums.{suffix_len-take_yes, suffix_len-take_no}
use Rattle.mad_sections.specs.declared.gutters.Gutter.{Gutter}
use Rattle.markdown_gutters.specs.Lists.{is_item}

-- so far all behind these are items
pub record AreItems (gutters : List Gutter) (len : ℕ) : Type 0 where
  pub within : len ≤ length gutters
  pub same : len + suffix_len is_item gutters ≡ length gutters + suffix_len is_item (take len gutters)

-- behind the last gutter there is none
pub items_all : (gutters : List Gutter) → AreItems gutters (length gutters)
items_all gutters = record { within = omega arith; same = ap (λ (l : List Gutter). length gutters + suffix_len is_item l) (sym (take-length gutters)) }

-- where the gutter before is an item, it is one of these
pub items_more : (gutters : List Gutter) (len : ℕ) (d : Gutter) → AreItems gutters len → 0 < len → is_item (get_or gutters (len - 1) d) ≡ true → AreItems gutters (len - 1)
items_more gutters len d h some item =
    let one = suffix_len-take_yes is_item gutters len d some h.within item in
    record { within = omega (arith, h.within); same = omega (arith, h.within, h.same, one, some) }

-- where the gutter before is no item, so many are left without the items behind them
pub items_stop : (gutters : List Gutter) (len : ℕ) (d : Gutter) → AreItems gutters len → 0 < len → is_item (get_or gutters (len - 1) d) ≡ false → length gutters - suffix_len is_item gutters ≡ len
items_stop gutters len d h some bar =
    let none = suffix_len-take_no is_item gutters len d some h.within bar in
    omega (arith, h.within, h.same, none)

-- where no gutter is before, none is left
pub items_none : (gutters : List Gutter) (len : ℕ) → AreItems gutters len → len ≡ 0 → length gutters - suffix_len is_item gutters ≡ len
items_none gutters len h e =
    let none : suffix_len is_item (take len gutters) ≡ 0 = ap (λ (n : ℕ). suffix_len is_item (take n gutters)) e in
    omega (arith, h.within, h.same, none, e)

-- The last of gutters: whether it is that of code, and the level of the heading that it is below.
use Rattle.std.proofs.Common.{◌≡◌, ℕ, ◌+◌, ◌-◌, ◌<◌, ◌≤◌, Bool, false, List, [], ◌∷◌, Some, length, drop, get_or, refl, ap, sym, ◌∙◌, arith}
use Rattle.std.specs.List.{last_or}
use Rattle.std.specs.Option.{option_and_then}
use Rattle.std.proofs.lemmas.List.{at_drop_more}
use Rattle.mad_sections.specs.declared.gutters.Gutter.{Gutter}
use Rattle.mad_page_rows.specs.Faces.{is_code, ends_in_code, alert_barred, alert_of, level_above, level_of}

-- what the last of gutters is, where it was so before them
abbrev pub ends_from : Bool → List Gutter → Bool
ends_from last [] = last
ends_from last (g ∷ gs) = ends_in_code (g ∷ gs)

-- where no gutter was before, it is as the last one is
pub ends_none : (gs : List Gutter) → ends_from false gs ≡ ends_in_code gs
ends_none [] = refl
ends_none (g ∷ gs) = refl

next_ends : (last : Bool) (g : Gutter) (gs : List Gutter) → ends_from (is_code g) gs ≡ ends_from last (g ∷ gs)
next_ends last g [] = refl
next_ends last g (h ∷ gs) = refl

-- with one more gutter it is as that is, and then as those behind it are
pub ends_on : (last : Bool) (gs : List Gutter) (i : ℕ) (g : Gutter) → i < length gs → ends_from (is_code (get_or gs i g)) (drop (i + 1) gs) ≡ ends_from last (drop i gs)
ends_on last gs i g inside = next_ends last (get_or gs i g) (drop (i + 1) gs) ∙ sym (at_drop_more (ends_from last) gs i g inside)

last_from : (g : Gutter) (gs : List Gutter) (d : Gutter) → last_or (Some g) gs ≡ Some (get_or (g ∷ gs) (length gs) d)
last_from g [] d = refl
last_from g (h ∷ gs) d = last_from h gs d

-- the level above a row is what its last gutter says
pub level_is : (gs : List Gutter) (d : Gutter) → 1 ≤ length gs → level_of (get_or gs (length gs - 1) d) ≡ level_above gs
level_is [] d some = absurd (omega arith)
level_is (g ∷ gs) d some = ap (λ (n : ℕ). level_of (get_or (g ∷ gs) n d)) (omega arith) ∙ sym (ap (option_and_then level_of) (last_from g gs d))

-- the alert whose bar a row is behind is what its last gutter says
pub alert_is : (gs : List Gutter) (d : Gutter) → 1 ≤ length gs → alert_of (get_or gs (length gs - 1) d) ≡ alert_barred gs
alert_is [] d some = absurd (omega arith)
alert_is (g ∷ gs) d some = ap (λ (n : ℕ). alert_of (get_or (g ∷ gs) n d)) (omega arith) ∙ sym (ap (option_and_then alert_of) (last_from g gs d))

-- What keys do in a view.
use Rattle.std.specs.Prelude.{◌≡◌, ◌==◌, ◌&&◌, ◌-◌, ℕ, Bool, true, false, List, length, if◌then◌else◌}
use Rattle.mad_term.specs.declared.keys.KeyCode.{KeyCode}
use Rattle.mad_term.specs.declared.keys.KeyCode.TheVariants.{Up, Down, PageUp, PageDown}
use Rattle.mad_term.specs.declared.keys.KeyModifiers.{KeyModifiers}
use Rattle.mad_format.specs.declared.line.FmtLine.{FmtLine}
use Rattle.mad_view.specs.MadViews.{area_of, IsViewLayout}
use Rattle.mad_view.specs.Scrolls.{scrolled_down}
use Rattle.mad_view.specs.declared.mad_view.MadView.{MadView}

-- the keys that scroll
abbrev pub scrolls : KeyCode → Bool
scrolls Up = true
scrolls Down = true
scrolls PageUp = true
scrolls PageDown = true
scrolls code = false

-- whether a key scrolls: one of these, without modifiers
abbrev pub is_scroll_key : KeyCode → KeyModifiers → Bool
is_scroll_key code modifiers = modifiers.0 == 0 && scrolls code

-- The scroll of a text of `lines` lines in an area of `rows` rows after a key without modifiers. The arrows scroll it by a line, the page
-- keys by the area's height.
abbrev pub scrolled_by_code : ℕ → ℕ → ℕ → KeyCode → ℕ
scrolled_by_code lines rows scroll Up = scroll - 1
scrolled_by_code lines rows scroll Down = scrolled_down lines rows scroll 1
scrolled_by_code lines rows scroll PageUp = scroll - rows
scrolled_by_code lines rows scroll PageDown = scrolled_down lines rows scroll rows
scrolled_by_code lines rows scroll code = scroll

-- the same after a key with these modifiers, which does nothing if there is one
abbrev pub scrolled_by_key : ℕ → ℕ → ℕ → KeyCode → KeyModifiers → ℕ
scrolled_by_key lines rows scroll code modifiers = if modifiers.0 == 0 then scrolled_by_code lines rows scroll code else scroll

-- the view is scrolled by a key, in a layout of its text
abbrev pub IsScrolledByKey : KeyCode → KeyModifiers → MadView → MadView → Type 0
IsScrolledByKey code modifiers old new =
    (lines : List FmtLine) × IsViewLayout old lines × (new ≡ record old { scroll = scrolled_by_key (length lines) (area_of old).height old.scroll code modifiers })

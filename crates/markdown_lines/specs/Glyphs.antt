-- Characters of a leaf, each with its flags.
use Rattle.std.specs.Prelude.{ℕ, ◌-◌, Bool, false, not, ◌||◌, ◌&&◌, ◌==◌, List, [], ◌∷◌, ◌++◌, length, take, map, None, is_some, encode_utf8, if◌then◌else◌}
use Rattle.std.specs.List.{suffix_len}
use Rattle.markdown_inlines.specs.Looks.{is_same, is_same_number}
use Rattle.markdown_inlines.specs.Styled.{Shown}
use Rattle.markdown_inlines.specs.Inlines.{leaf_text, shown_cut}
use Rattle.markdown_html_text.specs.HtmlPieces.{html_cut}
use Rattle.mad_md.specs.Flagged.{Run}
use Rattle.markdown_lines.specs.Runs.{flags_said}
use Rattle.markdown_lines.specs.declared.glyphs.Glyph.{Glyph}
use Rattle.markdown_lines.specs.declared.places.RunFlags.{RunFlags}

-- a character as it is shown: in a picture a space for a break
abbrev pub shown_in : Bool → ℕ → ℕ
shown_in picture c = if picture && (c == 10) then 32 else c

-- a character that is shown, bold where all are, with the flag of a link and its number where it belongs to one, and with those of a picture where one says it
abbrev pub glyph_of : Bool → Shown → Glyph
glyph_of bold s =
    let said : Bool = is_some s.look.picture in
    let flags : RunFlags = record { bold = bold || s.look.bold; italic = s.look.italic; code = s.look.code; strikeout = s.look.strikeout; link = is_some s.look.link; picture = said; picture_sign = false } in
    record { c = shown_in said s.char; flags = flags; link = s.look.link; picture = s.look.picture }

-- the characters that are shown of a leaf with this text, with links to definitions with these labels
abbrev pub leaf_glyphs : List (List ℕ) → Bool → List ℕ → List Glyph
leaf_glyphs labels bold text = map (glyph_of bold) (leaf_text labels text)

-- the characters that are shown of a leaf of html with this text
abbrev pub html_glyphs : List ℕ → List Glyph
html_glyphs text = map (glyph_of false) (shown_cut (html_cut text) text)

-- a break, and a space but in code: it isn't shown at the ends of a row
abbrev pub is_edge : Glyph → Bool
is_edge g = (g.c == 10) || ((g.c == 32) && not g.flags.code)

-- without the breaks and spaces that are in front
unfoldable pub without_front : List Glyph → List Glyph
without_front [] = []
without_front (g ∷ gs) = if is_edge g then without_front gs else g ∷ gs

-- without the breaks and spaces that are at the end
unfoldable pub without_back : List Glyph → List Glyph
without_back gs = take (length gs - suffix_len is_edge gs) gs

-- without the breaks and spaces at the ends
abbrev pub trimmed : List Glyph → List Glyph
trimmed gs = without_back (without_front gs)

-- a space that has no flag, but is bold where all are
abbrev pub space : Bool → Glyph
space bold = record { c = 32; flags = record { bold = bold; italic = false; code = false; strikeout = false; link = false; picture = false; picture_sign = false }; link = None; picture = None }

-- some characters, those of a row that has begun, and then these, with a space for each break
unfoldable pub spaced_from : Bool → List Glyph → List Glyph → List Glyph → List Glyph
spaced_from bold shown row [] = shown ++ trimmed row
spaced_from bold shown row (g ∷ gs) = if g.c == 10 then spaced_from bold ((shown ++ trimmed row) ++ space bold ∷ []) [] gs else spaced_from bold shown (row ++ g ∷ []) gs

-- ---- characters as runs

-- both have the same flags
abbrev pub is_same_flags : RunFlags → RunFlags → Bool
is_same_flags a b =
    is_same a.bold b.bold && is_same a.italic b.italic && is_same a.code b.code && is_same a.strikeout b.strikeout && is_same a.link b.link && is_same a.picture b.picture
    && is_same a.picture_sign b.picture_sign

-- both have the same flags, belong to the same link or to none, and are said by the same picture or by none
abbrev pub is_same_run : Glyph → Glyph → Bool
is_same_run a b = is_same_flags a.flags b.flags && is_same_number a.link b.link && is_same_number a.picture b.picture

-- a run that has these flags and this text
abbrev pub run_with : RunFlags → List ℕ → Run
run_with flags text = record { flags = flags_said flags; text = text }

-- a run that has begun with a character and has this text, and then these characters
unfoldable pub runs_from : Glyph → List ℕ → List Glyph → List Run
runs_from first text [] = run_with first.flags text ∷ []
runs_from first text (g ∷ gs) = if is_same_run first g then runs_from first (text ++ encode_utf8 g.c) gs else run_with first.flags text ∷ runs_from g (encode_utf8 g.c) gs

-- characters as runs: neighbours that have the same flags, are of one link and of one picture are one
abbrev pub runs_of : List Glyph → List Run
runs_of [] = []
runs_of (g ∷ gs) = runs_from g (encode_utf8 g.c) gs

-- The heading and the section to which a link goes that begins with `#`.
use Rattle.std.specs.Prelude.{ℕ, List, [], ◌∷◌, Option, Some, None, position, slice_get, if◌then◌else◌}
use Rattle.std.specs.Str.{bytes_eq}
use Rattle.std.specs.StrCase.Lower.{str_to_lowercase}
use Rattle.markdown_reader.specs.Anchors.{AnchorSaid}

-- the section of the first name that is that one
unfoldable pub anchor_among : List AnchorSaid → List ℕ → Option ℕ
anchor_among [] target = None
anchor_among (anchor ∷ anchors) target = if bytes_eq anchor.name target then Some anchor.section else anchor_among anchors target

-- the section of the heading with this index
abbrev pub section_at : List ℕ → Option ℕ → Option ℕ
section_at sections None = None
section_at sections (Some index) = slice_get sections index

-- the index of the first of these names that is that one
abbrev pub first_named : List (List ℕ) → List ℕ → Option ℕ
first_named names name = position (λ (other : List ℕ). bytes_eq other name) names

-- the first that there is
abbrev pub or_else : Option ℕ → Option ℕ → Option ℕ
or_else None other = other
or_else (Some found) other = Some found

-- the first heading that has this name, else the first that has it in small letters
abbrev pub target_among : List (List ℕ) → List ℕ → Option ℕ
target_among names target = or_else (first_named names target) (first_named names (str_to_lowercase target))

-- the section to which a link goes: that of the first name that is that one, or else of the heading, of which these are the names and sections
abbrev pub section_among : List AnchorSaid → (names : List (List ℕ)) (sections : List ℕ) → List ℕ → Option ℕ
section_among anchors names sections target = or_else (anchor_among anchors target) (section_at sections (target_among names target))

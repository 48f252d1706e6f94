-- Tags of html: one alone in a line, byte by byte.
use Rattle.std.specs.Prelude.{ℕ, Bool, true, false, not, ◌||◌, ◌&&◌, ◌==◌, List, [], ◌∷◌, if◌then◌else◌}
use Rattle.std.specs.Char.{is_ascii_alphabetic, is_ascii_alphanumeric}
use Rattle.markdown_marks.specs.Bytes.{is_blank_byte, first}
use Rattle.markdown_marks.specs.declared.tags.Place.{Place}
use Rattle.markdown_marks.specs.declared.tags.Place.TheVariants.{Name, Gap, Attribute, AfterAttribute, BeforeValue, Plain, Single, Double, AfterValue, Slash, CloseName, CloseGap, After, Nowhere}

-- the byte is a letter, a low line or a colon
abbrev pub is_attribute_start : ℕ → Bool
is_attribute_start b = is_ascii_alphabetic b || (b == 95) || (b == 58)

-- the byte is a letter, a digit, or one of _ : . -
abbrev pub is_attribute_byte : ℕ → Bool
is_attribute_byte b = is_ascii_alphanumeric b || (b == 95) || (b == 58) || (b == 46) || (b == 45)

-- a byte of a value without quotes
abbrev pub is_plain_byte : ℕ → Bool
is_plain_byte b = not (is_blank_byte b || (b == 34) || (b == 39) || (b == 61) || (b == 60) || (b == 62) || (b == 96))

-- where a tag can end: > after it, or a slash and then >
abbrev pub ending_place : ℕ → Place
ending_place b = if b == 62 then After else if b == 47 then Slash else Nowhere

-- after blanks: an attribute, or an end
abbrev pub gap_place : ℕ → Place
gap_place b = if is_blank_byte b then Gap else if is_attribute_start b then Attribute else ending_place b

-- after blanks that follow an attribute's name
abbrev pub after_attribute_place : ℕ → Place
after_attribute_place b = if is_blank_byte b then AfterAttribute else if b == 61 then BeforeValue else if is_attribute_start b then Attribute else ending_place b

-- in an attribute's name: it goes on, or blanks, its value or an end follow
abbrev pub attribute_place : ℕ → Place
attribute_place b = if is_attribute_byte b then Attribute else if is_blank_byte b then AfterAttribute else if b == 61 then BeforeValue else ending_place b

-- before a value: blanks, or what it begins with
abbrev pub before_value_place : ℕ → Place
before_value_place b = if is_blank_byte b then BeforeValue else if b == 39 then Single else if b == 34 then Double else if is_plain_byte b then Plain else Nowhere

-- after a value: blanks, or an end
abbrev pub after_value_place : ℕ → Place
after_value_place b = if is_blank_byte b then Gap else ending_place b

-- where a byte leads
abbrev pub next_place : Place → ℕ → Place
next_place Name b = if is_ascii_alphanumeric b || (b == 45) then Name else after_value_place b
next_place Gap b = gap_place b
next_place Attribute b = attribute_place b
next_place AfterAttribute b = after_attribute_place b
next_place BeforeValue b = before_value_place b
next_place Plain b = if is_plain_byte b then Plain else if is_blank_byte b then Gap else if b == 62 then After else Nowhere
next_place Single b = if b == 39 then AfterValue else Single
next_place Double b = if b == 34 then AfterValue else Double
next_place AfterValue b = after_value_place b
next_place Slash b = if b == 62 then After else Nowhere
next_place CloseName b = if is_ascii_alphanumeric b || (b == 45) then CloseName else if is_blank_byte b then CloseGap else if b == 62 then After else Nowhere
next_place CloseGap b = if is_blank_byte b then CloseGap else if b == 62 then After else Nowhere
next_place After b = if is_blank_byte b then After else Nowhere
next_place Nowhere b = Nowhere

-- the place is behind a tag
abbrev pub is_after : Place → Bool
is_after After = true
is_after _ = false

-- whether these bytes lead behind a tag, and nothing but blanks follows
unfoldable pub ends_alone : Place → List ℕ → Bool
ends_alone place [] = is_after place
ends_alone place (b ∷ bs) = ends_alone (next_place place b) bs

-- An opening tag with its attributes, or a closing one, and then nothing but blanks. These are the bytes after the sign <.
abbrev pub is_tag_alone : List ℕ → Bool
is_tag_alone [] = false
is_tag_alone (b ∷ bs) = if is_ascii_alphabetic b then ends_alone Name bs else (b == 47) && is_ascii_alphabetic (first bs) && ends_alone CloseName bs

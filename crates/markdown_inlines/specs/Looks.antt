-- How a text looks.
use Rattle.std.specs.Prelude.{ℕ, ◌==◌, ◌&&◌, ◌||◌, not, Bool, true, false, if◌then◌else◌, Option, Some, None, is_some}
use Rattle.markdown_emphasis.specs.declared.flags.Flags.{Flags}
use Rattle.markdown_inlines.specs.declared.looks.Look.{Look}
use Rattle.markdown_inlines.specs.declared.tags.TagFlags.{TagFlags}

-- both hold, or neither does
abbrev pub is_same : Bool → Bool → Bool
is_same a b = if a then b else not b

-- both are the same number, or none
abbrev pub is_same_number : Option ℕ → Option ℕ → Bool
is_same_number None None = true
is_same_number (Some a) (Some b) = a == b
is_same_number _ _ = false

-- both look the same, belong to the same link, and are said by the same picture
abbrev pub is_same_look : Look → Look → Bool
is_same_look a b =
    is_same a.bold b.bold && is_same a.italic b.italic && is_same a.strikeout b.strikeout && is_same a.code b.code && is_same_number a.link b.link
    && is_same_number a.picture b.picture

-- How a text looks that has these flags by marks and by tags, is code or isn't, belongs to this link, and is said by this picture. What a picture says is of
-- its link alone.
abbrev pub look_of : Flags → TagFlags → Bool → (link picture : Option ℕ) → Look
look_of flags tags code link picture =
    let own = not (is_some picture) in
    record {
      bold = (flags.bold || tags.bold) && own;
      italic = (flags.italic || tags.italic) && own;
      strikeout = (flags.strikeout || tags.strikeout) && own;
      code = (code || tags.code) && own;
      link = link;
      picture = picture;
    }

-- how a text looks that has no flag and belongs to no link, and that no picture says
abbrev pub plain_look : Look
plain_look = record { bold = false; italic = false; strikeout = false; code = false; link = None; picture = None }

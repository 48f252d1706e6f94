-- What follows a closing bracket.
use Rattle.std.specs.Prelude.{ℕ, ◌+◌, ◌-◌, ◌==◌, ◌&&◌, false, if◌then◌else◌, List, [], ◌∷◌, length, drop, take, Option, Some, None, option_map}
use Rattle.markdown_marks.specs.Bytes.{first}
use Rattle.markdown_marks.specs.Definitions.{after, or_else, after_label, after_destination, after_space, title_after}
use Rattle.markdown_brackets.specs.Labels.{label_index}
use Rattle.markdown_brackets.specs.declared.targets.Target.{Target}

-- what follows a closing parenthesis that is in front
abbrev pub closed_paren : List ℕ → Option (List ℕ)
closed_paren [] = None
closed_paren (b ∷ bs) = if b == 41 then Some bs else None

-- a closing parenthesis, after blanks
abbrev pub target_end : List ℕ → Option (List ℕ)
target_end text = closed_paren (after_space text)

-- after a destination: nothing, or a title behind blanks, and then the parenthesis
abbrev pub after_target : List ℕ → Option (List ℕ)
after_target text =
    or_else (target_end text) (if length (after_space text) == length text then None else after (title_after (after_space text)) target_end)

-- what follows (destination "title"), after the first parenthesis
abbrev pub after_inline : List ℕ → Option (List ℕ)
after_inline text = or_else (target_end text) (after (after_destination (after_space text)) after_target)

-- how many bytes (destination "title") has
abbrev pub inline_len : List ℕ → Option ℕ
inline_len rest = if first rest == 40 then option_map (λ after. length rest - length after) (after_inline (drop 1 rest)) else None

-- how many bytes a label has, after its opening bracket
abbrev pub label_len : List ℕ → Option ℕ
label_len text = option_map (λ after. (length text - length after) - 1) (after_label 0 false false text)

-- of [label]
abbrev pub full_label_len : List ℕ → Option ℕ
full_label_len rest = if first rest == 91 then label_len (drop 1 rest) else None

-- of a label that ends, with its bracket, behind so many bytes
abbrev pub if_ends : ℕ → Option ℕ → Option ℕ
if_ends count None = None
if_ends count (Some len) = if count == len + 1 then Some len else None

-- of a label that is all that is between the brackets
abbrev pub shortcut_len : List ℕ → ℕ → Option ℕ
shortcut_len inside rest = if_ends (length inside - rest) (label_len inside)

-- of []
abbrev pub collapsed_len : List ℕ → ℕ
collapsed_len rest = if (first rest == 91) && (first (drop 1 rest) == 93) then 2 else 0

-- a target that is the definition of this index, and takes so many bytes
abbrev pub defined_as : ℕ → ℕ → Target
defined_as len index = record { definition = Some index; len = len }

-- what a label refers to
abbrev pub defined : List (List ℕ) → List ℕ → ℕ → Option Target
defined labels label len = option_map (defined_as len) (label_index labels label)

-- the first, or else the second
abbrev pub by_len : Option ℕ → (ℕ → Option Target) → Option Target → Option Target
by_len None by otherwise = otherwise
by_len (Some len) by otherwise = by len

-- [text][label], where the label needs not be defined, or [label][] or [label]
abbrev pub reference : List (List ℕ) → List ℕ → List ℕ → Option Target
reference labels inside rest =
    by_len (full_label_len rest) (λ len. defined labels (take len (drop 1 rest)) (len + 2))
    (by_len (shortcut_len inside (length rest)) (λ len. defined labels (take len inside) (collapsed_len rest)) None)

-- what makes a link of brackets: the text after the opening one, and after the closing one
abbrev pub target_of : List (List ℕ) → List ℕ → List ℕ → Option Target
target_of labels inside rest = by_len (inline_len rest) (λ len. Some (record { definition = None; len = len })) (reference labels inside rest)

-- Labels of references.
use Rattle.std.specs.Prelude.{ℕ, false, if◌then◌else◌, List, [], ◌∷◌, ◌++◌, Option, Some, None, option_map, chars, encode_utf8_all, position}
use Rattle.std.specs.List.{list_any}
use Rattle.std.specs.Str.{is_utf8, bytes_eq}
use Rattle.caseless.specs.Caseless.{default_case_fold}
use Rattle.markdown_spans.specs.Words.{words}

-- the bytes, where they are UTF-8
abbrev pub text_of : List ℕ → Option (List ℕ)
text_of bytes = if is_utf8 bytes then Some bytes else None

-- a text as Unicode's case folding makes it
abbrev pub folded : List ℕ → List ℕ
folded text = encode_utf8_all (default_case_fold (chars text))

-- a label as it is compared
abbrev pub normal : List ℕ → Option (List ℕ)
normal label = option_map folded (text_of (words false false label))

-- the first of these labels that is this one
abbrev pub index_of : List (List ℕ) → Option (List ℕ) → Option ℕ
index_of labels None = None
index_of labels (Some label) = position (bytes_eq label) labels

-- the first of some normal labels that this one is
abbrev pub label_index : List (List ℕ) → List ℕ → Option ℕ
label_index labels label = index_of labels (normal label)

-- some labels, and this one behind them if it is new
abbrev pub with_label : List (List ℕ) → List ℕ → List (List ℕ)
with_label labels label = if list_any (bytes_eq label) labels then labels else labels ++ label ∷ []

-- Pieces, and what of them is written.
use Rattle.std.proofs.Common.{◌≡◌, ◌≢◌, ℕ, Bool, List, [], ◌++◌, ◌==◌, if◌then◌else◌, ap, sym}
use Rattle.std.specs.Int.{bit_at}
use Rattle.std.specs.List.{flat_map, repeat}
use Rattle.std.proofs.lemmas.Bool.{ne_eqb}
use Rattle.std.proofs.lemmas.List.{append-nil}
use Rattle.mad_term.specs.declared.attributes.Attributes.{Attributes}
use Rattle.mad_term.specs.declared.styles.ContentStyle.{ContentStyle}
use Rattle.mad_term.specs.Attribute.{all_attributes, attribute_index}
use Rattle.mad_term.specs.Attributes.{attribute_bits}
use Rattle.mad_term.specs.Styles.{IsUnstyled, attribute_bytes, attributes_bytes, opening_bytes, closing_bytes, piece_bytes, styled_repeat_bytes}

abbrev bytes_of_bits : ℕ → List ℕ
bytes_of_bits n = flat_map (λ a. if bit_at n (attribute_index a) == 1 then attribute_bytes a else []) all_attributes

-- an empty set writes nothing
pub no_attributes : (s : Attributes) → attribute_bits s ≡ 0 → attributes_bytes s ≡ []
no_attributes s e = ap bytes_of_bits e

-- a style without commands writes its text alone
pub unstyled_piece : (style : ContentStyle) (text : List ℕ) → IsUnstyled style → piece_bytes style text ≡ text
unstyled_piece style text h = rw (h.background, h.foreground, h.underline, no_attributes style.attributes h.attributes, h.attributes) (append-nil text)

-- a piece as its parts are written
pub written_piece : (style : ContentStyle) (text closing : List ℕ) → closing ≡ closing_bytes style → opening_bytes style ++ (text ++ closing) ≡ piece_bytes style text
written_piece style text closing e = ap (λ (end : List ℕ). opening_bytes style ++ (text ++ end)) e

-- a text no times
pub no_repeat : (style : ContentStyle) (text : List ℕ) (count : ℕ) → count ≡ 0 → styled_repeat_bytes style text count ≡ []
no_repeat style text count e = ap (styled_repeat_bytes style text) e

-- or some times
pub some_repeat : (style : ContentStyle) (text : List ℕ) (count : ℕ) → count ≢ 0 → piece_bytes style (repeat count text) ≡ styled_repeat_bytes style text count
some_repeat style text count h = ap (λ (none : Bool). if none then [] else piece_bytes style (repeat count text)) (sym (ne_eqb count 0 h))

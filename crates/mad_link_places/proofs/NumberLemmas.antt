-- Numbers that are drawn one after the other.
use Rattle.std.proofs.Common.{◌≡◌, ℕ, ◌+◌, ◌-◌, ◌<◌, List, [], ◌∷◌, ◌++◌, take, length, get_or, Option, Some, refl, ap, sym, ◌∙◌, subst, append_assoc, arith}
use Rattle.std.specs.List.{slice_get}
use Rattle.std.proofs.lemmas.Bool.Decides.{nat_tests}
use Rattle.std.proofs.lemmas.List.{append-nil, take_more}
use Rattle.mad_format.specs.declared.composite.FmtComposite.{FmtComposite}
use Rattle.mad_format.specs.declared.line.FmtLine.{FmtLine}
use Rattle.mad_style.specs.declared.compound_styles.CompoundStyle.{CompoundStyle}
use Rattle.mad_style.specs.declared.styled_chars.StyledChar.{StyledChar}
use Rattle.mad_rows.specs.Rows.{margins_of}
use Rattle.mad_rows.specs.declared.row_skin.RowSkin.{RowSkin}
use Rattle.mad_wrap.specs.WrapLines.{capped}
use Rattle.mad_page_rows.specs.FaceLaws.{fronts}
use Rattle.mad_page_rows.specs.Faces.{line_skin}
use Rattle.mad_pages.specs.Fronts.{FrontContent, front_at}
use Rattle.mad_pages.specs.declared.fronts.Front.{Front}
use Rattle.mad_hits.specs.Hits.{Marked, text_column}
use Rattle.mad_hits.specs.declared.rooms.RowRoom.{RowRoom}
use Rattle.mad_link_places.specs.Numbers.{AreNumbersShown, IsNumberIn, IsNumberShown, line_column, line_columns, number_chars, placed_number}
use Rattle.mad_link_places.specs.declared.places.LinkPlace.{LinkPlace}

-- ---- a number in a line

-- a column and columns more, as many as a number has
capped_sum : (a b x y sum : ℕ) → a ≡ capped x → b ≡ capped y → sum ≡ capped (a + b) → sum ≡ capped (x + y)
capped_sum a b x y sum at more is = omega (arith, at, more, is)

-- where the text of a line begins
pub column_is : (skin made : RowSkin) (room : RowRoom) (front : FrontContent) (l : FmtComposite) (rest before inside column : ℕ) → made ≡ line_skin skin front → rest ≡ line_columns skin room front → before ≡ capped (room.left + fronts skin front.gutters)
    → inside ≡ capped (text_column made (Some rest) (margins_of made (Some rest) l) l) → column ≡ capped (before + inside) → column ≡ capped (line_column skin room front l)
column_is skin made room front l rest before inside column dressed columns front_is text is =
    let own : RowSkin → ℕ → ℕ = λ s n. text_column s (Some n) (margins_of s (Some n) l) l in
    let here : inside ≡ capped (own (line_skin skin front) (line_columns skin room front)) = text ∙ ap (λ (s : RowSkin). capped (own s rest)) dressed ∙ ap (λ (n : ℕ). capped (own (line_skin skin front) n)) columns in
    capped_sum before inside (room.left + fronts skin front.gutters) (own (line_skin skin front) (line_columns skin room front)) column front_is here is

-- characters in a column
abbrev pub chars_at : ℕ → List StyledChar → Marked
chars_at column chars = record { column = column; chars = chars }

-- the digits of a number that were drawn are the number where it is
pub number_is : (skin : RowSkin) (style : CompoundStyle) (room : RowRoom) (front : FrontContent) (place : LinkPlace) (l : FmtComposite) (begin column : ℕ) (chars items : List StyledChar)
    → begin ≡ capped (line_column skin room front l) → column ≡ capped (begin + place.column) → chars ≡ items → items ≡ number_chars style place.number → chars_at column chars ≡ placed_number skin style room front place l
number_is skin style room front place l begin column chars items at is same are =
    let there : column ≡ capped (line_column skin room front l + place.column) = omega (arith, at, is) in
    ap (λ (n : ℕ). chars_at n chars) there ∙ ap (chars_at (capped (line_column skin room front l + place.column))) (same ∙ are)

-- a number that is shown in its row is shown on the screen
pub number_shown : (skin : RowSkin) (style : CompoundStyle) (room : RowRoom) (lines : List FmtLine) (fs : List Front) (top : ℕ) (place : LinkPlace) (y : ℕ) (front : FrontContent) (line : Option FmtLine) → y < 65535 → y ≡ place.row - top → front ≡ front_at fs place.row
    → slice_get lines place.row ≡ line → (bytes : List ℕ) → IsNumberIn skin style room front y place line bytes → IsNumberShown skin style room lines fs top place bytes
number_shown skin style room lines fs top place y front line high at is has bytes h =
    let in_screen : place.row - top < 65535 = omega (arith, at, high) in
    record {
      low = λ past. absurd (grind (arith, nat_tests, past, in_screen));
      shown = λ there.
          subst (λ (n : ℕ). IsNumberIn skin style room (front_at fs place.row) n place (slice_get lines place.row) bytes) at
          (subst (λ (o : Option FmtLine). IsNumberIn skin style room (front_at fs place.row) y place o bytes) (sym has) (subst (λ (f : FrontContent). IsNumberIn skin style room f y place line bytes) is h));
    }

-- ---- numbers in turn

numbers_joined : (skin : RowSkin) (style : CompoundStyle) (room : RowRoom) (lines : List FmtLine) (fs : List Front) (top : ℕ) (places : List LinkPlace) (place : LinkPlace) (a b : List ℕ)
    → AreNumbersShown skin style room lines fs top places a → IsNumberShown skin style room lines fs top place b → AreNumbersShown skin style room lines fs top (places ++ place ∷ []) (a ++ b)
numbers_joined skin style room lines fs top [] place a b none here = (b, [], ap (λ (l : List ℕ). l ++ b) none ∙ sym (append-nil b), here, refl)
numbers_joined skin style room lines fs top (p ∷ places) place a b (first, others, are, shown, rest) here = (
  first,
  others ++ b,
  ap (λ (l : List ℕ). l ++ b) are ∙ append_assoc first others b,
  shown,
  numbers_joined skin style room lines fs top places place others b rest here,
)

-- a number more
pub number_more : (skin : RowSkin) (style : CompoundStyle) (room : RowRoom) (lines : List FmtLine) (fs : List Front) (top : ℕ) (places : List LinkPlace) (i : ℕ) (d : LinkPlace) (a b : List ℕ) → i < length places
    → AreNumbersShown skin style room lines fs top (take i places) a → IsNumberShown skin style room lines fs top (get_or places i d) b → AreNumbersShown skin style room lines fs top (take (i + 1) places) (a ++ b)
number_more skin style room lines fs top places i d a b inside so here =
    subst (λ (ps : List LinkPlace). AreNumbersShown skin style room lines fs top ps (a ++ b)) (sym (take_more places i d inside)) (numbers_joined skin style room lines fs top (take i places) (get_or places i d) a b so here)

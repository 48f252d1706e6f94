-- What the bytes and the numbers of a caller are.
use Rattle.std.specs.Prelude.{◌≡◌, ◌⊎◌, ℕ, ◌+◌, ◌<◌, ◌≤◌, ◌^◌, ◌==◌, Bool, true, false, not, List, [], ◌∷◌, length, map, Option, Some, None, IsUtf8}
use Rattle.termimad.specs.Areas.{IsWithinLimits}
use Rattle.termimad.specs.StreamedFronts.{IsTextFront, BeginNoText}
use Rattle.termimad.specs.declared.Alignment.{Alignment}
use Rattle.termimad.specs.declared.Alignment.TheVariants.{Unspecified, Left, Center, Right}
use Rattle.termimad.specs.declared.Area.{Area}
use Rattle.termimad.specs.declared.MadSkin.{MadSkin}
use Rattle.mad_page_skin.specs.declared.page_skin.PageSkin.{PageSkin}
use Rattle.termimad_words.specs.GivenSkins.{page_skin_given, skin_given}
use Rattle.termimad_c.specs.declared.answer.Refusal.{Refusal}
use Rattle.termimad_c.specs.declared.answer.Refusal.TheVariants.{Condition, NotUtf8, Skin, Memory}

-- what a number says that is 0 or not
abbrev pub is_told : ℕ → Bool
is_told number = not (number == 0)

-- The text of bytes that end there: all of them. Where they go on, it is their longest front that is UTF-8, and at most three bytes come after it.
abbrev pub IsTextSoFar : Bool → List ℕ → List ℕ → Type 0
IsTextSoFar true bytes text = IsUtf8 bytes × (text ≡ bytes)
IsTextSoFar false bytes text = IsTextFront bytes text × (length bytes ≤ length text + 3)

-- the bytes are no text, or where they go on, no text begins with them
abbrev pub IsNoText : Bool → List ℕ → Type 0
IsNoText true bytes = ¬ (IsUtf8 bytes)
IsNoText false bytes = BeginNoText bytes

-- the word of a skin, as the program takes it: an empty one is none
abbrev pub word_given : List ℕ → Option (List ℕ)
word_given [] = None
word_given (byte ∷ more) = Some (byte ∷ more)

-- the skin of a word, whatever keys are passed over
abbrev pub IsSkinOf : List ℕ → MadSkin → Type 0
IsSkinOf word skin = IsUtf8 word × (unknown : List (List ℕ)) × (skin_given (word_given word) ≡ Some (skin, unknown))

-- why a word gives no skin
abbrev pub RefusesSkin : List ℕ → Refusal → Type 0
RefusesSkin word NotUtf8 = ¬ (IsUtf8 word)
RefusesSkin word Skin = skin_given (word_given word) ≡ None
RefusesSkin word Memory = Unit {0}
RefusesSkin word Condition = ⊥

-- Why a text and a skin are refused by a call whose numbers are wrong where this is so.
abbrev pub RefusesCall : Type 0 → List ℕ → List ℕ → Refusal → Type 0
RefusesCall Wrong text word Condition = Wrong
RefusesCall Wrong text word NotUtf8 = (¬ (IsUtf8 text)) ⊎ (¬ (IsUtf8 word))
RefusesCall Wrong text word Skin = skin_given (word_given word) ≡ None
RefusesCall Wrong text word Memory = Unit {0}

-- the skin of a page for a word, whatever keys are passed over
abbrev pub IsPageSkinOf : List ℕ → PageSkin → Type 0
IsPageSkinOf word skin = IsUtf8 word × (unknown : List (List ℕ)) × (page_skin_given (word_given word) ≡ Some (skin, unknown))

-- why a word gives no skin of a page
abbrev pub RefusesPageSkin : List ℕ → Refusal → Type 0
RefusesPageSkin word NotUtf8 = ¬ (IsUtf8 word)
RefusesPageSkin word Skin = page_skin_given (word_given word) ≡ None
RefusesPageSkin word Memory = Unit {0}
RefusesPageSkin word Condition = ⊥

-- Why a text and the skin of a page are refused by a call whose numbers are wrong where this is so.
abbrev pub RefusesPage : Type 0 → List ℕ → List ℕ → Refusal → Type 0
RefusesPage Wrong text word Condition = Wrong
RefusesPage Wrong text word NotUtf8 = (¬ (IsUtf8 text)) ⊎ (¬ (IsUtf8 word))
RefusesPage Wrong text word Skin = page_skin_given (word_given word) ≡ None
RefusesPage Wrong text word Memory = Unit {0}

-- Why a text of code, the word of its language and the skin of a page are refused by a call whose numbers are wrong where this is so.
abbrev pub RefusesCode : Type 0 → List ℕ → List ℕ → List ℕ → Refusal → Type 0
RefusesCode Wrong text language word Condition = Wrong
RefusesCode Wrong text language word NotUtf8 = (¬ (IsUtf8 language)) ⊎ ((¬ (IsUtf8 text)) ⊎ (¬ (IsUtf8 word)))
RefusesCode Wrong text language word Skin = page_skin_given (word_given word) ≡ None
RefusesCode Wrong text language word Memory = Unit {0}

-- why a text and a name within it are refused
abbrev pub RefusesName : List ℕ → List ℕ → Refusal → Type 0
RefusesName text name NotUtf8 = (¬ (IsUtf8 text)) ⊎ (¬ (IsUtf8 name))
RefusesName text name Memory = Unit {0}
RefusesName text name _ = ⊥

-- why a text that goes on or ends there, at a width, and a skin are refused
abbrev pub RefusesParts : List ℕ → List ℕ → ℕ → Bool → Refusal → Type 0
RefusesParts text word width is_last Condition = 2 ^ 16 ≤ width
RefusesParts text word width is_last NotUtf8 = IsNoText is_last text ⊎ (¬ (IsUtf8 word))
RefusesParts text word width is_last Skin = skin_given (word_given word) ≡ None
RefusesParts text word width is_last Memory = Unit {0}

-- The area of these numbers: four columns wide at least, and within the limits of a screen.
pub record IsAreaOf (left top width height : ℕ) (area : Area) : Type 0 where
  pub left_is : area.left ≡ left
  pub top_is : area.top ≡ top
  pub width_is : area.width ≡ width
  pub height_is : area.height ≡ height
  pub wide : 4 ≤ area.width
  pub within : IsWithinLimits area

-- these numbers are no such area's
abbrev pub IsNoArea : ℕ → ℕ → ℕ → ℕ → Type 0
IsNoArea left top width height = (area : Area) → ¬ (IsAreaOf left top width height area)

-- the number of an alignment
abbrev pub alignment_number : Alignment → ℕ
alignment_number Unspecified = 0
alignment_number Left = 1
alignment_number Center = 2
alignment_number Right = 3

-- no line is fitted by these numbers
abbrev pub IsNoFit : ℕ → ℕ → Type 0
IsNoFit width align = (2 ^ 16 ≤ width) ⊎ (3 < align)

-- the alignments of these numbers
abbrev pub AreAligned : List ℕ → List Alignment → Type 0
AreAligned numbers aligns = map alignment_number aligns ≡ numbers

-- why there are no alignments of these numbers
abbrev pub RefusesAligns : List ℕ → Refusal → Type 0
RefusesAligns numbers Condition = (aligns : List Alignment) → ¬ (AreAligned numbers aligns)
RefusesAligns numbers Memory = Unit {0}
RefusesAligns numbers _ = ⊥

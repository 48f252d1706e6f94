-- The skin that a call is shown in.
use Rattle.std.specs.Prelude.{◌≡◌, ℕ, Bool, true, false, List, Option, None, option_map}
use Rattle.mad_layout.specs.declared.MadSkin.{MadSkin}
use Rattle.mad_page_skin.specs.PageSkins.{page_skin_of}
use Rattle.mad_page_skin.specs.declared.page_skin.PageSkin.{PageSkin}
use Rattle.termimad_words.specs.GivenSkins.{page_skin_given, skin_given, IsJsonOfPage, IsJsonText}
use Rattle.termimad_words.specs.declared.failure.Failure.{Failure}
use Rattle.termimad_words.specs.declared.failure.Failure.TheVariants.{Skin, Memory}

-- the skin of a text and its keys, as that of a page
abbrev pub as_page : MadSkin × List (List ℕ) → PageSkin × List (List ℕ)
as_page read = (page_skin_of read.0, read.1)

-- the skin that a word is: of a page, where one is shown, and else of a text
abbrev pub skin_shown : Bool → Option (List ℕ) → Option (PageSkin × List (List ℕ))
skin_shown true word = page_skin_given word
skin_shown false word = option_map as_page (skin_given word)

-- the word is JSON text
abbrev pub IsJsonShown : Bool → Option (List ℕ) → Type 0
IsJsonShown true word = IsJsonOfPage word
IsJsonShown false word = IsJsonText word

-- why a word gives no skin for it
abbrev pub RefusesShown : Bool → Option (List ℕ) → Failure → Type 0
RefusesShown is_page word Skin = skin_shown is_page word ≡ None
RefusesShown is_page word Memory = IsJsonShown is_page word
RefusesShown is_page word _ = ⊥

-- The skin that the word given for SKIN is: of a text, and of a page.
use Rattle.std.specs.Prelude.{◌≡◌, ℕ, List, [], codes, Option, Some, None, option_and_then, if◌then◌else◌}
use Rattle.std.specs.Result.{result_ok}
use Rattle.std.specs.Str.{bytes_eq}
use Rattle.serde_json.specs.Read.{read}
use Rattle.mad_layout.specs.MadeSkins.{dark_skin, light_skin}
use Rattle.mad_json.specs.Reading.{skin_read}
use Rattle.mad_layout.specs.Skins.{no_style_skin, default_skin}
use Rattle.mad_layout.specs.declared.MadSkin.{MadSkin}
use Rattle.mad_page_json.specs.PageReading.{page_skin_read}
use Rattle.mad_page_skin.specs.DarkSkins.{dark_page_skin}
use Rattle.mad_page_skin.specs.LightSkins.{light_page_skin}
use Rattle.mad_page_skin.specs.PlainSkins.{plain_skin}
use Rattle.mad_page_skin.specs.SixteenSkins.{sixteen_page_skin}
use Rattle.mad_page_skin.specs.declared.page_skin.PageSkin.{PageSkin}
use Rattle.termimad_words.specs.declared.failure.Failure.{Failure}
use Rattle.termimad_words.specs.declared.failure.Failure.TheVariants.{Skin, Memory}

-- ---- of a text

-- the skins that have a name
unfoldable pub skin_named : List ℕ → Option MadSkin
skin_named word =
    if bytes_eq word (codes "default") then Some default_skin
    else if bytes_eq word (codes "dark") then Some dark_skin
    else if bytes_eq word (codes "light") then Some light_skin
    else None

-- the skin that JSON text says, and those of its keys that name no part of a skin, in byte order
abbrev pub json_skin : List ℕ → Option (MadSkin × List (List ℕ))
json_skin text = option_and_then (λ d. result_ok (skin_read d)) (read text)

-- a made skin has no keys
abbrev pub made_or_json : Option MadSkin → List ℕ → Option (MadSkin × List (List ℕ))
made_or_json (Some skin) text = Some (skin, [])
made_or_json None text = json_skin text

-- The skin of a word, and those of its keys that name no part of a skin. It is no style without a word, the made skin of that
-- name, or what the word says as JSON text. None, where it says none.
abbrev pub skin_given : Option (List ℕ) → Option (MadSkin × List (List ℕ))
skin_given None = Some (no_style_skin, [])
skin_given (Some word) = made_or_json (skin_named word) word

-- the word names no made skin
abbrev pub IsJsonText : Option (List ℕ) → Type 0
IsJsonText None = ⊥
IsJsonText (Some word) = skin_named word ≡ None

-- why JSON text gives no skin: it says none, or there is no memory for what it says
abbrev pub RefusesText : List ℕ → Failure → Type 0
RefusesText text Skin = json_skin text ≡ None
RefusesText text Memory = Unit {0}
RefusesText text _ = ⊥

-- why a word gives no skin
abbrev pub RefusesSkin : Option (List ℕ) → Failure → Type 0
RefusesSkin word Skin = skin_given word ≡ None
RefusesSkin word Memory = IsJsonText word
RefusesSkin word _ = ⊥

-- ---- of a page

-- the skins of pages that have a name; the default one is that for a dark background
unfoldable pub page_skin_named : List ℕ → Option PageSkin
page_skin_named word =
    if bytes_eq word (codes "default") then Some dark_page_skin
    else if bytes_eq word (codes "dark") then Some dark_page_skin
    else if bytes_eq word (codes "light") then Some light_page_skin
    else if bytes_eq word (codes "sixteen") then Some sixteen_page_skin
    else if bytes_eq word (codes "none") then Some plain_skin
    else None

-- the skin of a page that JSON text says, and those of its keys that name no part of a skin
abbrev pub json_page_skin : List ℕ → Option (PageSkin × List (List ℕ))
json_page_skin text = option_and_then (λ d. result_ok (page_skin_read d)) (read text)

-- a made skin of a page has no keys
abbrev pub made_or_json_page : Option PageSkin → List ℕ → Option (PageSkin × List (List ℕ))
made_or_json_page (Some skin) text = Some (skin, [])
made_or_json_page None text = json_page_skin text

-- The skin of a page for a word, and those of its keys that name no part of a skin. It is the one without styles without a word, the made skin of that
-- name, or what the word says as JSON text. None, where it says none.
abbrev pub page_skin_given : Option (List ℕ) → Option (PageSkin × List (List ℕ))
page_skin_given None = Some (plain_skin, [])
page_skin_given (Some word) = made_or_json_page (page_skin_named word) word

-- the word names no made skin of a page
abbrev pub IsJsonOfPage : Option (List ℕ) → Type 0
IsJsonOfPage None = ⊥
IsJsonOfPage (Some word) = page_skin_named word ≡ None

-- why JSON text gives no skin of a page: it says none, or there is no memory for what it says
abbrev pub RefusesPageText : List ℕ → Failure → Type 0
RefusesPageText text Skin = json_page_skin text ≡ None
RefusesPageText text Memory = Unit {0}
RefusesPageText text _ = ⊥

-- why a word gives no skin of a page
abbrev pub RefusesPageSkin : Option (List ℕ) → Failure → Type 0
RefusesPageSkin word Skin = page_skin_given word ≡ None
RefusesPageSkin word Memory = IsJsonOfPage word
RefusesPageSkin word _ = ⊥

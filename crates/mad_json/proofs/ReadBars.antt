-- What a scroll bar is written as says that bar.
use Rattle.std.proofs.Common.{◌≡◌, ℕ, true, false, refl, sym, ap, ◌∙◌, subst, inl, inr, Option, Some, None, Result, Ok, Err, IfOk}
use Rattle.std.specs.Prelude.{unwrap_or, IsSome}
use Rattle.std.specs.Option.{is_none}
use Rattle.std.proofs.lemmas.Bool.{cond-false, cond-true, and_parts, cases_Bool, eqb-true}
use Rattle.mad_term.specs.Attributes.{has_attribute}
use Rattle.mad_term.specs.AttributeSets.{no_attributes}
use Rattle.mad_term.specs.declared.attributes.Attributes.{Attributes}
use Rattle.mad_term.specs.declared.color.Color.{Color}
use Rattle.mad_term.specs.declared.color.Color.TheVariants.{AnsiValue}
use Rattle.mad_style.specs.StyledChars.{colored_char, char_alone, char_style}
use Rattle.mad_style.specs.declared.scroll_bars.ScrollBarStyle.{ScrollBarStyle}
use Rattle.mad_style.specs.declared.styled_chars.StyledChar.{StyledChar}
use Rattle.mad_parse.specs.ReadsBack.{IsReadBackChar}
use Rattle.mad_parse.specs.Reading.{said, tokens_of}
use Rattle.mad_parse.specs.TokenStyles.{styled_char_of}
use Rattle.mad_parse.specs.Written.{tokens_text, styled_char_tokens}
use Rattle.mad_json.specs.ReadsBack.{IsOnlyColored, IsReadBackBar, ReadsBackChar, ReadsBackBar}
use Rattle.mad_style.specs.Bars.{bar_of_char}
use Rattle.mad_json.specs.ScrollBars.{is_simple, simple_char, def_of, scrollbar_said}
use Rattle.mad_json.specs.Texts.{of_text, made, and_next}
use Rattle.mad_json.specs.Written.{bar_data}
use Rattle.mad_json.specs.declared.scroll_bars.ScrollBarStyleDef.TheVariants.{Simple, Rich}

-- ---- one character for two

none_is : {A : Type 0} (o : Option A) → is_none o ≡ true → o ≡ None
none_is None h = refl
none_is (Some x) h = let e : false ≡ true = h in cc

some_is : {A : Type 0} (o : Option A) (d : A) → IsSome o → Some (unwrap_or o d) ≡ o
some_is None d h = let e : false ≡ true = h in cc
some_is (Some x) d h = refl

-- a drawn character of these parts
abbrev char_of_parts : ℕ → Option Color → Option Color → Option Color → Attributes → StyledChar
char_of_parts c foreground background underline attributes =
    record {
      compound_style = record {
        object_style = record {
          foreground_color = foreground;
          background_color = background;
          underline_color = underline;
          attributes = attributes;
        };
      };
      nude_char = c;
    }

only_colored : (drawn : StyledChar) (d : Color) → IsOnlyColored drawn → (char_style drawn).object_style.background_color ≡ None → (char_style drawn).object_style.underline_color ≡ None
    → colored_char (unwrap_or (char_style drawn).object_style.foreground_color d) (char_alone drawn) ≡ drawn
only_colored drawn d colored background underline =
    let c = char_alone drawn in
    let style = (char_style drawn).object_style in
    ap (λ f. char_of_parts c f None None no_attributes) (some_is style.foreground_color d colored.foreground)
    ∙ ap (λ b. char_of_parts c style.foreground_color b None no_attributes) (sym background)
    ∙ ap (λ u. char_of_parts c style.foreground_color style.background_color u no_attributes) (sym underline)
    ∙ ap (λ a. char_of_parts c style.foreground_color style.background_color style.underline_color a) (sym colored.attributes)

simple_back : (bar : ScrollBarStyle) → IsReadBackBar bar → is_simple bar ≡ true → bar_of_char (simple_char bar) ≡ bar
simple_back bar h simple =
    let parts = and_parts _ _ simple in
    let bare = and_parts _ _ parts.1 in
    let same : char_alone bar.track ≡ char_alone bar.thumb = eqb-true _ _ parts.0 in
    let track : colored_char (unwrap_or (char_style bar.track).object_style.foreground_color (AnsiValue 237)) (char_alone bar.track) ≡ bar.track =
    only_colored bar.track (AnsiValue 237) (h.simple_track simple) (none_is _ bare.0) h.track.style.underline in
    let thumb : colored_char (unwrap_or (char_style bar.thumb).object_style.foreground_color (AnsiValue 253)) (char_alone bar.thumb) ≡ bar.thumb =
    only_colored bar.thumb (AnsiValue 253) (h.simple_thumb simple) (none_is _ bare.1) h.thumb.style.underline in
    ap (λ t. let b : ScrollBarStyle = record { track = t; thumb = colored_char (unwrap_or (char_style bar.thumb).object_style.foreground_color (AnsiValue 253)) (char_alone bar.track) } in b) track
    ∙ ap (λ c. let b : ScrollBarStyle = record { track = bar.track; thumb = colored_char (unwrap_or (char_style bar.thumb).object_style.foreground_color (AnsiValue 253)) c } in b) same
    ∙ ap (λ t. let b : ScrollBarStyle = record { track = bar.track; thumb = t } in b) thumb

simple_written : (bar : ScrollBarStyle) → IsReadBackBar bar → is_simple bar ≡ true → IsReadBackChar (simple_char bar)
simple_written bar h simple = record {
  style = record {
    foreground = h.thumb.style.foreground;
    background = h.track.style.foreground;
    underline = refl;
    attributes = λ a unwritten. subst (λ s. has_attribute s a ≡ false) (h.simple_thumb simple).attributes (h.thumb.style.attributes a unwritten);
  };
  no_whitespace = h.track.no_whitespace;
  no_digit = h.track.no_digit;
}

simple_parts : (bar : ScrollBarStyle) (drawn : StyledChar) → def_of bar ≡ Simple drawn → (is_simple bar ≡ true) × (drawn ≡ simple_char bar)
simple_parts bar drawn is =
    elim (cases_Bool (is_simple bar)) as (λ _. (is_simple bar ≡ true) × (drawn ≡ simple_char bar)) [
      | inl holds ↦ (holds, let e : Simple drawn ≡ Simple (simple_char bar) = sym is ∙ cond-true (is_simple bar) (Simple (simple_char bar)) (Rich bar.track bar.thumb) holds in cc)
      | inr fails ↦ absurd (let e : Simple drawn ≡ Rich bar.track bar.thumb = sym is ∙ cond-false (is_simple bar) (Simple (simple_char bar)) (Rich bar.track bar.thumb) fails in cc)
    ]

-- a bar that is written as one character is read back equal
pub simple_read : (bar : ScrollBarStyle) (drawn : StyledChar) → def_of bar ≡ Simple drawn → ReadsBackChar drawn → ReadsBackBar bar
simple_read bar drawn is reads =
    λ h.
    let parts = simple_parts bar drawn is in
    let written : IsReadBackChar drawn = subst IsReadBackChar (sym parts.1) (simple_written bar h parts.0) in
    ap (λ d. scrollbar_said (bar_data d)) is
    ∙ ap (λ r. made bar_of_char (of_text r)) (reads written 42)
    ∙ ap (λ m. Ok (bar_of_char m)) parts.1
    ∙ ap Ok (simple_back bar h parts.0)

-- a value that was made
pub if_made : {T E : Type 0} (r : Result T E) (P Q : Type 0) → (P → Q) → IfOk r (λ _. P) → IfOk r (λ _. Q)
if_made (Ok x) P Q step h = step h
if_made (Err e) P Q step h = h

-- ---- two characters

rich_parts : (bar : ScrollBarStyle) (track thumb : StyledChar) → def_of bar ≡ Rich track thumb → (track ≡ bar.track) × (thumb ≡ bar.thumb)
rich_parts bar track thumb is =
    elim (cases_Bool (is_simple bar)) as (λ _. (track ≡ bar.track) × (thumb ≡ bar.thumb)) [
      | inl holds ↦ absurd (let e : Rich track thumb ≡ Simple (simple_char bar) = sym is ∙ cond-true (is_simple bar) (Simple (simple_char bar)) (Rich bar.track bar.thumb) holds in cc)
      | inr fails ↦ let e : Rich track thumb ≡ Rich bar.track bar.thumb = sym is ∙ cond-false (is_simple bar) (Simple (simple_char bar)) (Rich bar.track bar.thumb) fails in (cc, cc)
    ]

-- a bar that is written as two characters is read back equal
pub rich_read : (bar : ScrollBarStyle) (track thumb : StyledChar) → def_of bar ≡ Rich track thumb → ReadsBackChar track → ReadsBackChar thumb → ReadsBackBar bar
rich_read bar track thumb is read_track read_thumb =
    λ h.
    let parts = rich_parts bar track thumb is in
    let written_track : IsReadBackChar track = subst IsReadBackChar (sym parts.0) h.track in
    let written_thumb : IsReadBackChar thumb = subst IsReadBackChar (sym parts.1) h.thumb in
    ap (λ d. scrollbar_said (bar_data d)) is
    ∙ ap (λ r. and_next (of_text r) (λ t. made (λ u. let b : ScrollBarStyle = record { track = u; thumb = t } in b) (of_text (said (styled_char_of 42) (tokens_of (tokens_text (styled_char_tokens track))))))) (read_thumb written_thumb 42)
    ∙ ap (λ r. made (λ u. let b : ScrollBarStyle = record { track = u; thumb = thumb } in b) (of_text r)) (read_track written_track 42)
    ∙ ap (λ u. let b : ScrollBarStyle = record { track = u; thumb = thumb } in Ok b) parts.0
    ∙ ap (λ t. let b : ScrollBarStyle = record { track = bar.track; thumb = t } in Ok b) parts.1

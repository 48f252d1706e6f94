-- Runs say the bytes of their characters.
use Rattle.std.proofs.Common.{◌≡◌, ℕ, Bool, true, false, ◌&&◌, if◌then◌else◌, List, [], ◌∷◌, ◌++◌, encode_utf8, refl, sym, ap, ◌∙◌, append_assoc}
use Rattle.std.proofs.lemmas.Bool.{and_parts}
use Rattle.std.proofs.lemmas.List.{map-append}
use Rattle.mad_md.specs.Flagged.{Flags, FlaggedChar, flagged}
use Rattle.markdown_inlines.specs.Looks.{is_same, is_same_number}
use Rattle.markdown_lines.specs.Glyphs.{is_same_flags, is_same_run, run_with, runs_from, runs_of}
use Rattle.markdown_lines.specs.Runs.{flags_said}
use Rattle.markdown_lines.specs.declared.glyphs.Glyph.{Glyph}
use Rattle.markdown_lines.specs.declared.places.RunFlags.{RunFlags}
use Rattle.markdown_row_laws.specs.Rows.{bytes_in, bytes_of}
use Rattle.markdown_row_laws.proofs.EdgeLemmas.{chars_said}

same_bool : (a b : Bool) → is_same a b ≡ true → a ≡ b
same_bool true true h = refl
same_bool true false h = sym h
same_bool false true h = h
same_bool false false h = refl

-- flags by their values
abbrev made : (b i c s l p q : Bool) → Flags
made b i c s l p q = record { bold = b; italic = i; code = c; strikeout = s; link = l; picture = p; picture_sign = q }

same_made : (x y : RunFlags) → x.bold ≡ y.bold → x.italic ≡ y.italic → x.code ≡ y.code → x.strikeout ≡ y.strikeout → x.link ≡ y.link → x.picture ≡ y.picture → x.picture_sign ≡ y.picture_sign → flags_said x ≡ flags_said y
same_made x y b i c s l p q =
    ap (λ (t : Bool). made t x.italic x.code x.strikeout x.link x.picture x.picture_sign) b
    ∙ ap (λ (t : Bool). made y.bold t x.code x.strikeout x.link x.picture x.picture_sign) i
    ∙ ap (λ (t : Bool). made y.bold y.italic t x.strikeout x.link x.picture x.picture_sign) c
    ∙ ap (λ (t : Bool). made y.bold y.italic y.code t x.link x.picture x.picture_sign) s
    ∙ ap (λ (t : Bool). made y.bold y.italic y.code y.strikeout t x.picture x.picture_sign) l
    ∙ ap (λ (t : Bool). made y.bold y.italic y.code y.strikeout y.link t x.picture_sign) p
    ∙ ap (λ (t : Bool). made y.bold y.italic y.code y.strikeout y.link y.picture t) q

same_flags : (x y : RunFlags) → is_same_flags x y ≡ true → flags_said x ≡ flags_said y
same_flags x y h =
    let six = and_parts _ (is_same x.picture_sign y.picture_sign) h in
    let five = and_parts _ (is_same x.picture y.picture) six.0 in
    let four = and_parts _ (is_same x.link y.link) five.0 in
    let three = and_parts _ (is_same x.strikeout y.strikeout) four.0 in
    let two = and_parts _ (is_same x.code y.code) three.0 in
    let one = and_parts (is_same x.bold y.bold) (is_same x.italic y.italic) two.0 in
    same_made x y (same_bool _ _ one.0) (same_bool _ _ one.1) (same_bool _ _ two.1) (same_bool _ _ three.1) (same_bool _ _ four.1) (same_bool _ _ five.1) (same_bool _ _ six.1)

same_run : (a b : Glyph) → is_same_run a b ≡ true → flags_said a.flags ≡ flags_said b.flags
same_run a b h =
    let outer = and_parts (is_same_flags a.flags b.flags && is_same_number a.link b.link) (is_same_number a.picture b.picture) h in
    same_flags a.flags b.flags (and_parts (is_same_flags a.flags b.flags) (is_same_number a.link b.link) outer.0).0

-- what a run that has begun says, and then these characters
abbrev SaysFrom : Glyph → List ℕ → List Glyph → Type 0
SaysFrom first text gs = bytes_in (runs_from first text gs) ≡ flagged (flags_said first.flags) text ++ bytes_of (chars_said gs)

-- one character more of a run
goes_on : (first g : Glyph) (text : List ℕ) (gs : List Glyph) → flags_said first.flags ≡ flags_said g.flags → SaysFrom first (text ++ encode_utf8 g.c) gs
    → bytes_in (runs_from first (text ++ encode_utf8 g.c) gs) ≡ flagged (flags_said first.flags) text ++ bytes_of (chars_said (g ∷ gs))
goes_on first g text gs e h =
    let flags = flags_said first.flags in
    let own = encode_utf8 g.c in
    let rest = bytes_of (chars_said gs) in
    h ∙ ap (λ (l : List FlaggedChar). l ++ rest) (map-append (λ (c : ℕ). record { char = c; flags = flags }) text own) ∙ append_assoc (flagged flags text) (flagged flags own) rest
    ∙ ap (λ (f : Flags). flagged flags text ++ (flagged f own ++ rest)) e

step : (t : Bool) (first g : Glyph) (text : List ℕ) (gs : List Glyph) → is_same_run first g ≡ t → SaysFrom first (text ++ encode_utf8 g.c) gs → SaysFrom g (encode_utf8 g.c) gs
    → bytes_in (if t then runs_from first (text ++ encode_utf8 g.c) gs else run_with first.flags text ∷ runs_from g (encode_utf8 g.c) gs) ≡ flagged (flags_said first.flags) text ++ bytes_of (chars_said (g ∷ gs))
step true first g text gs e same other = goes_on first g text gs (same_run first g e) same
step false first g text gs e same other = ap (λ (l : List FlaggedChar). flagged (flags_said first.flags) text ++ l) other

runs_say : (first : Glyph) (text : List ℕ) (gs : List Glyph) → SaysFrom first text gs
unfolding runs_from
runs_say first text [] = refl
runs_say first text (g ∷ gs) = step (is_same_run first g) first g text gs refl (runs_say first (text ++ encode_utf8 g.c) gs) (runs_say g (encode_utf8 g.c) gs)

-- the runs of characters say their bytes, with the same flags
pub all_said : (gs : List Glyph) → bytes_in (runs_of gs) ≡ bytes_of (chars_said gs)
all_said [] = refl
all_said (g ∷ gs) = runs_say g (encode_utf8 g.c) gs

-- What is shown is printable.
use Rattle.std.proofs.Common.{◌≡◌, ℕ, zero, suc, ◌+◌, ◌<◌, Bool, true, false, cond, ◌||◌, nat_lt, eqb, List, [], ◌∷◌, ◌++◌, drop, map, chars, replicate, refl, sym, ap, ◌∙◌, arith, Option, Some, None}
use Rattle.std.specs.List.{list_all}
use Rattle.std.proofs.lemmas.Bool.{and_from}
use Rattle.std.proofs.lemmas.Bool.Decides.{nat_tests}
use Rattle.std.proofs.lemmas.List.{map-append}
use Rattle.std.proofs.lemmas.List.Folds.{list_all-append}
use Rattle.markdown_emphasis.specs.declared.runs.Sign.{Sign}
use Rattle.markdown_emphasis.specs.declared.runs.Sign.TheVariants.{Star, Underscore, Tilde}
use Rattle.markdown_emphasis.specs.declared.flags.Flags.{Flags}
use Rattle.markdown_brackets.specs.declared.brackets.Link.{Link}
use Rattle.markdown_spans.specs.Code.{unpadded}
use Rattle.markdown_spans.specs.declared.attributes.Html.{Html}
use Rattle.markdown_spans.specs.declared.attributes.Html.TheVariants.{Nothing, Break, Alternative, Source, On, Off, Link as LinkTag, LinkEnd}
use Rattle.markdown_pieces.specs.declared.pieces.Kind.{Kind}
use Rattle.markdown_pieces.specs.declared.pieces.Kind.TheVariants.{Plain, Shown as ShownKind, Code as CodeKind, Address, Bare, Html as HtmlKind, Soft, Hard, Run as RunKind, Opening, Closing}
use Rattle.markdown_pieces.specs.declared.pieces.Piece.{Piece}
use Rattle.markdown_inlines.specs.declared.looks.Look.{Look}
use Rattle.markdown_inlines.specs.declared.links.Over.{Over}
use Rattle.mad_characters.specs.Pictures.{is_printable_char, picture}
use Rattle.markdown_inlines.specs.Printable.{is_printable, shown_char, is_shown}
use Rattle.markdown_inlines.specs.Parts.{sign_char, part, alternative_text, source_name, html_shown, opening_shown, closing_shown, kind_characters, target_name, name_shown, piece_shown}
use Rattle.markdown_inlines.specs.Styled.{Shown, shown_with}
use Rattle.markdown_inlines.specs.Inlines.{look_at, shown_piece, shown_from, char_of, are_shown}

-- ---- one character

control_picture : (c : ℕ) → c < 32 → is_printable (0x2400 + c) ≡ true
control_picture c h = grind (arith, nat_tests)

picture_by : (c : ℕ) (stays low del : Bool) → is_printable_char c ≡ stays → eqb c 10 ≡ false → nat_lt c 32 ≡ low → is_printable (cond stays c (cond low (0x2400 + c) (cond del 0x2421 0xFFFD))) ≡ true
picture_by c true low del h other l = ap (λ t. t || is_printable c) (sym other) ∙ h
picture_by c false true del h other l = control_picture c (grind (arith, nat_tests))
picture_by c false false true h other l = refl
picture_by c false false false h other l = refl

second : (a b : Bool) → (a || b) ≡ false → b ≡ false
second true b h = absurd (cc)
second false b h = h

char_by : (blank : Bool) (c : ℕ) → (eqb c 9 || eqb c 10) ≡ blank → is_printable (cond blank 32 (picture c)) ≡ true
char_by true c e = refl
char_by false c e = picture_by c (is_printable_char c) (nat_lt c 32) (eqb c 127) refl (second (eqb c 9) (eqb c 10) e) refl

-- a character that is shown is printable
pub shown_is : (c : ℕ) → is_printable (shown_char c) ≡ true
shown_is c = char_by (eqb c 9 || eqb c 10) c refl

either_shown : (newline : Bool) (c : ℕ) → is_printable c ≡ true → (newline || is_printable c) ≡ true
either_shown true c h = refl
either_shown false c h = h

-- ---- one piece

text_shown : (cs : List ℕ) → list_all is_shown (map shown_char cs) ≡ true
text_shown [] = refl
text_shown (c ∷ cs) = and_from (is_shown (shown_char c)) (list_all is_shown (map shown_char cs)) (either_shown (eqb (shown_char c) 10) (shown_char c) (shown_is c)) (text_shown cs)

times_shown : (n c : ℕ) → is_shown c ≡ true → list_all is_shown (replicate n c) ≡ true
times_shown zero c h = refl
times_shown (suc n) c h = and_from (is_shown c) (list_all is_shown (replicate n c)) h (times_shown n c h)

sign_shown : (s : Sign) → is_shown (sign_char s) ≡ true
sign_shown Star = refl
sign_shown Underscore = refl
sign_shown Tilde = refl

html_is : (html : Html) (text : List ℕ) (at : ℕ) → list_all is_shown (html_shown html text at) ≡ true
html_is Nothing text at = refl
html_is Break text at = refl
html_is (Alternative value) text at = text_shown (chars (alternative_text (drop (at + 1) text) value))
html_is (Source value) text at = text_shown (chars (source_name (drop (at + 1) text) value))
html_is (On flag) text at = refl
html_is (Off flag) text at = refl
html_is (LinkTag value) text at = refl
html_is LinkEnd text at = refl

opening_is : (image opens : Bool) → list_all is_shown (opening_shown image opens) ≡ true
opening_is true true = refl
opening_is false true = refl
opening_is true false = refl
opening_is false false = refl

closing_is : (link : Option Link) → list_all is_shown (closing_shown link) ≡ true
closing_is None = refl
closing_is (Some link) = refl

kind_shown : (kind : Kind) (text : List ℕ) (at more left : ℕ) (opens : Bool) → list_all is_shown (kind_characters kind text at more left opens) ≡ true
kind_shown Plain text at more left opens = text_shown (chars (part text at (more + 1)))
kind_shown (ShownKind c None) text at more left opens = text_shown (c ∷ [])
kind_shown (ShownKind c (Some d)) text at more left opens = text_shown (c ∷ d ∷ [])
kind_shown (CodeKind code) text at more left opens = text_shown (chars (unpadded (part text (at + code.marks) code.len)))
kind_shown (Address len scheme) text at more left opens = text_shown (chars (part text (at + 1) len))
kind_shown (Bare scheme) text at more left opens = text_shown (chars (part text at (more + 1)))
kind_shown (HtmlKind html) text at more left opens = html_is html text at
kind_shown Soft text at more left opens = refl
kind_shown Hard text at more left opens = refl
kind_shown (RunKind run) text at more left opens = times_shown left (sign_char run.sign) (sign_shown run.sign)
kind_shown (Opening image) text at more left opens = opening_is image opens
kind_shown (Closing link) text at more left opens = closing_is link

name_is : (silent : Bool) (kind : Kind) (text : List ℕ) (at : ℕ) → list_all is_shown (name_shown silent kind text at) ≡ true
name_is false kind text at = refl
name_is true Plain text at = refl
name_is true (ShownKind c second) text at = refl
name_is true (CodeKind code) text at = refl
name_is true (Address len scheme) text at = refl
name_is true (Bare scheme) text at = refl
name_is true (HtmlKind html) text at = refl
name_is true Soft text at = refl
name_is true Hard text at = refl
name_is true (RunKind run) text at = refl
name_is true (Opening image) text at = refl
name_is true (Closing None) text at = refl
name_is true (Closing (Some link)) text at = text_shown (chars (target_name link.target text (at + 1)))

piece_is : (text : List ℕ) (at : ℕ) (p : Piece) (left : ℕ) (over : Over) → list_all is_shown (piece_shown text at p left over) ≡ true
piece_is text at p left over =
    let own : List ℕ = kind_characters p.kind text at p.more left over.opens in
    let name : List ℕ = name_shown over.silent p.kind text at in
    list_all-append is_shown own name ∙ and_from (list_all is_shown own) (list_all is_shown name) (kind_shown p.kind text at p.more left over.opens) (name_is over.silent p.kind text at)

-- ---- all of them

chars_with : (look : Look) (cs : List ℕ) → map char_of (map (shown_with look) cs) ≡ cs
chars_with look [] = refl
chars_with look (c ∷ cs) = ap (λ (l : List ℕ). c ∷ l) (chars_with look cs)

shown_append : (xs ys : List Shown) → are_shown xs ≡ true → are_shown ys ≡ true → are_shown (xs ++ ys) ≡ true
shown_append xs ys h k = ap (list_all is_shown) (map-append char_of xs ys) ∙ list_all-append is_shown (map char_of xs) (map char_of ys) ∙ and_from (are_shown xs) (are_shown ys) h k

-- what is shown of pieces is printable, but for breaks of lines
pub from_shown : (text : List ℕ) (at : ℕ) (ps : List Piece) (fs : List Flags) (ns : List ℕ) (os : List Over) → are_shown (shown_from text at ps fs ns os) ≡ true
unfolding shown_from
from_shown text at [] fs ns os = refl
from_shown text at (p ∷ ps) [] ns os = refl
from_shown text at (p ∷ ps) (f ∷ fs) [] os = refl
from_shown text at (p ∷ ps) (f ∷ fs) (n ∷ ns) [] = refl
from_shown text at (p ∷ ps) (f ∷ fs) (n ∷ ns) (o ∷ os) =
    shown_append (shown_piece text at p f n o) (shown_from text (at + (p.more + 1)) ps fs ns os)
    (ap (list_all is_shown) (chars_with (look_at f p o) (piece_shown text at p n o)) ∙ piece_is text at p n o)
    (from_shown text (at + (p.more + 1)) ps fs ns os)

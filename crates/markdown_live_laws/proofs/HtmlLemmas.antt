-- The characters that html shows are ones.
use Rattle.std.proofs.Common.{ℕ, zero, suc, Bool, true, false, not, ◌&&◌, ◌==◌, Option, Some, None, List, [], ◌∷◌, if◌then◌else◌}
use Rattle.std.specs.Prelude.{IfSome}
use Rattle.std.specs.List.{AllByRecursion, prefix_len}
use Rattle.std.specs.Str.{IsUtf8}
use Rattle.markdown_html_text.proofs.PieceLemmas.{html_placed}
use Rattle.markdown_html_text.specs.HtmlPieces.{Step, effect_step, entity_step, fresh, gap_step, html_cut, is_text_byte, markup_step, pieces_from, step, step_by, step_of, texted}
use Rattle.markdown_html_text.specs.Markup.{markup_of}
use Rattle.markdown_html_text.specs.declared.markup.Effect.{Effect}
use Rattle.markdown_html_text.specs.declared.markup.Effect.TheVariants.{Cut, Gap, Say}
use Rattle.markdown_html_text.specs.declared.markup.Markup.{Markup}
use Rattle.markdown_html_text.specs.declared.pieces.HtmlRow.{HtmlRow}
use Rattle.markdown_marks.specs.Definitions.{is_space_byte}
use Rattle.markdown_spans.specs.Entities.{entity_of}
use Rattle.markdown_spans.specs.declared.attributes.Html.TheVariants.{Nothing}
use Rattle.markdown_spans.specs.declared.entities.Entity.{Entity}
use Rattle.markdown_pieces.specs.declared.pieces.Kind.{Kind}
use Rattle.markdown_pieces.specs.declared.pieces.Kind.TheVariants.{Plain, Html as HtmlKind, Soft, Hard}
use Rattle.markdown_inlines.specs.Inlines.{shown_cut}
use Rattle.markdown_live_laws.proofs.EntityLemmas.{IsCharEntity, entity_chars}
use Rattle.markdown_live_laws.proofs.TextLemmas.{IsShownChar, IsShownKind, IsShownPiece, cut_chars}

if_kind : (t : Bool) (a b : Kind) → IsShownKind a → IsShownKind b → IsShownKind (if t then a else b)
if_kind true a b h k = h
if_kind false a b h k = k

effect_is : (effect : Effect) (more : ℕ) (row : HtmlRow) → IsShownPiece (effect_step effect more row).piece
effect_is Gap more row = if_kind (row.begun && not row.gapped) Soft (HtmlKind Nothing) tt tt
effect_is Cut more row = if_kind row.begun Hard (HtmlKind Nothing) tt tt
effect_is (Say html) more row = tt

markup_is : (found : Option Markup) (row : HtmlRow) → IsShownPiece (markup_step found row).piece
markup_is None row = tt
markup_is (Some markup) row = effect_is markup.effect markup.len row

entity_step_is : (found : Option Entity) → IfSome found IsCharEntity → IsShownPiece (entity_step found).piece
entity_step_is None h = tt
entity_step_is (Some e) h = (h.shown, h.second)

if_step : (t : Bool) (a b : Step) → IsShownPiece a.piece → IsShownPiece b.piece → IsShownPiece (if t then a else b).piece
if_step true a b h k = h
if_step false a b h k = k

begun_is : (b : ℕ) (bs : List ℕ) (row : HtmlRow) → IsShownPiece (step_by b bs row).piece
begun_is b bs row =
    if_step (b == 60) (markup_step (markup_of bs) row) _ (markup_is (markup_of bs) row)
    (if_step (b == 38) (entity_step (entity_of bs)) _ (entity_step_is (entity_of bs) (entity_chars bs))
    (if_step (is_space_byte b) (gap_step (prefix_len is_space_byte bs) row) (step_of Plain (prefix_len is_text_byte bs) texted) (effect_is Gap (prefix_len is_space_byte bs) row) tt))

step_is : (b : ℕ) (bs : List ℕ) (row : HtmlRow) → IsShownPiece (step b bs row).piece
unfolding step
step_is b bs row = begun_is b bs row

pieces_are : (skip : ℕ) (row : HtmlRow) (bs : List ℕ) → AllByRecursion IsShownPiece (pieces_from skip row bs)
unfolding pieces_from
pieces_are skip row [] = tt
pieces_are (suc skip) row (b ∷ bs) = pieces_are skip row bs
pieces_are zero row (b ∷ bs) = let s : Step = step b bs row in (step_is b bs row, pieces_are s.piece.more s.row bs)

-- each character that html shows is one
pub html_chars : (text : List ℕ) → IsUtf8 text → AllByRecursion IsShownChar (shown_cut (html_cut text) text)
html_chars text utf8 = cut_chars (html_cut text) text utf8 (html_placed text utf8) (pieces_are 0 fresh text)

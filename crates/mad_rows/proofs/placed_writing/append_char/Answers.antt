use Rattle.std.proofs.Common.{ℕ, List, ◌++◌, ◌∙◌, sym, ap, subst, encode_utf8, string_bytes}
use Rattle.mad_term.specs.Styles.{IsUnstyled}
use Rattle.mad_term.proofs.Pieces.{unstyled_piece}
use Rattle.mad_style.specs.declared.compound_styles.CompoundStyle.{CompoundStyle}
use Rattle.mad_style.specs.StyledChars.{char_alone, char_style}
use Rattle.mad_rows.proofs.placed_writing.append_char.Goals as goal

pub returns-then-is_unstyled : goal.returns-then-is_unstyled
returns-then-is_unstyled c =
    let old : List ℕ = string_bytes c.args.rows.now in
    let text : List ℕ = encode_utf8 (char_alone c.args.c) in
    let bare : IsUnstyled (char_style c.args.c).object_style = subst (λ (s : CompoundStyle). IsUnstyled s.object_style) c.compound_style.ensures (c.is_unstyled.ensures.unstyled.0 c.if-is_unstyled.true) in
    c.in_ok-push.ensures.bytes ∙ ap (λ x. old ++ encode_utf8 x) c.nude_char.ensures ∙ ap (λ (l : List ℕ). old ++ l) (sym (unstyled_piece (char_style c.args.c).object_style text bare))

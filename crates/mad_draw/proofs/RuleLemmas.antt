-- Rules across the columns of a table: their bytes, their colors, and that they are shown.
use Rattle.std.proofs.Common.{◌≡◌, ℕ, List, [], ◌∷◌, ◌++◌, ap, sym, ◌∙◌}
use Rattle.std.specs.List.{flat_map}
use Rattle.mad_term.specs.Styles.{IsStyle}
use Rattle.mad_style.specs.Repeats.{styled_char_bytes}
use Rattle.mad_style.specs.StyledChars.{styled_char}
use Rattle.mad_style.specs.declared.compound_styles.CompoundStyle.{CompoundStyle}
use Rattle.mad_draw.specs.Pieces.{RowPiece, pieces_bytes, AreKnown}
use Rattle.mad_draw.specs.TableRules.{border_piece, horizontals, junction, rule_pieces}
use Rattle.mad_draw.specs.declared.table_rules.RuleChars.{RuleChars}
use Rattle.mad_draw.proofs.PieceLemmas.{bytes_both, bytes_one, char_repeat_known, known_both}

-- ---- bytes

-- a rule across some columns, part by part
pub rule_bytes : (style : CompoundStyle) (chars : RuleChars) (w : ℕ) (ws all : List ℕ) → all ≡ w ∷ ws
    → styled_char_bytes (styled_char style chars.left) ++ (pieces_bytes (horizontals style chars w) ++ (pieces_bytes (flat_map (junction style chars) ws) ++ styled_char_bytes (styled_char style chars.right)))
    ≡ pieces_bytes (rule_pieces style chars all)
rule_bytes style chars w ws all is =
    let right : RowPiece = border_piece style chars.right in
    let run : List RowPiece = horizontals style chars w in
    let more : List RowPiece = flat_map (junction style chars) ws in
    let left_bytes : List ℕ = styled_char_bytes (styled_char style chars.left) in
    ap (λ bs. left_bytes ++ (pieces_bytes run ++ (pieces_bytes more ++ bs))) (sym (bytes_one right))
    ∙ ap (λ bs. left_bytes ++ (pieces_bytes run ++ bs)) (sym (bytes_both more (right ∷ [])))
    ∙ ap (λ bs. left_bytes ++ bs) (sym (bytes_both run (more ++ right ∷ [])))
    ∙ ap (λ vs. pieces_bytes (rule_pieces style chars vs)) (sym is)

-- a rule across no columns
pub ends_bytes : (style : CompoundStyle) (chars : RuleChars) (all : List ℕ) → all ≡ []
    → styled_char_bytes (styled_char style chars.left) ++ styled_char_bytes (styled_char style chars.right) ≡ pieces_bytes (rule_pieces style chars all)
ends_bytes style chars all is =
    ap (λ bs. styled_char_bytes (styled_char style chars.left) ++ bs) (sym (bytes_one (border_piece style chars.right))) ∙ ap (λ vs. pieces_bytes (rule_pieces style chars vs)) (sym is)

-- ---- colors

junctions_known : (style : CompoundStyle) (chars : RuleChars) (ws : List ℕ) → IsStyle style.object_style → AreKnown (flat_map (junction style chars) ws)
junctions_known style chars [] known = tt
junctions_known style chars (w ∷ ws) known =
    (known, known_both (horizontals style chars w) (flat_map (junction style chars) ws) (char_repeat_known (styled_char style chars.horizontal) w known) (junctions_known style chars ws known))

-- the numbers of a rule's colors are bytes where those of its style are
pub rule_known : (style : CompoundStyle) (chars : RuleChars) (ws : List ℕ) → IsStyle style.object_style → AreKnown (rule_pieces style chars ws)
rule_known style chars [] known = (known, (known, tt))
rule_known style chars (w ∷ ws) known = (
  known,
  known_both (horizontals style chars w) (flat_map (junction style chars) ws ++ border_piece style chars.right ∷ []) (char_repeat_known (styled_char style chars.horizontal) w known)
      (known_both (flat_map (junction style chars) ws) (border_piece style chars.right ∷ []) (junctions_known style chars ws known) (known, tt)),
)

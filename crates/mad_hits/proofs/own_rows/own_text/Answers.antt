use Rattle.std.proofs.Common.{List, ℕ, ◌++◌, ap, ◌∙◌, string_bytes}
use Rattle.std.specs.Char.{encode_utf8}
use Rattle.mad_style.specs.StyledChars.{char_alone}
use Rattle.mad_patterns.proofs.SearchLemmas.{piece_put}
use Rattle.mad_hits.specs.OwnRows.{char_bytes, own_text}
use Rattle.mad_hits.proofs.own_rows.own_text.Goals as goal

pub loop-c-init : goal.loop-c-init
loop-c-init c = ap (λ (text : List ℕ). text ++ own_text c.args.row.now) c.new-text.ensures.bytes

pub loop-c-preserved : goal.loop-c-preserved
loop-c-preserved c =
    piece_put char_bytes c.args.row.now c.loop-c.c-index c.c-item.result _ _ _ c.loop-c-test.true c.loop-c.invariant
    (c.in_ok-push.ensures.bytes ∙ ap (λ (k : ℕ). string_bytes c.loop-c.text ++ encode_utf8 k) (c.nude_char.ensures ∙ ap char_alone c.c-item.is))

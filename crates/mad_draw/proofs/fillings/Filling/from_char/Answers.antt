use Rattle.std.proofs.Common.{◌≡◌, ℕ, List, ◌++◌, ap, ◌∙◌, arith}
use Rattle.std.specs.Prelude.{encode_utf8}
use Rattle.std.specs.List.{repeat}
use Rattle.mad_term.proofs.Repeating.{repeat-more}
use Rattle.mad_draw.specs.Fillings.{piece_chars}
use Rattle.mad_draw.proofs.FillingLemmas.{piece_chars_is}
use Rattle.mad_draw.proofs.fillings.Filling.from_char.Goals as goal

pub loop-done-preserved : goal.loop-done-preserved
loop-done-preserved c =
    c.in_ok-push.ensures.bytes ∙ ap (λ (s : List ℕ). s ++ encode_utf8 c.args.filling_char) c.loop-done.invariant ∙ repeat-more c.loop-done._done (encode_utf8 c.args.filling_char)

pub invariant_of-result : goal.invariant_of-result
invariant_of-result c = record { whole = let all : c.loop-done._done ≡ piece_chars = omega (arith, piece_chars_is) in c.loop-done.invariant ∙ ap (λ k. repeat k (encode_utf8 c.args.filling_char)) all }

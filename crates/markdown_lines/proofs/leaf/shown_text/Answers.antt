use Rattle.std.proofs.Common.{◌∙◌, ◌++◌, ap}
use Rattle.std.specs.Prelude.{string_bytes}
use Rattle.std.specs.Char.{encode_utf8}
use Rattle.std.proofs.lemmas.Str.{IsUtf8-past_char}
use Rattle.markdown_lines.specs.Leaf.{shown_text}
use Rattle.markdown_lines.proofs.LeafLemmas.{shown_more, shown_all}
use Rattle.markdown_lines.proofs.leaf.shown_text.Goals as goal

pub loop-c-preserved : goal.loop-c-preserved
loop-c-preserved c =
    let held = c.loop-c.invariant in
    let parts = c.in-Some.ensures.steps.0 in
    let pushed = c.in_ok-push.ensures.bytes ∙ ap (λ x. string_bytes c.loop-c.shown ++ encode_utf8 x) c.shown_char.ensures.value in
    record { utf8 = IsUtf8-past_char _ _ c.in-Some.c held.utf8 parts; so_far = shown_more _ _ _ _ _ c.in-Some.c held.utf8 parts pushed held.so_far }

pub returns : goal.returns
unfolding shown_text
returns c = shown_all _ _ _ c.in_default.ensures.steps.0.0 c.loop-c.invariant.so_far

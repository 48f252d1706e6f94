use Rattle.std.proofs.lemmas.Str.{IsUtf8-past_char}
use Rattle.markdown_tones.proofs.SourceLemmas.{pictured_more, pictured_all}
use Rattle.markdown_tones.proofs.code.pictured.Goals as goal

pub loop-c-preserved : goal.loop-c-preserved
loop-c-preserved c =
    let held = c.loop-c.invariant in
    let parts = c.in-Some.ensures.steps.0 in
    record { utf8 = IsUtf8-past_char _ _ c.in-Some.c held.utf8 parts; so_far = pictured_more _ _ _ _ _ c.in-Some.c _ held.utf8 parts c.pictured_char.ensures c.in_ok-push.ensures.bytes held.so_far }

pub returns : goal.returns
returns c = pictured_all _ _ _ c.in_default.ensures.steps.0.0 c.loop-c.invariant.so_far

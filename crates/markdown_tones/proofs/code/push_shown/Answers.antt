use Rattle.std.proofs.Common.{◌∙◌}
use Rattle.markdown_tones.proofs.SourceLemmas.{source_is}
use Rattle.markdown_tones.proofs.code.push_shown.Goals as goal

pub returns : goal.returns
returns c =
    source_is c.args.source.now.items c.extend_from_slice.new.self.items c.args.bytes.now c.as_str.result.now c.as_str-2.result.now c.as_bytes.result.now c.as_str.utf8 (c.as_str.ensures.value ∙ c.in_ok-text.ensures.lossy)
    (c.as_str-2.ensures.value ∙ c.in_ok-pictured.ensures) (c.as_bytes.ensures.value ∙ c.deref.ensures.value ∙ c.in_ok-shown.ensures.text) c.in_ok-extend_from_slice.ensures.items

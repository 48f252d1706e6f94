use Rattle.std.proofs.Common.{◌∙◌, sym, arith}
use Rattle.markdown_link_parts.proofs.EndLemmas.{leaves_stop, leaves_none}
use Rattle.markdown_link_parts.proofs.texts.name_start.Goals as goal

pub returns-else-is_name_byte-clause-value : goal.returns-else-is_name_byte-clause-value
returns-else-is_name_byte-clause-value c =
    leaves_stop c.args.path.now c.loop-len.len 0 (omega arith) c.loop-len.invariant.within (sym c.is_name_byte.ensures ∙ c.if-is_name_byte.false) c.loop-len.invariant.same

pub returns-after-loop-len-clause-value : goal.returns-after-loop-len-clause-value
returns-after-loop-len-clause-value c = leaves_none c.args.path.now c.loop-len.len (omega arith) c.loop-len.invariant.same

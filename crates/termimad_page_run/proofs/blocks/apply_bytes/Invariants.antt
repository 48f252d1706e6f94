use Rattle.std.proofs.Common.{List, take}
use Rattle.mad_input.specs.Hearing.{BytesHear}
use Rattle.mad_input.specs.declared.input.Heard.{Heard}
use Rattle.mad_pager.specs.Pagers.{view_of}
use Rattle.termimad_page_run.specs.Blocks.{IsSession}
use Rattle.termimad_page_run.proofs.blocks.apply_bytes.Given as goal

-- what was heard so far, and done
abbrev pub invariant-loop-b : goal.invariant-loop-b
invariant-loop-b l = record {
  heard : List Heard;
  told : BytesHear l.fn.terminal (take l.b-index l.block) heard l.terminal;
  session : IsSession (view_of l.fn.pager) heard l.asks (view_of l.pager);
}

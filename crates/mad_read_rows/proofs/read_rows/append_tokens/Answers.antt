use Rattle.std.proofs.Common.{string_bytes}
use Rattle.mad_wrap.proofs.WritingLemmas.{before_start}
use Rattle.mad_read_rows.specs.ReadRows.{token_bytes}
use Rattle.mad_read_rows.proofs.ReadLemmas.{compound_next, compounds_end}
use Rattle.mad_read_rows.proofs.read_rows.append_tokens.Goals as goal

pub loop-compound-init : goal.loop-compound-init
loop-compound-init c = before_start (token_bytes c.args.skin.now c.args.style.now) c.args.later.now c.args.max c.args.compounds.now c.args.fit (string_bytes c.args.rows.now)

pub loop-compound-preserved : goal.loop-compound-preserved
loop-compound-preserved c = compound_next _ _ _ c.args.compounds.now c.loop-compound.compound-index _ _ _ _ _ _ _ c.loop-compound-test.true c.loop-compound.invariant c.in_ok-fit.ensures

pub returns : goal.returns
returns c = (c.loop-compound.fit, compounds_end _ _ _ c.args.compounds.now c.loop-compound.compound-index _ _ _ _ c.loop-compound-test.false c.loop-compound.invariant)

use Rattle.std.proofs.Common.{◌∷◌, [], ◌++◌, length-append, inl, inr, refl, sym, ◌∙◌, arith}
use Rattle.termimad_page_run.specs.Runs.{moment}
use Rattle.termimad_page_run.proofs.RunLemmas.{broken_exit, turn_made, turn_order}
use Rattle.termimad_page_run.proofs.program.turn_pages.Goals as goal

pub loop-turn-preserved : goal.loop-turn-preserved
loop-turn-preserved g c =
    let inv = c.loop-turn.invariant in
    let it = c.in_ok-turn.ensures.goes (sym c.end.ensures ∙ c.in_default.is) in
    record {
      blocks = inv.blocks ++ it.0 ∷ [];
      count = omega (arith, length-append inv.blocks (it.0 ∷ []), inv.count);
      turns = turn_made inv.blocks it.0 _ _ c.turn_page.new.pager c.turn_page.new.terminal _ _ _ _ c.asks_size-asks.ensures inv.turns it.1;
      orderly = turn_order _ _ _ it.1;
    }

pub returns-in_err-turn : goal.returns-in_err-turn
returns-in_err-turn g c =
    let inv = c.loop-turn.invariant in
    broken_exit _ _ _ _ _ _ c.in_err-turn.field-0.0 c.from_residual.ensures.1
    (record {
      blocks = inv.blocks;
      last = moment c.loop-turn.pager c.loop-turn.terminal c.loop-turn.asks (g.I.Source.seen c.loop-turn.input) (g.O.Out.seen c.loop-turn.out);
      turns = inv.turns;
      fault = c.in_err-turn.ensures.fault;
    })

pub returns-in-Some : goal.returns-in-Some
returns-in-Some g c =
    let inv = c.loop-turn.invariant in
    record {
      blocks = inv.blocks;
      last = moment c.loop-turn.pager c.loop-turn.terminal c.loop-turn.asks (g.I.Source.seen c.loop-turn.input) (g.O.Out.seen c.loop-turn.out);
      turns = inv.turns;
      ends = inl (c.in_ok-turn.ensures.ends c.in-Some.end (sym c.end.ensures ∙ c.in-Some.is));
    }

pub returns : goal.returns
returns g c =
    let inv = c.loop-turn.invariant in
    record {
      blocks = inv.blocks;
      last = moment c.loop-turn.pager c.loop-turn.terminal c.loop-turn.asks (g.I.Source.seen c.loop-turn.input) (g.O.Out.seen c.loop-turn.out);
      turns = inv.turns;
      ends = inr (record { quits = refl; count = omega (arith, inv.count); input = refl; out = refl });
    }

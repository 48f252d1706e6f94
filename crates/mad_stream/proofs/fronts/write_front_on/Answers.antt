use Rattle.std.proofs.Common.{◌≡◌, ◌-◌, ◌∙◌, ℕ, take, ap, arith}
use Rattle.mad_layout.specs.RowSkins.{row_skin}
use Rattle.mad_stream.proofs.FrontLemmas.{front_refused, front_written}
use Rattle.mad_stream.proofs.fronts.write_front_on.Goals as goal

pub returns-in_err-write_rest_on : goal.returns-in_err-write_rest_on
returns-in_err-write_rest_on g c =
    let used : ℕ = c.laid_out_front-used.result.0 in
    let size : used - 0 ≡ used = omega arith in
    record {
      writes = front_refused (Unit {0}) c.from_residual.result _ (row_skin c.args.skin.now) c.row_skin.result c.args.width c.args.text.now c.range.result.now c.args.fenced c.args.is_last used c.laid_out_front-used.result.1 (g.O.Out.seen c.args.out.now) (g.O.Out.seen c.write_rest_on.new.out) c.laid_out_front-used.ensures.front
          (c.range.ensures.value ∙ ap (λ n. take n c.args.text.now) size) c.row_skin.ensures c.in_err-write_rest_on.ensures c.from_residual.ensures.1;
    }

pub returns : goal.returns
returns g c =
    let used : ℕ = c.laid_out_front-used.result.0 in
    let size : used - 0 ≡ used = omega arith in
    record {
      writes = front_written (Unit {0}) c.in_ok-write_rest_on.field-0 (row_skin c.args.skin.now) c.row_skin.result c.args.width c.args.text.now c.range.result.now c.args.fenced c.args.is_last used c.laid_out_front-used.result.1 (g.O.Out.seen c.args.out.now) (g.O.Out.seen c.write_rest_on.new.out) c.laid_out_front-used.ensures.front
          (c.range.ensures.value ∙ ap (λ n. take n c.args.text.now) size) c.row_skin.ensures c.in_ok-write_rest_on.ensures;
    }

use Rattle.std.proofs.Common.{false, ◌∷◌, [], refl, ap}
use Rattle.mad_md.specs.Flagged.{run_of}
use Rattle.mad_format.proofs.PlainLemmas.{fits_within, is_wider, source_wider, line_stays, wrap_fronts, lines_push, pushed_wrapped}
use Rattle.mad_format.proofs.plain.push_wrap.Goals as goal

pub returns-then-is_some : goal.returns-then-is_some
returns-then-is_some c = (
  c.args.line.now ∷ [],
  lines_push _ _ _ c.in_ok-push.ensures.items,
  line_stays c.args.width c.args.line.now (record { src = c.args.line; bold = false; italic = false; code = false; strikeout = false; link = false; picture = false; picture_sign = false }) refl (fits_within _ _ _ _ c.columns_within.ensures c.is_some.ensures c.if-is_some.true),
)

pub wrap_compounds-requires : goal.wrap_compounds-requires
wrap_compounds-requires c =
    record { wider = source_wider c.args.width c.raw_str.result c.args.line.now (ap run_of c.raw_str.ensures) (is_wider _ _ _ _ c.columns_within.ensures c.is_some.ensures c.if-is_some.false) }

pub push_fronts-requires : goal.push_fronts-requires
push_fronts-requires c = wrap_fronts c.args.width c.args.line.now c.raw_str.result _ (ap run_of c.raw_str.ensures) c.in_ok-wrap.ensures.wrapped

pub returns : goal.returns
returns c =
    pushed_wrapped c.args.width c.args.line.now c.raw_str.result _ _ _ _ (ap run_of c.raw_str.ensures) (is_wider _ _ _ _ c.columns_within.ensures c.is_some.ensures c.if-is_some.false) c.in_ok-wrap.ensures.wrapped c.push_fronts.ensures
